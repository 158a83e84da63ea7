-- What a public entry over the record of page lists promised, for any input: document 01's step where the record is in order, else refusal 16. It is the step of the part that the record is (document 02, W9).
use Rattle.std.specs.Prelude.{◌≡◌, List, ℕ, ◌*◌, length, Err}
use Rattle.rules.specs.Answers.{Turn}
use Rattle.rules.specs.Step.{Input, lent, step}
use Rattle.state.specs.declared.Refusal.TheVariants.{Damaged}
use Rattle.state.specs.Meaning.{reply_of}
use Rattle.sets.specs.declared.Page.{Page}
use Rattle.listed.specs.declared.Registers.{Registers}
use Rattle.listed.specs.declared.Stepped.{Stepped}
use Rattle.listed.specs.Record.{view, Ready}

-- a canonical record of a well-formed chip, beside the 256 bytes of each page
pub record InOrder (r : Registers) (m : List (List Page)) (mem : List ℕ) : Type 0 where
  pub ready : Ready r m
  pub full : length mem ≡ 256 * r.packets

-- x is returned, and memory and output are then these: the turn t of the rules, on a record that is in order again
pub record Right (t : Turn) (x : Stepped) (mem out : List ℕ) : Type 0 where
  pub chip : view x.registers x.pages mem ≡ t.chip
  pub reply : reply_of x.answer ≡ t.reply
  pub output : out ≡ t.output
  pub ready : InOrder x.registers x.pages mem

-- refusal 16, and nothing changes
pub record Broken (r : Registers) (m : List (List Page)) (mem out : List ℕ) (x : Stepped) (mem' out' : List ℕ) : Type 0 where
  pub same : x ≡ record { answer = (Err Damaged); registers = r; pages = m }
  pub memory : mem' ≡ mem
  pub output : out' ≡ out

-- the promise of a public entry: on registers r, page map m and memory mem it returns x, and leaves memory mem' and output out' (of the buffer that the input lends)
pub record Answers (i : Input) (r : Registers) (m : List (List Page)) (mem : List ℕ) (x : Stepped) (mem' out' : List ℕ) : Type 0 where
  pub done : InOrder r m mem → Right (step i (view r m mem)) x mem' out'
  pub broken : (InOrder r m mem → ⊥) → Broken r m mem (lent i) x mem' out'
