-- What the steps and the public entries promise, of the chip of pages and of that of strips, for any input. A step below a public entry is lent a number for each packet of the part; a public entry takes
-- a record with places for 24, which names its part, and answers what is not in order with refusal 16. And power-up, and the line.
use Rattle.std.specs.Prelude.{◌≡◌, Bool, false, List, ℕ, ◌*◌, ◌-◌, ◌%◌, length, take, drop, replicate, Ok, Err}
use Rattle.rules.specs.Chip.{Layout, paged, Chip, page_numbers, powered}
use Rattle.rules.specs.Answers.{Turn}
use Rattle.rules.specs.Interrupts.{line_up}
use Rattle.rules.specs.Step.{Input, lent, step}
use Rattle.state.specs.Meaning.{Answer}
use Rattle.state.specs.declared.Refusal.TheVariants.{Damaged}
use Rattle.state.specs.declared.Registers.{Registers}
use Rattle.state.specs.declared.Pages.{Pages}
use Rattle.state.specs.declared.Queues.{Queues}
use Rattle.state.specs.declared.Returned.{Returned}
use Rattle.state.specs.Meaning.{reply_of}
use Rattle.state.specs.View.{word, view_of}
use Rattle.state.specs.Promise.{ReadyOf}

-- a state that stands for a well-formed chip, beside its bytes
pub record InOrderOf (l : Layout) (w s q mem : List ℕ) : Type 0 where
  pub ready : ReadyOf l w s q
  pub full : length mem ≡ 256 * page_numbers l (length s)

-- the answer a, and state, memory and output after it, are the turn t of the rules, and the state is in order again
pub record RightOf (l : Layout) (t : Turn) (a : Answer) (w s q mem out : List ℕ) : Type 0 where
  pub chip : view_of l w s q mem ≡ t.chip
  pub reply : reply_of a ≡ t.reply
  pub output : out ≡ t.output
  pub ready : InOrderOf l w s q mem

-- the same with page sets, and 256 bytes for each
abbrev pub InOrder : List ℕ → List ℕ → List ℕ → List ℕ → Type 0
InOrder = InOrderOf paged

abbrev pub Right : Turn → Answer → List ℕ → List ℕ → List ℕ → List ℕ → List ℕ → Type 0
Right = RightOf paged

-- A record with 24 places names its part by MIR's low byte, which is the number of packets (document 02, W9): 18h the LAN91C96, 12h the LAN91C94.
abbrev pub size_in : List ℕ → ℕ
size_in w = word w 4 % 256

-- the places of the part's packets
abbrev pub of_part : List ℕ → List ℕ → List ℕ
of_part w s = take (size_in w) s

-- the chip that a record stands for
abbrev pub record_view : Layout → List ℕ → List ℕ → List ℕ → List ℕ → Chip
record_view l w s q mem = view_of l w (of_part w s) q mem

-- a record that stands for a well-formed chip: "a page, packet or result from the part's size on" is none of it, and the places from there on are empty
pub record HoldsOf (l : Layout) (w s q : List ℕ) : Type 0 where
  pub ready : ReadyOf l w (of_part w s) q
  pub rest : drop (size_in w) s ≡ replicate (24 - size_in w) 0

-- and beside it the part's bytes
pub record WholeOf (l : Layout) (w s q mem : List ℕ) : Type 0 where
  pub holds : HoldsOf l w s q
  pub full : length mem ≡ 256 * page_numbers l (size_in w)

-- the answer a, and record, memory and output after it, are the turn t of the rules, and the record is in order again
pub record LeavesOf (l : Layout) (t : Turn) (a : Answer) (w s q mem out : List ℕ) : Type 0 where
  pub chip : record_view l w s q mem ≡ t.chip
  pub reply : reply_of a ≡ t.reply
  pub output : out ≡ t.output
  pub whole : WholeOf l w s q mem

-- refusal 16, and nothing changes
pub record Broken (w s q mem out : List ℕ) (a : Answer) (w' s' q' mem' out' : List ℕ) : Type 0 where
  pub answer : a ≡ Err Damaged
  pub words : w' ≡ w
  pub pages : s' ≡ s
  pub queues : q' ≡ q
  pub memory : mem' ≡ mem
  pub output : out' ≡ out

-- the promise of a public entry: on registers w, page sets (of strips, counts) s, queues q and memory mem it returns a, w', s' and q', and leaves memory mem' and output out' (of the buffer that the input lends)
pub record AnswersOf (l : Layout) (i : Input) (w s q mem : List ℕ) (a : Answer) (w' s' q' mem' out' : List ℕ) : Type 0 where
  pub done : WholeOf l w s q mem → LeavesOf l (step i (record_view l w s q mem)) a w' s' q' mem' out'
  pub broken : (WholeOf l w s q mem → ⊥) → Broken w s q mem (lent i) a w' s' q' mem' out'

-- what power-up of the part with n packets leaves, beside its zero bytes: 256 for each page, of strips eight times as many
abbrev pub zeros : Layout → ℕ → List ℕ
zeros l n = replicate (256 * page_numbers l n) 0

pub record StartedOf (l : Layout) (n : ℕ) (a : Answer) (w s q : List ℕ) : Type 0 where
  pub answer : a ≡ Ok 0
  pub chip : record_view l w s q (zeros l n) ≡ powered l n
  pub whole : WholeOf l w s q (zeros l n)

-- the line of a record that is in order is the rules'; of any other it is down
pub record LinesOf (l : Layout) (w s q : List ℕ) (b : Bool) : Type 0 where
  pub up : HoldsOf l w s q → (mem : List ℕ) → b ≡ line_up (record_view l w s q mem)
  pub down : (HoldsOf l w s q → ⊥) → b ≡ false

-- the same by the structs that the entries take and return, as they promise it
abbrev pub AnswersBy : Layout → Input → Registers → Pages → Queues → List ℕ → Returned → List ℕ → List ℕ → Type 0
AnswersBy l i r p f mem x mem' out' = AnswersOf l i r.words p.sets f.slots mem x.answer x.registers.words x.pages.sets x.queues.slots mem' out'

abbrev pub StartedBy : Layout → ℕ → Returned → Type 0
StartedBy l n x = StartedOf l n x.answer x.registers.words x.pages.sets x.queues.slots

abbrev pub LinesBy : Layout → Registers → Pages → Queues → Bool → Type 0
LinesBy l r p f up = LinesOf l r.words p.sets f.slots up

-- and all of it of the paged chip
abbrev pub Holds : List ℕ → List ℕ → List ℕ → Type 0
Holds = HoldsOf paged

abbrev pub Whole : List ℕ → List ℕ → List ℕ → List ℕ → Type 0
Whole = WholeOf paged

abbrev pub Leaves : Turn → Answer → List ℕ → List ℕ → List ℕ → List ℕ → List ℕ → Type 0
Leaves = LeavesOf paged

abbrev pub WholeBy : Registers → Pages → Queues → List ℕ → Type 0
WholeBy r p f mem = Whole r.words p.sets f.slots mem

abbrev pub Answers : Input → Registers → Pages → Queues → List ℕ → Returned → List ℕ → List ℕ → Type 0
Answers = AnswersBy paged

abbrev pub Started : ℕ → Returned → Type 0
Started = StartedBy paged

abbrev pub Lines : Registers → Pages → Queues → Bool → Type 0
Lines = LinesBy paged
