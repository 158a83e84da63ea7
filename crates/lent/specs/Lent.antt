-- What the functions that look at what C lends promise, whatever was lent.
use Rattle.std.specs.Prelude.{◌≡◌, Bool, cond, List, ◌++◌, ℕ, ◌+◌, ◌*◌, length, drop, Ok}
use Rattle.rules.specs.Chip.{paged}
use Rattle.rules.specs.Answers.{Reply}
use Rattle.rules.specs.Registers.{Width, byte, word}
use Rattle.state.specs.Entry.{zeros, StartedOf}

-- what a call returns: the answer's number, and 16 bits of value below it
abbrev pub told : Reply → ℕ
told r = r.number * 65536 + r.value

abbrev pub wide : Bool → Width
wide b = cond b word byte

-- a record as long as it must be, whatever is in it
pub record Sized (w s q : List ℕ) : Type 0 where
  pub words : length w ≡ 32
  pub sets : length s ≡ 24
  pub queues : length q ≡ 72

-- beside it as many bytes as the part with k packets has
abbrev pub LongAs : ℕ → List ℕ → List ℕ → List ℕ → List ℕ → Type 0
LongAs k w s q mem = Sized w s q × (length mem ≡ 256 * k)

-- the record of the part with k packets at power-up, beside its zero bytes; what was behind them is there still
pub record StartsPart (k : ℕ) (mem w' s' q' mem' : List ℕ) : Type 0 where
  pub state : StartedOf paged k (Ok 0) w' s' q'
  pub memory : mem' ≡ zeros paged k ++ drop (256 * k) mem
