-- Document 02, W3: what the chip of strips promises beside the paged one, of "sequences from power-up in which each send reads only bytes written since its packet was allocated".
use Rattle.std.specs.Prelude.{◌≡◌, true, List, [], ◌∷◌, ℕ, ◌+◌, ◌/◌, ◌%◌, ◌^◌, ◌<◌, length}
use Rattle.rules.specs.Chip.{Chip, pages_at, allocated}
use Rattle.rules.specs.Answers.{Reply}
use Rattle.rules.specs.Data.{address}
use Rattle.rules.specs.Step.{Input, step_of}
use Rattle.laws.specs.Head.{byte_at}
use Rattle.laws.specs.DataAccesses.{meant, data_read}
use Rattle.strip_laws.specs.Written.{Marks, written}

-- The two chips c (of pages) and d (of strips): "the same .. queues and registers", each packet has as many pages, "and the two agree on every byte so written".
pub record Agree (m : Marks) (c d : Chip) : Type 0 where
  pub registers : d.regs ≡ c.regs
  pub rx : d.pool.rx ≡ c.pool.rx
  pub tx : d.pool.tx ≡ c.pool.tx
  pub completion : d.pool.completion ≡ c.pool.completion
  pub counts : (k : ℕ) → length (pages_at d k) ≡ length (pages_at c k)
  pub bytes : (k a : ℕ) → allocated k c ≡ true → m k a ≡ true → byte_at (pages_at d k) d.memory a ≡ byte_at (pages_at c k) c.memory a

-- is the j-th byte that a data read gives written
abbrev pub WrittenAt : Chip → Marks → ℕ → Type 0
WrittenAt c m j = m (meant c) (address c.regs.pointer + j) ≡ true

-- the replies x and y of the two chips to an input: "only a data read of another byte may return another value"; of a word the written half agrees
pub record SameReply (i : Input) (c : Chip) (m : Marks) (x y : Reply) : Type 0 where
  pub number : y.number ≡ x.number
  pub value : ((j : ℕ) → j < data_read i c → WrittenAt c m j) → y.value ≡ x.value
  pub half : (j : ℕ) → j < data_read i c → WrittenAt c m j → y.value / 256 ^ j % 256 ≡ x.value / 256 ^ j % 256

-- one step of both
pub record StepAlike (n : ℕ) (i : Input) (m : Marks) (c d : Chip) : Type 0 where
  pub reply : SameReply i c m (step_of n i c).reply (step_of n i d).reply
  -- what a send puts out, and all of its buffer
  pub output : (step_of n i d).output ≡ (step_of n i c).output
  pub after : Agree (written n i c m) (step_of n i c).chip (step_of n i d).chip

-- each step of both, throughout
abbrev pub Alike : ℕ → List Input → Marks → Chip → Chip → Type 0
Alike n [] m c d = Unit {0}
Alike n (i ∷ is) m c d = StepAlike n i m c d × Alike n is (written n i c m) (step_of n i c).chip (step_of n i d).chip
