-- The bench of the program: the chip's state with what is lent beside it.
use Rattle.std.specs.Prelude.{ℕ, ◌*◌, ◌≤◌, take}
use Rattle.turns.specs.Turns.{Held}
use Rattle.serving.specs.declared.bench.Bench.{Bench}

-- the part's places, of 24, and its bytes, of 6,144, hold a chip in order
pub record Serves (b : Bench) (have : ℕ) : Type 0 where
  pub fits : b.size ≤ 24
  pub held : Held b.words (take b.size b.sets) b.queues (take (256 * b.size) b.memory) b.wire have
