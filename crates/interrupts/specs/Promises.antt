-- What an acknowledge promises.
use Rattle.std.specs.Prelude.{◌≡◌, not, ◌&&◌, List, ℕ}
use Rattle.rules.specs.Bits.{bit, low_byte}
use Rattle.rules.specs.Chip.{Layout}
use Rattle.rules.specs.Interrupts.{acknowledge}
use Rattle.state.specs.View.{word, figures, view_of, Latches, Kept}
use Rattle.state.specs.Promise.{QueuesIn}

-- the latches x after an acknowledge by the low byte of v
pub record Acknowledged (v x y : ℕ) : Type 0 where
  pub tx_empty : bit 2 y ≡ bit 2 x && not (bit 2 (low_byte v))
  pub overrun : bit 4 y ≡ bit 4 x && not (bit 4 (low_byte v))
  pub latched : Latches y

-- the same of the chip, whatever the packets' pages; MIR stays
pub record Acknowledges (v : ℕ) (w q w' q' : List ℕ) : Type 0 where
  pub chip : (l : Layout) (s mem : List ℕ) → view_of l w' s q' mem ≡ acknowledge (low_byte v) (view_of l w s q mem)
  pub free : word w' 4 ≡ word w 4
  pub kept : Kept w'
  pub queues : QueuesIn (figures w') q'
