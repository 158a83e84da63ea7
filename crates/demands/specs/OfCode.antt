-- What the demands say of the rules, carried over to the code: by the board's chip where the board is in order, and by refusal 16 where it is not.
use Rattle.std.specs.Prelude.{◌≡◌, List, ℕ, ◌+◌, ◌*◌}
use Rattle.rules.specs.Chip.{Layout}
use Rattle.rules.specs.Registers.{read, byte, word}
use Rattle.rules.specs.Step.{Input, driver}
use Rattle.laws.specs.Ledger.{Ledger}
use Rattle.laws.specs.Merge.{Merge, lefts, rights}
use Rattle.laws.specs.Reading.{read_byte, read_word, told, reads}
use Rattle.demands.specs.Boards.{Board, Left, reply_to, chip_of, Serves, Runs, board_after, replies_of}

-- Demand 2, on boards of the part with n packets.
module _ (n : ℕ) (l : Layout) where
  -- "the free count that the driver reads", on a board: by the ledger k, whichever way it is read
  pub record BalancesOn (b : Board) (k : Ledger) : Type 0 where
    pub count : ℕ
    pub as_byte : (ys : List Left) → Runs l read_byte b ys → replies_of ys ≡ reads count
    pub as_word : (ys : List Left) → Runs l read_word b ys → replies_of ys ≡ reads (n + 256 * count)
    -- and where bank 0 is selected already, without selecting it: the board stays as it is
    pub byte_there : (chip_of l b).regs.numbers.bank ≡ 0 → (y : Left) → Serves l (driver (read byte 9)) b y → (reply_to y ≡ told count) × (y.board ≡ b)
    pub word_there : (chip_of l b).regs.numbers.bank ≡ 0 → (y : Left) → Serves l (driver (read word 8)) b y → (reply_to y ≡ told (n + 256 * count)) × (y.board ≡ b)
    pub even : count + k.granted ≡ n + k.back

module _ (l : Layout) where
  -- Demand 3, on any board. Two runs of merges of the same inputs on a board: the same board after them, and the same answer to each access and to each frame.
  pub record AlikeOn (b : Board) {loads arriving zs others : List Input} (m : Merge loads arriving zs) (xs : List Left) (k : Merge loads arriving others) (ys : List Left) : Type 0 where
    pub board : board_after b xs ≡ board_after b ys
    pub accesses : lefts m (replies_of xs) ≡ lefts k (replies_of ys)
    pub frames : rights m (replies_of xs) ≡ rights k (replies_of ys)
