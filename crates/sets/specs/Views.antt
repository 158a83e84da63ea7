-- What a page set stands for, as the lists of `rules`: bit p for page p.
use Rattle.std.specs.Prelude.{ℕ, zero, suc, not, List, [], ◌++◌}
use Rattle.rules.specs.Lists.{unless}
use Rattle.rules.specs.Bits.{bit}

-- the numbers below n whose bit is set, in ascending order
unfoldable pub bits_below : ℕ → ℕ → List ℕ
bits_below zero s = []
bits_below (suc n) s = bits_below n s ++ unless (not (bit n s)) n

-- the pages of a set
unfoldable pub pages_of : ℕ → List ℕ
pages_of s = bits_below 32 s
