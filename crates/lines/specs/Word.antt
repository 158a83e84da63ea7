-- Characters in a word, the first in the lowest byte.
use Rattle.std.specs.Prelude.{List, [], ◌∷◌, ℕ, ◌+◌, ◌*◌, ◌/◌, ◌%◌}

unfoldable pub packed : List ℕ → ℕ
packed [] = 0
packed (c ∷ cs) = c + packed cs * 256

-- Out again, four and eight of them.
unfoldable pub bytes4 : ℕ → List ℕ
bytes4 w = (w % 256) ∷ (w / 256 % 256) ∷ (w / 65536 % 256) ∷ (w / 16777216 % 256) ∷ []

unfoldable pub bytes8 : ℕ → List ℕ
bytes8 w =
    (w % 256) ∷ (w / 256 % 256) ∷ (w / 65536 % 256) ∷ (w / 16777216 % 256)
    ∷ (w / 4294967296 % 256) ∷ (w / 1099511627776 % 256) ∷ (w / 281474976710656 % 256) ∷ (w / 72057594037927936 % 256) ∷ []
