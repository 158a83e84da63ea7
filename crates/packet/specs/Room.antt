-- What the functions over a packet's bytes ask of its page set and of memory, and the bytes of a stored frame.
use Rattle.std.specs.Prelude.{List, ◌∷◌, ◌++◌, ℕ, ◌+◌, ◌-◌, ◌*◌, ◌/◌, ◌%◌, ◌≤◌, length, take}
use Rattle.rules.specs.Bits.{low_byte, high_byte}
use Rattle.rules.specs.Receive.{trailer}
use Rattle.lists.specs.Bytes.{Below}
use Rattle.sets.specs.Views.{pages_of}

-- the packet's pages are among those that memory has, and its addresses below `end` are in these
pub record Room (end : ℕ) (pages : ℕ) (memory : List ℕ) : Type 0 where
  pub below : Below (length memory / 256) (pages_of pages)
  pub within : end ≤ 256 * length (pages_of pages)

-- a place in the first of a packet's pages, of the address a, with the rest of its page lies in memory: whatever the number of pages, where each of these is below it
abbrev pub InPage : ℕ → List ℕ → ℕ → Type 0
InPage i pages a = (n : ℕ) → Below n pages → i + (256 - a % 256) ≤ 256 * n

-- status, byte count, the first n bytes, and the bytes that follow them, as `image` of the rules has them
abbrev pub image_of : ℕ → ℕ → ℕ → List ℕ → List ℕ
image_of status count n bytes = low_byte status ∷ high_byte status ∷ low_byte count ∷ high_byte count ∷ (take n bytes ++ trailer n)
