-- The bits and bytes of a number. Bits are counted from 0, the lowest.
use Rattle.std.specs.Prelude.{Bool, true, false, ◌&&◌, ◌||◌, List, ℕ, zero, suc, ◌+◌, ◌-◌, ◌*◌, ◌/◌, ◌%◌, ◌^◌, eqb, get_or}

-- is bit k of x set
unfoldable pub bit : ℕ → ℕ → Bool
bit k x = eqb (x / 2 ^ k % 2) 1

-- x with bit k cleared, and with bit k set
unfoldable pub clear_bit : ℕ → ℕ → ℕ
clear_bit k x = x - x / 2 ^ k % 2 * 2 ^ k

unfoldable pub set_bit : ℕ → ℕ → ℕ
set_bit k x = clear_bit k x + 2 ^ k

-- 1 where the test holds, else 0
unfoldable pub flag : Bool → ℕ
flag true = 1
flag false = 0

-- have two numbers one of their lowest n bits in common
unfoldable pub share : ℕ → ℕ → ℕ → Bool
share zero x y = false
share (suc k) x y = share k x y || (bit k x && bit k y)

-- the two bytes of a word, and the word of two bytes
unfoldable pub low_byte : ℕ → ℕ
low_byte x = x % 256

unfoldable pub high_byte : ℕ → ℕ
high_byte x = x / 256 % 256

unfoldable pub word_of : ℕ → ℕ → ℕ
word_of low high = low + high * 256

-- the word in bytes i and i + 1 of a list, lower first
unfoldable pub word_at : ℕ → List ℕ → ℕ
word_at i l = word_of (get_or l i 0) (get_or l (i + 1) 0)
