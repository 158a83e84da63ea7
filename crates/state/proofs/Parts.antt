-- Width and offset to the part of a word, and the word of a read or a write.
use mathlib.Core.Path.{◌≡◌, refl, sym, ◌∙◌}
use mathlib.Core.Bool.{Bool, true, false, cond, ◌||◌}
use Prim.Native.Nat.{ℕ, ◌+◌, ◌*◌, ◌/◌, ◌%◌, ◌<◌}
use native.Mathlib.Omega.{arith}
use borrow.Author.Tests.{eq-eqb, ne_eqb, lt-ltb}
use lib.Dec.{eqb, ltb}
use Rattle.bits.specs.Laws.{bit_zero}
use Rattle.rules.specs.Bits.{bit, low_byte, high_byte, word_of}
use Rattle.rules.specs.Registers as rules
use Rattle.rules.specs.Registers.{lanes_at, misplaced, merged}
use Rattle.state.specs.declared.Width.{Width}
use Rattle.state.specs.declared.Width.TheVariants as width
use Rattle.state.specs.Meaning.{width_of, Placed, is_high, Joined}

pub high_part : (offset : ℕ) → offset % 2 ≡ 1 → lanes_at rules.byte offset ≡ rules.high
unfolding lanes_at
high_part offset e = rw (bit_zero, eq-eqb _ _ e)

pub low_part : (offset : ℕ) → (offset % 2 ≡ 1 → ⊥) → lanes_at rules.byte offset ≡ rules.low
unfolding lanes_at
low_part offset e = rw (bit_zero, ne_eqb _ _ e)

pub beyond : (w : Width) (offset : ℕ) → 15 < offset → true ≡ misplaced (width_of w) offset
unfolding misplaced
beyond width.Byte offset h = rw (lt-ltb _ _ h)
beyond width.Word offset h = rw (lt-ltb _ _ h)

right_false : (a b : Bool) → a || b ≡ false → b ≡ false
right_false true b e = absurd (no e)
  where
    no : true ≡ false → ⊥
    no z = let y : ◌≡◌ {A = ℕ} 0 1 = cc in omega arith
right_false false b e = e

as_bit : (b : Bool) → is_high (cond b rules.high rules.low) ≡ b
as_bit true = refl
as_bit false = refl

pub high_odd : (w : Width) (offset : ℕ) → Placed w offset → eqb (offset % 2) 1 ≡ is_high (lanes_at (width_of w) offset)
unfolding lanes_at misplaced
high_odd width.Byte offset h = sym (as_bit (bit 0 offset) ∙ bit_zero offset)
high_odd width.Word offset h = sym (bit_zero offset) ∙ right_false (ltb 15 offset) (bit 0 offset) h

pub joined_high : (v x : ℕ) → Joined rules.high v x (x % 256 + v % 256 * 256)
unfolding merged low_byte word_of
joined_high v x = record { word = refl; low = omega arith; high = omega arith }

pub joined_low : (v x : ℕ) → x < 65536 → Joined rules.low v x (x / 256 * 256 + v % 256)
unfolding merged low_byte high_byte word_of
joined_low v x h = record { word = omega arith; low = omega arith; high = omega arith }

pub joined_both : (v x : ℕ) → v < 65536 → Joined rules.both v x v
unfolding merged low_byte high_byte word_of
joined_both v x h = record { word = omega arith; low = refl; high = omega arith }
