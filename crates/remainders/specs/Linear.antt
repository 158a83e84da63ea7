-- The remainder is linear: two inputs from two remainders, added bit by bit, give the two results added.
use Rattle.std.specs.Prelude.{◌≡◌, refl, cond, ℕ, zero, suc, ◌*◌, ◌/◌, ◌%◌, ◌^◌, ◌<◌, eqb}
use Rattle.std.proofs.Common.{ap, ap₂, sym, ◌∙◌, pow-suc, mul_comm, mul_assoc, mul-le-mul_left, arith, pow_pos}
use Rattle.std.specs.Int.Bits.{bit_xor}
use Rattle.std.proofs.lemmas.Nat.{xor_shr, xor_mod, xor_lt}
use Rattle.rules.specs.Crc.{crc_bit, crc_bits}
use Rattle.remainders.specs.Bounds.{bit_lt}
use Rattle.remainders.specs.Xor.{digit, xor_assoc, xor_swap, xor_exchange, xor_cancel, xor_scale}

-- p is added where the digit is 1
added : ℕ → ℕ → ℕ → ℕ
added p zero y = y
added p (suc e) y = bit_xor p y

added_xor : (p y z e f : ℕ) → e < 2 → f < 2 → added p (bit_xor e f) (bit_xor y z) ≡ bit_xor (added p e y) (added p f z)
unfolding added
added_xor p y z e f he hf =
    digit (λ (d : ℕ). added p (bit_xor d f) (bit_xor y z) ≡ bit_xor (added p d y) (added p f z))
    (digit (λ (d : ℕ). added p d (bit_xor y z) ≡ bit_xor y (added p d z)) refl (xor_swap p y z) f hf)
    (digit (λ (d : ℕ). added p (bit_xor 1 d) (bit_xor y z) ≡ bit_xor (bit_xor p y) (added p d z)) (sym (xor_assoc p y z)) (sym (xor_cancel p y z)) f hf)
    e he

chosen : (p y t b : ℕ) → t < 2 → b < 2 → cond (eqb t b) y (bit_xor p y) ≡ added p (bit_xor t b) y
unfolding added
chosen p y t b ht hb =
    digit (λ (d : ℕ). cond (eqb d b) y (bit_xor p y) ≡ added p (bit_xor d b) y)
    (digit (λ (d : ℕ). cond (eqb 0 d) y (bit_xor p y) ≡ added p d y) refl refl b hb)
    (digit (λ (d : ℕ). cond (eqb 1 d) y (bit_xor p y) ≡ added p (bit_xor 1 d) y) refl refl b hb)
    t ht

abbrev polynomial : ℕ
polynomial = 0x04c11db7

-- the polynomial is added where the bit that goes out and the bit that comes in differ
as_added : (b r : ℕ) → b < 2 → r < 2 ^ 32 → crc_bit b r ≡ added polynomial (bit_xor (r / 2 ^ 31) b) (r % 2 ^ 31 * 2)
unfolding crc_bit
as_added b r hb hr = chosen polynomial (r % 2 ^ 31 * 2) (r / 2 ^ 31) b (omega arith) hb

module _ (a c : ℕ) (ha : a < 2 ^ 32) (hc : c < 2 ^ 32) where
  bit_xor_lem : (b d : ℕ) → b < 2 → d < 2 → crc_bit (bit_xor b d) (bit_xor a c) ≡ bit_xor (crc_bit b a) (crc_bit d c)
  bit_xor_lem b d hb hd =
      as_added (bit_xor b d) (bit_xor a c) (xor_lt 1 b d hb hd) (xor_lt 32 a c ha hc)
      ∙ ap₂ (λ (e y : ℕ). added polynomial e y)
      (ap (λ (t : ℕ). bit_xor t (bit_xor b d)) (xor_shr a c 31) ∙ xor_exchange (a / 2 ^ 31) (c / 2 ^ 31) b d)
      (ap (λ (y : ℕ). y * 2) (xor_mod a c 31) ∙ xor_scale 1 (a % 2 ^ 31) (c % 2 ^ 31))
      ∙ added_xor polynomial (a % 2 ^ 31 * 2) (c % 2 ^ 31 * 2) (bit_xor (a / 2 ^ 31) b) (bit_xor (c / 2 ^ 31) d)
      (xor_lt 1 (a / 2 ^ 31) b (omega arith) hb) (xor_lt 1 (c / 2 ^ 31) d (omega arith) hd)
      ∙ sym (ap₂ bit_xor (as_added b a hb ha) (as_added d c hd hc))

pub bits_xor : (n x y a c : ℕ) → a < 2 ^ 32 → c < 2 ^ 32 → crc_bits n (bit_xor x y) (bit_xor a c) ≡ bit_xor (crc_bits n x a) (crc_bits n y c)
unfolding crc_bits
bits_xor zero x y a c ha hc = refl
bits_xor (suc n) x y a c ha hc =
    ap₂ (crc_bits n) (xor_shr x y 1) (ap (λ (b : ℕ). crc_bit b (bit_xor a c)) (xor_mod x y 1) ∙ bit_xor_lem a c ha hc (x % 2) (y % 2) (omega arith) (omega arith))
    ∙ bits_xor n (x / 2) (y / 2) (crc_bit (x % 2) a) (crc_bit (y % 2) c) (bit_lt (x % 2) a) (bit_lt (y % 2) c)

-- Where no bit goes out and none comes in, the remainder is shifted.
bit_shift : (l : ℕ) → l < 2 ^ 31 → crc_bit 0 l ≡ l * 2
unfolding crc_bit
bit_shift l h =
    let out : l / 2 ^ 31 ≡ 0 = omega arith in
    let all : l % 2 ^ 31 ≡ l = omega arith in
    rw (out, all)

pub bits_shift : (n l : ℕ) → l * 2 ^ n < 2 ^ 32 → crc_bits n 0 l ≡ l * 2 ^ n
unfolding crc_bits
bits_shift zero l h = omega arith
bits_shift (suc n) l h =
    let twice : l * 2 ^ suc n ≡ l * 2 * 2 ^ n = rw (pow-suc 2 n, mul_comm (2 ^ n) 2) (sym (mul_assoc l 2 (2 ^ n))) in
    let within : l * 2 * 2 ^ n < 2 ^ 32 = omega (arith, twice) in
    ap (crc_bits n 0) (bit_shift l (omega (arith, mul-le-mul_left (l * 2) (pow_pos n)))) ∙ bits_shift n (l * 2) within ∙ sym twice
