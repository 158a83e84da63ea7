-- Bytes and words of four shifted into a remainder, which is held turned round.
use mathlib.Core.Path.{◌≡◌, refl, ap, ap₂, sym, ◌∙◌}
use Prim.Native.Nat.{ℕ, zero, suc, ◌+◌, ◌*◌, ◌/◌, ◌%◌, ◌^◌, ◌<◌, ◌≤◌}
use native.Mathlib.Nat.{pow-suc}
use native.Mathlib.Omega.{arith}
use lib.Bits.{bit_xor, xor_lt, xor_shifted, xor_zero_r, block_half, block_odd}
use lib.Pow.{pow_mono}
use Rattle.rules.specs.Crc.{crc_bit, crc_bits, mirror}
use Rattle.remainders.specs.Bounds.{bit_lt, bits_lt}
use Rattle.remainders.specs.Mirror.{mirror_back, mirror_lt, mirror_xor, mirror_parts, mirror_wider}
use Rattle.remainders.specs.Xor.{digit}
use Rattle.remainders.specs.Linear.{bits_xor, bits_shift}

-- n bits come in, then the m above them
bits_join : (n m q a r : ℕ) → a < 2 ^ n → crc_bits (n + m) (q * 2 ^ n + a) r ≡ crc_bits m q (crc_bits n a r)
unfolding crc_bits
bits_join zero m q a r h =
    let all : 0 + m ≡ m = omega arith in
    let only : q * 1 + a ≡ q = omega arith in
    ap₂ (λ (k x : ℕ). crc_bits k x r) all only
bits_join (suc n) m q a r h =
    let more : suc n + m ≡ suc (n + m) = omega arith in
    ap (λ (k : ℕ). crc_bits k (q * 2 ^ suc n + a) r) more
    ∙ ap₂ (λ (x b : ℕ). crc_bits (n + m) x (crc_bit b r)) (block_half q n a) (block_odd q n a)
    ∙ bits_join n m q (a / 2) (crc_bit (a % 2) r) (omega (arith, pow-suc 2 n))

-- the bit that goes out, and the rest
first_bit : (n x : ℕ) → mirror (suc n) x ≡ x % 2 * 2 ^ n + mirror n (x / 2)
unfolding mirror
first_bit n x = refl

out_or_in : (b : ℕ) → b < 2 → crc_bit 0 (b * 2 ^ 31) ≡ crc_bit b 0
unfolding crc_bit
out_or_in = digit (λ (b : ℕ). crc_bit 0 (b * 2 ^ 31) ≡ crc_bit b 0) refl refl

one_shift : (r : ℕ) → crc_bits 1 0 r ≡ crc_bit 0 r
unfolding crc_bits
one_shift r = refl

one_out : (x : ℕ) → x < 2 ^ 32 → crc_bit 0 (mirror 32 x) ≡ bit_xor (crc_bit (x % 2) 0) (mirror 32 (x / 2))
one_out x h =
    let b = x % 2 * 2 ^ 31 in
    let y = mirror 31 (x / 2) in
    sym (one_shift (mirror 32 x))
    ∙ ap (crc_bits 1 0) (first_bit 31 x ∙ sym (xor_shifted (x % 2) 31 y (mirror_lt 31 (x / 2))))
    ∙ bits_xor 1 0 0 b y (omega arith) (omega (arith, mirror_lt 31 (x / 2)))
    ∙ ap₂ bit_xor (one_shift b ∙ out_or_in (x % 2) (omega arith)) (bits_shift 1 y (omega (arith, mirror_lt 31 (x / 2))) ∙ sym (mirror_wider 31 1 (x / 2) (omega arith)))

-- bits that come in, and the same bits added to the remainder first
alone : (n x : ℕ) → x < 2 ^ n → x < 2 ^ 32 → crc_bits n x 0 ≡ crc_bits n 0 (mirror 32 x)
unfolding crc_bits mirror
alone zero x h l = let none : x ≡ 0 = omega arith in rw none refl
alone (suc n) x h l =
    let y = mirror 32 (x / 2) in
    let b = crc_bit (x % 2) 0 in
    sym
    (ap (crc_bits n 0) (one_out x l) ∙ bits_xor n 0 0 b y (bit_lt (x % 2) 0) (mirror_lt 32 (x / 2))
    ∙ ap (bit_xor (crc_bits n 0 b)) (sym (alone n (x / 2) (omega (arith, pow-suc 2 n)) (omega arith)))
    ∙ sym (bits_xor n 0 (x / 2) b 0 (bit_lt (x % 2) 0) (omega arith)) ∙ ap (crc_bits n (x / 2)) (xor_zero_r b))

comes_in : (n x s : ℕ) → x < 2 ^ n → x < 2 ^ 32 → crc_bits n 0 (mirror 32 (bit_xor s x)) ≡ crc_bits n x (mirror 32 s)
comes_in n x s h l =
    ap (crc_bits n 0) (mirror_xor 32 s x)
    ∙ bits_xor n 0 0 (mirror 32 s) (mirror 32 x) (mirror_lt 32 s) (mirror_lt 32 x)
    ∙ ap (bit_xor (crc_bits n 0 (mirror 32 s))) (sym (alone n x h l))
    ∙ sym (bits_xor n 0 x (mirror 32 s) 0 (mirror_lt 32 s) (omega arith))
    ∙ ap (crc_bits n x) (xor_zero_r (mirror 32 s))

-- turned back
pub as_shifted : (t y : ℕ) → y < 2 ^ 32 → t ≡ mirror 32 (crc_bits 32 0 y) → mirror 32 t ≡ crc_bits 32 0 y
as_shifted t y h p = ap (mirror 32) p ∙ mirror_back 32 (crc_bits 32 0 y) (bits_lt 32 0 y h)

-- four bytes come in as one word, the first lowest
pub four_come_in : (s a b c d t w : ℕ) → a < 256 → b < 256 → c < 256 → d < 256 → w ≡ ((d * 256 + c) * 256 + b) * 256 + a → t ≡ mirror 32 (crc_bits 32 0 (mirror 32 (bit_xor s w))) → mirror 32 t ≡ crc_bits 8 d (crc_bits 8 c (crc_bits 8 b (crc_bits 8 a (mirror 32 s))))
four_come_in s a b c d t w ha hb hc hd e p =
    let r = mirror 32 s in
    as_shifted t (mirror 32 (bit_xor s w)) (mirror_lt 32 (bit_xor s w)) p
    ∙ comes_in 32 w s (omega (arith, e)) (omega (arith, e)) ∙ ap (λ (x : ℕ). crc_bits 32 x r) e
    ∙ bits_join 8 24 ((d * 256 + c) * 256 + b) a r ha ∙ bits_join 8 16 (d * 256 + c) b (crc_bits 8 a r) hb ∙ bits_join 8 8 d c (crc_bits 8 b (crc_bits 8 a r)) hc

-- 32 shifts of a nibble and of the n bits above it
pub joined : (n a t u : ℕ) → 4 + n ≤ 32 → t ≡ mirror 32 (crc_bits 32 0 (mirror 4 (a % 16) * 2 ^ n)) → u ≡ mirror 32 (crc_bits 32 0 (mirror n (a / 16))) → bit_xor t u ≡ mirror 32 (crc_bits 32 0 (mirror (4 + n) a))
joined n a t u h p q =
    let x = mirror 4 (a % 16) * 2 ^ n in
    let y = mirror n (a / 16) in
    let whole : x + y < 2 ^ 32 = omega (arith, mirror_parts 4 n a, mirror_lt (4 + n) a, pow_mono {i = 4 + n} {j = 32} h) in
    ap₂ bit_xor p q ∙ sym (mirror_xor 32 (crc_bits 32 0 x) (crc_bits 32 0 y))
    ∙ ap (mirror 32) (sym (bits_xor 32 0 0 x y (omega (arith, whole)) (omega (arith, whole))) ∙ ap (crc_bits 32 0) (xor_shifted (mirror 4 (a % 16)) n y (mirror_lt n (a / 16)) ∙ sym (mirror_parts 4 n a)))

-- a byte goes out: 32 shifts of it in the last place are eight in the first
none_left : (y : ℕ) → mirror 0 y ≡ 0
unfolding mirror
none_left y = refl

low_eight : (a : ℕ) → mirror 8 a ≡ mirror 8 (a % 256)
low_eight a = omega (arith, mirror_parts 8 0 a, none_left (a / 256))

byte_goes_out : (a t : ℕ) → a < 2 ^ 32 → t ≡ mirror 32 (crc_bits 32 0 (mirror 8 a)) → mirror 32 (bit_xor t (a / 256)) ≡ crc_bits 8 0 (mirror 32 a)
byte_goes_out a t h p =
    let x = mirror 8 (a % 256) in
    let y = mirror 24 (a / 256) in
    let hx : x < 256 = mirror_lt 8 (a % 256) in
    let hy : y < 2 ^ 24 = mirror_lt 24 (a / 256) in
    mirror_xor 32 t (a / 256)
    ∙ ap₂ bit_xor (as_shifted t x (omega arith) (p ∙ ap (λ (z : ℕ). mirror 32 (crc_bits 32 0 z)) (low_eight a)) ∙ bits_join 24 8 0 0 x (omega arith) ∙ ap (crc_bits 8 0) (bits_shift 24 x (omega arith))) (mirror_wider 24 8 (a / 256) (omega arith) ∙ sym (bits_shift 8 y (omega arith)))
    ∙ sym (bits_xor 8 0 0 (x * 2 ^ 24) y (omega arith) (omega arith)) ∙ ap (crc_bits 8 0) (xor_shifted x 24 y hy ∙ sym (mirror_parts 8 24 a))

pub byte_comes_in : (s a b t : ℕ) → s < 2 ^ 32 → a < 256 → b ≡ a → t ≡ mirror 32 (crc_bits 32 0 (mirror 8 (bit_xor s b))) → mirror 32 (bit_xor t (bit_xor s b / 256)) ≡ crc_bits 8 a (mirror 32 s)
byte_comes_in s a b t hs ha e p = byte_goes_out (bit_xor s b) t (xor_lt 32 s b hs (omega (arith, e))) p ∙ comes_in 8 b s (omega (arith, e)) (omega (arith, e)) ∙ ap (λ (x : ℕ). crc_bits 8 x (mirror 32 s)) e
