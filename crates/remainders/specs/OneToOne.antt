-- Each step of the remainder is one-to-one: remainders that differ stay different over equal bytes, and two bytes that differ make two of one remainder.
use Rattle.std.specs.Prelude.{◌≡◌, refl, Bool, true, false, cond, List, [], ◌∷◌, ℕ, zero, suc, ◌+◌, ◌*◌, ◌/◌, ◌%◌, ◌^◌, ◌<◌, eqb, length, get_or, set}
use Rattle.std.proofs.Common.{ap, ap₂, sym, ◌∙◌, pow-suc, add-mul, mul_assoc, mul-lt-mul_of_pos_right, arith, eqb-true, pow_pos, pow-add}
use Rattle.std.proofs.Math.Nat.{eq_of_mul-eq-mul_right}
use Rattle.std.specs.Int.Bits.{bit_xor, xor_self, xor_shifted, xor_zero_r}
use Rattle.std.proofs.lemmas.Nat.{xor_lt}
use Rattle.rules.specs.Crc.{crc_bit, crc_bits, crc_from, mirror}
use Rattle.remainders.specs.Bounds.{bit_lt, bits_lt}
use Rattle.remainders.specs.Xor.{digit, xor_assoc, xor_cancel}
use Rattle.remainders.specs.Mirror.{mirror_lt, mirror_back}
use Rattle.remainders.specs.Linear.{bits_xor, bits_shift}

-- Two numbers are the same where nothing is left of them added bit by bit.
pub xor_none : (a b : ℕ) → bit_xor a b ≡ 0 → a ≡ b
xor_none a b e = sym (xor_zero_r a) ∙ ap (bit_xor a) (sym (xor_self b)) ∙ sym (xor_assoc a b b) ∙ ap (λ (x : ℕ). bit_xor x b) e

pub xor_same : (a b : ℕ) → a ≡ b → bit_xor a b ≡ 0
xor_same a b e = ap (λ (x : ℕ). bit_xor x b) e ∙ xor_self b

-- No remainder but 0 becomes 0 by zeros: where its top bit is set, the polynomial's lowest bit is left.
bit_none : (d : ℕ) → d < 2 ^ 32 → crc_bit 0 d ≡ 0 → d ≡ 0
unfolding crc_bit
bit_none d h = go (eqb (d / 2 ^ 31) 0) refl
  where
    go : (t : Bool) → eqb (d / 2 ^ 31) 0 ≡ t → cond t (d % 2 ^ 31 * 2) (bit_xor 0x04c11db7 (d % 2 ^ 31 * 2)) ≡ 0 → d ≡ 0
    go true q e = omega (arith, eqb-true (d / 2 ^ 31) 0 q, e)
    go false q e = let same = xor_none 0x04c11db7 (d % 2 ^ 31 * 2) e in absurd (omega (arith, same))

bits_none : (n d : ℕ) → d < 2 ^ 32 → crc_bits n 0 d ≡ 0 → d ≡ 0
unfolding crc_bits
bits_none zero d h e = e
bits_none (suc n) d h e = bit_none d h (bits_none n (crc_bit 0 d) (bit_lt 0 d) e)

module _ (n x r s : ℕ) (hr : r < 2 ^ 32) (hs : s < 2 ^ 32) where
  pub same_before : crc_bits n x r ≡ crc_bits n x s → r ≡ s
  same_before e =
      xor_none r s
      (bits_none n (bit_xor r s) (xor_lt 32 r s hr hs)
      (ap (λ (y : ℕ). crc_bits n y (bit_xor r s)) (sym (xor_self x)) ∙ bits_xor n x x r s hr hs ∙ xor_same (crc_bits n x r) (crc_bits n x s) e))

pub same_start : (l : List ℕ) (r s : ℕ) → r < 2 ^ 32 → s < 2 ^ 32 → crc_from r l ≡ crc_from s l → r ≡ s
unfolding crc_from
same_start [] r s hr hs e = e
same_start (x ∷ l) r s hr hs e = same_before 8 x r s hr hs (same_start l (crc_bits 8 x r) (crc_bits 8 x s) (bits_lt 8 x r hr) (bits_lt 8 x s hs) e)

-- A number's bits in the other order are one-to-one, too.
pub same_mirrored : (n x y : ℕ) → x < 2 ^ n → y < 2 ^ n → mirror n x ≡ mirror n y → x ≡ y
same_mirrored n x y hx hy e = sym (mirror_back n x hx) ∙ ap (mirror n) e ∙ mirror_back n y hy

placed_below : (n k p m : ℕ) → n + k ≡ p → m < 2 ^ n → m * 2 ^ k < 2 ^ p
placed_below n k p m e h = omega (arith, mul-lt-mul_of_pos_right h (pow_pos k), sym (pow-add 2 n k) ∙ ap (λ (j : ℕ). 2 ^ j) e)

-- A bit that comes in is as good as added to the top bit of the remainder,
bit_comes_in : (b r : ℕ) → b < 2 → r < 2 ^ 32 → crc_bit b r ≡ crc_bit 0 (bit_xor r (b * 2 ^ 31))
unfolding crc_bits crc_bit
bit_comes_in b r hb hr =
    digit (λ (d : ℕ). crc_bit d r ≡ crc_bit 0 (bit_xor r (d * 2 ^ 31))) (ap (crc_bits 1 0) (sym (xor_zero_r r)))
    (sym (bits_xor 1 0 0 r (2 ^ 31) hr (omega arith) ∙ sym (ap (crc_bits 1 1) (sym (xor_zero_r r)) ∙ bits_xor 1 0 1 r 0 hr (omega arith)))) b hb

-- and so are n bits, the first at the top.
pub bits_come_in : (n k x r : ℕ) → n + k ≡ 32 → r < 2 ^ 32 → crc_bits n x r ≡ crc_bits n 0 (bit_xor r (mirror n x * 2 ^ k))
unfolding crc_bits mirror
bits_come_in zero k x r h hr = let none : 0 * 2 ^ k ≡ 0 = omega arith in rw none (sym (xor_zero_r r))
bits_come_in (suc n) k x r h hr =
    let b = x % 2 in
    let m = mirror n (x / 2) * 2 ^ k in
    let places : n + k ≡ 31 = omega arith in
    let top : 2 ^ n * 2 ^ k ≡ 2 ^ 31 = sym (pow-add 2 n k) ∙ ap (λ (j : ℕ). 2 ^ j) places in
    let apart : (b * 2 ^ n + mirror n (x / 2)) * 2 ^ k ≡ b * 2 ^ 31 + m =
    add-mul (b * 2 ^ n) (mirror n (x / 2)) (2 ^ k) ∙ ap (λ (y : ℕ). y + m) (mul_assoc b (2 ^ n) (2 ^ k) ∙ ap (λ (y : ℕ). b * y) top) in
    let within : m < 2 ^ 31 = placed_below n k 31 (mirror n (x / 2)) places (mirror_lt n (x / 2)) in
    let twice : mirror n (x / 2) * 2 ^ suc k ≡ m * 2 = ap (λ (y : ℕ). mirror n (x / 2) * y) (pow-suc 2 k) ∙ sym (mul_assoc (mirror n (x / 2)) (2 ^ k) 2) in
    bits_come_in n (suc k) (x / 2) (crc_bit b r) (omega arith) (bit_lt b r)
    ∙ ap (crc_bits n 0)
    (ap₂ bit_xor (bit_comes_in b r (omega arith) hr) (twice ∙ sym (bits_shift 1 m (omega arith)))
    ∙ sym (bits_xor 1 0 0 (bit_xor r (b * 2 ^ 31)) m (xor_lt 32 r (b * 2 ^ 31) hr (omega arith)) (omega arith))
    ∙ ap (crc_bit 0) (xor_assoc r (b * 2 ^ 31) m ∙ ap (bit_xor r) (xor_shifted b 31 m within ∙ sym apart)))

-- So bits that come in to one remainder are one-to-one, up to 32 of them; two bytes are.
pub same_bits : (n k x y r : ℕ) → n + k ≡ 32 → x < 2 ^ n → y < 2 ^ n → r < 2 ^ 32 → crc_bits n x r ≡ crc_bits n y r → x ≡ y
same_bits n k x y r h hx hy hr e =
    let a = mirror n x * 2 ^ k in
    let b = mirror n y * 2 ^ k in
    let ha = placed_below n k 32 (mirror n x) h (mirror_lt n x) in
    let hb = placed_below n k 32 (mirror n y) h (mirror_lt n y) in
    let added = same_before n 0 (bit_xor r a) (bit_xor r b) (xor_lt 32 r a hr ha) (xor_lt 32 r b hr hb) (sym (bits_come_in n k x r h hr) ∙ e ∙ bits_come_in n k y r h hr) in
    let placed : a ≡ b = xor_none a b (sym (xor_cancel r a b) ∙ xor_same (bit_xor r a) (bit_xor r b) added) in
    same_mirrored n x y hx hy (eq_of_mul-eq-mul_right (2 ^ k) (pow_pos k) (mirror n x) (mirror n y) placed)

pub same_byte : (x y r : ℕ) → x < 256 → y < 256 → r < 2 ^ 32 → crc_bits 8 x r ≡ crc_bits 8 y r → x ≡ y
same_byte x y r hx hy hr e = same_bits 8 24 x y r refl hx hy hr e

-- A list with another byte at one place has another remainder.
pub same_changed : (l : List ℕ) (k x r : ℕ) → k < length l → get_or l k 0 < 256 → x < 256 → r < 2 ^ 32 → crc_from r l ≡ crc_from r (set l k x) → get_or l k 0 ≡ x
unfolding crc_from
same_changed [] k x r h hb hx hr e = absurd (omega arith)
same_changed (b ∷ l) zero x r h hb hx hr e = same_byte b x r hb hx hr (same_start l (crc_bits 8 b r) (crc_bits 8 x r) (bits_lt 8 b r hr) (bits_lt 8 x r hr) e)
same_changed (b ∷ l) (suc k) x r h hb hx hr e = same_changed l k x (crc_bits 8 b r) (omega arith) hb hx (bits_lt 8 b r hr) e
