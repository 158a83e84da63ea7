-- Four hex digits made in one word.
use mathlib.Core.Path.{◌≡◌, ap, sym, ◌∙◌}
use mathlib.Core.List.{[], ◌∷◌}
use Prim.Native.Nat.{ℕ, ◌+◌, ◌*◌, ◌/◌, ◌%◌, ◌≤◌, ◌<◌}
use native.Mathlib.Nat.{div-add-mod', div-div-eq-div-mul, mod-eq_of_lt}
use native.Mathlib.Omega.{arith}
use native.Mathlib.Decide.{dec_le}
use borrow.Author.Tests.{lt-ltb, le-ltb}
use lib.Bits.{bit_and, and_block, and_mask}
use Rattle.rules.specs.Bench.{hex_digit, hex4}
use Rattle.lines.specs.Word.{bytes4}

-- four bytes in a word, and out again
abbrev word4 : ℕ → ℕ → ℕ → ℕ → ℕ
word4 a b c d = a + b * 256 + c * 65536 + d * 16777216

pub above : (x m : ℕ) → x < 256 → (x + m * 256) / 256 ≡ m
above x m h = omega arith

pub below : (x m : ℕ) → x < 256 → (x + m * 256) % 256 ≡ x
below x m h = omega arith

bytes_of : (a b c d : ℕ) → a < 256 → b < 256 → c < 256 → d < 256 → bytes4 (word4 a b c d) ≡ a ∷ b ∷ c ∷ d ∷ []
unfolding bytes4
bytes_of a b c d ha hb hc hd =
    let k = c + d * 256 in
    let l = b + k * 256 in
    let w = a + l * 256 in
    let s : word4 a b c d ≡ w = omega arith in
    let p : w / 256 ≡ l = above a l ha in
    let q : w / 65536 ≡ k = sym (div-div-eq-div-mul w 256 256) ∙ ap (λ (x : ℕ). x / 256) p ∙ above b k hb in
    let r : w / 16777216 ≡ d = sym (div-div-eq-div-mul w 65536 256) ∙ ap (λ (x : ℕ). x / 256) q ∙ above c d hc in
    ap bytes4 s ∙ rw (p, q, r, below a l ha, below b k hb, below c d hc, mod-eq_of_lt hd)

-- The lowest bit of each byte.
lowest : (n b : ℕ) → bit_and n (b * 256 + 1) ≡ bit_and (n / 256) b * 256 + n % 2
lowest n b =
    let e : n % 256 % 2 ≡ n % 2 = omega arith in
    ap (λ (m : ℕ). bit_and m (b * 256 + 1)) (sym (div-add-mod' n 256))
    ∙ and_block 8 (n / 256) b (n % 256) 1 (omega arith) (omega arith)
    ∙ ap (λ (m : ℕ). bit_and (n / 256) b * 256 + m) (and_mask (n % 256) 1 ∙ e)

lowest_bits : (n : ℕ) → bit_and n 0x01010101 ≡ word4 (n % 2) (n / 256 % 2) (n / 65536 % 2) (n / 16777216 % 2)
lowest_bits n =
    let a : n / 256 / 256 ≡ n / 65536 = omega arith in
    let b : n / 65536 / 256 ≡ n / 16777216 = omega arith in
    let p = lowest n 0x010101 in
    let q = lowest (n / 256) 0x0101 in
    let r : bit_and (n / 256 / 256) 0x0101 ≡ bit_and (n / 16777216) 1 * 256 + n / 65536 % 2 =
    ap (λ (m : ℕ). bit_and m 0x0101) a ∙ lowest (n / 65536) 1 ∙ ap (λ (m : ℕ). bit_and m 1 * 256 + n / 65536 % 2) b in
    omega (arith, p, q, r, and_mask (n / 16777216) 1)

-- Adding 6 to a nibble carries exactly for a to f, which are 39 further on than the digits.
digit : (d : ℕ) → d < 16 → 0x30 + d + (d + 6) / 16 * 39 ≡ hex_digit d
unfolding hex_digit
digit d h = go (dec_le 10 d)
  where
    go : Dec (10 ≤ d) → 0x30 + d + (d + 6) / 16 * 39 ≡ hex_digit d
    go (yes l) = rw (le-ltb d 10 l) (omega arith)
    go (no l) = rw (lt-ltb d 10 (omega arith)) (omega arith)

-- The carry is bit 4; what stands above the byte does not matter to it.
carry : (d m : ℕ) → d < 16 → (d + 6 + m * 256) / 16 % 2 ≡ (d + 6) / 16
carry d m h = let q : (d + 6 + m * 256) / 16 ≡ (d + 6) / 16 + m * 16 = omega arith in omega (arith, q)

next : (d m : ℕ) → d < 16 → (d + 6 + m * 256) / 16 / 256 ≡ m / 16
next d m h = let q : (d + 6 + m * 256) / 16 ≡ (d + 6) / 16 + m * 16 = omega arith in omega (arith, q)

module _ (a b c d : ℕ) (ha : a < 16) (hb : b < 16) (hc : c < 16) (hd : d < 16) where
  carries : bit_and ((word4 a b c d + 0x06060606) / 16) 0x01010101 ≡ word4 ((a + 6) / 16) ((b + 6) / 16) ((c + 6) / 16) ((d + 6) / 16)
  carries =
      let l = c + 6 + (d + 6) * 256 in
      let k = b + 6 + l * 256 in
      let n = (a + 6 + k * 256) / 16 in
      let s : word4 a b c d + 0x06060606 ≡ a + 6 + k * 256 = omega arith in
      let p : n / 256 ≡ k / 16 = next a k ha in
      let q : n / 65536 ≡ l / 16 = omega (arith, p, next b l hb) in
      let r : n / 16777216 ≡ (d + 6) / 16 = omega (arith, q, next c (d + 6) hc) in
      let z : (d + 6) / 16 % 2 ≡ (d + 6) / 16 = omega arith in
      ap (λ (x : ℕ). bit_and (x / 16) 0x01010101) s
      ∙ lowest_bits n
      ∙ rw (p, q, r, carry a k ha, carry b l hb, carry c (d + 6) hc, z)

  four : bytes4 (word4 a b c d + bit_and ((word4 a b c d + 0x06060606) / 16) 0x01010101 * 39 + 0x30303030)
      ≡ hex_digit a ∷ hex_digit b ∷ hex_digit c ∷ hex_digit d ∷ []
  four =
      let m = bit_and ((word4 a b c d + 0x06060606) / 16) 0x01010101 in
      let e : word4 a b c d + m * 39 + 0x30303030
      ≡ word4 (0x30 + a + (a + 6) / 16 * 39) (0x30 + b + (b + 6) / 16 * 39) (0x30 + c + (c + 6) / 16 * 39) (0x30 + d + (d + 6) / 16 * 39) =
      omega (arith, carries) in
      ap bytes4 e
      ∙ bytes_of (0x30 + a + (a + 6) / 16 * 39) (0x30 + b + (b + 6) / 16 * 39) (0x30 + c + (c + 6) / 16 * 39) (0x30 + d + (d + 6) / 16 * 39)
      (omega arith) (omega arith) (omega arith) (omega arith)
      ∙ rw (digit a ha, digit b hb, digit c hc, digit d hd)

-- the four nibbles, the first in the lowest byte
abbrev pub nibbles : ℕ → ℕ
nibbles x = word4 (x / 4096) (x / 256 % 16) (x / 16 % 16) (x % 16)

pub hex_word : (x : ℕ) → x < 65536 → bytes4 (nibbles x + bit_and ((nibbles x + 0x06060606) / 16) 0x01010101 * 39 + 0x30303030) ≡ hex4 x
unfolding hex4
hex_word x h =
    let e : x / 4096 ≡ x / 4096 % 16 = omega arith in
    four (x / 4096) (x / 256 % 16) (x / 16 % 16) (x % 16) (omega arith) (omega arith) (omega arith) (omega arith)
    ∙ ap (λ (d : ℕ). hex_digit d ∷ hex_digit (x / 256 % 16) ∷ hex_digit (x / 16 % 16) ∷ hex_digit (x % 16) ∷ []) e
