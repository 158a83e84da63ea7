-- The standard's residue: over a whole frame, its FCS too, the remainder is C704DD7Bh exactly where the CRC is good.
use Rattle.std.specs.Prelude.{◌≡◌, refl, false, List, [], ◌∷◌, ◌++◌, ℕ, zero, suc, ◌+◌, ◌-◌, ◌*◌, ◌/◌, ◌%◌, ◌^◌, ◌≤◌, ◌<◌, length, get_or, take, drop}
use Rattle.std.proofs.Math.Path.{ap}
use Rattle.std.proofs.Common.{ap₂, sym, ◌∙◌, true≢false, pow-suc, mul_comm, mul_assoc, arith, length-drop, take-append-drop, get_or-drop}
use Rattle.std.proofs.Math.Bool.{not}
use Rattle.std.proofs.lemmas.Bool.{not-false}
use Rattle.std.specs.Int.Bits.{bit_xor, differ, xor_step}
use Rattle.rules.specs.Crc.{crc_bit, crc_bits, crc_from, crc, mirror, fcs_word, four_bytes, fcs}
use Rattle.rules.specs.Receive.{same_bytes, bad_crc}
use Rattle.lists.specs.Facts.{Decides, agrees, always, ◌and◌, eq_decides}
use Rattle.lists.specs.Each.{Each, each_at}
use Rattle.remainders.specs.Bounds.{crc_lt}
use Rattle.remainders.specs.Xor.{digit}
use Rattle.remainders.specs.Mirror.{mirror_lt, mirror_back}
use Rattle.remainders.specs.OneToOne.{bits_come_in, same_bits}

-- The rules' test of two lists decides whether they are the same.
same_decides : (xs ys : List ℕ) → Decides (same_bytes xs ys) (xs ≡ ys)
unfolding same_bytes
same_decides [] [] = always refl
same_decides [] (y ∷ ys) = record { sound = λ e. absurd (true≢false (sym e)); complete = λ e. absurd (omega (arith, ap length e)) }
same_decides (x ∷ xs) [] = record { sound = λ e. absurd (true≢false (sym e)); complete = λ e. absurd (omega (arith, ap length e)) }
same_decides (x ∷ xs) (y ∷ ys) =
    agrees (eq_decides x y and same_decides xs ys) (λ p. ap₂ ◌∷◌ p.0 p.1) (λ e. (ap (λ (l : List ℕ). get_or l 0 0) e, ap (drop 1) e))

-- A good CRC: the last four bytes are the FCS of the rest.
abbrev pub EndsWell : List ℕ → Type 0
EndsWell f = drop (length f - 4) f ≡ fcs (take (length f - 4) f)

module _ (f : List ℕ) where
  pub good_ends : bad_crc f ≡ false → EndsWell f
  unfolding bad_crc
  good_ends e = (same_decides (drop (length f - 4) f) (fcs (take (length f - 4) f))).sound (not-false _ e)

  pub ends_good : EndsWell f → bad_crc f ≡ false
  unfolding bad_crc
  ends_good e = ap not ((same_decides (drop (length f - 4) f) (fcs (take (length f - 4) f))).complete e)

-- Bytes behind others go on from the remainder of these.
from_append : (r : ℕ) (a b : List ℕ) → crc_from r (a ++ b) ≡ crc_from (crc_from r a) b
unfolding crc_from
from_append r [] b = refl
from_append r (x ∷ a) b = from_append (crc_bits 8 x r) a b

-- Four bytes come in as the 32 bits of a word, the lowest first: of each byte the eight lowest bits count.
above_none : (n x y r : ℕ) → crc_bits n (x + 2 ^ n * y) r ≡ crc_bits n x r
unfolding crc_bits
above_none zero x y r = refl
above_none (suc n) x y r =
    let twice : 2 ^ suc n * y ≡ 2 * (2 ^ n * y) = ap (λ (p : ℕ). p * y) (pow-suc 2 n ∙ mul_comm (2 ^ n) 2) ∙ mul_assoc 2 (2 ^ n) y in
    let low : (x + 2 ^ suc n * y) % 2 ≡ x % 2 = omega (arith, twice) in
    let high : (x + 2 ^ suc n * y) / 2 ≡ x / 2 + 2 ^ n * y = omega (arith, twice) in
    rw (low, high) (above_none n (x / 2) y (crc_bit (x % 2) r))

low_byte_lem : (x r : ℕ) → crc_bits 8 (x % 256) r ≡ crc_bits 8 x r
low_byte_lem x r = let all : x ≡ x % 256 + 2 ^ 8 * (x / 256) = omega arith in sym (ap (λ (y : ℕ). crc_bits 8 y r) all ∙ above_none 8 (x % 256) (x / 256) r)

first_byte : (n x r : ℕ) → crc_bits (suc (suc (suc (suc (suc (suc (suc (suc n)))))))) x r ≡ crc_bits n (x / 2 ^ 8) (crc_bits 8 x r)
unfolding crc_bits
first_byte n x r = let e : x / 2 / 2 / 2 / 2 / 2 / 2 / 2 / 2 ≡ x / 2 ^ 8 = omega arith in rw e refl

word_comes_in : (w r : ℕ) → crc_from r (four_bytes w) ≡ crc_bits 32 w r
unfolding crc_from four_bytes
word_comes_in w r =
    let a = crc_bits 8 w r in
    let b = crc_bits 8 (w / 2 ^ 8) a in
    let c = crc_bits 8 (w / 2 ^ 16) b in
    let third : w / 2 ^ 8 / 2 ^ 8 ≡ w / 2 ^ 16 = omega arith in
    let fourth : w / 2 ^ 16 / 2 ^ 8 ≡ w / 2 ^ 24 = omega arith in
    rw (low_byte_lem w r, low_byte_lem (w / 2 ^ 8) a, low_byte_lem (w / 2 ^ 16) b, low_byte_lem (w / 2 ^ 24) c)
    (sym
    (first_byte 24 w r ∙ first_byte 16 (w / 2 ^ 8) a ∙ ap (λ (y : ℕ). crc_bits 16 y b) third ∙ first_byte 8 (w / 2 ^ 16) b
    ∙ ap (λ (y : ℕ). crc_bits 8 y c) fourth))

-- A number and its complement have every bit between them.
every_bit : (n x y : ℕ) → x + y + 1 ≡ 2 ^ n → bit_xor x y ≡ x + y
every_bit zero x y h = let a : x ≡ 0 = omega arith in let b : y ≡ 0 = omega arith in rw (a, b) refl
every_bit (suc n) x y h =
    let upper = every_bit n (x / 2) (y / 2) (omega (arith, pow-suc 2 n)) in
    let lower : x % 2 + y % 2 ≡ 1 = omega (arith, pow-suc 2 n) in
    let one : differ (x % 2) (y % 2) ≡ 1 =
    digit (λ (d : ℕ). d + y % 2 ≡ 1 → differ d (y % 2) ≡ 1) (λ e. let k : y % 2 ≡ 1 = omega arith in rw k refl) (λ e. let k : y % 2 ≡ 0 = omega arith in rw k refl) (x % 2) (omega arith) lower in
    xor_step x y ∙ omega (arith, upper, one)

-- So from any remainder its FCS leads to the residue.
abbrev pub residue : ℕ
residue = 0xc704dd7b

to_residue : (bytes : List ℕ) → crc_from (crc bytes) (fcs bytes) ≡ residue
unfolding fcs_word crc_bits crc_bit
to_residue bytes =
    let r = crc bytes in
    let w = fcs_word bytes in
    let small = crc_lt bytes in
    let back : mirror 32 w * 2 ^ 0 ≡ 0xffffffff - r = omega (arith, mirror_back 32 (0xffffffff - r) (omega arith)) in
    let full : bit_xor r (mirror 32 w * 2 ^ 0) ≡ 0xffffffff = ap (bit_xor r) back ∙ every_bit 32 r (0xffffffff - r) (omega (arith, small)) ∙ omega (arith, small) in
    word_comes_in w r ∙ bits_come_in 32 0 w r refl small ∙ ap (crc_bits 32 0) full

-- And four bytes that lead to it are the FCS.
abbrev word_from : List ℕ → ℕ
word_from l = get_or l 0 0 + 2 ^ 8 * get_or l 1 0 + 2 ^ 16 * get_or l 2 0 + 2 ^ 24 * get_or l 3 0

word_of_lem : (d : List ℕ) → length d ≡ 4 → ((j : ℕ) → get_or d j 0 < 256) → four_bytes (word_from d) ≡ d
unfolding four_bytes
word_of_lem [] h small = absurd (omega arith)
word_of_lem (x ∷ []) h small = absurd (omega arith)
word_of_lem (x ∷ y ∷ []) h small = absurd (omega arith)
word_of_lem (x ∷ y ∷ z ∷ []) h small = absurd (omega arith)
word_of_lem (x ∷ y ∷ z ∷ u ∷ v ∷ more) h small = absurd (omega arith)
word_of_lem (x ∷ y ∷ z ∷ u ∷ []) h small =
    let w = x + 2 ^ 8 * y + 2 ^ 16 * z + 2 ^ 24 * u in
    let second : w / 2 ^ 8 ≡ y + 2 ^ 8 * (z + 2 ^ 8 * u) = omega (arith, small 0) in
    let third : w / 2 ^ 16 ≡ z + 2 ^ 8 * u = omega (arith, small 0, small 1) in
    let fourth : w / 2 ^ 24 ≡ u = omega (arith, small 0, small 1, small 2) in
    let a : w % 256 ≡ x = omega (arith, small 0) in
    let b : w / 2 ^ 8 % 256 ≡ y = rw second (omega (arith, small 1)) in
    let c : w / 2 ^ 16 % 256 ≡ z = rw third (omega (arith, small 2)) in
    let e : w / 2 ^ 24 % 256 ≡ u = rw fourth (omega (arith, small 3)) in
    rw (a, b, c, e) refl

from_residue : (bytes d : List ℕ) → length d ≡ 4 → ((j : ℕ) → get_or d j 0 < 256) → crc_from (crc bytes) d ≡ residue → d ≡ fcs bytes
unfolding fcs_word
from_residue bytes d h small e =
    let back = word_of_lem d h small in
    let same = same_bits 32 0 (word_from d) (fcs_word bytes) (crc bytes) refl (omega (arith, small 0, small 1, small 2, small 3)) (mirror_lt 32 (0xffffffff - crc bytes)) (crc_lt bytes)
    (sym (word_comes_in (word_from d) (crc bytes)) ∙ ap (crc_from (crc bytes)) back ∙ e ∙ sym (to_residue bytes) ∙ word_comes_in (fcs_word bytes) (crc bytes)) in
    sym back ∙ ap four_bytes same

-- the remainder over a frame, by its last four bytes
in_two : (f : List ℕ) → crc f ≡ crc_from (crc (take (length f - 4) f)) (drop (length f - 4) f)
unfolding crc
in_two f = let n = length f - 4 in ap (crc_from 0xffffffff) (sym (take-append-drop n f)) ∙ from_append 0xffffffff (take n f) (drop n f)

-- A good CRC has the residue, whatever the list;
pub good_has_residue : (f : List ℕ) → bad_crc f ≡ false → crc f ≡ residue
good_has_residue f e = in_two f ∙ ap (crc_from (crc (take (length f - 4) f))) (good_ends f e) ∙ to_residue (take (length f - 4) f)

-- and of a frame of bytes, four or more, nothing else has.
pub good_by_residue : (f : List ℕ) → Each (λ b. b < 256) f → 4 ≤ length f → (bad_crc f ≡ false → crc f ≡ residue) × (crc f ≡ residue → bad_crc f ≡ false)
good_by_residue f small h =
    let n = length f - 4 in
    let bytes : (j : ℕ) → get_or (drop n f) j 0 < 256 = λ j. omega (arith, get_or-drop n f j 0, each_at (λ b. b < 256) f (n + j) 0 small (omega arith)) in
    (good_has_residue f, λ e. ends_good f (from_residue (take n f) (drop n f) (length-drop n f ∙ omega arith) bytes (sym (in_two f) ∙ e)))
