-- A nibble goes out by the table, and the nibbles above it after it.
use Rattle.std.proofs.Common.{◌≡◌, ℕ, ◌+◌, ◌-◌, ◌*◌, ◌/◌, ◌%◌, ◌^◌, ◌<◌, List, [], map, get_or, refl, ap, ◌∙◌, arith}
use Rattle.std.proofs.lemmas.List.FromFn.{get_or-map-range_with_len}
use Rattle.std.specs.List.{range_with_len}
use lib.Bits.{bit_xor, xor_zero_r}
use Rattle.rules.specs.Crc.{crc_bit, crc_bits, mirror}
use Rattle.remainders.specs.Xor.{xor_assoc}
use Rattle.crc.specs.declared.tables.TheConstants.{NIBBLES}
use Rattle.crc.proofs.Words.{joined}

-- what 32 shifts make of x, the remainder's bits in the other order
abbrev pub shifted : ℕ → ℕ
shifted x = mirror 32 (crc_bits 32 0 x)

-- nibble k of a word
abbrev entry : ℕ → ℕ → ℕ
entry k x = shifted (mirror 4 x * 2 ^ (28 - 4 * k))

abbrev row : ℕ → List ℕ
row k = map (entry k) (range_with_len 0 16)

table : NIBBLES ≡ map row (range_with_len 0 8)
unfolding mirror crc_bits crc_bit
table = refl

pub told : (k x : ℕ) → k < 8 → x < 16 → get_or (get_or NIBBLES k []) x 0 ≡ entry k x
told k x h f =
    ap (λ (rows : List (List ℕ)). get_or (get_or rows k []) x 0) table
    ∙ ap (λ (r : List ℕ). get_or r x 0) (get_or-map-range_with_len row 0 8 k k [] h (omega arith)) ∙ get_or-map-range_with_len (entry k) 0 16 x x 0 f (omega arith)

-- one more nibble is out
pub nibble_on : (k r t left : ℕ) → k < 8 → t ≡ entry k (left % 16) → bit_xor (bit_xor r t) (shifted (mirror (4 * (8 - (k + 1))) (left / 16))) ≡ bit_xor r (shifted (mirror (4 * (8 - k)) left))
nibble_on k r t left h e =
    let n : 4 * (8 - (k + 1)) ≡ 28 - 4 * k = omega arith in
    let m : 4 * (8 - k) ≡ 4 + (28 - 4 * k) = omega arith in
    rw (n, m) (xor_assoc r t (shifted (mirror (28 - 4 * k) (left / 16))) ∙ ap (bit_xor r) (joined (28 - 4 * k) left t _ (omega arith) e refl))

-- no nibble is left
pub nibbles_end : (r left : ℕ) → bit_xor r (shifted (mirror 0 left)) ≡ r
unfolding mirror crc_bits crc_bit
nibbles_end r left = xor_zero_r r
