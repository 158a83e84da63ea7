-- An address and the multicast table, of which the file has two bytes in a word; and the library's words beside the rules'.
use Rattle.std.proofs.Common.{◌≡◌, refl, ap, sym, ◌∙◌, subst, Bool, true, false, ◌&&◌, List, [], ◌∷◌, ℕ, zero, suc, ◌+◌, ◌-◌, ◌*◌, ◌/◌, ◌%◌, ◌^◌, ◌≤◌, ◌<◌, arith, eq-eqb, ne_eqb, eqb, length, get_or, replicate, pow-suc, mul_assoc, add-mul}
use native.Mathlib.Decide.{dec_le, ℕ_discrete}
use lib.Pow.{mod-mod-pow, field}
use lib.Pointwise.{pointwise}
use Rattle.std.specs.Int.{w32, to_le_bytes, from_le_bytes, reverse_bits, reverse_bits_onto}
use Rattle.std.specs.Bool.{Decides}
use Rattle.std.specs.List.{list_all}
use Rattle.std.proofs.lemmas.Bool.Decides.{Decides-eqb, same_from_decides}
use Rattle.std.proofs.lemmas.Nat.{le_bytes_4, from_le_bytes-to_le_bytes_4}
use Rattle.std.proofs.lemmas.Slice.Eq.{slice_eq-Decides}
use Rattle.rules.specs.Bits.{bit}
use Rattle.rules.specs.Crc.{four_bytes, mirror, crc}
use Rattle.rules.specs.Receive.{same_bytes, broadcast, in_table}
use Rattle.remainders.specs.Bounds.{crc_lt}
use Rattle.remainders.specs.Mirror.{mirror_back}
use Rattle.sets.specs.Bits.{bit_shr}
use Rattle.state.specs.View.{word, bytes, registers_in}
use Rattle.state.specs.Written.{Written, written_out}

-- An address is broadcast where each byte is FFh.
all_same : (x : ℕ) (l : List ℕ) → same_bytes l (replicate (length l) x) ≡ list_all (λ b. eqb b x) l
unfolding same_bytes
all_same x [] = refl
all_same x (b ∷ l) = ap (λ (t : Bool). eqb b x && t) (all_same x l)

pub broadcast_lem : (l : List ℕ) → length l ≡ 6 → broadcast l ≡ list_all (λ b. eqb b 255) l
unfolding broadcast
broadcast_lem l n = ap (λ (k : ℕ). same_bytes l (replicate k 255)) (sym n) ∙ all_same 255 l

-- Four bytes are those of a number where the number of the four is it.
same_bytes_lem : (l m : List ℕ) → same_bytes l m ≡ pointwise eqb l m
unfolding same_bytes
same_bytes_lem [] [] = refl
same_bytes_lem [] (y ∷ ys) = refl
same_bytes_lem (x ∷ xs) [] = refl
same_bytes_lem (x ∷ xs) (y ∷ ys) = ap (λ (b : Bool). eqb x y && b) (same_bytes_lem xs ys)

pub four_bytes_lem : (l : List ℕ) (x : ℕ) → length l ≡ 4 → ((i : ℕ) → get_or l i 0 < 256) → x < 2 ^ 32 → same_bytes l (four_bytes x) ≡ eqb (from_le_bytes w32 l) x
unfolding four_bytes
four_bytes_lem l x n h k =
    let same : Decides (same_bytes l (four_bytes x)) (l ≡ to_le_bytes w32 x) = slice_eq-Decides Decides-eqb _ _ _ (same_bytes_lem l (four_bytes x)) in
    let number : Decides (eqb (from_le_bytes w32 l) x) (from_le_bytes w32 l ≡ x) = Decides-eqb _ _ in
    same_from_decides _ _ same ((λ e. sym (le_bytes_4 l x n h (sym (number.0 e)))), (λ e. number.1 (ap (from_le_bytes w32) e ∙ from_le_bytes-to_le_bytes_4 x k)))

-- Two bytes are those of a word where the word of the two is it.
pair_word : (low high x : ℕ) → low < 256 → eqb low (x % 256) && eqb high (x / 256) ≡ eqb (low + high * 256) x
pair_word low high x h = go (ℕ_discrete low (x % 256)) (ℕ_discrete high (x / 256))
  where
    go : Dec (low ≡ x % 256) → Dec (high ≡ x / 256) → eqb low (x % 256) && eqb high (x / 256) ≡ eqb (low + high * 256) x
    go (yes a) (yes b) =
        let e : low + high * 256 ≡ x = omega arith in
        rw (eq-eqb _ _ a, eq-eqb _ _ b, eq-eqb _ _ e) refl
    go (yes a) (no b) =
        let e : low + high * 256 ≡ x → ⊥ = λ n. b (omega arith) in
        rw (eq-eqb _ _ a, ne_eqb _ _ b, ne_eqb _ _ e) refl
    go (no a) d =
        let e : low + high * 256 ≡ x → ⊥ = λ n. a (omega arith) in
        rw (ne_eqb _ _ a, ne_eqb _ _ e) refl

-- Six bytes are those of three words where each two are.
and_twos : (a b c d e f : Bool) → a && (b && (c && (d && (e && (f && true))))) ≡ (a && b) && ((c && d) && (e && f))
and_twos false b c d e f = refl
and_twos true false c d e f = refl
and_twos true true false d e f = refl
and_twos true true true false e f = refl
and_twos true true true true false f = refl
and_twos true true true true true false = refl
and_twos true true true true true true = refl

pub six_bytes : (l : List ℕ) (x y z : ℕ) → length l ≡ 6 → ((i : ℕ) → get_or l i 0 < 256)
    → same_bytes l (bytes x (bytes y (bytes z []))) ≡ eqb (get_or l 0 0 + get_or l 1 0 * 256) x && (eqb (get_or l 2 0 + get_or l 3 0 * 256) y && eqb (get_or l 4 0 + get_or l 5 0 * 256) z)
unfolding Written same_bytes
six_bytes l x y z n h =
    written_out 6 (λ (m : List ℕ). same_bytes m (bytes x (bytes y (bytes z []))) ≡ (eqb (get_or m 0 0) (x % 256) && eqb (get_or m 1 0) (x / 256)) && ((eqb (get_or m 2 0) (y % 256) && eqb (get_or m 3 0) (y / 256)) && (eqb (get_or m 4 0) (z % 256) && eqb (get_or m 5 0) (z / 256))))
    (λ a b c d e f. and_twos (eqb a (x % 256)) (eqb b (x / 256)) (eqb c (y % 256)) (eqb d (y / 256)) (eqb e (z % 256)) (eqb f (z / 256))) l n
    ∙ rw (pair_word (get_or l 0 0) (get_or l 1 0) x (h 0), pair_word (get_or l 2 0) (get_or l 3 0) y (h 2), pair_word (get_or l 4 0) (get_or l 5 0) z (h 4)) refl

-- The bits that the library puts last first, behind those of a number, are the rules' mirrored ones.
reversed_onto : (n x a : ℕ) → reverse_bits_onto n x a ≡ a * 2 ^ n + mirror n x
unfolding mirror reverse_bits_onto
reversed_onto zero x a = omega arith
reversed_onto (suc n) x a = reversed_onto n (x / 2) (a * 2 + x % 2) ∙ omega (arith, add-mul (a * 2) (x % 2) (2 ^ n), mul_assoc a 2 (2 ^ n), ap (λ (p : ℕ). a * p) (pow-suc 2 n))

-- So a remainder held mirrored gives its top bits back.
pub reverse_bits_lem : (l : List ℕ) → reverse_bits w32 (mirror 32 (crc l)) ≡ crc l
reverse_bits_lem l = omega (arith, reversed_onto 32 (mirror 32 (crc l)) 0, mirror_back 32 (crc l) (crc_lt l))

-- A bit of a byte is a bit of its word.
bit_of_low : (k x : ℕ) → k < 8 → bit k (x % 256) ≡ bit k x
unfolding bit
bit_of_low k x h =
    let i = 8 - (1 + k) in
    let e : 8 ≡ i + (1 + k) = omega arith in
    let low : x % 2 ^ 8 % 2 ^ (1 + k) ≡ x % 2 ^ (1 + k) = subst (λ (n : ℕ). x % 2 ^ n % 2 ^ (1 + k) ≡ x % 2 ^ (1 + k)) (sym e) (mod-mod-pow x i (1 + k)) in
    ap (λ (n : ℕ). eqb n 1) (sym (field (x % 256) 1 k) ∙ ap (λ (n : ℕ). n / 2 ^ k) low ∙ field x 1 k)

-- the bytes of some words
pairs : List ℕ → List ℕ
pairs [] = []
pairs (x ∷ xs) = bytes x (pairs xs)

table_bit_lem : (ws : List ℕ) (h : ℕ) → h < 16 * length ws → bit (h % 8) (get_or (pairs ws) (h / 8) 0) ≡ bit (h % 16) (get_or ws (h / 16) 0)
unfolding pairs
table_bit_lem [] h l = absurd (omega arith)
table_bit_lem (x ∷ ws) h l = go (dec_le 16 h) (dec_le 8 h) (table_bit_lem ws (h - 16))
  where
    go : Dec (16 ≤ h) → Dec (8 ≤ h) → (h - 16 < 16 * length ws → bit ((h - 16) % 8) (get_or (pairs ws) ((h - 16) / 8) 0) ≡ bit ((h - 16) % 16) (get_or ws ((h - 16) / 16) 0))
        → bit (h % 8) (get_or (pairs (x ∷ ws)) (h / 8) 0) ≡ bit (h % 16) (get_or (x ∷ ws) (h / 16) 0)
    go (yes a) b rest =
        let e : h / 8 ≡ suc (suc ((h - 16) / 8)) = omega arith in
        let f : h / 16 ≡ suc ((h - 16) / 16) = omega arith in
        let i : h % 8 ≡ (h - 16) % 8 = omega arith in
        let j : h % 16 ≡ (h - 16) % 16 = omega arith in
        rw (e, f, i, j) (rest (omega arith))
    go (no a) (yes b) rest =
        let e : h / 8 ≡ 1 = omega arith in
        let f : h / 16 ≡ 0 = omega arith in
        let j : h % 16 ≡ 8 + h % 8 = omega arith in
        rw (e, f, j) (bit_shr 8 (h % 8) x)
    go (no a) (no b) rest =
        let e : h / 8 ≡ 0 = omega arith in
        let f : h / 16 ≡ 0 = omega arith in
        let j : h % 16 ≡ h % 8 = omega arith in
        rw (e, f, j) (bit_of_low (h % 8) x (omega arith))

four_words : (w : List ℕ) (i : ℕ) → i < 4 → get_or (word w 24 ∷ word w 25 ∷ word w 26 ∷ word w 27 ∷ []) i 0 ≡ word w (24 + i)
four_words w zero h = refl
four_words w (suc zero) h = refl
four_words w (suc (suc zero)) h = refl
four_words w (suc (suc (suc zero))) h = refl
four_words w (suc (suc (suc (suc i)))) h = absurd (omega arith)

pub table_word : (w : List ℕ) (h : ℕ) → h < 64 → in_table (registers_in w).receiving.table h ≡ bit (h % 16) (word w (24 + h / 16))
unfolding in_table pairs
table_word w h l =
    table_bit_lem (word w 24 ∷ word w 25 ∷ word w 26 ∷ word w 27 ∷ []) h (omega arith)
    ∙ ap (bit (h % 16)) (four_words w (h / 16) (omega arith))
