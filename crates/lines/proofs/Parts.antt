-- A line that is written in two parts, of which the second covers what the first spoils.
use mathlib.Core.Path.{◌≡◌, ap, sym, ◌∙◌}
use mathlib.Core.List.{List, [], ◌∷◌, ◌++◌, append_assoc}
use Prim.Native.Nat.{ℕ, ◌+◌, ◌-◌, ◌/◌, ◌%◌, ◌≤◌, ◌<◌}
use native.Mathlib.Omega.{arith}
use lib.ListN.{length, take, drop, length-append}
use lib.Seq.{length-take-le, take-append-le, take-append-add, drop-append-add, drop-drop}
use Rattle.rules.specs.Bench.{decimal, hex4}
use Rattle.lists.specs.Written.{written, Writes}
use Rattle.lines.specs.Decimal.{leading, decimal_ends, decimal_length}
use Rattle.lines.specs.Parts.{rest, Begins}

module _ (l : List ℕ) (i : ℕ) (b : List ℕ) (h : i + length b ≤ length l) where
  -- What is written stands there, and what stands behind it stays.
  written_front : (n : ℕ) → n ≤ length b → take (i + n) (written l i b) ≡ take i l ++ take n b
  written_front n k =
      let s = b ++ drop (i + length b) l in
      ap (λ (j : ℕ). take (j + n) (take i l ++ s)) (sym (length-take-le i l (omega arith)))
      ∙ take-append-add (take i l) s n
      ∙ ap (λ (t : List ℕ). take i l ++ t) (take-append-le n b (drop (i + length b) l) k)

  written_back : (k : ℕ) → drop (i + length b + k) (written l i b) ≡ drop (i + length b + k) l
  written_back k =
      let p = take i l ++ b in
      let n : length p ≡ i + length b = length-append (take i l) b ∙ ap (λ (j : ℕ). j + length b) (length-take-le i l (omega arith)) in
      ap (drop (i + length b + k)) (sym (append_assoc (take i l) b (drop (i + length b) l)))
      ∙ ap (λ (j : ℕ). drop (j + k) (p ++ drop (i + length b) l)) (sym n)
      ∙ drop-append-add p (drop (i + length b) l) k
      ∙ drop-drop k (i + length b) l

-- Of bytes that are written the first n count, and no more than eight do not.
pub begins : {l m : List ℕ} {i j end : ℕ} {a b : List ℕ} → Writes l i b m j → i + length b ≤ length l
    → (n : ℕ) → n ≤ length b → length b ≤ n + 8 → take n b ≡ a → end ≡ i + n → Begins l i a m end
begins {l} {m} {i} {j} {end} {a} {b} w h n p q e f =
    let k : end + 8 ≡ i + length b + (n + 8 - length b) = omega arith in
    record {
      front = rw (f, w.buffer) (written_front l i b h n p) ∙ ap (λ (t : List ℕ). take i l ++ t) e;
      back = rw (k, w.buffer) (written_back l i b h (n + 8 - length b));
      place = f ∙ ap (λ (k : ℕ). i + k) (sym (length-take-le n b p) ∙ ap length e);
    }

-- Eight bytes or more behind the beginning leave nothing else changed.
pub goes_on_lem : {l m n : List ℕ} {i j k : ℕ} {a b : List ℕ} → Begins l i a m j → Writes m j b n k → 8 ≤ length b → Writes l i (a ++ b) n k
goes_on_lem {l} {m} {n} {i} {j} {k} {a} {b} s w h =
    let x = length b - 8 in
    let p : j + length b ≡ j + 8 + x = omega arith in
    let q : j + length b ≡ i + length (a ++ b) = omega (arith, s.place, length-append a b) in
    let d : drop (j + length b) m ≡ drop (i + length (a ++ b)) l =
    ap (λ (y : ℕ). drop y m) p
    ∙ sym (drop-drop x (j + 8) m)
    ∙ ap (drop x) s.back
    ∙ drop-drop x (j + 8) l
    ∙ ap (λ (y : ℕ). drop y l) (sym p ∙ q) in
    record {
      buffer = w.buffer ∙ rw (s.front, d) (simp append_assoc);
      place = w.place ∙ q;
    }

-- So many bytes stand behind the number, before the line's end.
pub rest_length : (answer value : ℕ) → answer < 256 → (7 ≤ length (rest answer value)) × (length (rest answer value) ≤ 9)
unfolding hex4
rest_length answer value h =
    let a = length-append (leading (answer / 10)) ((0x30 + answer % 10) ∷ []) in
    let b = ap length (decimal_ends answer) in
    let c = decimal_length 2 answer (omega arith) in
    let e = length-append (0x20 ∷ decimal answer) (0x20 ∷ hex4 value) in
    (omega (arith, a, b, e), omega (arith, c, e))
