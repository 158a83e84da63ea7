-- A buffer that is written over from a place on.
use Rattle.std.specs.Prelude.{◌≡◌, refl, List, [], ◌∷◌, ◌++◌, ℕ, suc, ◌+◌, ◌≤◌, ◌<◌, length, take, drop, get_or, set}
use Rattle.std.proofs.Common.{ap, sym, ◌∙◌, append_assoc, add_assoc, add-one, arith, length-append, length-drop, length-take-le, take_at, take-suc, drop-cons, drop-drop}
use Rattle.std.proofs.Math.Seq.{drop-append-add, append_snoc}
use Rattle.std.proofs.lemmas.List.{set_at, set_split}

-- the bytes stand from `at` on, and all others stay
abbrev pub written : List ℕ → ℕ → List ℕ → List ℕ
written buffer at bytes = take at buffer ++ (bytes ++ drop (at + length bytes) buffer)

-- so is `after` made of `before`, and `end` is the place behind the bytes
pub record Writes (before : List ℕ) (at : ℕ) (bytes after : List ℕ) (end : ℕ) : Type 0 where
  pub buffer : after ≡ written before at bytes
  pub place : end ≡ at + length bytes

pub write_one : (l : List ℕ) (i x : ℕ) → i < length l → Writes l i (x ∷ []) (set l i x) (i + 1)
write_one l i x h = record { buffer = set_split l i x h ∙ ap (λ (k : ℕ). take i l ++ (x ∷ drop k l)) (sym (add-one i)); place = refl }

pub length_written : (l : List ℕ) (i : ℕ) (a : List ℕ) → i + length a ≤ length l → length (written l i a) ≡ length l
length_written l i a h = simp (length-append, length-drop) (omega (arith, length-take-le i l (omega arith)))

front : (l : List ℕ) (i : ℕ) (a : List ℕ) → i ≤ length l → length (take i l ++ a) ≡ i + length a
front l i a h = simp length-append (ap (λ (k : ℕ). k + length a) (length-take-le i l h))

written_on : (l : List ℕ) (i : ℕ) (a b : List ℕ) → i ≤ length l → written (written l i a) (i + length a) b ≡ written l i (a ++ b)
written_on l i a b h =
    let n = i + length a in
    let p = take i l ++ a in
    let e : written l i a ≡ p ++ drop n l = sym (append_assoc (take i l) a (drop n l)) in
    let f : take n (written l i a) ≡ p = ap (take n) e ∙ take_at p (drop n l) n (front l i a h) in
    let g : drop (n + length b) (written l i a) ≡ drop (i + length (a ++ b)) l =
    ap (drop (n + length b)) e
    ∙ ap (λ (k : ℕ). drop (k + length b) (p ++ drop n l)) (sym (front l i a h))
    ∙ drop-append-add p (drop n l) (length b)
    ∙ drop-drop (length b) n l
    ∙ ap (λ (k : ℕ). drop k l) (add_assoc i (length a) (length b) ∙ ap (λ (k : ℕ). i + k) (sym (length-append a b))) in
    rw (f, g) (append_assoc (take i l) a (b ++ drop (i + length (a ++ b)) l) ∙ ap (λ (x : List ℕ). take i l ++ x) (sym (append_assoc a b (drop (i + length (a ++ b)) l))))

-- Bytes written behind bytes.
pub writes_on : {l m n : List ℕ} {i j k : ℕ} {a b : List ℕ} → i ≤ length l → Writes l i a m j → Writes m j b n k → Writes l i (a ++ b) n k
writes_on {l} {m} {n} {i} {j} {k} {a} {b} h w v = record {
  buffer = v.buffer ∙ rw (w.buffer, w.place) (written_on l i a b h);
  place = v.place ∙ omega (arith, w.place, length-append a b);
}

-- The same bytes, named otherwise.
pub writes_as : {l m : List ℕ} {i j : ℕ} {a b : List ℕ} → a ≡ b → Writes l i a m j → Writes l i b m j
writes_as {l} {m} {i} {j} e w = rw e at w

-- A copy that is written over the front of a buffer, one byte more.
pub copy_step : (d s : List ℕ) (i z : ℕ) → i < length s → i < length d → set (take i s ++ drop i d) i (get_or s i z) ≡ take (i + 1) s ++ drop (i + 1) d
copy_step d s i z h k =
    let j : i ≤ length s = omega arith in
    rw (drop-cons d i z, add-one i, take-suc s i z h)
    (set_at (take i s) (get_or d i z) (drop (suc i) d) (get_or s i z) i (length-take-le i s j) ∙ sym (append_snoc (take i s) (get_or s i z) (drop (suc i) d)))
