-- The lines of the batches, one after another, are what the rules say the program prints.
use Rattle.std.specs.Prelude.{◌≡◌, take, drop}
use Rattle.std.proofs.Math.Path.{refl}
use Rattle.std.proofs.Common.{ap, ap₂, sym, ◌∙◌, arith, lt-ltb, le-ltb, drop-drop}
use mathlib.Core.List.{List, [], ◌∷◌, ◌++◌, append_assoc, append-nil}
use Prim.Native.Nat.{ℕ, zero, suc, ◌+◌, ◌*◌, ◌≤◌, ◌<◌}
use Rattle.std.proofs.Math.ListN.{length, length-drop}
use Rattle.rules.specs.Answers.{done}
use Rattle.rules.specs.Bench.{unknown, Bench, Answered, Form, plain, answer, asks_for, started_as, answer_to, event_of, printed, bench, started}
use Rattle.rules.specs.Watch.{watched, watch}
use Rattle.turns.specs.Served.{answered_later, answered_none, answered_part}
use Rattle.batches.specs.Batch.{record_at, bench_after, lines_for}

-- the answer to the first record, and its line
abbrev first : List ℕ → Bench → Answered
first input b = answer (event_of (take 8 input)) b

abbrev first_line : Form → ℕ → List ℕ → Bench → List ℕ
first_line form k input b = form k (event_of (take 8 input)) (first input b)

-- Record n + 1 is record n of what follows the first.
record_later : (n : ℕ) (input : List ℕ) → record_at (suc n) input ≡ record_at n (drop 8 input)
record_later n input =
    let e : 8 * suc n ≡ 8 + 8 * n = omega arith in
    ap (λ (i : ℕ). take 8 (drop i input)) e ∙ ap (take 8) (sym (drop-drop (8 * n) 8 input))

bench_later : (n : ℕ) (input : List ℕ) (b : Bench) → bench_after (suc n) input b ≡ bench_after n (drop 8 input) (first input b).after
unfolding bench_after
bench_later zero input b = refl
bench_later (suc n) input b = ap₂ (λ (l : List ℕ) (d : Bench). (answer (event_of l) d).after) (record_later n input) (bench_later n input b)

lines_later : (form : Form) (n k : ℕ) (input : List ℕ) (b : Bench) → lines_for form (suc n) k input b ≡ first_line form k input b ++ lines_for form n (k + 1) (drop 8 input) (first input b).after
unfolding bench_after lines_for
lines_later form zero k input b = let e : k + 0 ≡ k = omega arith in rw (e, append-nil (first_line form k input b))
lines_later form (suc n) k input b =
    let e : k + suc n ≡ k + 1 + n = omega arith in
    ap₂ (λ (p q : List ℕ). p ++ q) (lines_later form n k input b)
    (ap (λ (i : ℕ). form i (event_of (record_at (suc n) input)) (answer (event_of (record_at (suc n) input)) (bench_after (suc n) input b))) e
    ∙ ap₂ (λ (l : List ℕ) (d : Bench). form (k + 1 + n) (event_of l) (answer (event_of l) d)) (record_later n input) (bench_later n input b))
    ∙ append_assoc (first_line form k input b) _ _

-- One batch after another: the bench and the lines after n records and m more are those of m records from there on.
pub bench_joined : (n m : ℕ) (input : List ℕ) (b : Bench) → bench_after (n + m) input b ≡ bench_after m (drop (8 * n) input) (bench_after n input b)
unfolding bench_after
bench_joined zero m input b = let z : 0 + m ≡ m = omega arith in ap (λ (i : ℕ). bench_after i input b) z
bench_joined (suc n) m input b =
    let e : 8 * suc n ≡ 8 + 8 * n = omega arith in
    let g : suc n + m ≡ suc (n + m) = omega arith in
    ap (λ (i : ℕ). bench_after i input b) g
    ∙ bench_later (n + m) input b
    ∙ bench_joined n m (drop 8 input) (first input b).after
    ∙ ap₂ (λ (l : List ℕ) (d : Bench). bench_after m l d) (drop-drop (8 * n) 8 input ∙ ap (λ (i : ℕ). drop i input) (sym e)) (sym (bench_later n input b))

pub lines_joined : (form : Form) (n m k : ℕ) (input : List ℕ) (b : Bench)
    → lines_for form (n + m) k input b ≡ lines_for form n k input b ++ lines_for form m (k + n) (drop (8 * n) input) (bench_after n input b)
unfolding bench_after lines_for
lines_joined form zero m k input b =
    let z : 0 + m ≡ m = omega arith in
    let e : k + 0 ≡ k = omega arith in
    ap₂ (λ (j i : ℕ). lines_for form j i input b) z (sym e)
lines_joined form (suc n) m k input b =
    let e : 8 * suc n ≡ 8 + 8 * n = omega arith in
    let f : k + 1 + n ≡ k + suc n = omega arith in
    let g : suc n + m ≡ suc (n + m) = omega arith in
    let l = first_line form k input b in
    ap (λ (i : ℕ). lines_for form i k input b) g
    ∙ lines_later form (n + m) k input b
    ∙ ap (λ (x : List ℕ). l ++ x) (lines_joined form n m (k + 1) (drop 8 input) (first input b).after)
    ∙ sym (append_assoc l (lines_for form n (k + 1) (drop 8 input) (first input b).after) _)
    ∙ ap₂ (λ (x y : List ℕ). x ++ y) (sym (lines_later form n k input b))
    (ap₂ (λ (i : ℕ) (r : List ℕ). lines_for form m i r (bench_after n (drop 8 input) (first input b).after)) f (drop-drop (8 * n) 8 input ∙ ap (λ (i : ℕ). drop i input) (sym e))
    ∙ ap (lines_for form m (k + suc n) (drop (8 * suc n) input)) (sym (bench_later n input b)))

-- the line of a record that the input's end cuts short after t bytes
abbrev pub last_line : Form → ℕ → ℕ → Bench → List ℕ
last_line form zero k b = []
last_line form (suc t) k b = form k unknown (answer unknown b)

-- what is printed with this bound on the records, behind the first
abbrev PrintsWithin : Form → ℕ → Type 0
PrintsWithin form fuel = (n t k : ℕ) (input : List ℕ) (b : Bench) → 1 < k → length input ≡ 8 * n + t → t < 8 → length input ≤ fuel
    → printed form fuel k input b ≡ lines_for form n k input b ++ last_line form t (k + n) (bench_after n input b)

prints_none : (form : Form) → PrintsWithin form zero
unfolding printed lines_for
prints_none form zero zero k input b later h l f = refl
prints_none form zero (suc t) k input b later h l f = absurd (omega (arith, h, f))
prints_none form (suc n) t k input b later h l f = absurd (omega (arith, h, f))

prints_more : (form : Form) (fuel : ℕ) → PrintsWithin form fuel → PrintsWithin form (suc fuel)
unfolding printed bench_after lines_for
prints_more form fuel ih zero zero k [] b later h l f = refl
prints_more form fuel ih zero (suc t) k [] b later h l f = absurd (omega (arith, h))
prints_more form fuel ih (suc n) t k [] b later h l f = absurd (omega (arith, h))
prints_more form fuel ih zero zero k (x ∷ xs) b later h l f = absurd (omega (arith, h))
prints_more form fuel ih zero (suc t) k (x ∷ xs) b later h l f =
    let e : k + 0 ≡ k = omega arith in
    rw (lt-ltb (length (x ∷ xs)) 8 (omega (arith, h)), printed) (ap (λ (i : ℕ). form i unknown (answer unknown b)) (sym e))
prints_more form fuel ih (suc n) t k (x ∷ xs) b later h l f =
    let e : k + suc n ≡ k + 1 + n = omega arith in
    let d = length-drop 8 (x ∷ xs) in
    let i = first_line form k (x ∷ xs) b in
    rw (le-ltb (length (x ∷ xs)) 8 (omega (arith, h)), answered_later k (event_of (take 8 (x ∷ xs))) b later, printed)
    (ap (λ (p : List ℕ). i ++ p) (ih n t (k + 1) (drop 8 (x ∷ xs)) (first (x ∷ xs) b).after (omega (arith, later)) (omega (arith, h, d)) l (omega (arith, f, d)))
    ∙ sym (append_assoc i _ (last_line form t (k + 1 + n) (bench_after n (drop 8 (x ∷ xs)) (first (x ∷ xs) b).after)))
    ∙ ap₂ (λ (p q : List ℕ). p ++ q) (sym (lines_later form n k (x ∷ xs) b))
    (ap₂ (λ (j : ℕ) (c : Bench). last_line form t j c) (sym e) (sym (bench_later n (x ∷ xs) b))))

prints : (form : Form) (fuel : ℕ) → PrintsWithin form fuel
prints form zero = prints_none form
prints form (suc fuel) = prints_more form fuel (prints form fuel)

-- Record 1 is answered on the LAN91C96 at power-up, or starts the part that it asks for.
abbrev pub opened : List ℕ → Answered
opened input = answer_to 1 (event_of (take 8 input)) started

-- From power-up: the line of record 1, then those of the whole records behind it, numbered from 2 on, and one more where bytes are left over.
module _ (form : Form) (n t : ℕ) (input : List ℕ) (h : length input ≡ 8 * suc n + t) (l : t < 8) where
  pub opens_prints : printed form (length input) 1 input started
      ≡ form 1 (event_of (take 8 input)) (opened input) ++ (lines_for form n 2 (drop 8 input) (opened input).after ++ last_line form t (2 + n) (bench_after n (drop 8 input) (opened input).after))
  unfolding printed
  opens_prints = go input (length input) refl h
    where
      go : (i : List ℕ) (fuel : ℕ) → length i ≡ fuel → length i ≡ 8 * suc n + t → printed form fuel 1 i started
          ≡ form 1 (event_of (take 8 i)) (opened i) ++ (lines_for form n 2 (drop 8 i) (opened i).after ++ last_line form t (2 + n) (bench_after n (drop 8 i) (opened i).after))
      go [] fuel e g = absurd (omega (arith, g))
      go (x ∷ xs) zero e g = absurd (omega (arith, e))
      go (x ∷ xs) (suc fuel) e g =
          let d = length-drop 8 (x ∷ xs) in
          rw (le-ltb (length (x ∷ xs)) 8 (omega (arith, g)), printed)
          (ap (λ (p : List ℕ). form 1 (event_of (take 8 (x ∷ xs))) (opened (x ∷ xs)) ++ p) (prints form fuel n t 2 (drop 8 (x ∷ xs)) (opened (x ∷ xs)).after (omega arith) (omega (arith, g, d)) l (omega (arith, e, d))))

-- So of the two programs.
module _ (n t : ℕ) (input : List ℕ) (h : length input ≡ 8 * suc n + t) (l : t < 8) where
  pub bench_prints : bench input ≡ plain 1 (event_of (take 8 input)) (opened input) ++ (lines_for plain n 2 (drop 8 input) (opened input).after ++ last_line plain t (2 + n) (bench_after n (drop 8 input) (opened input).after))
  bench_prints = opens_prints plain n t input h l

  pub watch_prints : watch input ≡ watched 1 (event_of (take 8 input)) (opened input) ++ (lines_for watched n 2 (drop 8 input) (opened input).after ++ last_line watched t (2 + n) (bench_after n (drop 8 input) (opened input).after))
  watch_prints = opens_prints watched n t input h l

-- Bytes that are too few for a record have one line, and none where there are none.
pub tail_prints : (form : Form) (t : ℕ) (input : List ℕ) → length input ≡ t → t < 8 → printed form (length input) 1 input started ≡ last_line form t 1 started
unfolding printed
tail_prints form zero [] h l = refl
tail_prints form (suc t) [] h l = absurd (omega (arith, h))
tail_prints form zero (x ∷ xs) h l = absurd (omega (arith, h))
tail_prints form (suc t) (x ∷ xs) h l = rw (lt-ltb (length (x ∷ xs)) 8 (omega (arith, h, l)))

-- Record 1 that asks for no part is answered as any other; one that asks is done, and starts it.
pub opens_plainly : (input : List ℕ) → asks_for (event_of (take 8 input)) ≡ 0 → opened input ≡ answer (event_of (take 8 input)) started
opens_plainly input e = answered_none 1 (event_of (take 8 input)) started e

pub opens_as : (input : List ℕ) (n : ℕ) → asks_for (event_of (take 8 input)) ≡ n → 0 < n → opened input ≡ record { reply = done; after = started_as n started }
opens_as input n e h = answered_part (event_of (take 8 input)) started (omega (arith, e, h)) ∙ ap (λ (m : ℕ). record { reply = done; after = started_as m started }) e
