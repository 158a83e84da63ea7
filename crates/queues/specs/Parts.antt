-- Three queues' slots in one list of 72 bytes, 24 for each: a call that is lent one part leaves the other two. And what a part tells of its entries.
use Rattle.std.specs.Prelude.{◌≡◌, refl, List, [], ◌++◌, Bool, true, false, ◌≢◌, ℕ, ◌+◌, ◌*◌, ◌-◌, ◌<◌, ltb, length, take, drop, replicate}
use Rattle.std.proofs.Common.{ap, sym, ◌∙◌, arith, ltb-true, ltb-false, length-append, length-take, length-drop, take-append-drop, take_at, drop_at, length-take-le, drop-drop}
use Rattle.std.proofs.Math.Nat.{sub-zero}
use Rattle.std.proofs.lemmas.List.{take-append-le, drop-append-le}
use Rattle.queues.specs.Slots.{Slots}

-- the 24 bytes of queue k
abbrev pub slots : ℕ → List ℕ → List ℕ
slots k q = take 24 (drop (24 * k) q)

-- q with p in place of its part k, as it comes back from a call that was lent the part
abbrev pub replaced : ℕ → List ℕ → List ℕ → List ℕ
replaced k p q = take (24 * k) q ++ (p ++ drop 24 (drop (24 * k) q))

pub part_long : (k : ℕ) (q : List ℕ) → length q ≡ 72 → k < 3 → length (slots k q) ≡ 24
part_long k q e h = simp (length-take, length-drop) (omega arith)

front_long : (k : ℕ) (q : List ℕ) → length q ≡ 72 → k < 3 → length (take (24 * k) q) ≡ 24 * k
front_long k q e h = length-take-le (24 * k) q (omega arith)

pub replaced_long : (k : ℕ) (p q : List ℕ) → length p ≡ 24 → length q ≡ 72 → k < 3 → length (replaced k p q) ≡ 72
replaced_long k p q d e h = simp (length-append, length-take, length-drop) (omega arith)

pub replaced_same : (k : ℕ) (p q : List ℕ) → length p ≡ 24 → length q ≡ 72 → k < 3 → slots k (replaced k p q) ≡ p
replaced_same k p q d e h =
    let rest = drop 24 (drop (24 * k) q) in
    ap (λ (t : List ℕ). take 24 t) (drop_at (take (24 * k) q) (p ++ rest) (24 * k) (front_long k q e h)) ∙ take_at p rest 24 d

-- a part before part k is one of what stands before part k, whatever follows
earlier : (j k : ℕ) (q t : List ℕ) → length q ≡ 72 → k < 3 → j < k → slots j (take (24 * k) q ++ t) ≡ slots j (take (24 * k) q)
earlier j k q t e h l =
    let front = take (24 * k) q in
    let long = front_long k q e h in
    ap (λ (y : List ℕ). take 24 y) (drop-append-le (24 * j) front t (omega arith))
    ∙ take-append-le 24 (drop (24 * j) front) t (simp length-drop (omega arith))

-- a part behind part k is one of what stands behind part k
later : (j k : ℕ) (q : List ℕ) → k < j → slots j q ≡ take 24 (drop (24 * j - (24 * k + 24)) (drop 24 (drop (24 * k) q)))
later j k q l =
    let e : 24 * j ≡ 24 * k + 24 + (24 * j - (24 * k + 24)) = omega arith in
    ap (λ (t : List ℕ). take 24 t)
    (ap (λ (n : ℕ). drop n q) e ∙ sym (drop-drop _ (24 * k + 24) q) ∙ ap (λ (t : List ℕ). drop (24 * j - (24 * k + 24)) t) (sym (drop-drop 24 (24 * k) q)))

pub replaced_other : (j k : ℕ) (p q : List ℕ) → length p ≡ 24 → length q ≡ 72 → k < 3 → j ≢ k → slots j (replaced k p q) ≡ slots j q
replaced_other j k p q d e h n = go (ltb j k) refl
  where
    go : (b : Bool) → ltb j k ≡ b → slots j (replaced k p q) ≡ slots j q
    go true t =
        let l = ltb-true j k t in
        earlier j k q (p ++ drop 24 (drop (24 * k) q)) e h l ∙ sym (earlier j k q (drop (24 * k) q) e h l) ∙ ap (slots j) (take-append-drop (24 * k) q)
    go false t =
        let l : k < j = omega (arith, n, ltb-false j k t) in
        let rest = drop 24 (drop (24 * k) q) in
        let behind = ap (λ (t : List ℕ). drop 24 t) (drop_at (take (24 * k) q) (p ++ rest) (24 * k) (front_long k q e h)) ∙ drop_at p rest 24 d in
        later j k (replaced k p q) l ∙ ap (λ (t : List ℕ). take 24 (drop (24 * j - (24 * k + 24)) t)) behind ∙ sym (later j k q l)

pub slots_entries : (p : List ℕ) (count : ℕ) (l : List ℕ) → Slots p count l → take count p ≡ l
slots_entries p count l h = ap (λ (t : List ℕ). take count t) h.same ∙ take_at l (replicate (length p - count) 0) count (sym h.many)

pub slots_as : (p : List ℕ) (count : ℕ) (l : List ℕ) → Slots p count l → Slots p count (take count p)
slots_as p count l h = rw (slots_entries p count l h) h

pub slots_empty : (p : List ℕ) → p ≡ replicate (length p) 0 → Slots p 0 []
slots_empty p h = record { many = refl; fits = omega arith; same = rw (sub-zero (length p)) h }
