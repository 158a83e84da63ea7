-- What the changes of a lent part are for its entries: one more at the end, the head gone, none left. And which byte is the head.
use Rattle.std.specs.Prelude.{◌≡◌, List, [], ◌∷◌, ◌++◌, ℕ, suc, ◌+◌, ◌-◌, ◌<◌, length, take, drop, get_or, set, replicate}
use Rattle.std.proofs.Common.{ap, ap₂, sym, ◌∙◌, arith, length-append, length-set, take_at, drop_at}
use Rattle.std.proofs.lemmas.List.{length-replicate, set_at}
use Rattle.std.proofs.Math.Seq.{append_snoc}
use Rattle.queues.specs.Slots.{Slots}
use Rattle.queues.specs.Parts.{slots_empty}

pub slots_head : (p : List ℕ) (count : ℕ) (l : List ℕ) → Slots p count l → 0 < count → get_or p 0 0 ≡ get_or l 0 0
slots_head p count [] h some = absurd (omega (arith, h.many))
slots_head p count (x ∷ xs) h some = rw h.same

-- there are as many bytes as before
abbrev pub Changed : List ℕ → List ℕ → ℕ → List ℕ → Type 0
Changed p p' count l = Slots p' count l × (length p' ≡ length p)

pub pushed : (p p' : List ℕ) (count x : ℕ) (l : List ℕ) → p' ≡ set p count x → count < length p → Slots p count l → Changed p p' (count + 1) (l ++ (x ∷ []))
pushed p p' count x l e room h =
    let m = length p - (count + 1) in
    let one : length p - count ≡ suc m = omega arith in
    let whole : p ≡ l ++ 0 ∷ replicate m 0 = h.same ∙ ap (λ (n : ℕ). l ++ replicate n 0) one in
    let long : length p' ≡ length p = ap length e ∙ length-set p count x in
    let left : length p' - (count + 1) ≡ m = omega arith in (
      record {
        many = simp length-append (omega (arith, h.many));
        fits = omega arith;
        same = rw left (e ∙ ap (λ (t : List ℕ). set t count x) whole ∙ set_at l 0 (replicate m 0) x count (sym h.many) ∙ sym (append_snoc l x (replicate m 0)));
      },
      long,
    )

-- the entries behind the head, and a 0 in the place of the last
pub popped : (p p' : List ℕ) (count : ℕ) (l : List ℕ) → p' ≡ take (count - 1) (drop 1 p) ++ (0 ∷ drop count p) → 0 < count → Slots p count l → Changed p p' (count - 1) (drop 1 l)
popped p p' count [] e some h = absurd (omega (arith, h.many))
popped p p' count (x ∷ xs) e some h =
    let m = length p - count in
    let rest = replicate {A = ℕ} m 0 in
    let many : length xs ≡ count - 1 = omega (arith, h.many) in
    let all : length (x ∷ xs) ≡ count = omega (arith, h.many) in
    let fits = h.fits in
    let front : take (count - 1) (drop 1 p) ≡ xs = ap (λ (t : List ℕ). take (count - 1) (drop 1 t)) h.same ∙ take_at xs rest (count - 1) many in
    let back : drop count p ≡ rest = ap (λ (t : List ℕ). drop count t) h.same ∙ drop_at (x ∷ xs) rest count all in
    let whole : p' ≡ xs ++ 0 ∷ rest = e ∙ ap₂ (λ (a b : List ℕ). a ++ 0 ∷ b) front back in
    let long : length p' ≡ length p = ap length whole ∙ simp (length-append, length-replicate) (omega arith) in
    let left : length p' - (count - 1) ≡ suc m = omega arith in
    (record { many = sym many; fits = omega arith; same = rw left whole }, long)

pub emptied : (p p' : List ℕ) → p' ≡ replicate (length p) 0 → Changed p p' 0 []
emptied p p' e =
    let long : length p' ≡ length p = ap length e ∙ length-replicate (length p) 0 in
    (slots_empty p' (e ∙ ap (λ (n : ℕ). replicate n 0) (sym long)), long)
