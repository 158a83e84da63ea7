-- The record of a part at power-up, beside 6,144 zeros of which the part has as many as it has bytes.
use mathlib.Core.Path.{◌≡◌, refl, ap, ap₂, sym, subst, ◌∙◌}
use mathlib.Core.List.{List, ◌∷◌}
use Prim.Native.Nat.{ℕ, zero, suc, ◌+◌, ◌*◌, ◌-◌}
use native.Mathlib.Omega.{arith}
use lib.ListN.{take, replicate}
use Rattle.rules.specs.Chip.{paged}
use Rattle.wellformed.specs.Parts.{part_few}
use Rattle.state.specs.Meaning.{Answer}
use Rattle.state.specs.declared.part.Part.{Part}
use Rattle.state.specs.Meaning.{packets_of}
use Rattle.state.specs.Entry.{size_in, InOrder, Whole, StartedOf}
use Rattle.chip.specs.Rights.{is_a_part, started_size, lent_part}

take_zeros : (m k : ℕ) → take {A = ℕ} m (replicate (m + k) 0) ≡ replicate m 0
take_zeros zero k = refl
take_zeros (suc m) k = let e : suc m + k ≡ suc (m + k) = omega arith in ap (λ (j : ℕ). take {A = ℕ} (suc m) (replicate j 0)) e ∙ ap (λ (l : List ℕ). 0 ∷ l) (take_zeros m k)

powered_whole : (p : Part) {a : Answer} {w s q : List ℕ} → StartedOf paged (packets_of p) a w s q → Whole w s q (take (256 * size_in w) (replicate 6144 0))
powered_whole p {w = w} {s = s} {q = q} h =
    let n = packets_of p in
    let few = part_few (is_a_part p) in
    let room : 6144 ≡ 256 * n + (6144 - 256 * n) = omega (arith, few) in
    let same : take {A = ℕ} (256 * size_in w) (replicate 6144 0) ≡ replicate (256 * n) 0 =
    ap₂ (λ (m k : ℕ). take {A = ℕ} (256 * m) (replicate k 0)) (started_size h) room ∙ take_zeros (256 * n) (6144 - 256 * n) in
    subst (Whole w s q) (sym same) h.whole

-- so much of it is lent as the part has
pub powered_lent : (p : Part) (n : ℕ) {a : Answer} {w s q : List ℕ} → n ≡ packets_of p → StartedOf paged (packets_of p) a w s q → InOrder w (take n s) q (take (256 * n) (replicate 6144 0))
powered_lent p n {w = w} {s = s} {q = q} e h =
    let size : n ≡ size_in w = e ∙ sym (started_size h) in
    subst (λ (m : ℕ). InOrder w (take n s) q (take {A = ℕ} (256 * m) (replicate 6144 0))) (sym size) (lent_part (powered_whole p h) size)
