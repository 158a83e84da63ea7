use Rattle.std.proofs.Common.{◌≡◌, ◌+◌, ◌*◌, ◌≤◌, ℕ, ◌∷◌, length, slice_index, drop, ap, refl, subst, ◌∙◌, drop_of_length-le, arith}
use Rattle.sets.specs.Joins.{Joins, joins_none, joins_four, drop_four}
use Rattle.sets.proofs.map.joined.Goals as goal

pub loop-row-init : goal.loop-row-init
loop-row-init c = joins_none _

pub loop-row-preserved : goal.loop-row-preserved
loop-row-preserved c =
    let l = c.loop-row in
    let sets = c.args.sets.now in
    let k = 4 * l.row in
    let w = slice_index sets k in
    let x = slice_index sets (k + 1) in
    let y = slice_index sets (k + 2) in
    let z = slice_index sets (k + 3) in
    let e : k + 4 ≡ 4 * (l.row + 1) = omega arith in
    let row = drop_four sets k (omega arith) ∙ ap (λ (n : ℕ). w ∷ x ∷ y ∷ z ∷ drop n sets) e in
    joins_four sets l.a l.b l.c l.d l.sum w x y z _ refl refl refl refl (subst (Joins sets l.a l.b l.c l.d l.sum) row l.invariant)

pub returns : goal.returns
returns c =
    let l = c.loop-row in
    let h : length c.args.sets.now ≤ 4 * l.row = omega arith in
    subst (Joins c.args.sets.now l.a l.b l.c l.d l.sum) (drop_of_length-le c.args.sets.now h) l.invariant
