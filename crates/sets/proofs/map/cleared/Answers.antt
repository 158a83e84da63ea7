use Rattle.std.proofs.Common.{◌≡◌, ◌++◌, ◌≤◌, ℕ, List, [], map, length, set, replicate, ap, ◌∙◌, append-nil, drop_of_length-le, arith}
use Rattle.std.proofs.lemmas.List.Edits.{fill_more}
use Rattle.sets.specs.Views.{pages_of}
use Rattle.sets.specs.Lists.{empty_sets}
use Rattle.sets.proofs.map.cleared.Goals as goal
use Rattle.sets.proofs.map.cleared.Goals.{then-set-ne0, else-set-ne0}

pub loop-set-preserved : goal.loop-set-preserved
loop-set-preserved c =
    let l = c.loop-set in
    let k = l.set-index in
    let stored : c.if-set-ne0.sets ≡ set l.sets k 0 =
    elim c.if-set-ne0.branch [ then-set-ne0 t ↦ t.sets-is | else-set-ne0 f ↦ f.sets-is ∙ ap (λ (x : ℕ). set l.sets k x) f.if-set-ne0.false ] in
    stored ∙ ap (λ (s : List ℕ). set s k 0) l.invariant ∙ fill_more k 0 c.args.sets.now c.loop-set-test.true

pub returns : goal.returns
returns c =
    let old = c.args.sets.now in
    let k = c.loop-set.set-index in
    let done : length old ≤ k = omega arith in
    let all : k ≡ length old = omega arith in
    ap (map pages_of) (c.loop-set.invariant ∙ ap (λ (l : List ℕ). replicate k 0 ++ l) (drop_of_length-le old done) ∙ append-nil (replicate k 0))
    ∙ empty_sets k
    ∙ ap (λ (n : ℕ). replicate n []) all
