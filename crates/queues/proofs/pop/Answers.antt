use Rattle.std.proofs.Common.{◌≡◌, ◌∷◌, ◌++◌, ℕ, suc, ◌+◌, ◌-◌, ◌<◌, length, take, drop, ap₂, ◌∙◌, arith}
use Rattle.std.proofs.lemmas.List.{set_split}
use Rattle.queues.proofs.Shift.{move, last_cleared}
use Rattle.queues.proofs.pop.Goals as goal

pub loop-i-init : goal.loop-i-init
loop-i-init c = set_split c.args.slots.now 0 0 (omega arith)

pub loop-i-preserved : goal.loop-i-preserved
loop-i-preserved c =
    let old = c.args.slots.now in
    let l = c.loop-i in
    let near : l.i + 1 < length old = omega arith in
    last_cleared old _ (l.i + 1) near (move old l.slots l.i 0 near l.invariant)

pub returns : goal.returns
returns c =
    let old = c.args.slots.now in
    let i = c.loop-i.i in
    let e : i ≡ c.args.count - 1 = omega arith in
    let f : suc i ≡ c.args.count = omega arith in
    c.loop-i.invariant ∙ ap₂ (λ (m n : ℕ). take m (drop 1 old) ++ (0 ∷ drop n old)) e f
