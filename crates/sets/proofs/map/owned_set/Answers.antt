use Rattle.std.proofs.Common.{Bool, ◌||◌, map, sym, ap, ◌∙◌, arith}
use Rattle.rules.specs.Lists.{owned}
use Rattle.sets.specs.Views.{pages_of}
use Rattle.sets.specs.Bits.{bit_zero}
use Rattle.sets.specs.Lists.{gather_more, gather_all}
use Rattle.sets.proofs.map.owned_set.Goals as goal

pub loop-set-init : goal.loop-set-init
loop-set-init c p = ap (λ (b : Bool). b || owned p (map pages_of c.args.sets.now)) (bit_zero p)

pub loop-set-preserved : goal.loop-set-preserved
loop-set-preserved c p =
    let l = c.loop-set in
    gather_more p l.taken l.set-index c.args.sets.now c.loop-set-test.true (omega (arith, c.type_inv.sets l.set-index)) ∙ l.invariant p

pub returns : goal.returns
returns c p =
    let l = c.loop-set in
    sym (gather_all p l.taken l.set-index c.args.sets.now c.loop-set-test.false) ∙ l.invariant p
