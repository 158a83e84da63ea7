-- The part powers up that record 1 asks for, and its places are lent.
use Rattle.std.specs.Prelude.{take}
use Rattle.std.proofs.Common.{rules, sym, subst, Bool}
use Rattle.rules.specs.Chip.{strips}
use Rattle.turns.specs.Served.{asked}
use Rattle.strip_serving.specs.First.{AskedBy, powers_up, asked_named, opens_first}
use Rattle.strip_serving.proofs.serve.run.Goals as goal

pub serve_from-served-requires-clause-held_of : goal.serve_from-served-requires-clause-held_of
serve_from-served-requires-clause-held_of g c =
    let e = asked (take c.read_record-filled.result c.read_record-filled.new.bytes) in
    ((powers_up c.opens_with-part.result (c.power_up-start.ensures strips) c.packets_of-n.ensures _ (c.opens_with-part.ensures e c.part_in-asked.ensures)).held, search rules, search rules)

pub serve_from-served-requires-clause-opens : goal.serve_from-served-requires-clause-opens
serve_from-served-requires-clause-opens g c =
    let e = asked (take c.read_record-filled.result c.read_record-filled.new.bytes) in
    opens_first (powers_up c.opens_with-part.result (c.power_up-start.ensures strips) c.packets_of-n.ensures _ (c.opens_with-part.ensures e c.part_in-asked.ensures))
    (subst (λ (b : Bool). AskedBy b e) (sym c.is_some.ensures) (asked_named c.part_in-asked.result e c.part_in-asked.ensures))
