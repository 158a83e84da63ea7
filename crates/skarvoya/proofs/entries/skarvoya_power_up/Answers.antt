-- By the part that the byte names, then by the lengths; then as `started` says.
use Rattle.std.specs.Prelude.{not}
use Rattle.std.proofs.Common.{ap, sym, ◌∙◌, arith}
use Rattle.state.specs.Meaning.{packets_named}
use Rattle.chip.specs.Rights.{not_in, is_in, is_a_part}
use Rattle.skarvoya.specs.Called.{no_part, part_refused, part_started_lem}
use Rattle.skarvoya.proofs.entries.skarvoya_power_up.Goals as goal

pub returns-then-not-long_as : goal.returns-then-not-long_as
returns-then-not-long_as c = part_refused (sym (ap packets_named c.in-Some.is) ∙ c.part_named.ensures) (is_a_part c.in-Some.known) (not_in c.long_as.ensures (ap not c.if-not-long_as.true)) c.told.ensures

pub started-requires : goal.started-requires
started-requires c =
    let o = is_in c.long_as.ensures (ap not c.if-not-long_as.false) in
    (o.0, omega (arith, o.1))

pub returns-else-not-long_as : goal.returns-else-not-long_as
returns-else-not-long_as c =
    part_started_lem (sym (ap packets_named c.in-Some.is) ∙ c.part_named.ensures) (is_a_part c.in-Some.known) (is_in c.long_as.ensures (ap not c.if-not-long_as.false)) c.started.ensures c.told-in-Some.ensures

pub returns-in-None : goal.returns-in-None
returns-in-None c = no_part (sym (ap packets_named c.in-None.is) ∙ c.part_named.ensures) c.told-in-None.ensures
