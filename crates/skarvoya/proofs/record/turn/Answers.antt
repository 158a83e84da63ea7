-- By the part that the record starts: as `started` says, or as `answer` says.
use Rattle.std.specs.Prelude.{take}
use Rattle.std.proofs.Common.{ap, sym, ◌∙◌}
use Rattle.turns.specs.Served.{asked}
use Rattle.state.specs.Meaning.{packets_named}
use Rattle.state.specs.Places.{record_long}
use Rattle.chip.specs.Rights.{is_a_part}
use Rattle.skarvoya.specs.Recorded.{part_room, starts_part, starts_none}
use Rattle.skarvoya.proofs.record.turn.Goals as goal

pub started-requires : goal.started-requires
started-requires c =
    let h = c.requires in
    (record { words = h.chip.ready.sound.kept.whole; sets = record_long h.chip; queues = h.chip.ready.sound.queues.long }, part_room h (is_a_part c.in-Some.part))

pub returns-in-Some : goal.returns-in-Some
returns-in-Some c =
    starts_part c.requires (is_a_part c.in-Some.part) c.args.number (asked (take 8 c.args.bytes.now)) (sym (ap packets_named c.in-Some.is) ∙ c.part_started.ensures) c.args.output.now c.started.ensures

pub returns-in-None : goal.returns-in-None
returns-in-None c = starts_none c.args.number (asked (take 8 c.args.bytes.now)) _ (sym (ap packets_named c.in-None.is) ∙ c.part_started.ensures) c.answer.ensures
