-- By the guard: a record that is not in order has its line down, and of one that is the line is that of its words.
use Rattle.std.specs.Prelude.{refl, not}
use Rattle.std.proofs.Common.{ap}
use Rattle.state.specs.Entry.{of_part}
use Rattle.chip.specs.Rights.{not_in, is_in}
use Rattle.chip.proofs.entries.line.Goals as goal

pub line_up-requires : goal.line_up-requires
line_up-requires g c = let o = (is_in c.well_formed-2.ensures (ap not c.if-not-well_formed.false)).ready.sound in (o.kept, (_, o.queues))

pub returns-then-not-well_formed : goal.returns-then-not-well_formed
returns-then-not-well_formed g c = record { up = λ o. absurd (not_in c.well_formed-2.ensures (ap not c.if-not-well_formed.true) o); down = λ n. refl }

pub returns : goal.returns
returns g c =
    record {
      up = λ o mem. c.line_up.ensures g.L.Layout.layout (of_part c.args.r.words c.args.p.sets) c.args.q.slots mem o.ready.sound.queues;
      down = λ n. absurd (n (is_in c.well_formed-2.ensures (ap not c.if-not-well_formed.false)));
    }
