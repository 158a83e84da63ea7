-- The line that `print` writes at the front.
use Rattle.std.proofs.Common.{arith, ap, sym, ◌∙◌, ℕ}
use Rattle.rules.specs.Chip.{paged}
use Rattle.state.specs.Meaning.{reply_of}
use Rattle.state.specs.View.{view}
use Rattle.records.specs.Gathers.{holding}
use Rattle.lines.specs.Counting.{counter_number, counter_counts}
use Rattle.lines.specs.Parts.{taken}
use Rattle.batches.specs.Batch.{form_of}
use Rattle.batches.specs.Rooms.{room_none, room_more}
use Rattle.batches.proofs.batch.lone_line.Goals as goal

pub print-requires : goal.print-requires
print-requires c = (counter_counts c.counter_of-counter.ensures, c.requires.2, omega (arith, room_none c.args.watching, room_more c.args.watching 0, c.requires.3))

pub returns-clause-text : goal.returns-clause-text
returns-clause-text c e sets q mem wire quiet h =
    taken (omega arith) (c.print.ensures.0 (view c.args.words.now sets q mem) wire e (c.line_up-up.ensures paged sets q mem h) (sym quiet))
    ∙ ap (λ (k : ℕ). form_of c.args.watching k e (record { reply = reply_of c.args.answer; after = holding (view c.args.words.now sets q mem) wire c.args.out.now })) (counter_number c.counter_of-counter.ensures)

pub returns-clause-fits : goal.returns-clause-fits
returns-clause-fits c = omega (arith, c.print.ensures.1, room_none c.args.watching, room_more c.args.watching 0, c.requires.3)
