-- Behind whole records nothing; else the line of a record of unknown kind, which no send is.
use Rattle.std.proofs.Common.{sym, ◌∙◌}
use Rattle.rules.specs.Bench.{unknown, answer}
use Rattle.state.specs.View.{view}
use Rattle.records.specs.Gathers.{holding}
use Rattle.batches.specs.Batch.{form_of}
use Rattle.batches.proofs.Forms.{last_some, unknown_unsent}
use Rattle.batches.proofs.batch.last_line.Goals as goal

pub returns-clause-text : goal.returns-clause-text
unfolding answer
returns-clause-text c sets q mem wire h =
    c.lone_line.ensures.text unknown sets q mem wire (sym unknown_unsent) h
    ∙ sym (last_some (form_of c.args.watching) c.args.kept c.args.number (holding (view c.args.words.now sets q mem) wire c.args.out.now) c.if-kept-eq0.false)
