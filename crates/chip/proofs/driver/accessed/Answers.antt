-- The request is the arm's, so that what `read` or `write` promises of the arm's access is promised of the request's.
use Rattle.state.specs.Entry.{record_view}
use Rattle.chip.specs.Rights.{as_told}
use Rattle.chip.proofs.driver.accessed.Goals as goal

pub returns-in-Read : goal.returns-in-Read
returns-in-Read g c = as_told (record_view g.L.Layout.layout c.args.words.now c.args.sets.now c.args.queues.now c.args.memory.now) c.in-Read.is c.read_whole.ensures

pub returns-in-Write : goal.returns-in-Write
returns-in-Write g c = as_told (record_view g.L.Layout.layout c.args.words.now c.args.sets.now c.args.queues.now c.args.memory.now) c.in-Write.is c.write_whole.ensures
