-- A record that is cut short asks for none.
use Rattle.std.proofs.Common.{ap, sym, ◌∙◌}
use Rattle.rules.specs.Bench.{asks_for}
use Rattle.turns.specs.Served.{asked_short, asked_whole}
use Rattle.strip_serving.proofs.serve.part_in.Goals as goal

pub returns-then-bytes-lt8 : goal.returns-then-bytes-lt8
unfolding asks_for
returns-then-bytes-lt8 c = sym (ap asks_for (asked_short c.args.bytes.now c.if-bytes-lt8.true))

pub returns : goal.returns
returns c = c.part_asked.ensures ∙ sym (ap asks_for (asked_whole c.args.bytes.now c.if-bytes-lt8.false))
