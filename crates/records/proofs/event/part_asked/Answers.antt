-- By the kind, then by what byte 1 names.
use Rattle.std.proofs.Common.{sym, ◌∙◌}
use Rattle.records.proofs.Asks.{asks_part_lem, asks_none}
use Rattle.records.proofs.event.part_asked.Goals as goal

pub returns-then-bytes-ne9 : goal.returns-then-bytes-ne9
returns-then-bytes-ne9 c = sym (asks_none c.args.bytes.now c.if-bytes-ne9.true)

pub returns : goal.returns
returns c = c.part_named.ensures ∙ sym (asks_part_lem c.args.bytes.now c.if-bytes-ne9.false)
