use Rattle.std.proofs.Common.{sym}
use Rattle.records.proofs.Asks.{send_kind}
use Rattle.records.proofs.event.is_send.Goals as goal

pub returns : goal.returns
returns c = sym (send_kind c.args.bytes.now)
