use Rattle.std.proofs.Common.{rules}
use Rattle.crc.proofs.Words.{byte_comes_in}
use Rattle.crc.proofs.byte_in.Goals as goal

pub returns : goal.returns
returns c = byte_comes_in c.args.s c.args.byte c.from.result c.nibbles_out.result (search rules) (search rules) c.from.ensures c.nibbles_out.ensures
