use Rattle.crc.proofs.Nibbles.{told}
use Rattle.crc.proofs.tables.nibble_out.Goals as goal

pub returns : goal.returns
returns c = told c.args.k c.args.x c.requires.0 c.requires.1
