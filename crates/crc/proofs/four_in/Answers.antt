use Rattle.std.proofs.Common.{rules, sym, ◌∙◌, get_or, arith}
use Rattle.rules.specs.Crc.{mirror}
use Rattle.crc.proofs.Bytes.{four_from}
use Rattle.crc.proofs.Words.{four_come_in}
use Rattle.crc.proofs.four_in.Goals as goal

pub returns : goal.returns
returns c =
    let x = c.args.four in
    four_come_in c.args.s (get_or x 0 0) (get_or x 1 0) (get_or x 2 0) (get_or x 3 0) _ _ (search rules) (search rules) (search rules) (search rules)
    (omega (arith, c.from_le_bytes.ensures)) c.nibbles_out.ensures
    ∙ sym (four_from (mirror 32 c.args.s) x (search rules))
