-- The preset is all ones, in either order.
use Rattle.std.proofs.Common.{rules, ◌≡◌, ap, sym, ◌∙◌}
use Rattle.rules.specs.Crc.{crc, mirror}
use Rattle.remainders.specs.Mirror.{mirror_back}
use Rattle.crc.proofs.remainder.Goals as goal

turned : (c : goal.After-remainder_from) → mirror 32 c.remainder_from.result ≡ crc c.args.bytes.now
unfolding crc mirror
turned c = c.remainder_from.ensures

pub returns : goal.returns
returns c = sym (mirror_back 32 c.remainder_from.result (search rules)) ∙ ap (mirror 32) (turned c)
