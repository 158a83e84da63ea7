-- The complement in the one order is that in the other.
use Rattle.std.proofs.Common.{ap, sym, ◌∙◌, ℕ, ◌-◌}
use Rattle.rules.specs.Crc.{fcs_word}
use Rattle.remainders.specs.Bounds.{crc_lt}
use Rattle.remainders.specs.Mirror.{mirror_complement}
use Rattle.crc.proofs.fcs.Goals as goal

pub returns : goal.returns
unfolding fcs_word
returns c = ap (λ (r : ℕ). 0xffffffff - r) c.remainder.ensures ∙ sym (mirror_complement _ (crc_lt c.args.bytes.now))
