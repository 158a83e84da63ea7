-- The record that powers up is the paged chip's.
use Rattle.std.specs.Prelude.{refl}
use Rattle.std.proofs.Common.{arith}
use Rattle.rules.specs.Chip.{paged}
use Rattle.wellformed.specs.Parts.{part_few}
use Rattle.chip.specs.Rights.{is_a_part}
use Rattle.serving.proofs.Powered.{powered_lent}
use Rattle.serving.proofs.bench.Bench.powered_up.Goals as goal

pub returns : goal.returns
returns c = record {
  fits = omega (arith, c.packets_of.ensures, part_few (is_a_part c.args.part));
  held = record { chip = powered_lent c.args.part c.packets_of.result c.packets_of.ensures (c.power_up.ensures paged); room = refl; few = omega arith };
}
