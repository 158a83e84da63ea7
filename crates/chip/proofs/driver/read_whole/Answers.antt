-- The places of the part are lent, and stay.
use Rattle.chip.specs.Rights.{part_count, lent_part, leaves_places}
use Rattle.chip.proofs.driver.read_whole.Goals as goal

pub slice_bounds-read-end : goal.slice_bounds-read-end
slice_bounds-read-end g c = part_count c.requires c.size_in-n.ensures

pub read-requires : goal.read-requires
read-requires g c = lent_part c.requires c.size_in-n.ensures

pub returns : goal.returns
returns g c = leaves_places c.requires c.size_in-n.ensures _ c.read.ensures
