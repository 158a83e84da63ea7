-- The places of the part are lent, and put back before the others.
use Rattle.chip.specs.Rights.{part_fits, part_count, lent_part, leaves_part}
use Rattle.chip.proofs.frames.arrived_whole.Goals as goal

pub slice_bounds-arrived-end : goal.slice_bounds-arrived-end
slice_bounds-arrived-end g c = part_fits c.requires c.size_in-n.ensures

pub slice_bounds-arrived-end-2 : goal.slice_bounds-arrived-end-2
slice_bounds-arrived-end-2 g c = part_count c.requires c.size_in-n.ensures

pub arrived-requires : goal.arrived-requires
arrived-requires g c = lent_part c.requires c.size_in-n.ensures

pub returns : goal.returns
returns g c = leaves_part c.requires c.size_in-n.ensures _ _ c.arrived.ensures
