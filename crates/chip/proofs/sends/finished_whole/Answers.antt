-- The places of the part are lent, and put back before the others.
use Rattle.chip.specs.Rights.{part_fits, part_count, lent_part, leaves_part}
use Rattle.chip.proofs.sends.finished_whole.Goals as goal

pub slice_bounds-finished-end : goal.slice_bounds-finished-end
slice_bounds-finished-end g c = part_fits c.requires c.size_in-n.ensures

pub slice_bounds-finished-end-2 : goal.slice_bounds-finished-end-2
slice_bounds-finished-end-2 g c = part_count c.requires c.size_in-n.ensures

pub finished-requires : goal.finished-requires
finished-requires g c = lent_part c.requires c.size_in-n.ensures

pub returns : goal.returns
returns g c = leaves_part c.requires c.size_in-n.ensures _ _ c.finished.ensures
