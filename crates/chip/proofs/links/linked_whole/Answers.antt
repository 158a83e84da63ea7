-- The places of the part are lent, and stay.
use Rattle.chip.specs.Rights.{part_count, lent_part, leaves_places}
use Rattle.chip.proofs.links.linked_whole.Goals as goal

pub slice_bounds-linked-end : goal.slice_bounds-linked-end
slice_bounds-linked-end g c = part_count c.requires c.size_in-n.ensures

pub linked-requires : goal.linked-requires
linked-requires g c = lent_part c.requires c.size_in-n.ensures

pub returns : goal.returns
returns g c = leaves_places c.requires c.size_in-n.ensures _ c.linked.ensures
