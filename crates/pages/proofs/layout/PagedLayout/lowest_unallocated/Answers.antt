use Rattle.std.specs.Prelude.{map}
use Rattle.std.proofs.Common.{arith}
use Rattle.sets.specs.Views.{pages_of}
use Rattle.sets.specs.Lists.{lists_length}
use Rattle.pages.proofs.Granting.{first_within}
use Rattle.pages.proofs.layout.PagedLayout.lowest_unallocated.Goals as goal

pub overflow_cast-result : goal.overflow_cast-result
overflow_cast-result c =
    let s = c.args.sets.now in
    record { fits = omega (arith, c.lowest_unallocated.ensures, first_within (map pages_of s), lists_length s, c.requires) }
