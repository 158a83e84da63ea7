use Rattle.std.proofs.Common.{◌∙◌, map, arith}
use Rattle.sets.specs.Lists.{lists_length}
use Rattle.sets.specs.Views.{pages_of}
use Rattle.strips.specs.Counts.{lowest_counted, lowest_few}
use Rattle.strips.proofs.counts.StripsLayout.lowest_unallocated.Goals as goal

pub overflow_cast-result : goal.overflow_cast-result
overflow_cast-result c = omega (arith, c.lowest_unallocated.ensures, lowest_few (map pages_of c.args.counts.now), lists_length c.args.counts.now)

pub returns : goal.returns
returns c = c.lowest_unallocated.ensures ∙ lowest_counted c.args.counts.now (λ i. omega (arith, c.type_inv.counts i))
