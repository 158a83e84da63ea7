-- The set stored is that of the lowest free pages.
use Rattle.std.proofs.Common.{ℕ, List, map, take, set, ap, ◌∙◌}
use Rattle.lists.specs.Facts.{map_set}
use Rattle.sets.specs.Views.{pages_of}
use Rattle.sets.proofs.map.granted.Goals as goal

pub returns-clause-given : goal.returns-clause-given
returns-clause-given c =
    let a = c.args in
    let pages = c.lowest-pages.ensures ∙ ap (take a.need) c.free_set.ensures in
    map_set pages_of a.sets.now a.packet.0 c.lowest-pages.result ∙ ap (λ (l : List ℕ). set (map pages_of a.sets.now) a.packet.0 l) pages
