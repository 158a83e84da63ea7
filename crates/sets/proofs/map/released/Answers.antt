use Rattle.std.proofs.Common.{ℕ, List, map, set, ap, ◌∙◌}
use Rattle.lists.specs.Facts.{map_set}
use Rattle.sets.specs.Views.{pages_of}
use Rattle.sets.specs.Pages.{pages_none}
use Rattle.sets.proofs.map.released.Goals as goal

pub returns : goal.returns
returns c =
    let a = c.args in
    map_set pages_of a.sets.now a.packet.0 0 ∙ ap (λ (l : List ℕ). set (map pages_of a.sets.now) a.packet.0 l) pages_none
