use Rattle.std.proofs.Common.{ℕ, map, length, bit_and, bit_xor, ap, ◌∙◌, arith}
use Rattle.sets.specs.Views.{pages_of}
use Rattle.sets.specs.Lists.{free_pages_lem}
use Rattle.sets.proofs.map.free_set.Goals as goal

pub returns : goal.returns
returns c =
    let sets = c.args.sets.now in
    ap (λ (all : ℕ). pages_of (bit_and (bit_xor c.owned_set.result all) all)) c.all_pages-all.ensures
    ∙ free_pages_lem (length sets) c.owned_set.result (map pages_of sets) (omega arith) c.owned_set.ensures
