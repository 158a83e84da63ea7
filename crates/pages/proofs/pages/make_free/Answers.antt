-- The packet's pages are some of the part's, and none of those that are free.
use Rattle.std.proofs.Common.{refl, List, [], map, ℕ, ◌+◌, ◌≤◌, ◌<◌, length, get_or, set, ap, arith}
use Rattle.rules.specs.Bits.{word_of}
use Rattle.rules.specs.Chip.{paged, free_for}
use Rattle.rules.specs.WellFormed.{GoodPages}
use Rattle.wellformed.specs.Parts.{part_few}
use Rattle.wellformed.specs.Layouts.{GoodLists, free_total, free_set, back_lists}
use Rattle.sets.specs.Views.{pages_of}
use Rattle.sets.specs.Lists.{list_at, lists_length}
use Rattle.state.specs.Stores.{store_mir}
use Rattle.pages.specs.Figures.{repaged}
use Rattle.pages.proofs.Granting.{good_lists}
use Rattle.pages.proofs.pages.make_free.Goals as goal

lists : (s : List ℕ) → GoodPages (length s) (map pages_of s) → GoodLists paged (length s) (map pages_of s)
lists s = good_lists (length s) (map pages_of s) (lists_length s)

-- they are no more than all, with those that are free
few : (s : List ℕ) (k : ℕ) → k < length s → GoodLists paged (length s) (map pages_of s) → length (free_for paged (map pages_of s)) + length (get_or (map pages_of s) k []) ≤ length s
few s k number good =
    let ls = map pages_of s in
    let n = length s in
    let after = back_lists n ls k number paged good in
    omega (arith, free_set paged n ls k [] number good after, free_total paged n (set ls k []) after)

pub more-requires : goal.more-requires
unfolding word_of
more-requires c =
    let k = c.args.packet.0 in
    let p = c.requires in
    omega (arith, c.page_count-pages.ensures, ap length (list_at c.args.sets.now k), p.1.free, few c.args.sets.now k p.3 (lists c.args.sets.now p.2), part_few p.1.part)

pub returns : goal.returns
returns c =
    let k = c.args.packet.0 in
    let p = c.requires in
    let good = lists c.args.sets.now p.2 in
    repaged (λ ls. set ls k []) k [] _ _ _ _ _ (store_mir _ c.args.words.now p.0) p.3 good (back_lists (length c.args.sets.now) _ k p.3 paged good) p.1 (λ i. omega (arith, c.type_inv.sets i)) c.released.ensures refl
    (omega (arith, c.more.ensures, c.page_count-pages.ensures, ap length (list_at c.args.sets.now k)))
