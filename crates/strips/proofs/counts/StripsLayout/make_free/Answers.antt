-- The packet's pages are none of those that are free, so with them they are no more than all.
use Rattle.std.specs.Prelude.{refl, List, [], ℕ, ◌+◌, ◌≤◌, ◌<◌, length, get_or, set}
use Rattle.std.proofs.Common.{arith}
use Rattle.rules.specs.Bits.{word_of}
use Rattle.rules.specs.Lists.{up_from}
use Rattle.rules.specs.Chip.{strips, free_for}
use Rattle.wellformed.specs.Parts.{part_few}
use Rattle.wellformed.specs.Layouts.{GoodLists, free_total, free_set, back_lists}
use Rattle.state.specs.View.{strips_from}
use Rattle.state.specs.Pages.{strips_set}
use Rattle.state.specs.Stores.{store_mir}
use Rattle.pages.specs.Figures.{repaged}
use Rattle.strips.specs.Counts.{counts_small}
use Rattle.strips.proofs.counts.StripsLayout.make_free.Goals as goal

few : (n : ℕ) (ls : List (List ℕ)) (k : ℕ) → k < n → GoodLists strips n ls → length (free_for strips ls) + length (get_or ls k []) ≤ n
few n ls k number good =
    let after = back_lists n ls k number strips good in
    omega (arith, free_set strips n ls k [] number good after, free_total strips n (set ls k []) after)

pub more-requires : goal.more-requires
unfolding word_of
more-requires c =
    let p = c.requires in
    omega (arith, c.pages_of.ensures.pages, p.1.free, part_few p.1.part, few _ (strips_from 0 c.args.counts.now) c.args.packet.0 p.3 p.2)

pub returns : goal.returns
unfolding up_from
returns c =
    let s = c.args.counts.now in
    let k = c.args.packet.0 in
    let p = c.requires in
    let after = back_lists _ (strips_from 0 s) k p.3 strips p.2 in
    let stored = strips_set s k 0 in
    repaged (λ ls. set ls k []) k [] _ _ _ _ _ (store_mir _ c.args.words.now p.0) p.3 p.2 after p.1 (counts_small (set s k 0) stored after) stored refl
    (omega (arith, c.more.ensures, c.pages_of.ensures.pages))
