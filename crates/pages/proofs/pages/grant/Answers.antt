-- So many pages are free, and the packet had none.
use Rattle.std.proofs.Common.{◌≡◌, refl, List, map, ℕ, length, take, set, ap, sym, subst, ◌∙◌, arith, length-set, length-take-le}
use Rattle.rules.specs.Bits.{word_of}
use Rattle.rules.specs.Lists.{free_below}
use Rattle.rules.specs.Chip.{paged, free_for}
use Rattle.rules.specs.WellFormed.{GoodPages}
use Rattle.wellformed.specs.Pages.{grant_good}
use Rattle.sets.specs.Views.{pages_of}
use Rattle.sets.specs.Lists.{lists_length}
use Rattle.state.specs.Pages.{free_sets}
use Rattle.state.specs.Stores.{store_mir}
use Rattle.pages.specs.Figures.{repaged}
use Rattle.pages.proofs.Granting.{good_lists}
use Rattle.pages.proofs.pages.grant.Goals as goal

pub fewer-requires : goal.fewer-requires
unfolding word_of
fewer-requires c = omega (arith, c.requires.1.free, c.requires.2.few)

pub returns-clause-given : goal.returns-clause-given
unfolding word_of
returns-clause-given c =
    let p = c.requires in
    let k = c.args.packet.0 in
    let need = c.args.need in
    let s = c.args.sets.now in
    let ls = map pages_of s in
    let n = length s in
    let long : length ls ≡ n = lists_length s in
    let good : GoodPages n ls = subst (λ (m : ℕ). GoodPages m ls) long p.2.good in
    let same : free_below n ls ≡ free_for paged ls = sym (free_sets s) in
    repaged (λ ls. set ls k (take need (free_for paged ls))) k _ _ _ _ _ _ (store_mir _ c.args.words.now p.0) (omega (arith, long, p.2.number)) (good_lists n ls long good)
    (good_lists n _ (length-set ls k _ ∙ long) (rw long (grant_good n _ k (omega (arith, long, p.2.number)) good need p.2.short))) p.1 (λ i. omega (arith, c.type_inv.sets i)) (c.granted.ensures.given ∙ ap (λ (l : List ℕ). set ls k (take need l)) same) refl
    (omega (arith, c.fewer.ensures, p.1.free, p.2.few, length-take-le need (free_for paged ls) p.2.few, ap (λ (l : List ℕ). length l) p.2.none))
