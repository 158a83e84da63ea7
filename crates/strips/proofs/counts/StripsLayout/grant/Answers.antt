-- So many pages are free, and the packet, which had none, takes them from the first of its strip on.
use Rattle.std.specs.Prelude.{◌≡◌, refl, List, [], ℕ, ◌-◌, ◌*◌, ◌<◌, ◌≤◌, length, get_or, take, set}
use Rattle.std.proofs.Common.{ap, sym, ◌∙◌, arith, length-take-le}
use Rattle.rules.specs.Bits.{word_of}
use Rattle.rules.specs.Lists.{total, up_from, first_empty}
use Rattle.rules.specs.Chip.{strips, free_for}
use Rattle.lists.specs.UpFrom.{length_up, take_up}
use Rattle.wellformed.specs.Layouts.{GoodLists, unallocated, granted_lists}
use Rattle.wellformed.specs.Pages.{first_empty_lem}
use Rattle.state.specs.View.{strips_from}
use Rattle.state.specs.Pages.{strips_set}
use Rattle.state.specs.Stores.{store_mir}
use Rattle.pages.specs.Figures.{repaged}
use Rattle.strips.specs.Counts.{counts_small}
use Rattle.strips.proofs.counts.StripsLayout.grant.Goals as goal

module _ (s : List ℕ) (k need : ℕ) (good : GoodLists strips (length s) (strips_from 0 s)) (lowest : k ≡ first_empty (strips_from 0 s)) (few : need ≤ 8) (enough : need ≤ length (free_for strips (strips_from 0 s))) where
  abbrev ls : List (List ℕ)
  ls = strips_from 0 s

  -- the pages that the rules give it
  abbrev given : List ℕ
  given = take need (free_for strips ls)

  number : 1 ≤ need → k < length s
  number some = rw lowest (unallocated strips (length s) ls good (omega (arith, some, enough)))

  none : get_or ls k [] ≡ []
  none = rw lowest (first_empty_lem ls)

  after : 1 ≤ need → GoodLists strips (length s) (set ls k given)
  after some = rw lowest (granted_lists (length s) ls need few strips good enough (unallocated strips (length s) ls good (omega (arith, some, enough))))

  -- So many pages from the first of its strip on are those.
  stored : strips_from 0 (set s k need) ≡ set ls k given
  stored =
      strips_set s k need
      ∙ ap (set ls k) (ap (λ (j : ℕ). up_from (8 * j) need) lowest ∙ sym (take_up (8 * first_empty ls) need (length ls - total ls) (omega (arith, enough, length_up (8 * first_empty ls) (length ls - total ls)))))

pub fewer-requires : goal.fewer-requires
unfolding word_of
fewer-requires c = omega (arith, c.requires.1.free, c.requires.6)

pub bounds-counts-packet : goal.bounds-counts-packet
bounds-counts-packet c = let p = c.requires in number c.args.counts.now c.args.packet.0 c.args.need p.2 p.3 p.5 p.6 p.4

pub returns : goal.returns
unfolding word_of
returns c =
    let s = c.args.counts.now in
    let k = c.args.packet.0 in
    let need = c.args.need in
    let p = c.requires in
    let new = stored s k need p.2 p.3 p.5 p.6 in
    let good = after s k need p.2 p.3 p.5 p.6 p.4 in
    repaged (λ ls. set ls k (take need (free_for strips ls))) k _ _ _ _ _ _ (store_mir _ c.args.words.now p.0) (number s k need p.2 p.3 p.5 p.6 p.4) p.2 good p.1 (counts_small (set s k need) new good) new refl
    (omega (arith, c.fewer.ensures, p.1.free, p.6, length-take-le need (free_for strips (strips_from 0 s)) p.6, ap (λ (l : List ℕ). length l) (none s k need p.2 p.3 p.5 p.6)))
