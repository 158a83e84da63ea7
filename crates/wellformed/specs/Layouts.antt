-- What page lists have in both layouts, and keep: as many pages are free as packets have not; a packet that is granted pages gets them, and one that gives them back has none.
use Rattle.std.specs.Prelude.{◌≡◌, refl, true, false, ℕ, zero, suc, ◌+◌, ◌-◌, ◌*◌, ◌≤◌, ◌<◌, get_or, set, take, replicate}
use Rattle.std.proofs.Common.{ap, sym, ◌∙◌, arith, length-set}
use Rattle.std.proofs.Math.Logic.{⊎_elim}
use mathlib.Core.List.{List, []}
use Rattle.std.proofs.Math.ListN.{length}
use Rattle.std.proofs.lemmas.List.{length-replicate}
use Rattle.rules.specs.Lists.{member, owned, free_below, total, up_from, first_empty}
use Rattle.rules.specs.Chip.{Layout, paged, strips, page_numbers, free_for}
use Rattle.rules.specs.WellFormed.{GoodPages, Laid}
use Rattle.lists.specs.Facts.{nobody, member_free, member_take}
use Rattle.lists.specs.Owned.{owned_none}
use Rattle.lists.specs.UpFrom.{length_up, take_up, member_up, member_up_take, ascending_up}
use Rattle.wellformed.specs.Count.{free_and_total, total_set, some_empty}
use Rattle.wellformed.specs.Pages.{first_empty_lem, at_set, set_good, grant_good, back_good}

-- a page list for each packet, good and as the layout asks
pub record GoodLists (l : Layout) (n : ℕ) (ls : List (List ℕ)) : Type 0 where
  pub count : length ls ≡ n
  pub pages : GoodPages (page_numbers l n) ls
  pub laid : Laid l n ls

-- Free pages and the packets' pages are n in all.
pub free_total : (l : Layout) (n : ℕ) (ls : List (List ℕ)) → GoodLists l n ls → length (free_for l ls) + total ls ≡ n
free_total paged n ls g = rw g.count (free_and_total n ls g.pages)
free_total strips n ls g = rw (length_up (8 * first_empty ls) _) (omega (arith, g.count, g.laid.sum))

-- Where a page is free a packet number is unallocated.
pub unallocated : (l : Layout) (n : ℕ) (ls : List (List ℕ)) → GoodLists l n ls → 0 < length (free_for l ls) → first_empty ls < n
unallocated l n ls g h = ⊎_elim (λ a. omega (arith, a, g.count)) (λ a. absurd (omega (arith, a, h, free_total l n ls g, g.count))) (some_empty ls)

-- A page of a packet's strip is in no other packet's list.
strip_apart : (n : ℕ) (ls : List (List ℕ)) → GoodLists strips n ls → (k p : ℕ) → 8 * k ≤ p → p < 8 * k + 8 → (i : ℕ) → (i ≡ k → ⊥) → member p (get_or ls i []) ≡ true → ⊥
strip_apart n ls g k p low high i d x =
    let b = member_up (8 * i) (length (get_or ls i [])) p (sym (ap (member p) (g.laid.own i)) ∙ x) in
    d (omega (arith, low, high, b.0, b.1, g.pages.at_most i))

-- The pages that the next packet takes are nobody's.
pub taken_apart : (l : Layout) (n : ℕ) (ls : List (List ℕ)) → GoodLists l n ls → (m : ℕ) → m ≤ 8 → (p : ℕ) → member p (take m (free_for l ls)) ≡ true → owned p ls ≡ false
taken_apart paged n ls g m few p e = (member_free (length ls) ls p (member_take p m (free_below (length ls) ls) e)).1
taken_apart strips n ls g m few p e =
    let k = first_empty ls in
    let a = member_up_take (8 * k) m _ p e in
    owned_none p ls
    (λ i x. strip_apart n ls g k p a.0 (omega (arith, a.1, few)) i
    (λ same. nobody p (sym (ap (member p) (ap (λ (j : ℕ). get_or ls j []) same ∙ first_empty_lem ls)) ∙ x)) x)

-- The lowest unallocated number gets m pages.
module _ (n : ℕ) (ls : List (List ℕ)) (m : ℕ) (few : m ≤ 8) where
  strip_granted : GoodLists strips n ls → m ≤ length (free_for strips ls) → first_empty ls < n → GoodLists strips n (set ls (first_empty ls) (take m (free_for strips ls)))
  strip_granted g enough number = record {
    count = length-set ls k got ∙ g.count;
    pages = set_good ls k got in_range (8 * n) g.pages (rw same (ascending_up (8 * k) m)) (omega (arith, few, long))
        (λ p e. let a = member_up_take (8 * k) m _ p e in (omega (arith, a.1, few, number), λ i d x. strip_apart n ls g k p a.0 (omega (arith, a.1, few)) i d x));
    laid = record { own = own; sum = omega (arith, total_set ls k got in_range, ap length (first_empty_lem ls), long, enough, free_total strips n ls g) };
  }
    where
      k : ℕ
      k = first_empty ls

      got : List ℕ
      got = take m (free_for strips ls)

      in_range : k < length ls
      in_range = omega (arith, number, g.count)

      same : got ≡ up_from (8 * k) m
      same = take_up (8 * k) m (length ls - total ls) (omega (arith, enough, length_up (8 * k) (length ls - total ls)))

      long : length got ≡ m
      long = ap length same ∙ length_up (8 * k) m

      own : (i : ℕ) → get_or (set ls k got) i [] ≡ up_from (8 * i) (length (get_or (set ls k got) i []))
      own i = ⊎_elim (λ u. rw u.1 (rw (u.0, long) same)) (λ u. rw u.1 (g.laid.own i)) (at_set ls k got in_range i)

  pub granted_lists : (l : Layout) → GoodLists l n ls → m ≤ length (free_for l ls) → first_empty ls < n → GoodLists l n (set ls (first_empty ls) (take m (free_for l ls)))
  granted_lists paged g enough number = record {
    count = length-set ls _ _ ∙ g.count;
    pages = rw g.count (grant_good n ls (first_empty ls) (omega (arith, number, g.count)) g.pages m few);
    laid = tt;
  }
  granted_lists strips g enough number = strip_granted g enough number

-- A packet gives its pages back.
module _ (n : ℕ) (ls : List (List ℕ)) (k : ℕ) (in_range : k < n) where
  back_laid : (l : Layout) → GoodLists l n ls → Laid l n (set ls k [])
  unfolding up_from
  back_laid paged g = tt
  back_laid strips g =
      let here : k < length ls = omega (arith, in_range, g.count) in
      record {
        own = λ i. ⊎_elim (λ u. rw u.1 refl) (λ u. rw u.1 (g.laid.own i)) (at_set ls k [] here i);
        sum = omega (arith, total_set ls k [] here, g.laid.sum);
      }

  pub back_lists : (l : Layout) → GoodLists l n ls → GoodLists l n (set ls k [])
  back_lists l g = record {
    count = length-set ls k [] ∙ g.count;
    pages = back_good (page_numbers l n) ls k (omega (arith, in_range, g.count)) g.pages;
    laid = back_laid l g;
  }

-- One list replaced: how many pages are free.
pub free_set : (l : Layout) (n : ℕ) (ls : List (List ℕ)) (k : ℕ) (x : List ℕ) → k < n → GoodLists l n ls → GoodLists l n (set ls k x)
    → length (free_for l (set ls k x)) + length x ≡ length (free_for l ls) + length (get_or ls k [])
free_set l n ls k x h g g' = omega (arith, free_total l n ls g, free_total l n (set ls k x) g', total_set ls k x (omega (arith, h, g.count)))

-- No packet has pages.
pub none_there : (n i : ℕ) → get_or {A = List ℕ} (replicate n []) i [] ≡ []
none_there zero i = refl
none_there (suc n) zero = refl
none_there (suc n) (suc i) = none_there n i

pub none_total : (n : ℕ) → total (replicate n []) ≡ 0
unfolding total
none_total zero = refl
none_total (suc n) = omega (arith, none_total n)

none_laid : (l : Layout) (n : ℕ) → Laid l n (replicate n [])
unfolding up_from
none_laid paged n = tt
none_laid strips n = record { own = λ k. rw (none_there n k) refl; sum = omega (arith, none_total n) }

pub none_lists : (l : Layout) (n : ℕ) → GoodLists l n (replicate n [])
none_lists l n = record {
  count = length-replicate n [];
  pages = record {
    once = λ i j a u v. nobody a (sym (ap (member a) (none_there n i)) ∙ u);
    ascend = λ i. rw (none_there n i) tt;
    within = λ i a u. nobody a (sym (ap (member a) (none_there n i)) ∙ u);
    at_most = λ i. rw (none_there n i) (omega arith);
  };
  laid = none_laid l n;
}
