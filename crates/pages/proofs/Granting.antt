-- Page sets: their lists are good, and where so many pages are free, the lowest unallocated number may get them.
use mathlib.Core.Path.{◌≡◌, refl, sym}
use mathlib.Core.List.{List, [], ◌∷◌}
use Prim.Native.Nat.{ℕ, ◌≤◌}
use native.Mathlib.Omega.{arith}
use lib.ListN.{length}
use Rattle.rules.specs.Lists.{first_empty}
use Rattle.rules.specs.Chip.{Layout, paged, free_for}
use Rattle.rules.specs.WellFormed.{GoodPages}
use Rattle.wellformed.specs.Layouts.{GoodLists, unallocated}
use Rattle.wellformed.specs.Pages.{first_empty_lem}
use Rattle.rules.specs.Mmu.{settle}
use Rattle.wellformed.specs.Settle.{settle_none}
use Rattle.state.specs.View.{word, figures, view_of, Kept}
use Rattle.state.specs.Promise.{PagesIn}
use Rattle.pages.specs.Pages.{Grantable, AltersOf}

pub good_lists : (n : ℕ) (ls : List (List ℕ)) → length ls ≡ n → GoodPages n ls → GoodLists paged n ls
good_lists n ls long good = record { count = long; pages = good; laid = tt }

pub grantable : (ls : List (List ℕ)) (n : ℕ) → GoodPages (length ls) ls → 1 ≤ n → n ≤ 8 → n ≤ length (free_for paged ls) → Grantable (first_empty ls) n ls
grantable ls n good some short few = record {
  good = good;
  number = unallocated paged (length ls) ls (good_lists (length ls) ls refl good) (omega (arith, some, few));
  none = first_empty_lem ls;
  short = short;
  few = few;
}

-- the lowest number with no pages is at most their number
pub first_within : (ls : List (List ℕ)) → first_empty ls ≤ length ls
unfolding first_empty
first_within [] = omega arith
first_within ([] ∷ ls) = omega arith
first_within ((p ∷ ps) ∷ ls) = omega (arith, first_within ls)

-- where none waits, nothing is settled
pub none_waits : (l : Layout) (w s : List ℕ) → Kept w → PagesIn l (figures w) s → word w 23 ≡ 0 → AltersOf l settle w s w s
none_waits l w s k p none = record { chip = λ q mem. sym (settle_none (view_of l w s q mem) none); still = refl; kept = k; sets = p }
