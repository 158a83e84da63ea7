-- The ledger balances: the free pages with the pages granted are n with the pages given back, for any n up to 128.
use Rattle.std.specs.Prelude.{◌≡◌, refl, ℕ, zero, suc, ◌+◌, ◌≤◌, ◌<◌, length, get_or, set, take, replicate}
use Rattle.std.proofs.Common.{ap, ap₂, sym, subst, ◌∙◌, arith, length-take}
use mathlib.Core.List.{List, [], ◌∷◌, ◌++◌, map}
use Rattle.std.proofs.Math.ListN.{get_or-map}
use Rattle.rules.specs.Lists.{total, first_empty}
use Rattle.rules.specs.Chip.{Layout, Chip, free, powered}
use Rattle.rules.specs.Step.{Input, step_of, run_of}
use Rattle.lists.specs.Facts.{map_set}
use Rattle.wellformed.specs.Pages.{first_empty_lem}
use Rattle.wellformed.specs.Count.{total_set}
use Rattle.wellformed.specs.Layouts.{free_total}
use Rattle.wellformed.specs.Pool.{good_lists}
use Rattle.wellformed.specs.Fit.{Fits}
use Rattle.wellformed.specs.Keeps.{powered_fits}
use Rattle.wellformed.proofs.Keeps.{keeps}
use Rattle.laws.specs.Ledger.{Entry, returns, restarts, just, entries_of, Resets, Ledger, blank, granted_to, entered, entered_all, ledger_from}
use Rattle.laws.specs.Told.{Held, held_by, free_of, RoomIn, allotted, emptied, Settles, waits, completes, Moves, stays, takes, requests, frees, empties}

-- the ledger knows what each packet number has, and no page is lost between its two columns
pub record Balanced (ls : List (List ℕ)) (l : Ledger) : Type 0 where
  pub holds : map length ls ≡ l.holds
  pub even : l.granted ≡ total ls + l.back

-- the ledger follows what a chip holds: it balances, and what waits is what was asked for last
pub record Follows (a : Held) (l : Ledger) : Type 0 where
  pub balanced : Balanced a.pages l
  pub asked : 0 < a.waiting → a.waiting ≡ l.asked

-- The chip after inputs that are run one after another is well formed.
pub run_fits : (n : ℕ) (inputs : List Input) (c : Chip) → Fits n c → Fits n (run_of n inputs c).chip
unfolding run_of
run_fits n [] c w = w
run_fits n (i ∷ is) c w = run_fits n is (step_of n i c).chip (keeps n c w i)

module _ (n : ℕ) (small : n ≤ 128) where
  -- what is free and what was granted are n and what was given back
  abbrev pub Even : Chip → Ledger → Type 0
  Even c l = length (free c) + l.granted ≡ n + l.back

-- What came before: a run and its ledger go on from where they were.
pub run_joined : (n : ℕ) (before after : List Input) (c : Chip) → (run_of n (before ++ after) c).chip ≡ (run_of n after (run_of n before c).chip).chip
unfolding run_of
run_joined n [] after c = refl
run_joined n (i ∷ is) after c = run_joined n is after (step_of n i c).chip

pub ledger_joined : (n : ℕ) (before after : List Input) (c : Chip) (l : Ledger) → ledger_from n (before ++ after) c l ≡ ledger_from n after (run_of n before c).chip (ledger_from n before c l)
unfolding run_of ledger_from
ledger_joined n [] after c l = refl
ledger_joined n (i ∷ is) after c l = ledger_joined n is after (step_of n i c).chip (entered_all n (entries_of i c (step_of n i c)) l)
