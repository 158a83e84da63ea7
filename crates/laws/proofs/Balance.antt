-- The ledger balances: the free pages with the pages granted are n with the pages given back, for any n up to 128.
use Rattle.std.specs.Prelude.{◌≡◌, refl, ℕ, zero, suc, ◌+◌, ◌≤◌, ◌<◌, length, get_or, set, take, replicate}
use Rattle.std.proofs.Common.{ap, ap₂, sym, subst, ◌∙◌, arith, length-take}
use mathlib.Core.List.{List, [], ◌∷◌, ◌++◌, map}
use Rattle.std.proofs.Math.ListN.{get_or-map}
use Rattle.rules.specs.Lists.{total, first_empty}
use Rattle.rules.specs.Chip.{Layout, Chip, free, powered}
use Rattle.rules.specs.Step.{Input, step_of, run_of}
use Rattle.lists.specs.Facts.{map_set}
use Rattle.wellformed.specs.Pages.{first_empty_lem}
use Rattle.wellformed.specs.Count.{total_set}
use Rattle.wellformed.specs.Layouts.{free_total}
use Rattle.wellformed.specs.Pool.{good_lists}
use Rattle.wellformed.specs.Fit.{Fits}
use Rattle.wellformed.specs.Keeps.{powered_fits}
use Rattle.wellformed.proofs.Keeps.{keeps}
use Rattle.laws.specs.Ledger.{Entry, returns, restarts, just, entries_of, Resets, Ledger, blank, granted_to, entered, entered_all, ledger_from}
use Rattle.laws.specs.Told.{Held, held_by, free_of, RoomIn, allotted, emptied, Settles, waits, completes, Moves, stays, takes, requests, frees, empties}
use Rattle.laws.proofs.Told.{told}
use Rattle.laws.specs.Balance.{Balanced, Follows, run_fits, Even}

-- All lists emptied: how many pages there are, and how long each list is.
total_none : (n : ℕ) → total (replicate n []) ≡ 0
unfolding total
total_none zero = refl
total_none (suc n) = omega (arith, total_none n)

lengths_none : (n : ℕ) → map length (replicate {A = List ℕ} n []) ≡ replicate n 0
lengths_none zero = refl
lengths_none (suc n) = ap (λ (t : List ℕ). 0 ∷ t) (lengths_none n)

-- So it does after a grant, and after pages are given back.
allot_balanced : (m : ℕ) (a : Held) (l : Ledger) → RoomIn m a → Balanced a.pages l → Balanced (allotted m a.layout a.pages) (granted_to (first_empty a.pages) m l)
allot_balanced m a l r h =
    let ls = a.pages in
    let k = first_empty ls in
    let got = take m (free_of a) in
    let many : length got ≡ m = simp length-take (omega (arith, r.enough)) in
    record {
      holds = map_set length ls k got ∙ ap₂ (λ (x : List ℕ) (y : ℕ). set x k y) h.holds many;
      even = omega (arith, total_set ls k got r.number, ap length (first_empty_lem ls), many, h.even);
    }

back_balanced : (n k : ℕ) (ls : List (List ℕ)) (l : Ledger) → k < length ls → Balanced ls l → Balanced (set ls k []) (entered n (returns k) l)
unfolding entered
back_balanced n k ls l r h =
    let had : get_or l.holds k 0 ≡ length (get_or ls k []) = ap (λ (x : List ℕ). get_or x k 0) (sym h.holds) ∙ get_or-map length ls k [] in
    record { holds = map_set length ls k [] ∙ ap (λ (x : List ℕ). set x k 0) h.holds; even = omega (arith, total_set ls k [] r, had, h.even) }

-- A ledger that starts anew follows a chip on which no packet has pages and nothing waits.
blank_follows : (l : Layout) (n : ℕ) → Follows (emptied l n) (blank n)
blank_follows l n = record { balanced = record { holds = lengths_none n; even = omega (arith, total_none n) }; asked = λ none. absurd (omega (arith, none)) }

-- So it does after all that a step may do.
settles_follows : (n : ℕ) {a b : Held} {es : List Entry} (l : Ledger) → Settles a b es → Follows a l → Follows b (entered_all n es l)
unfolding entered_all entered
settles_follows n l (waits _) h = h
settles_follows n {a} l (completes some r) h = record {
  balanced = subst (λ (m : ℕ). Balanced (allotted a.waiting a.layout a.pages) (granted_to (first_empty a.pages) m l)) (h.asked some) (allot_balanced a.waiting a l r h.balanced);
  asked = λ none. absurd (omega (arith, none));
}

empties_follows : (n : ℕ) {a b : Held} (l : Ledger) → length a.pages ≡ n → Moves a b (just restarts) → Follows b (entered_all n (just restarts) l)
unfolding entered_all entered
empties_follows n {a} l z empties = rw z (blank_follows a.layout n)

moves_follows : (n : ℕ) {a b : Held} {es : List Entry} (l : Ledger) → length a.pages ≡ n → Moves a b es → Follows a l → Follows b (entered_all n es l)
unfolding entered_all entered
moves_follows n l z stays h = h
moves_follows n {a} l z (takes m r) h = record { balanced = allot_balanced m a l r h.balanced; asked = h.asked }
moves_follows n l z (requests m v s) h =
    settles_follows n _ s (record { balanced = record { holds = h.balanced.holds; even = h.balanced.even }; asked = λ some. refl })
moves_follows n {a} l z (frees k r s) h = settles_follows n _ s (record { balanced = back_balanced n k a.pages l r h.balanced; asked = h.asked })
moves_follows n {a} l z empties h = empties_follows n {a = a} l z empties

module _ (n : ℕ) (small : n ≤ 128) where
  free_even : (c : Chip) (l : Ledger) → Fits n c → Balanced c.pool.pages l → Even n small c l
  free_even c l w b = omega (arith, b.even, free_total c.pool.layout n c.pool.pages (good_lists w.0))

  -- Over any list of inputs, from a chip that the ledger follows.
  run_follows : (inputs : List Input) (c : Chip) (l : Ledger) → Fits n c → Follows (held_by c) l → Follows (held_by (run_of n inputs c).chip) (ledger_from n inputs c l)
  unfolding run_of ledger_from
  run_follows [] c l w h = h
  run_follows (i ∷ is) c l w h =
      let t = step_of n i c in
      run_follows is t.chip (entered_all n (entries_of i c t) l) (keeps n c w i) (moves_follows n l w.0.count (told n small c w i) h)

  run_even : (inputs : List Input) (c : Chip) (l : Ledger) → Fits n c → Follows (held_by c) l → Even n small (run_of n inputs c).chip (ledger_from n inputs c l)
  run_even inputs c l w h = free_even (run_of n inputs c).chip _ (run_fits n inputs c w) (run_follows inputs c l w h).balanced

  -- For every history from power-up.
  pub balances : (l : Layout) (inputs : List Input) → Even n small (run_of n inputs (powered l n)).chip (ledger_from n inputs (powered l n) (blank n))
  balances l inputs = run_even inputs (powered l n) (blank n) (powered_fits l n) (blank_follows l n)

  -- After a soft or MMU reset the ledger follows the chip, whatever it said before.
  reset_follows : (i : Input) (c : Chip) (l : Ledger) → Fits n c → Resets n i c → Follows (held_by (step_of n i c).chip) (entered_all n (entries_of i c (step_of n i c)) l)
  reset_follows i c l w r =
      let d = held_by (step_of n i c).chip in
      subst (λ (es : List Entry). Moves (held_by c) d es → Follows d (entered_all n es l)) (sym r) (empties_follows n l w.0.count) (told n small c w i)

  -- So the ledger balances after such a step and any inputs behind it, from any well-formed chip and whatever the ledger said.
  pub balances_since : (i : Input) (after : List Input) (c : Chip) (l : Ledger) → Fits n c → Resets n i c → Even n small (run_of n (i ∷ after) c).chip (ledger_from n (i ∷ after) c l)
  unfolding run_of ledger_from
  balances_since i after c l w r = run_even after (step_of n i c).chip (entered_all n (entries_of i c (step_of n i c)) l) (keeps n c w i) (reset_follows i c l w r)
