-- Document 02, W1, "An allocation that waits": what it says of every step, from any well-formed chip with n pages (at most 128, so that no packet number reads 80h).
use Rattle.std.specs.Prelude.{◌≡◌, refl, true, ◌⊎◌, List, [], ◌∷◌, ℕ, ◌+◌, ◌≤◌, ◌<◌, eqb, ltb, length, get_or, set, take}
use Rattle.std.proofs.Common.{ap, sym, subst, ◌∙◌, inl, inr, ⊎_elim, arith, length-set, length-take, get_or-set_same, get_or-set_other}
use Rattle.rules.specs.Bits.{low_byte}
use Rattle.rules.specs.Lists.{member}
use Rattle.rules.specs.Chip.{Layout, paged, Chip, page_numbers, pages_at, free_for, free, powered}
use Rattle.rules.specs.Answers.{Effect, Turn}
use Rattle.rules.specs.WellFormed.{Waits}
use Rattle.rules.specs.Mmu.{decode, lowest_number, freed}
use Rattle.rules.specs.Registers.{Width, COMMAND, write, register_at, head_of}
use Rattle.rules.specs.Receive.{Frame, Arrival, stored, disabled, not_accepted, too_long, bad, no_room, after, verdict, arrive}
use Rattle.rules.specs.Send.{Send, good, auto_release}
use Rattle.rules.specs.Step.{Input, driver, frame, sent, serve, step_of, run_of}
use Rattle.lists.specs.Facts.{if_not, nobody}
use Rattle.lists.specs.Owned.{owned_none}
use Rattle.wellformed.specs.Cases.{pick, by_step}
use Rattle.wellformed.specs.Pages.{at_set}
use Rattle.wellformed.specs.Layouts.{back_lists, free_set}
use Rattle.wellformed.specs.Pool.{good_lists}
use Rattle.wellformed.specs.Fit.{Fits}
use Rattle.laws.specs.Accounted.{IsFree, free_listed}
use Rattle.laws.specs.Ledger.{Entry, asks, answers, returns, restarts, just, answered, command_entries, write_entries, input_entries, entries_of, Resets}
use Rattle.laws.specs.Told.{Held, held_by, free_of, RoomIn, completed, without, emptied, Settles, waits, completes, Moves, stays, takes, requests, frees, empties}
use Rattle.laws.proofs.Told.{told}
use Rattle.laws.specs.Theorems.{Whole}
use Rattle.laws.proofs.Theorems.{power_up_whole, run_whole}
use Rattle.laws.specs.Waiting.{NotInVain, not_in_vain, GivesBack, GrantedAtOnce, WaitsOn, Fares, Replaced, released, goes_on, granted, replaced, dropped}

-- It is so after every run from a well-formed chip; so in no history does a chip ever wait although enough pages are free.
pub run_not_in_vain : (n : ℕ) (inputs : List Input) (c : Chip) → Whole n c → NotInVain (run_of n inputs c).chip
run_not_in_vain n inputs c w = not_in_vain n (run_of n inputs c).chip (run_whole n inputs c w)

pub never_waits_in_vain : (n : ℕ) (l : Layout) (inputs : List Input) → let c = (run_of n inputs (powered l n)).chip in 0 < c.regs.numbers.waiting → length (free c) < c.regs.numbers.waiting
never_waits_in_vain n l inputs some = (run_not_in_vain n inputs (powered l n) (power_up_whole n l) some).short

-- The moves of a step, by its entries.
fares : {a b : Held} {es : List Entry} → Moves a b es → Fares a b es
fares stays = goes_on refl refl
fares (takes m r) = goes_on refl refl
fares (requests m v s) = replaced m _ refl
fares (frees k r (waits f)) = goes_on refl refl
fares (frees k r (completes s x)) = granted k _ refl refl refl
fares empties = dropped refl

still : {a b : Held} → Moves a b [] → b ≡ a
still stays = refl

restarted : {a b : Held} → Moves a b (just restarts) → b ≡ emptied a.layout (length a.pages)
restarted empties = refl

requested : (c : Chip) {b : Held} {m : ℕ} {es : List Entry} → Moves (held_by c) b (asks m ∷ es) → Replaced c m b
requested c (requests m v (waits f)) = inl (f (omega (arith, v.0)), refl, refl)
requested c (requests m v (completes s r)) = inr (r.enough, refl, refl)

enough_settles : {a b : Held} {es : List Entry} → Settles a b es → 0 < a.waiting → a.waiting ≤ length (free_of a) → RoomIn a.waiting a × (b ≡ completed a)
enough_settles (waits f) some h = absurd (omega (arith, f some, h))
enough_settles (completes _ r) some h = (r, refl)

short_settles : {a b : Held} {es : List Entry} → Settles a b es → length (free_of a) < a.waiting → b ≡ a
short_settles (waits _) h = refl
short_settles (completes _ r) h = absurd (omega (arith, r.enough, h))

-- Packet k without its pages: as many are free then as were free and as it had, and its own are among them.
module _ (n : ℕ) (c : Chip) (w : Fits n c) (k : ℕ) (in_range : k < length c.pool.pages) where
  small : k < n
  small = omega (arith, in_range, w.0.count)

  pub free_then : length (free (freed k c)) ≡ length (free c) + length (pages_at c k)
  free_then =
      let ls = c.pool.pages in
      omega (arith, free_set c.pool.layout n ls k [] small (good_lists w.0) (back_lists n ls k small c.pool.layout (good_lists w.0)))

module _ (n : ℕ) (small : n ≤ 128) (i : Input) (c : Chip) (w : Fits n c) where
  moved : {es : List Entry} → entries_of i c (step_of n i c) ≡ es → Moves (held_by c) (held_by (step_of n i c).chip) es
  moved e = subst (Moves (held_by c) (held_by (step_of n i c).chip)) e (told n small c w i)

  -- Pages are given back while an allocation waits.
  module _ (k : ℕ) (back : GivesBack n i c k) (some : 0 < c.regs.numbers.waiting) where
    how : (k < length c.pool.pages) × Settles (without k (held_by c)) (held_by (step_of n i c).chip) back.0
    how = released (moved back.1)

    -- "the request is granted in the very step whose release leaves enough free pages"
    pub granted_at_once : c.regs.numbers.waiting ≤ length (free c) + length (pages_at c k) → GrantedAtOnce c k (step_of n i c).chip
    granted_at_once enough =
        let ls = set c.pool.pages k [] in
        let got = take c.regs.numbers.waiting (free (freed k c)) in
        let s = enough_settles how.1 some (omega (arith, enough, free_then n c w k how.0)) in
        let number = ap (λ (a : Held). a.result) s.1 in
        let pages = ap (λ (a : Held). get_or a.pages a.result []) s.1 ∙ get_or-set_same ls (lowest_number (freed k c)) got [] s.0.number in
        record {
          number = number;
          pages = pages;
          many = ap length pages ∙ simp length-take (omega (arith, s.0.enough));
          others = λ j d. ap (λ (a : Held). get_or a.pages j []) s.1 ∙ get_or-set_other ls (lowest_number (freed k c)) j got [] (λ e. d (e ∙ sym number));
          over = ap (λ (a : Held). a.waiting) s.1;
        }

    pub waits_on : length (free c) + length (pages_at c k) < c.regs.numbers.waiting → WaitsOn c k (step_of n i c).chip
    waits_on short =
        let e = short_settles how.1 (omega (arith, short, free_then n c w k how.0)) in
        record {
          waiting = ap (λ (a : Held). a.waiting) e;
          unanswered = ap (λ (a : Held). a.result) e ∙ (not_in_vain n c w some).unanswered;
          pages = ap (λ (a : Held). a.pages) e;
        }

  -- It ends by a grant, by a new allocate command or by a reset, and by nothing else.
  pub ends_only_by : Fares (held_by c) (held_by (step_of n i c).chip) (entries_of i c (step_of n i c))
  ends_only_by = fares (told n small c w i)

  -- "A new allocate command replaces a waiting one"
  pub replaces_it : (m : ℕ) (rest : List Entry) → entries_of i c (step_of n i c) ≡ asks m ∷ rest → Replaced c m (held_by (step_of n i c).chip)
  replaces_it m rest e = requested c (moved e)

  -- "40h and a soft reset drop it" (`Restarts`: each such write is so entered)
  pub resets_drop_it : Resets n i c → held_by (step_of n i c).chip ≡ emptied c.pool.layout n
  resets_drop_it r = restarted (moved r) ∙ ap (emptied c.pool.layout) w.0.count

  -- What enters nothing leaves page lists, result and request.
  pub no_entry_leaves_it : entries_of i c (step_of n i c) ≡ [] → held_by (step_of n i c).chip ≡ held_by c
  no_entry_leaves_it e = still (moved e)

-- "E0h leaves it"
pub e0h_leaves_it : (n : ℕ) → n ≤ 128 → (c : Chip) → Fits n c → (w : Width) (offset v : ℕ) → register_at c.regs.numbers.bank offset ≡ COMMAND → low_byte v ≡ 0xe0
    → held_by (step_of n (driver (write w offset v)) c).chip ≡ held_by c
unfolding entries_of input_entries write_entries command_entries decode
e0h_leaves_it n small c fits w offset v reached value =
    no_entry_leaves_it n small (driver (write w offset v)) c fits
    (rw (reached, value) (pick (λ (es : List Entry). es ≡ []) (eqb (step_of n (driver (write w offset v)) c).reply.number 0) refl refl))
