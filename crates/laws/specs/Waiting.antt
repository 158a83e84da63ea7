-- Document 02, W1, "An allocation that waits": what it says of every step, from any well-formed chip with n pages (at most 128, so that no packet number reads 80h).
use Rattle.std.specs.Prelude.{◌≡◌, refl, true, ◌⊎◌, List, [], ◌∷◌, ℕ, ◌+◌, ◌≤◌, ◌<◌, eqb, ltb, length, get_or, set, take}
use Rattle.std.proofs.Common.{ap, sym, subst, ◌∙◌, inl, inr, ⊎_elim, arith, length-set, length-take, get_or-set_same, get_or-set_other}
use Rattle.rules.specs.Bits.{low_byte}
use Rattle.rules.specs.Lists.{member}
use Rattle.rules.specs.Chip.{Layout, paged, Chip, page_numbers, pages_at, free_for, free, powered}
use Rattle.rules.specs.Answers.{Effect, Turn}
use Rattle.rules.specs.WellFormed.{Waits}
use Rattle.rules.specs.Mmu.{decode, lowest_number, freed}
use Rattle.rules.specs.Registers.{Width, COMMAND, write, register_at, head_of}
use Rattle.rules.specs.Receive.{Frame, Arrival, stored, disabled, not_accepted, too_long, bad, no_room, after, verdict, arrive}
use Rattle.rules.specs.Send.{Send, good, auto_release}
use Rattle.rules.specs.Step.{Input, driver, frame, sent, serve, step_of, run_of}
use Rattle.lists.specs.Facts.{if_not, nobody}
use Rattle.lists.specs.Owned.{owned_none}
use Rattle.wellformed.specs.Cases.{pick, by_step}
use Rattle.wellformed.specs.Pages.{at_set}
use Rattle.wellformed.specs.Layouts.{back_lists, free_set}
use Rattle.wellformed.specs.Pool.{good_lists}
use Rattle.wellformed.specs.Fit.{Fits}
use Rattle.laws.specs.Accounted.{IsFree, free_listed}
use Rattle.laws.specs.Ledger.{Entry, asks, answers, returns, restarts, just, answered, command_entries, write_entries, input_entries, entries_of, Resets}
use Rattle.laws.specs.Told.{Held, held_by, free_of, RoomIn, completed, without, emptied, Settles, waits, completes, Moves, stays, takes, requests, frees, empties}
use Rattle.laws.specs.Theorems.{Whole}

-- while an allocation waits on the chip, it is "for 1 to 8 pages, more than are free, with the result at 80h"
abbrev pub NotInVain : Chip → Type 0
NotInVain c = 0 < c.regs.numbers.waiting → Waits (length (free c)) c.regs.numbers.waiting c.regs.numbers.result

pub not_in_vain : (n : ℕ) (c : Chip) → Fits n c → NotInVain c
not_in_vain n c w some = ⊎_elim (λ e. absurd (omega (arith, some, e))) (λ p. p) w.0.request

-- the step gives back the pages of packet k: the ledger enters it first
abbrev pub GivesBack : ℕ → Input → Chip → ℕ → Type 0
GivesBack n i c k = (rest : List Entry) × (entries_of i c (step_of n i c) ≡ returns k ∷ rest)

-- "be that a release command, remove-and-release or a good send with auto release": each that is done, on any chip.
module _ (n : ℕ) (c : Chip) where
  module _ (w : Width) (offset v : ℕ) (reached : register_at c.regs.numbers.bank offset ≡ COMMAND) (done : (step_of n (driver (write w offset v)) c).reply.number ≡ 0) where
    pub release_gives_back : low_byte v ≡ 0xa0 → GivesBack n (driver (write w offset v)) c c.regs.numbers.packet
    unfolding entries_of input_entries write_entries command_entries decode
    release_gives_back value = (answered c (step_of n (driver (write w offset v)) c).chip, rw (done, reached, value) refl)

    pub remove_gives_back : low_byte v ≡ 0x80 → GivesBack n (driver (write w offset v)) c (head_of c.pool.rx)
    unfolding entries_of input_entries write_entries command_entries decode
    remove_gives_back value = (answered c (step_of n (driver (write w offset v)) c).chip, rw (done, reached, value) refl)

  pub send_gives_back : (s : Send) (out : List ℕ) → (step_of n (sent s out) c).reply.number ≡ 0 → auto_release (good c.regs.sending.tcr s.outcome) c.regs ≡ true
      → GivesBack n (sent s out) c (head_of c.pool.tx)
  unfolding entries_of input_entries
  send_gives_back s out done released = (answered c (step_of n (sent s out) c).chip, rw (done, released) refl)

-- what is so of the chip d after a step by which packet k of c gives back enough pages
pub record GrantedAtOnce (c : Chip) (k : ℕ) (d : Chip) : Type 0 where
  -- "the result reads the granted number": the lowest that is unallocated once k has no pages
  pub number : d.regs.numbers.result ≡ lowest_number (freed k c)
  -- its pages are the lowest then free, and as many as were asked for
  pub pages : pages_at d d.regs.numbers.result ≡ take c.regs.numbers.waiting (free (freed k c))
  pub many : length (pages_at d d.regs.numbers.result) ≡ c.regs.numbers.waiting
  -- every other packet has what it had, and k nothing
  pub others : (j : ℕ) → (j ≡ d.regs.numbers.result → ⊥) → pages_at d j ≡ pages_at (freed k c) j
  -- nothing waits
  pub over : d.regs.numbers.waiting ≡ 0

-- and after one by which it gives back too few
pub record WaitsOn (c : Chip) (k : ℕ) (d : Chip) : Type 0 where
  pub waiting : d.regs.numbers.waiting ≡ c.regs.numbers.waiting
  pub unanswered : d.regs.numbers.result ≡ 0x80
  pub pages : d.pool.pages ≡ set c.pool.pages k []

-- how an allocation that waits fares in a step: result and request before and after it, and its entries
pub data Fares (before after : Held) (es : List Entry) : Type 0 where
  -- it waits on
  goes_on : after.waiting ≡ before.waiting → after.result ≡ before.result → Fares before after es
  -- it is granted, in a step that gives pages back
  granted : (k j : ℕ) → es ≡ returns k ∷ answers j ∷ [] → after.waiting ≡ 0 → after.result ≡ j → Fares before after es
  -- a new allocate command
  replaced : (m : ℕ) (rest : List Entry) → es ≡ asks m ∷ rest → Fares before after es
  -- a soft or MMU reset
  dropped : es ≡ just restarts → Fares before after es

-- what comes of an allocate command for m pages on the chip c, whatever waited before it
abbrev pub Replaced : Chip → ℕ → Held → Type 0
Replaced c m after =
    ((length (free c) < m) × (after.waiting ≡ m) × (after.result ≡ 0x80)) ⊎ ((m ≤ length (free c)) × (after.waiting ≡ 0) × (after.result ≡ lowest_number c))

pub released : {a b : Held} {k : ℕ} {es : List Entry} → Moves a b (returns k ∷ es) → (k < length a.pages) × Settles (without k a) b es
released (frees k r s) = (r, s)

-- Packet k without its pages: as many are free then as were free and as it had, and its own are among them.
module _ (n : ℕ) (c : Chip) (w : Fits n c) (k : ℕ) (in_range : k < length c.pool.pages) where
  -- of a chip of pages
  pub given_back_free : c.pool.layout ≡ paged → (p : ℕ) → member p (pages_at c k) ≡ true → IsFree (freed k c) p
  given_back_free e p m =
      let ls = c.pool.pages in
      let none : (j : ℕ) → member p (get_or (set ls k []) j []) ≡ true → ⊥ =
      λ j x. ⊎_elim (λ u. nobody p (sym (ap (member p) u.1) ∙ x)) (λ u. u.0 (w.0.pages.once j k p (sym (ap (member p) u.1) ∙ x) m)) (at_set ls k [] in_range j) in
      record {
        listed =
            subst (λ (l : Layout). member p (free_for l (set ls k [])) ≡ true) (sym e)
            (free_listed (length (set ls k [])) (set ls k []) p (omega (arith, subst (λ (l : Layout). p < page_numbers l n) e (w.0.pages.within k p m), length-set ls k [], w.0.count)) (owned_none p (set ls k []) none));
        unowned = λ j. if_not (member p (get_or (set ls k []) j [])) (none j);
      }

-- "Frames still take free pages under their old rule": no frame changes result or request, on any chip.
after_leaves : (v : Arrival) (f : Frame) (c : Chip) → (after v f c).regs.numbers ≡ c.regs.numbers
unfolding after
after_leaves stored f c = refl
after_leaves disabled f c = refl
after_leaves not_accepted f c = refl
after_leaves too_long f c = refl
after_leaves bad f c = refl
after_leaves no_room f c = refl

pub frames_leave_it : (n : ℕ) (f : Frame) (c : Chip) → (step_of n (frame f) c).chip.regs.numbers ≡ c.regs.numbers
unfolding serve arrive
frames_leave_it n f c =
    by_step c (λ (t : Turn). t.chip.regs.numbers ≡ c.regs.numbers) n (frame f) refl
    (pick (λ (s : Effect). s.chip.regs.numbers ≡ c.regs.numbers) (ltb (length f.bytes) 18) refl (after_leaves (verdict f c) f c))
