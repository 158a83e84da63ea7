-- Pages that are given back, and an allocation that may wait for them: once it is settled the chip is well formed again.
use Rattle.std.specs.Prelude.{◌≡◌, refl, true, false, ℕ, ◌*◌, ◌≤◌, ◌<◌, length}
use Rattle.std.proofs.Common.{sym, ◌∙◌, true≢false, inl, inr, ⊎_elim, arith}
use Rattle.std.proofs.Math.Decide.{dec_le}
use Rattle.rules.specs.Lists.{member}
use Rattle.rules.specs.Chip.{Numbers, Chip, page_numbers, free}
use Rattle.rules.specs.WellFormed.{GoodRequest, Clauses, FormedAt}
use Rattle.rules.specs.Mmu.{grant, due, settle, freed, give_back}
use Rattle.lists.specs.Facts.{if_not, Decides, ◌and◌, lt_decides, le_decides}
use Rattle.wellformed.specs.Cases.{by_settle}
use Rattle.wellformed.specs.Fit.{Fits}
use Rattle.wellformed.specs.Pool.{made_free, number_free, given, with_result, beside}

-- An allocation is due exactly where it waits and as many pages are free.
pub due_decides : (c : Chip) → Decides (due c) ((0 < c.regs.numbers.waiting) × (c.regs.numbers.waiting ≤ length (free c)))
unfolding due
due_decides c = lt_decides 0 c.regs.numbers.waiting and le_decides c.regs.numbers.waiting (length (free c))

pub not_due : (c : Chip) → due c ≡ false → 0 < c.regs.numbers.waiting → length (free c) < c.regs.numbers.waiting
not_due c e some = go (dec_le c.regs.numbers.waiting (length (free c)))
  where
    go : Dec (c.regs.numbers.waiting ≤ length (free c)) → length (free c) < c.regs.numbers.waiting
    go (yes h) = absurd (true≢false (sym ((due_decides c).complete (some, h)) ∙ e))
    go (no h) = omega arith

-- What is due is granted, and else all stays.
pub settle_now : (c : Chip) → 0 < c.regs.numbers.waiting → c.regs.numbers.waiting ≤ length (free c) → settle c ≡ grant c.regs.numbers.waiting c
unfolding settle
settle_now c some enough = rw ((due_decides c).complete (some, enough))

pub settle_none : (c : Chip) → c.regs.numbers.waiting ≡ 0 → settle c ≡ c
unfolding settle
settle_none c none = rw (if_not (due c) (λ e. omega (arith, none, ((due_decides c).sound e).0)))

pub settle_later : (c : Chip) → length (free c) < c.regs.numbers.waiting → settle c ≡ c
unfolding settle
settle_later c short = rw (if_not (due c) (λ e. omega (arith, short, ((due_decides c).sound e).1)))

-- the numbers where nothing waits
abbrev pub unasked : Numbers → Numbers
unasked r = record { bank = r.bank; packet = r.packet; result = r.result; waiting = 0 }

-- What waits is for at most 8 pages.
pub request_few : (r : Numbers) {free_pages : ℕ} → GoodRequest free_pages r → r.waiting ≤ 8
request_few r g = ⊎_elim (λ e. omega (arith, e)) (λ p. p.few) g

-- A chip that would be well formed if nothing waited, and what waits was good where other pages were free.
module _ {n : ℕ} (c : Chip) (w : Clauses n (unasked c.regs.numbers) c.pool) {before : ℕ} (asked : GoodRequest before c.regs.numbers) where
  abbrev waiting : ℕ
  waiting = c.regs.numbers.waiting
