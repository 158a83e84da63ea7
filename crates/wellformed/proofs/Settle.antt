-- Pages that are given back, and an allocation that may wait for them: once it is settled the chip is well formed again.
use Rattle.std.specs.Prelude.{◌≡◌, refl, true, false, ℕ, ◌*◌, ◌≤◌, ◌<◌, length}
use Rattle.std.proofs.Common.{sym, ◌∙◌, true≢false, inl, inr, ⊎_elim, arith}
use Rattle.std.proofs.Math.Decide.{dec_le}
use Rattle.rules.specs.Lists.{member}
use Rattle.rules.specs.Chip.{Numbers, Chip, page_numbers, free}
use Rattle.rules.specs.WellFormed.{GoodRequest, Clauses, FormedAt}
use Rattle.rules.specs.Mmu.{grant, due, settle, freed, give_back}
use Rattle.lists.specs.Facts.{if_not, Decides, ◌and◌, lt_decides, le_decides}
use Rattle.wellformed.specs.Cases.{by_settle}
use Rattle.wellformed.specs.Fit.{Fits}
use Rattle.wellformed.specs.Pool.{made_free, number_free, given, with_result, beside}
use Rattle.wellformed.specs.Settle.{due_decides, not_due, unasked, request_few}

-- A chip that would be well formed if nothing waited, and what waits was good where other pages were free.
module _ {n : ℕ} (c : Chip) (w : Clauses n (unasked c.regs.numbers) c.pool) {before : ℕ} (asked : GoodRequest before c.regs.numbers) where
  abbrev waiting : ℕ
  waiting = c.regs.numbers.waiting

  granted : 0 < waiting → waiting ≤ length (free c) → FormedAt n (grant waiting c)
  granted some enough =
      beside (given w waiting (omega (arith, some)) (request_few c.regs.numbers asked) enough) (with_result w.numbers _ (inl (number_free w (omega (arith, some, enough)))) 0) (inl refl)

  waits_on : due c ≡ false → FormedAt n c
  waits_on e =
      beside w (with_result w.numbers c.regs.numbers.result w.numbers.result_good waiting)
      (⊎_elim (λ none. inl none) (λ p. inr (record { few = p.few; short = omega (arith, not_due c e (omega (arith, p.short))); unanswered = p.unanswered })) asked)

  pub settled : FormedAt n (settle c)
  settled = by_settle (FormedAt n) c (λ e. let d = (due_decides c).sound e in granted d.0 d.1) waits_on

-- A packet in neither queue gives its pages back.
pub given_back : (n : ℕ) (c : Chip) → Fits n c → (k : ℕ) → k < n → (member k c.pool.rx ≡ true → ⊥) → (member k c.pool.tx ≡ true → ⊥) → Fits n (give_back k c)
given_back n c w k h r t =
    let none = beside w.0 (with_result w.0.numbers c.regs.numbers.result w.0.numbers.result_good 0) (inl refl) in (
      settled (freed k c) (made_free none refl k h r t) w.0.request,
      by_settle (λ x. length x.memory ≡ 256 * page_numbers x.pool.layout n) (freed k c) (λ e. w.1) (λ e. w.1),
    )
