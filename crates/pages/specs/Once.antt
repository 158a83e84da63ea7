-- Of each change of the page sets there is one result: two that meet its promise are equal.
use Rattle.std.specs.Prelude.{◌≡◌, List, [], ℕ, length}
use Rattle.std.proofs.Common.{ap, ap₂, sym, ◌∙◌}
use Rattle.rules.specs.Bits.{word_of}
use Rattle.rules.specs.Chip.{Layout, Chip, free_for}
use Rattle.state.specs.View.{word, figures, with_mir, lists_of, view_of}
use Rattle.state.specs.Pages.{numbers_length}
use Rattle.state.specs.Only.{numbers_known}
use Rattle.state.proofs.Only.{words_once}
use Rattle.pages.specs.Pages.{RepagesOf, AltersOf}

-- MIR, where the pages are the same
counted_once : (l : Layout) (s₁ s₂ : List ℕ) {x y : ℕ} → lists_of l s₁ ≡ lists_of l s₂ → x ≡ word_of (length s₁) (length (free_for l (lists_of l s₁))) → y ≡ word_of (length s₂) (length (free_for l (lists_of l s₂))) → x ≡ y
counted_once l s₁ s₂ e f g =
    f ∙ ap₂ (λ (n : ℕ) (ls : List (List ℕ)). word_of n (length (free_for l ls))) (sym (numbers_length l s₁) ∙ ap length e ∙ numbers_length l s₂) e ∙ sym g

-- the words and the page sets
module _ {l : Layout} {f : List (List ℕ) → List (List ℕ)} {w s w₁ s₁ w₂ s₂ : List ℕ} (a : RepagesOf l f w s w₁ s₁) (b : RepagesOf l f w s w₂ s₂) where
  same_pages : lists_of l s₁ ≡ lists_of l s₂
  same_pages = a.pages ∙ sym b.pages

  mir : word w₁ 4 ≡ word w₂ 4
  mir = counted_once l s₁ s₂ same_pages a.sets.free b.sets.free

  pub repages_once : (w₁ ≡ w₂) × (s₁ ≡ s₂)
  repages_once = (
    words_once a.kept b.kept (a.regs ∙ sym b.regs) (a.still ∙ ap (λ (x : ℕ). with_mir x (figures w)) mir ∙ sym b.still),
    numbers_known l s₁ s₂ a.sets.small b.sets.small same_pages,
  )

-- the words, registers among them, and the page sets
module _ {l : Layout} {f : Chip → Chip} {w s w₁ s₁ w₂ s₂ : List ℕ} (a : AltersOf l f w s w₁ s₁) (b : AltersOf l f w s w₂ s₂) where
  same_chip : view_of l w₁ s₁ [] [] ≡ view_of l w₂ s₂ [] []
  same_chip = a.chip [] [] ∙ sym (b.chip [] [])

  pub alters_once : (w₁ ≡ w₂) × (s₁ ≡ s₂)
  alters_once =
      let pages = ap (λ (c : Chip). c.pool.pages) same_chip in
      let mir = counted_once l s₁ s₂ pages a.sets.free b.sets.free in (
        words_once a.kept b.kept (ap (λ (c : Chip). c.regs) same_chip) (a.still ∙ ap (λ (x : ℕ). with_mir x (figures w)) mir ∙ sym b.still),
        numbers_known l s₁ s₂ a.sets.small b.sets.small pages,
      )
