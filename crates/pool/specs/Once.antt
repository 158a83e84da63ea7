-- Of each change of the queues, and of the pool emptied, there is one result: two that meet its promise are equal.
use Rattle.std.specs.Prelude.{◌≡◌, List, [], ◌∷◌, ◌++◌, ℕ, ◌/◌, ◌%◌, length}
use Rattle.std.proofs.Common.{ap, ap₂, sym, ◌∙◌}
use Rattle.rules.specs.Chip.{Registers, Layout, paged, Pool, Chip}
use Rattle.sets.specs.Members.{set_of}
use Rattle.state.specs.View.{word, figures, pool_of}
use Rattle.state.specs.Promise.{QueuesIn}
use Rattle.state.specs.Stores.{Recounts}
use Rattle.state.specs.Only.{padded, queues_known}
use Rattle.state.proofs.Only.{words_once, one_state}
use Rattle.pool.specs.Queues.{Rejoins, EmptiedOf}

-- Figures that are right for queues, and the queues' bytes, are known from the pool and MIR.
module _ (w₁ q₁ w₂ q₂ : List ℕ) (x : QueuesIn (figures w₁) q₁) (y : QueuesIn (figures w₂) q₂) (mir : word w₁ 4 ≡ word w₂ 4) (e : pool_of paged (figures w₁) [] q₁ ≡ pool_of paged (figures w₂) [] q₂) where
  of : {A : Type 0} (h : Pool → A) → h (pool_of paged (figures w₁) [] q₁) ≡ h (pool_of paged (figures w₂) [] q₂)
  of h = ap h e

  pub figures_once : figures w₁ ≡ figures w₂
  figures_once =
      let rx = x.rx.many ∙ of (λ p. length p.rx) ∙ sym y.rx.many in
      let tx = x.tx.many ∙ of (λ p. length p.tx) ∙ sym y.tx.many in
      let done = x.completion.many ∙ of (λ p. length p.completion) ∙ sym y.completion.many in
      let rxLow = x.in_rx.lower ∙ of (λ p. set_of p.rx % 65536) ∙ sym y.in_rx.lower in
      let rxHigh = x.in_rx.upper ∙ of (λ p. set_of p.rx / 65536) ∙ sym y.in_rx.upper in
      let txLow = x.in_tx.lower ∙ of (λ p. set_of p.tx % 65536) ∙ sym y.in_tx.lower in
      let txHigh = x.in_tx.upper ∙ of (λ p. set_of p.tx / 65536) ∙ sym y.in_tx.upper in
      λ i. rx i ∷ tx i ∷ done i ∷ mir i ∷ rxLow i ∷ rxHigh i ∷ txLow i ∷ txHigh i ∷ []

  pub bytes_once : q₁ ≡ q₂
  bytes_once = queues_known (figures w₁) q₁ x ∙ of (λ p. padded p.rx ++ (padded p.tx ++ padded p.completion)) ∙ sym (queues_known (figures w₂) q₂ y)

-- the words and the queues' bytes
module _ {f : Pool → Pool} {w q w₁ q₁ w₂ q₂ : List ℕ} (a : Rejoins f w q w₁ q₁) (b : Rejoins f w q w₂ q₂) where
  pub rejoins_once : (w₁ ≡ w₂) × (q₁ ≡ q₂)
  rejoins_once =
      let mir = a.free ∙ sym b.free in
      let pool = a.pool paged [] ∙ sym (b.pool paged []) in (
        words_once a.kept b.kept (a.regs ∙ sym b.regs) (figures_once w₁ q₁ w₂ q₂ a.queues b.queues mir pool),
        bytes_once w₁ q₁ w₂ q₂ a.queues b.queues mir pool,
      )

-- the words, where figures are stored
pub recounts_once : {c w w₁ w₂ : List ℕ} → Recounts c w w₁ → Recounts c w w₂ → w₁ ≡ w₂
recounts_once a b = words_once a.kept b.kept (a.regs ∙ sym b.regs) (a.counted ∙ sym b.counted)

-- all three
pub emptied_once : {l : Layout} {n : ℕ} {w w₁ s₁ q₁ w₂ s₂ q₂ : List ℕ} → EmptiedOf l n w w₁ s₁ q₁ → EmptiedOf l n w w₂ s₂ q₂ → (w₁ ≡ w₂) × (s₁ ≡ s₂) × (q₁ ≡ q₂)
emptied_once a b =
    let chip = ap₂ {C = Chip} (λ (r : Registers) (p : Pool). record { regs = r; pool = p; memory = [] }) (a.regs ∙ sym b.regs) (a.pool ∙ sym b.pool) in
    let e = one_state a.sound b.sound chip in
    (e.0, e.1, e.2)
