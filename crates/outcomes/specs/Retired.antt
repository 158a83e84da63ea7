-- What becomes of the packet that was sent, in both layouts.
use Rattle.std.specs.Prelude.{◌≡◌, Bool, true, List, [], ℕ}
use Rattle.std.proofs.Common.{sym, ◌∙◌}
use Rattle.rules.specs.Chip.{Layout, paged}
use Rattle.rules.specs.Mmu.{give_back}
use Rattle.rules.specs.Send.{retire}
use Rattle.state.specs.View.{figures, view_of}
use Rattle.state.specs.Promise.{QueuesIn, SoundOf}
use Rattle.state.proofs.Only.{one_state}
use Rattle.pages.specs.Pages.{AltersOf, alters_sound}

-- packet k is released, or joins completion
pub record RetiresOf (l : Layout) (released : Bool) (k : ℕ) (w s q w' s' q' : List ℕ) : Type 0 where
  pub chip : (mem : List ℕ) → view_of l w' s' q' mem ≡ retire released k (view_of l w s q mem)
  pub sound : SoundOf l w' s' q'

abbrev pub Retires : Bool → ℕ → List ℕ → List ℕ → List ℕ → List ℕ → List ℕ → List ℕ → Type 0
Retires = RetiresOf paged

-- there is one
pub retires_once : {l : Layout} {released : Bool} {k : ℕ} {w s q w₁ s₁ q₁ w₂ s₂ q₂ : List ℕ} → RetiresOf l released k w s q w₁ s₁ q₁ → RetiresOf l released k w s q w₂ s₂ q₂ → (w₁ ≡ w₂) × (s₁ ≡ s₂) × (q₁ ≡ q₂)
retires_once a b = let e = one_state a.sound b.sound (a.chip [] ∙ sym (b.chip [])) in (e.0, e.1, e.2)

-- The packet's pages are given back, and the queues stay.
pub gives_back : {l : Layout} {released : Bool} {k : ℕ} {w s q w' s' : List ℕ} → released ≡ true → QueuesIn (figures w) q → AltersOf l (give_back k) w s w' s' → RetiresOf l released k w s q w' s' q
gives_back {q = q} e o a = rw e (record { chip = a.chip q; sound = alters_sound a q o })
