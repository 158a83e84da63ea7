-- What a reset promises.
use Rattle.std.specs.Prelude.{◌≡◌, List, ◌++◌, ℕ, take, drop, replicate}
use Rattle.std.proofs.Common.{sym, ◌∙◌}
use Rattle.rules.specs.Chip.{Layout, paged, reset_registers}
use Rattle.rules.specs.Registers.{soft_reset}
use Rattle.state.specs.View.{registers_in, figures, view_of, Kept}
use Rattle.state.specs.Promise.{SoundOf}
use Rattle.state.proofs.Only.{words_once}

-- 0 in the place of every word but the three of the station address
abbrev pub zero_but : List ℕ → List ℕ
zero_but w = replicate 10 0 ++ (take 3 (drop 10 w) ++ replicate 19 0)

-- the words after a reset that keeps the station address and the link; the figures are 0, until they are reset with the pool
pub record WordsReset (w w' : List ℕ) : Type 0 where
  pub regs : registers_in w' ≡ reset_registers (registers_in w).receiving.station (registers_in w).link.up
  pub none : figures w' ≡ replicate 8 0
  pub kept : Kept w'

-- there is one
pub resets_once : {w w₁ w₂ : List ℕ} → WordsReset w w₁ → WordsReset w w₂ → w₁ ≡ w₂
resets_once a b = words_once a.kept b.kept (a.regs ∙ sym b.regs) (a.none ∙ sym b.none)

-- the state after a soft reset
pub record SoftResetsOf (l : Layout) (w s q w' s' q' : List ℕ) : Type 0 where
  pub chip : (mem : List ℕ) → view_of l w' s' q' mem ≡ soft_reset (view_of l w s q mem)
  pub sound : SoundOf l w' s' q'

abbrev pub SoftResets : List ℕ → List ℕ → List ℕ → List ℕ → List ℕ → List ℕ → Type 0
SoftResets = SoftResetsOf paged
