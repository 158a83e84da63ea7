-- The two parts (document 02, W9): what code needs to know of a part's size n, and that the step of either part is the step of the part that the chip is.
use Rattle.std.specs.Prelude.{◌≡◌, refl, ℕ, ◌≤◌}
use Rattle.std.proofs.Common.{ap, ◌∙◌, inl, inr, arith}
use Rattle.rules.specs.Parts.{IsPart, part_of}
use Rattle.rules.specs.Chip.{Chip, size}
use Rattle.rules.specs.Step.{Input, serve, step_of, step}
use Rattle.wellformed.specs.Fit.{Fits}
use Rattle.wellformed.proofs.Fit.{step_fit}
use Rattle.wellformed.specs.Parts.{part_of_lem}

module _ {n : ℕ} (i : Input) (c : Chip) where
  -- On a chip with as many packets the step is that part's,
  pub step_of_part : IsPart n → size c ≡ n → step i c ≡ step_of n i c
  step_of_part p e = ap (λ (k : ℕ). step_of (part_of k) i c) e ∙ ap (λ (k : ℕ). step_of k i c) (part_of_lem p)

  -- and on one that is well formed and has its memory it goes by its input.
  pub step_serves : IsPart n → Fits n c → step i c ≡ serve i c
  step_serves p w = step_of_part p w.0.count ∙ step_fit n i c w
