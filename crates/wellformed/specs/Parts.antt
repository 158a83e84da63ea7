-- The two parts (document 02, W9): what code needs to know of a part's size n, and that the step of either part is the step of the part that the chip is.
use Rattle.std.specs.Prelude.{◌≡◌, refl, ℕ, ◌≤◌}
use Rattle.std.proofs.Common.{ap, ◌∙◌, inl, inr, arith}
use Rattle.rules.specs.Parts.{IsPart, part_of}
use Rattle.rules.specs.Chip.{Chip, size}
use Rattle.rules.specs.Step.{Input, serve, step_of, step}
use Rattle.wellformed.specs.Fit.{Fits}

-- A part has packets, and no more than document 01's.
pub part_some : {n : ℕ} → IsPart n → 18 ≤ n
part_some (inl e) = omega (arith, e)
part_some (inr e) = omega (arith, e)

pub part_few : {n : ℕ} → IsPart n → n ≤ 24
part_few (inl e) = omega (arith, e)
part_few (inr e) = omega (arith, e)

-- The part with its number of packets is itself.
pub part_of_lem : {n : ℕ} → IsPart n → part_of n ≡ n
unfolding part_of
part_of_lem (inl e) = rw e refl
part_of_lem (inr e) = rw e refl
