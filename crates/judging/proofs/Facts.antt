-- How many pages a frame needs.
use Rattle.std.proofs.Common.{ℕ, ◌≤◌, arith}
use Rattle.rules.specs.Receive.{count_of, pages_for}
use Rattle.wellformed.specs.Frames.{count_high}

-- One that is stored needs few.
pub few_pages : (n : ℕ) → n ≤ 1532 → pages_for (count_of n) ≤ 7
unfolding pages_for
few_pages n h = omega (arith, count_high n)
