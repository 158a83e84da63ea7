-- A power of two that is below another has the smaller exponent.
use Rattle.std.proofs.Common.{ℕ, ◌^◌, ◌≤◌, ◌<◌, arith, pow_mono}
use Rattle.std.proofs.Math.Decide.{dec_le}

pub smaller : (k n : ℕ) → 2 ^ k < 2 ^ n → k < n
smaller k n h = go (dec_le n k)
  where
    go : Dec (n ≤ k) → k < n
    go (yes l) = absurd (omega (arith, pow_mono l, h))
    go (no m) = omega arith
