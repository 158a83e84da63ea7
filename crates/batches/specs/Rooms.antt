-- The room that lines take.
use Rattle.std.specs.Prelude.{◌≡◌, refl, Bool, true, false, ℕ, ◌+◌, ◌≤◌}
use Rattle.std.proofs.Common.{arith}
use Rattle.batches.specs.Batch.{widest, room_for}

-- The room for no line, for one more, and for fewer.
pub room_none : (w : Bool) → room_for w 0 ≡ 10
unfolding room_for
room_none true = refl
room_none false = refl

pub room_more : (w : Bool) (k : ℕ) → room_for w (k + 1) ≡ room_for w k + widest w
unfolding room_for
room_more true k = omega arith
room_more false k = omega arith

pub room_less : (w : Bool) {k n : ℕ} → k ≤ n → room_for w k ≤ room_for w n
unfolding room_for
room_less true h = omega arith
room_less false h = omega arith

pub room_within : (w : Bool) {k n m : ℕ} → k ≤ n → room_for w n ≤ m → room_for w k ≤ m
room_within w h l = omega (arith, room_less w h)
