-- Numbers that go up by one: the pages of a strip.
use Rattle.std.specs.Prelude.{◌≡◌, refl, true, List, ◌∷◌, ℕ, zero, suc, ◌+◌, ◌≤◌, ◌<◌, length, get_or, take}
use Rattle.std.proofs.Common.{ap, ⊎_elim, arith}
use Rattle.rules.specs.Lists.{member, up_from}
use Rattle.rules.specs.WellFormed.{Above, Ascending}
use Rattle.lists.specs.Facts.{nobody, member_cases}

pub length_up : (x m : ℕ) → length (up_from x m) ≡ m
unfolding up_from
length_up x zero = refl
length_up x (suc m) = ap suc (length_up (suc x) m)

-- the first of them
pub take_up : (x m n : ℕ) → m ≤ n → take m (up_from x n) ≡ up_from x m
unfolding up_from
take_up x zero n h = refl
take_up x (suc m) zero h = absurd (omega arith)
take_up x (suc m) (suc n) h = ap (λ (l : List ℕ). x ∷ l) (take_up (suc x) m n (omega arith))

pub up_at : (x m i : ℕ) → i < m → get_or (up_from x m) i 0 ≡ x + i
unfolding up_from
up_at x zero i h = absurd (omega arith)
up_at x (suc m) zero h = omega arith
up_at x (suc m) (suc i) h = omega (arith, up_at (suc x) m i (omega arith))

pub member_up : (x m p : ℕ) → member p (up_from x m) ≡ true → (x ≤ p) × (p < x + m)
unfolding up_from
member_up x zero p e = nobody p e
member_up x (suc m) p e =
    ⊎_elim (λ a. (omega (arith, a), omega (arith, a))) (λ b. let h = member_up (suc x) m p b in (omega (arith, h.0), omega (arith, h.1))) (member_cases p x (up_from (suc x) m) e)

-- and of the first m of them
pub member_up_take : (x m n p : ℕ) → member p (take m (up_from x n)) ≡ true → (x ≤ p) × (p < x + m)
unfolding up_from
member_up_take x zero n p e = nobody p e
member_up_take x (suc m) zero p e = nobody p e
member_up_take x (suc m) (suc n) p e =
    ⊎_elim (λ a. (omega (arith, a), omega (arith, a))) (λ b. let h = member_up_take (suc x) m n p b in (omega (arith, h.0), omega (arith, h.1))) (member_cases p x (take m (up_from (suc x) n)) e)

above_up : (x y m : ℕ) → x < y → Above x (up_from y m)
unfolding up_from
above_up x y zero h = tt
above_up x y (suc m) h = (h, above_up y (suc y) m (omega arith))

pub ascending_up : (x m : ℕ) → Ascending (up_from x m)
unfolding up_from
ascending_up x zero = tt
ascending_up x (suc m) = above_up x (suc x) m (omega arith)
