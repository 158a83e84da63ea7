-- A queue by its count: which is its head.
use mathlib.Core.Path.{◌≡◌, refl}
use mathlib.Core.List.{List, [], ◌∷◌}
use Prim.Native.Nat.{ℕ}
use native.Mathlib.Omega.{arith}
use lib.ListN.{length, get_or}
use Rattle.rules.specs.Registers.{head_of}

pub shows_none : (l : List ℕ) (n : ℕ) → n ≡ length l → n ≡ 0 → 0x80 ≡ head_of l
unfolding head_of
shows_none [] n e z = refl
shows_none (x ∷ xs) n e z = absurd (omega arith)

pub shows_head : (l : List ℕ) (n : ℕ) → n ≡ length l → (n ≡ 0 → ⊥) → get_or l 0 0 ≡ head_of l
unfolding head_of
shows_head [] n e z = absurd (z e)
shows_head (x ∷ xs) n e z = refl
