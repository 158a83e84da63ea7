-- Two numbers share a bit where their `and` is not 0.
use mathlib.Core.Path.{◌≡◌, refl, sym, ◌∙◌}
use mathlib.Core.Bool.{true, false, not, true≢false}
use Prim.Native.Nat.{ℕ, zero, suc, ◌^◌, ◌≤◌, ◌<◌}
use native.Mathlib.Nat.{lt_of_le_of_lt, lt_of_lt_of_le}
use native.Mathlib.Omega.{arith}
use native.Mathlib.Decide.{dec_le, ℕ_discrete}
use borrow.Author.Tests.{eq-eqb, ne_eqb}
use lib.Bits.{bit_and, and_le_l}
use lib.Dec.{eqb}
use lib.Pow.{pow_mono}
use Rattle.rules.specs.Bits.{bit, share}
use Rattle.bits.specs.Laws.{share_here}
use Rattle.sets.specs.Bits.{bit_and_lem, bit_past, bit_zero, some_bit}

module _ (x y : ℕ) where
  none_shared : (n : ℕ) → bit_and x y ≡ 0 → share n x y ≡ false
  unfolding share
  none_shared zero e = refl
  none_shared (suc n) e = rw (none_shared n e, ← bit_and_lem n x y, e) (bit_zero n)

  some_shared : (n : ℕ) → x < 2 ^ n → (bit_and x y ≡ 0 → ⊥) → share n x y ≡ true
  some_shared n h d =
      let w = some_bit n (bit_and x y) small (omega arith) in
      share_here x y n w.0 (below w.0 w.1 (dec_le n w.0)) (sym (bit_and_lem w.0 x y) ∙ w.1)
    where
      small : bit_and x y < 2 ^ n
      small = lt_of_le_of_lt (and_le_l x y) h

      below : (p : ℕ) → bit p (bit_and x y) ≡ true → Dec (n ≤ p) → p < n
      below p e (yes l) = absurd (true≢false (sym e ∙ bit_past p (bit_and x y) (lt_of_lt_of_le small (pow_mono l))))
      below p e (no l) = omega arith

  pub shared : (n : ℕ) → x < 2 ^ n → not (eqb (bit_and x y) 0) ≡ share n x y
  shared n h = go (ℕ_discrete (bit_and x y) 0)
    where
      go : Dec (bit_and x y ≡ 0) → not (eqb (bit_and x y) 0) ≡ share n x y
      go (yes e) = rw (eq-eqb _ _ e) (sym (none_shared n e))
      go (no d) = rw (ne_eqb _ _ d) (sym (some_shared n h d))
