-- Laws of the rules' bits, over any number and any bit. (With a numeral for k, `omega` reads `bit k x` by itself once it is unfolded, but for bit 0: `bit_zero`.)
use Rattle.std.specs.Prelude.{◌≡◌, refl, Bool, false, ◌&&◌, ◌||◌}
use Rattle.std.proofs.Math.Path.{ap, sym}
use Rattle.std.proofs.Common.{◌∙◌, subst, div-one, mod-lt, pow-suc, mul_assoc, one-add, eq-eqb, pow_pos, pow-add, shr_lt}
use Rattle.std.proofs.Math.Bool.{true}
use Prim.Native.Nat.{ℕ, zero, suc, ◌+◌, ◌-◌, ◌*◌, ◌/◌, ◌%◌, ◌^◌, ◌≤◌, ◌<◌}
use Rattle.std.proofs.Math.Nat.{mul_comm, add-mul}
use native.Mathlib.Omega.{arith}
use Rattle.std.proofs.Math.Decide.{dec_le, ℕ_discrete}
use Rattle.std.proofs.Math.Arith.{digits_lt}
use Rattle.std.proofs.Math.Dec.{eqb}
use Rattle.std.proofs.Math.Pow.{split, high, low, shr-shr, mod-mod-pow, field}
use Rattle.std.proofs.lemmas.Nat.{mod-pow-add}
use Rattle.rules.specs.Bits.{bit, set_bit, clear_bit, share}

or_true : (b : Bool) → b || true ≡ true
or_true true = refl
or_true false = refl

-- Bit 0 is whether the number is odd.
pub bit_zero : (x : ℕ) → bit 0 x ≡ eqb (x % 2) 1
unfolding bit
bit_zero x = ap (λ (y : ℕ). eqb (y % 2) 1) (div-one x)

-- x with d in the place of bit k: what is above it, d, and what is below
with_bit : ℕ → ℕ → ℕ → ℕ
with_bit k d x = x / 2 ^ suc k * 2 ^ suc k + (d * 2 ^ k + x % 2 ^ k)

low_bits : (k x : ℕ) → x % 2 ^ suc k ≡ x / 2 ^ k % 2 * 2 ^ k + x % 2 ^ k
low_bits k x = rw (← one-add k) (mod-pow-add x 1 k)

cleared : (k x : ℕ) → clear_bit k x ≡ with_bit k 0 x
unfolding clear_bit with_bit
cleared k x = omega (arith, split x (suc k), low_bits k x)

filled : (k x : ℕ) → set_bit k x ≡ with_bit k 1 x
unfolding set_bit with_bit
filled k x = omega (arith, cleared k x)

module _ (k d x : ℕ) (h : d < 2) where
  low_fits : d * 2 ^ k + x % 2 ^ k < 2 ^ suc k
  low_fits = rw (pow-suc 2 k, mul_comm (2 ^ k) 2) (digits_lt h (mod-lt x (pow_pos k)))

  above : with_bit k d x / 2 ^ suc k ≡ x / 2 ^ suc k
  unfolding with_bit
  above = high (x / 2 ^ suc k) (suc k) low_fits

  joined : with_bit k d x ≡ (x / 2 ^ suc k * 2 + d) * 2 ^ k + x % 2 ^ k
  unfolding with_bit
  joined =
      let doubled : x / 2 ^ suc k * 2 ^ suc k ≡ x / 2 ^ suc k * 2 * 2 ^ k = rw (pow-suc 2 k, mul_comm (2 ^ k) 2) (sym (mul_assoc _ 2 (2 ^ k))) in
      omega (arith, doubled, add-mul (x / 2 ^ suc k * 2) d (2 ^ k))

  below : with_bit k d x % 2 ^ k ≡ x % 2 ^ k
  below = ap (λ (y : ℕ). y % 2 ^ k) joined ∙ low (x / 2 ^ suc k * 2 + d) k (mod-lt x (pow_pos k))

  there : with_bit k d x / 2 ^ k % 2 ≡ d
  there = ap (λ (y : ℕ). y / 2 ^ k % 2) joined ∙ ap (λ (y : ℕ). y % 2) (high (x / 2 ^ suc k * 2 + d) k (mod-lt x (pow_pos k))) ∙ omega arith

  within : (j : ℕ) → x < 2 ^ (j + suc k) → with_bit k d x < 2 ^ (j + suc k)
  unfolding with_bit
  within j f = rw (pow-add 2 j (suc k)) (digits_lt (shr_lt j (suc k) f) low_fits)

-- Numbers that agree above and below bit k agree in every other bit.
module _ (k j x y : ℕ) (a : y / 2 ^ suc k ≡ x / 2 ^ suc k) (b : y % 2 ^ k ≡ x % 2 ^ k) where
  higher : (i : ℕ) → j ≡ suc k + i → bit j y ≡ bit j x
  unfolding bit
  higher i e = rw (e, ← shr-shr x (suc k) i, ← shr-shr y (suc k) i, a)

  lower : (i : ℕ) → k ≡ i + (1 + j) → bit j y ≡ bit j x
  unfolding bit
  lower i e =
      ap (λ (n : ℕ). eqb n 1) (of_low i y ∙ ap (λ (n : ℕ). n % 2 ^ (1 + j) / 2 ^ j) (subst (λ (n : ℕ). y % 2 ^ n ≡ x % 2 ^ n) e b) ∙ sym (of_low i x))
    where
      of_low : (i n : ℕ) → n / 2 ^ j % 2 ≡ n % 2 ^ (i + (1 + j)) % 2 ^ (1 + j) / 2 ^ j
      of_low i n = sym (field n 1 j) ∙ ap (λ (m : ℕ). m / 2 ^ j) (sym (mod-mod-pow n i (1 + j)))

  beside : (j ≡ k → ⊥) → bit j y ≡ bit j x
  beside n = go (dec_le j k)
    where
      go : Dec (j ≤ k) → bit j y ≡ bit j x
      go (yes h) = lower (k - (1 + j)) (omega arith)
      go (no h) = higher (j - suc k) (omega arith)

-- What a set or cleared bit, and every other bit, reads afterwards; and the number stays within its width.
module _ (k x : ℕ) where
  pub bit_set : bit k (set_bit k x) ≡ true
  unfolding bit
  bit_set = rw (filled k x) (eq-eqb _ _ (there k 1 x (omega arith)))

  pub bit_clear : bit k (clear_bit k x) ≡ false
  unfolding bit
  bit_clear = rw (cleared k x) (rw (there k 0 x (omega arith)))

  pub bit_set_other : (j : ℕ) → (j ≡ k → ⊥) → bit j (set_bit k x) ≡ bit j x
  bit_set_other j n = rw (filled k x) (beside k j x _ (above k 1 x (omega arith)) (below k 1 x (omega arith)) n)

  pub bit_clear_other : (j : ℕ) → (j ≡ k → ⊥) → bit j (clear_bit k x) ≡ bit j x
  bit_clear_other j n = rw (cleared k x) (beside k j x _ (above k 0 x (omega arith)) (below k 0 x (omega arith)) n)

  pub set_lt : (w : ℕ) → k < w → x < 2 ^ w → set_bit k x < 2 ^ w
  set_lt w h f =
      let e : w ≡ w - suc k + suc k = omega arith in
      rw (filled k x, e) (within k 1 x (omega arith) (w - suc k) (rw e at f))

  pub clear_le : clear_bit k x ≤ x
  unfolding clear_bit
  clear_le = omega arith

  -- the bit's weight, where it is set
  pub weight_le : x / 2 ^ k % 2 * 2 ^ k ≤ x
  weight_le = omega (arith, split x (suc k), low_bits k x)

-- Numbers that have bit k in common share a bit.
module _ (x y : ℕ) where
  pub share_here : (n k : ℕ) → k < n → bit k x && bit k y ≡ true → share n x y ≡ true
  unfolding share
  share_here zero k h e = absurd (omega arith)
  share_here (suc n) k h e = go (share_here n k) (ℕ_discrete k n)
    where
      go : (k < n → bit k x && bit k y ≡ true → share n x y ≡ true) → Dec (k ≡ n) → share (suc n) x y ≡ true
      go f (yes d) = rw (← d, e) (or_true (share k x y))
      go f (no d) = let l : k < n = omega arith in rw (f l e)
