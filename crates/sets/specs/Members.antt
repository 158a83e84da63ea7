-- A list of numbers as one number, bit k for k: its bits are the members of the list where none stands there twice, since the terms of the sum have no bit in common.
use Rattle.std.specs.Prelude.{◌≡◌, ℕ, zero, suc, ◌+◌, ◌/◌, ◌%◌, ◌^◌, ◌<◌, false, ◌||◌, List, [], ◌∷◌, ◌++◌, ◌==◌, nat_eq, refl}
use Rattle.std.proofs.Math.Path.{ap, sym}
use Rattle.std.proofs.Common.{ap₂, subst, ◌∙◌, pow-suc, arith, eq-eqb, ne_eqb, eqb-true, pow_pos}
use Rattle.std.proofs.Math.Decide.{ℕ_discrete}
use Rattle.std.specs.Int.Bits.{bit_or}
use Rattle.std.proofs.lemmas.Nat.{or_disjoint, or_lt}
use Rattle.std.proofs.Math.Pow.{pow-lt}
use Rattle.rules.specs.Bits.{bit}
use Rattle.rules.specs.Lists.{member}
use Rattle.rules.specs.WellFormed.{Distinct}
use Rattle.lists.specs.Each.{Each}
use Rattle.sets.specs.Bits.{bit_low, bit_half, bit_zero, bit_or_lem}
use Rattle.sets.specs.Good.{and_none}

-- the set of a list: the sum of 2 ^ k
unfoldable pub set_of : List ℕ → ℕ
set_of [] = 0
set_of (k ∷ ks) = 2 ^ k + set_of ks

-- 2 ^ p has bit p and no other.
pub bit_power : (k p : ℕ) → bit k (2 ^ p) ≡ (k == p)
unfolding bit
bit_power zero zero = refl
bit_power zero (suc p) =
    let e = pow-suc 2 p in
    let even : 2 ^ suc p % 2 ≡ 0 = omega arith in
    bit_low (2 ^ suc p) ∙ ap (λ (x : ℕ). nat_eq x 1) even ∙ sym (ne_eqb 0 (suc p) (λ z. omega (arith, z)))
bit_power (suc k) zero = sym (bit_half k 1) ∙ bit_zero k ∙ sym (ne_eqb (suc k) 0 (λ z. omega (arith, z)))
bit_power (suc k) (suc p) =
    let e = pow-suc 2 p in
    let half : 2 ^ suc p / 2 ≡ 2 ^ p = omega arith in
    sym (bit_half k (2 ^ suc p)) ∙ ap (bit k) half ∙ bit_power k p ∙ on (ℕ_discrete k p)
  where
    on : Dec (k ≡ p) → (k == p) ≡ (suc k == suc p)
    on (yes e) = eq-eqb k p e ∙ sym (eq-eqb (suc k) (suc p) (ap suc e))
    on (no n) = ne_eqb k p n ∙ sym (ne_eqb (suc k) (suc p) (λ e. n (omega (arith, e))))

-- The bits of the sum are its terms: a number that is in no later term has no bit in common with them.
module _ (p : ℕ) (ps : List ℕ) (new : member p ps ≡ false) (h : (k : ℕ) → bit k (set_of ps) ≡ member k ps) where
  sum_or : set_of (p ∷ ps) ≡ bit_or (2 ^ p) (set_of ps)
  unfolding set_of
  sum_or =
      sym (or_disjoint (2 ^ p) (set_of ps)
      (and_none (suc p) (2 ^ p) (set_of ps) (pow-lt (omega arith)) (λ q b. h q ∙ ap (λ (x : ℕ). member x ps) (eqb-true q p (sym (bit_power q p) ∙ b)) ∙ new)))

pub set_members : (l : List ℕ) → Distinct l → (k : ℕ) → bit k (set_of l) ≡ member k l
unfolding set_of member
set_members [] d k = bit_zero k
set_members (p ∷ ps) d k =
    ap (bit k) (sum_or p ps d.0 (set_members ps d.1)) ∙ bit_or_lem k (2 ^ p) (set_of ps) ∙ ap₂ ◌||◌ (bit_power k p) (set_members ps d.1 k)

pub set_small : (n : ℕ) (l : List ℕ) → Distinct l → Each (λ p. p < n) l → set_of l < 2 ^ n
unfolding set_of
set_small n [] d h = pow_pos n
set_small n (p ∷ ps) d h =
    subst (λ (x : ℕ). x < 2 ^ n) (sym (sum_or p ps d.0 (set_members ps d.1))) (or_lt n (2 ^ p) (set_of ps) (pow-lt h.0) (set_small n ps d.1 h.1))

-- One more at the end, and the first one less.
pub set_joined : (l : List ℕ) (k : ℕ) → set_of (l ++ (k ∷ [])) ≡ set_of (k ∷ l)
unfolding set_of
set_joined [] k = refl
set_joined (x ∷ xs) k = omega (arith, set_joined xs k)

pub set_first : (k : ℕ) (l : List ℕ) → set_of (k ∷ l) ≡ 2 ^ k + set_of l
unfolding set_of
set_first k l = refl
