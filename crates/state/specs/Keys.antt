-- A `match` on a number whose arms have many keys: a fact for each key, and what is left for the last arm as one computed test.
use Rattle.std.specs.Prelude.{◌≡◌, refl, Bool, true, false, ◌&&◌, ◌||◌, List, [], ◌∷◌, ℕ, zero, suc, ◌<◌, ltb}
use Rattle.std.proofs.Common.{sym, subst, inl, inr, arith, ne_eqb, ltb-true}
use types.Run.{OneOf}
use Rattle.rules.specs.Lists.{member}
use Rattle.rules.specs.Tests.{all_below}

-- what is to be shown of each key, and then Q
abbrev pub ForEach : (ℕ → Type 0) → List ℕ → Type 0 → Type 0
ForEach P [] Q = Q
ForEach P (k ∷ ks) Q = P k → ForEach P ks Q

done : (P : ℕ → Type 0) (ks : List ℕ) {Q : Type 0} → Q → ForEach P ks Q
done P [] q = q
done P (k ∷ ks) q = λ p. done P ks q

-- what holds of each key holds of the number
pub by_key : (P : ℕ → Type 0) (ks : List ℕ) (x : ℕ) → OneOf ks x → ForEach P ks (P x)
by_key P [] x o = absurd o
by_key P (k ∷ []) x o = λ p. subst P (sym o) p
by_key P (k ∷ j ∷ ks) x (inl e) = λ p. done P (j ∷ ks) (subst P (sym e) p)
by_key P (k ∷ j ∷ ks) x (inr o) = λ p. by_key P (j ∷ ks) x o

-- no key is the number
pub no_key : (ks : List ℕ) (x : ℕ) → (OneOf ks x → ⊥) → member x ks ≡ false
unfolding member
no_key [] x n = refl
no_key (k ∷ []) x n = rw (ne_eqb x k n)
no_key (k ∷ j ∷ ks) x n = rw (ne_eqb x k (λ e. n (inl e))) (no_key (j ∷ ks) x (λ o. n (inr o)))

-- a test that every number below n passes
unfoldable pub passed : (ℕ → Bool) → ℕ → Bool
passed f zero = true
passed f (suc n) = f 0 && passed (λ (k : ℕ). f (suc k)) n

pub left_true : (a b : Bool) → a && b ≡ true → a ≡ true
left_true true b e = refl
left_true false b e = e

pub right_true : (a b : Bool) → a && b ≡ true → b ≡ true
right_true true b e = e
right_true false b e = absurd (let y : ◌≡◌ {A = ℕ} 0 1 = cc in omega arith)

pub passes : (f : ℕ → Bool) (n : ℕ) → passed f n ≡ true → (k : ℕ) → k < n → f k ≡ true
unfolding passed
passes f zero e k h = absurd (omega arith)
passes f (suc n) e zero h = left_true (f 0) _ e
passes f (suc n) e (suc k) h = passes (λ (j : ℕ). f (suc j)) n (right_true (f 0) _ e) k (omega arith)

-- keys that are all below n
less : (n k : ℕ) (b : Bool) → ltb k n && b ≡ true → k < n
less n k b e = ltb-true _ _ (left_true (ltb k n) b e)

pub key_below : (n : ℕ) (ks : List ℕ) (x : ℕ) → all_below n ks ≡ true → OneOf ks x → x < n
unfolding all_below
key_below n [] x e o = absurd o
key_below n (k ∷ []) x e o = subst (λ (y : ℕ). y < n) (sym o) (less n k true e)
key_below n (k ∷ j ∷ ks) x e (inl o) = subst (λ (y : ℕ). y < n) (sym o) (less n k _ e)
key_below n (k ∷ j ∷ ks) x e (inr o) = key_below n (j ∷ ks) x (right_true (ltb k n) _ e) o

-- no arm has the number as a key: what a `match` says in its last arm, the arms from the last to the first
abbrev pub Left : List (List ℕ) → ℕ → Type 0
Left [] x = Unit {0}
Left (ks ∷ arms) x = Left arms x × (OneOf ks x → ⊥)

unfoldable pub in_some : ℕ → List (List ℕ) → Bool
in_some x [] = false
in_some x (ks ∷ arms) = member x ks || in_some x arms

in_none : (arms : List (List ℕ)) (x : ℕ) → Left arms x → in_some x arms ≡ false
unfolding in_some
in_none [] x n = refl
in_none (ks ∷ arms) x n = rw (no_key ks x n.1) (in_none arms x n.0)

-- a test that every number below n passes unless it is a key
pub left_over : (f : ℕ → Bool) (arms : List (List ℕ)) (n : ℕ) → passed (λ (k : ℕ). in_some k arms || f k) n ≡ true → (x : ℕ) → x < n → Left arms x → f x ≡ true
left_over f arms n e x h l = rw (in_none arms x l) at (passes (λ (k : ℕ). in_some k arms || f k) n e x h)
