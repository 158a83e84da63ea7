-- Demand 3, "Loading and reception do not disturb each other": a run of loads, "merged in any way with arriving frames, ends in the same registers, queues and memory with the same answers". On any chip, well formed or not.
use Rattle.std.specs.Prelude.{◌≡◌, Bool, true, false, ℕ, length, drop}
use Rattle.std.proofs.Math.Path.{refl, ap, sym}
use Rattle.std.proofs.Common.{ap₂, subst, ◌∙◌, arith}
use mathlib.Core.List.{List, [], ◌∷◌, ◌++◌, map}
use Rattle.std.proofs.Math.ListN.{get_or}
use Rattle.rules.specs.Chip.{Chip}
use Rattle.rules.specs.Answers.{Turn, refusal}
use Rattle.rules.specs.Tests.{fit}
use Rattle.rules.specs.Registers.{Access, access}
use Rattle.rules.specs.Receive.{Frame, arrive}
use Rattle.rules.specs.Step.{Input, driver, frame, serve, step_of, behind, run_of}
use Rattle.wellformed.specs.Fit.{Fits}
use Rattle.wellformed.proofs.Fit.{fit_decides, step_fit}
use Rattle.wellformed.proofs.Keeps.{keeps}
use Rattle.laws.specs.Exchange.{Exchanged}
use Rattle.laws.specs.Loads.{Loads}

-- the third list is the first two merged: each keeps its order
pub data Merge {A : Type 0} : List A → List A → List A → Type 0 where
  none : Merge [] [] []
  left : {x : A} {xs ys zs : List A} → Merge xs ys zs → Merge (x ∷ xs) ys (x ∷ zs)
  right : {y : A} {xs ys zs : List A} → Merge xs ys zs → Merge xs (y ∷ ys) (y ∷ zs)

-- of answers to a merge those to the first list, and those to the second
unfoldable pub lefts : {A R : Type 0} {xs ys zs : List A} → Merge xs ys zs → List R → List R
lefts none rs = []
lefts (left m) [] = []
lefts (left m) (r ∷ rs) = r ∷ lefts m rs
lefts (right m) [] = []
lefts (right m) (r ∷ rs) = lefts m rs

unfoldable pub rights : {A R : Type 0} {xs ys zs : List A} → Merge xs ys zs → List R → List R
rights none rs = []
rights (left m) [] = []
rights (left m) (r ∷ rs) = rights m rs
rights (right m) [] = []
rights (right m) (r ∷ rs) = r ∷ rights m rs

-- Where all answers are 16, so are those to each list.
pub lefts_alike : {xs ys zs : List Input} (m : Merge xs ys zs) → lefts m (map (λ i. refusal 16) zs) ≡ map (λ i. refusal 16) xs
unfolding lefts
lefts_alike none = refl
lefts_alike (left m) = ap (◌∷◌ (refusal 16)) (lefts_alike m)
lefts_alike (right m) = lefts_alike m

pub rights_alike : {xs ys zs : List Input} (m : Merge xs ys zs) → rights m (map (λ i. refusal 16) zs) ≡ map (λ i. refusal 16) ys
unfolding rights
rights_alike none = refl
rights_alike (left m) = rights_alike m
rights_alike (right m) = ap (◌∷◌ (refusal 16)) (rights_alike m)

-- two runs of merges of the same inputs, on a chip with n pages: the same chip, and the same answer to each input of the first list and to each of the second
pub record Alike (n : ℕ) (c : Chip) {xs ys zs others : List Input} (m : Merge xs ys zs) (k : Merge xs ys others) : Type 0 where
  pub chip : (run_of n zs c).chip ≡ (run_of n others c).chip
  pub accesses : lefts m (run_of n zs c).replies ≡ lefts k (run_of n others c).replies
  pub frames : rights m (run_of n zs c).replies ≡ rights k (run_of n others c).replies
