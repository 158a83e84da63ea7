-- What holds of every entry of a list.
use Rattle.std.specs.Prelude.{◌≡◌, Bool, true, List, [], ◌∷◌, ℕ, zero, suc, get_or}
use Rattle.std.proofs.Common.{⊎_elim}
use Rattle.rules.specs.Lists.{member}
use Rattle.lists.specs.Facts.{Decides, agrees, nobody, member_cases, member_first, member_later}

abbrev pub Each : {A : Type 0} → (A → Type 0) → List A → Type 0
Each P [] = Unit {0}
Each P (x ∷ xs) = P x × Each P xs

-- It holds at any place, where it holds of what stands for places past the end.
pub each_at : {A : Type 0} (P : A → Type 0) (l : List A) (i : ℕ) (d : A) → Each P l → P d → P (get_or l i d)
each_at P [] i d e h = h
each_at P (x ∷ xs) zero d e h = e.0
each_at P (x ∷ xs) (suc i) d e h = each_at P xs i d e.1 h

-- Of numbers: what holds of each holds of every member, and the other way.
module _ (P : ℕ → Type 0) where
  pub each_member : (l : List ℕ) → Each P l → (k : ℕ) → member k l ≡ true → P k
  each_member [] e k m = nobody k m
  each_member (x ∷ xs) e k m = ⊎_elim (λ q. rw q e.0) (each_member xs e.1 k) (member_cases k x xs m)

  pub member_each : (l : List ℕ) → ((k : ℕ) → member k l ≡ true → P k) → Each P l
  member_each [] h = tt
  member_each (x ∷ xs) h = (h x (member_first x xs), member_each xs (λ k m. h k (member_later k x xs m)))

  -- So a test of each decides what holds of every member.
  pub members : {b : Bool} (l : List ℕ) → Decides b (Each P l) → Decides b ((k : ℕ) → member k l ≡ true → P k)
  members l d = agrees d (each_member l) (member_each l)
