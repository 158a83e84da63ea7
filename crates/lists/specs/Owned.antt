-- Which list has a page.
use Rattle.std.specs.Prelude.{◌≡◌, refl, true, false, List, [], ◌∷◌, ℕ, zero, suc, get_or}
use Rattle.rules.specs.Lists.{member, owned}
use Rattle.lists.specs.Facts.{if_not, or_true}

-- A page that no list has, list by list.
pub owned_none : (p : ℕ) (ls : List (List ℕ)) → ((i : ℕ) → member p (get_or ls i []) ≡ true → ⊥) → owned p ls ≡ false
unfolding owned
owned_none p [] h = refl
owned_none p (l ∷ ls) h = rw (if_not (member p l) (h 0)) (owned_none p ls (λ i. h (suc i)))

-- A page that a list has is owned.
pub owned_in : (p : ℕ) (ls : List (List ℕ)) (i : ℕ) → member p (get_or ls i []) ≡ true → owned p ls ≡ true
unfolding owned member
owned_in p [] i m = m
owned_in p (l ∷ ls) zero m = rw m
owned_in p (l ∷ ls) (suc i) m = or_true (member p l) (owned_in p ls i m)
