-- What the rules say of lists: of packet numbers, of pages, of lists of pages.
use Rattle.std.specs.Prelude.{Bool, true, false, ◌||◌, List, [], ◌∷◌, ◌++◌, ℕ, zero, suc, ◌+◌, eqb, length}

-- is x in the list
unfoldable pub member : ℕ → List ℕ → Bool
member x [] = false
member x (y ∷ ys) = eqb x y || member x ys

-- has the list an entry
unfoldable pub some? : List ℕ → Bool
some? [] = false
some? (x ∷ xs) = true

-- is the page in one of the page lists
unfoldable pub owned : ℕ → List (List ℕ) → Bool
owned p [] = false
owned p (l ∷ ls) = member p l || owned p ls

-- x alone, unless the test holds
unfoldable pub unless : Bool → ℕ → List ℕ
unless true x = []
unless false x = x ∷ []

-- the pages below n that no page list has, in ascending order
unfoldable pub free_below : ℕ → List (List ℕ) → List ℕ
free_below zero ls = []
free_below (suc n) ls = free_below n ls ++ unless (owned n ls) n

-- how many pages the lists have
unfoldable pub total : List (List ℕ) → ℕ
total [] = 0
total (l ∷ ls) = length l + total ls

-- m numbers from x on, each one above the one before it
unfoldable pub up_from : ℕ → ℕ → List ℕ
up_from x zero = []
up_from x (suc m) = x ∷ up_from (suc x) m

-- the place of the first empty list, and the number of lists where there is none
unfoldable pub first_empty : List (List ℕ) → ℕ
first_empty [] = 0
first_empty ([] ∷ ls) = 0
first_empty ((p ∷ ps) ∷ ls) = suc (first_empty ls)
