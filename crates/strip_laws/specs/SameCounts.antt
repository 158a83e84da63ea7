-- Two chips whose packets have as many pages each: the same packets are allocated, the same number comes next, and as many pages are free, whatever the layouts.
use Rattle.std.specs.Prelude.{◌≡◌, refl, List, [], ◌∷◌, ℕ, suc, ◌<◌, length, get_or, set, replicate}
use Rattle.std.proofs.Common.{ap, ⊎_elim, arith}
use Rattle.rules.specs.Lists.{some?, total, first_empty}
use Rattle.rules.specs.Chip.{Layout, free_for}
use Rattle.wellformed.specs.Pages.{at_set}
use Rattle.wellformed.specs.Layouts.{GoodLists, free_total}

-- each packet has as many pages in the one as in the other
abbrev pub SameCounts : List (List ℕ) → List (List ℕ) → Type 0
SameCounts ls others = (k : ℕ) → length (get_or others k []) ≡ length (get_or ls k [])

some_alike : (l other : List ℕ) → length other ≡ length l → some? other ≡ some? l
unfolding some?
some_alike [] [] e = refl
some_alike [] (y ∷ ys) e = absurd (omega arith)
some_alike (x ∷ xs) [] e = absurd (omega arith)
some_alike (x ∷ xs) (y ∷ ys) e = refl

-- So the same are allocated.
pub allocated_alike : (ls others : List (List ℕ)) → SameCounts ls others → (k : ℕ) → some? (get_or others k []) ≡ some? (get_or ls k [])
allocated_alike ls others s k = some_alike (get_or ls k []) (get_or others k []) (s k)

total_alike : (ls others : List (List ℕ)) → length others ≡ length ls → SameCounts ls others → total others ≡ total ls
unfolding total
total_alike [] [] e s = refl
total_alike [] (y ∷ ys) e s = absurd (omega arith)
total_alike (x ∷ xs) [] e s = absurd (omega arith)
total_alike (x ∷ xs) (y ∷ ys) e s = omega (arith, s 0, total_alike xs ys (omega arith) (λ k. s (suc k)))

-- The lowest unallocated number is the same.
pub first_alike : (ls others : List (List ℕ)) → length others ≡ length ls → SameCounts ls others → first_empty others ≡ first_empty ls
unfolding first_empty
first_alike [] [] e s = refl
first_alike [] (y ∷ ys) e s = absurd (omega arith)
first_alike (x ∷ xs) [] e s = absurd (omega arith)
first_alike ([] ∷ xs) ([] ∷ ys) e s = refl
first_alike ([] ∷ xs) ((q ∷ qs) ∷ ys) e s = absurd (omega (arith, s 0))
first_alike ((p ∷ ps) ∷ xs) ([] ∷ ys) e s = absurd (omega (arith, s 0))
first_alike ((p ∷ ps) ∷ xs) ((q ∷ qs) ∷ ys) e s = ap suc (first_alike xs ys (omega arith) (λ k. s (suc k)))

-- As many pages are free.
pub free_alike : (p q : Layout) (n : ℕ) (ls others : List (List ℕ)) → GoodLists p n ls → GoodLists q n others → SameCounts ls others → length (free_for q others) ≡ length (free_for p ls)
free_alike p q n ls others g h s =
    omega (arith, free_total p n ls g, free_total q n others h, total_alike ls others (omega (arith, g.count, h.count)) s)

-- One packet gets as many pages in both; and none has any.
pub set_alike : (ls others : List (List ℕ)) → SameCounts ls others → (k : ℕ) → k < length ls → k < length others → (l other : List ℕ) → length other ≡ length l
    → SameCounts (set ls k l) (set others k other)
set_alike ls others s k h h' l other e j =
    ⊎_elim (λ u. ⊎_elim (λ v. rw (u.1, v.1) e) (λ v. absurd (v.0 u.0)) (at_set others k other h' j))
    (λ u. ⊎_elim (λ v. absurd (u.0 v.0)) (λ v. rw (u.1, v.1) (s j)) (at_set others k other h' j)) (at_set ls k l h j)

pub none_alike : (n : ℕ) → SameCounts (replicate n []) (replicate n [])
none_alike n k = refl
