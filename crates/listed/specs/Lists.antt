-- A page list as a row and as a number, and that both give it back where it ascends and has pages below n, which is at most 32: the number's bits are
-- the list's members, and lists that ascend and have the same members are the same. And the empty places behind the lists.
use Rattle.std.specs.Prelude.{◌≡◌, refl, true, false, ◌||◌, ℕ, zero, suc, ◌-◌, ◌^◌, ◌≤◌, ◌<◌, eqb, length, get_or, replicate}
use Rattle.std.proofs.Common.{ap, ap₂, sym, subst, ◌∙◌, ⊎_elim, arith, ne_eqb, pow_mono}
use mathlib.Core.List.{List, [], ◌∷◌, ◌++◌, map, map-map}
use Rattle.std.proofs.Math.Decide.{ℕ_discrete}
use Rattle.std.proofs.Math.ListN.{get_or-map}
use Rattle.rules.specs.Lists.{member}
use Rattle.rules.specs.WellFormed.{Above, Ascending, GoodPages}
use Rattle.lists.specs.Facts.{if_not, nobody, member_cases, member_first}
use Rattle.lists.specs.Each.{Each, member_each}
use Rattle.wellformed.specs.Count.{above_least, ascending_distinct}
use Rattle.sets.specs.Views as sets
use Rattle.sets.specs.Pages.{pages_ascend, pages_none, member_pages}
use Rattle.sets.specs.Members.{set_of, set_members, set_small}
use Rattle.sets.specs.declared.Page.{Page}
use Rattle.listed.specs.Record.{page, used, row_of, map_of}

-- Lists that ascend and have the same members are the same.
not_less : (x y : ℕ) (ys : List ℕ) → Above y ys → member x (y ∷ ys) ≡ true → y ≤ x
not_less x y ys a m = ⊎_elim (λ e. omega (arith, e)) (λ k. omega (arith, above_least y x ys a k)) (member_cases x y ys m)

same_rest : (x : ℕ) (xs ys : List ℕ) → Above x xs → Above x ys → ((p : ℕ) → member p (x ∷ xs) ≡ member p (x ∷ ys)) → (p : ℕ) → member p xs ≡ member p ys
unfolding member
same_rest x xs ys a b f p = go (ℕ_discrete p x) (f p)
  where
    none : (l : List ℕ) → Above x l → p ≡ x → member p l ≡ false
    none l c e = if_not (member p l) (λ m. omega (arith, above_least x p l c m))

    go : Dec (p ≡ x) → eqb p x || member p xs ≡ eqb p x || member p ys → member p xs ≡ member p ys
    go (yes e) g = none xs a e ∙ sym (none ys b e)
    go (no n) g = rw (ne_eqb p x n) at g

above_ascends : (x : ℕ) (l : List ℕ) → Above x l → Ascending l
above_ascends x [] a = tt
above_ascends x (y ∷ ys) a = a.1

same_members : (l m : List ℕ) → Ascending l → Ascending m → ((p : ℕ) → member p l ≡ member p m) → l ≡ m
same_members [] [] a b f = refl
same_members [] (y ∷ ys) a b f = nobody y (f y ∙ member_first y ys)
same_members (x ∷ xs) [] a b f = nobody x (sym (f x) ∙ member_first x xs)
same_members (x ∷ xs) (y ∷ ys) a b f =
    let e : x ≡ y = omega (arith, not_less x y ys b (sym (f x) ∙ member_first x xs), not_less y x xs a (f y ∙ member_first y ys)) in
    let b' = subst (λ (z : ℕ). Above z ys) (sym e) b in
    ap₂ ◌∷◌ e (same_members xs ys (above_ascends x xs a) (above_ascends y ys b) (same_rest x xs ys a b' (λ p. f p ∙ ap (λ (z : ℕ). member p (z ∷ ys)) (sym e))))

-- So a set of pages below n has the pages that it was made of, and fits in 32 bits;
module _ {n : ℕ} (few : n ≤ 32) (l : List ℕ) (up : Ascending l) (low : (p : ℕ) → member p l ≡ true → p < n) where
  pub listed_small : set_of l < 2 ^ 32
  listed_small = let m : 2 ^ n ≤ 2 ^ 32 = pow_mono few in omega (arith, m, set_small n l (ascending_distinct l up) (member_each (λ p. p < n) l low))

  pub listed_set : sets.pages_of (set_of l) ≡ l
  listed_set =
      same_members (sets.pages_of (set_of l)) l (pages_ascend (set_of l)) up
      (λ p. member_pages (set_of l) p listed_small ∙ set_members l (ascending_distinct l up) p)

-- and a row of such pages, none of which is 255, too.
unused : (k : ℕ) → used (replicate k (page 255)) ≡ []
unfolding used
unused zero = refl
unused (suc k) = refl

module _ {n : ℕ} (few : n ≤ 32) where
  row_used : (l : List ℕ) (k : ℕ) → Each (λ p. p < n) l → used (map page l ++ replicate k (page 255)) ≡ l
  unfolding used
  row_used [] k h = unused k
  row_used (p ∷ ps) k h = rw (ne_eqb p 255 (λ e. omega (arith, few, h.0, e))) (ap (λ (t : List ℕ). p ∷ t) (row_used ps k h.1))

  pub listed_row : (l : List ℕ) → ((p : ℕ) → member p l ≡ true → p < n) → used (row_of l) ≡ l
  listed_row l low = row_used l (8 - length l) (member_each (λ p. p < n) l low)

-- The same of all lists.
each_same : (f : List ℕ → List ℕ) (ls : List (List ℕ)) → ((i : ℕ) → f (get_or ls i []) ≡ get_or ls i []) → map f ls ≡ ls
each_same f [] h = refl
each_same f (l ∷ ls) h = ap₂ ◌∷◌ (h 0) (each_same f ls (λ i. h (suc i)))

module _ {n : ℕ} (few : n ≤ 32) (ls : List (List ℕ)) (g : GoodPages n ls) where
  pub lists_sets : map sets.pages_of (map set_of ls) ≡ ls
  lists_sets = map-map sets.pages_of set_of ls ∙ each_same (λ l. sets.pages_of (set_of l)) ls (λ i. listed_set few (get_or ls i []) (g.ascend i) (g.within i))

  pub lists_rows : map used (map row_of ls) ≡ ls
  lists_rows = map-map used row_of ls ∙ each_same (λ l. used (row_of l)) ls (λ i. listed_row few (get_or ls i []) (g.within i))

  pub lists_small : (i : ℕ) → get_or (map set_of ls) i 0 < 2 ^ 32
  unfolding set_of
  lists_small i = rw (get_or-map set_of ls i []) (listed_small few (get_or ls i []) (g.ascend i) (g.within i))

-- Places behind the lists are converted one by one: an empty row to 0, and 0 to an empty row.
pub map_padded : {A B : Type 0} (f : A → B) (l : List A) (k : ℕ) (z : A) → map f (l ++ replicate k z) ≡ map f l ++ replicate k (f z)
map_padded f [] zero z = refl
map_padded f [] (suc k) z = ap (◌∷◌ (f z)) (map_padded f [] k z)
map_padded f (x ∷ l) k z = ap (◌∷◌ (f x)) (map_padded f l k z)

pub rows_padded : (m : List (List Page)) (k : ℕ) → map set_of (map used (m ++ replicate k (row_of []))) ≡ map set_of (map used m) ++ replicate k 0
unfolding used set_of
rows_padded m k = ap (map set_of) (map_padded used m k (row_of [])) ∙ map_padded set_of (map used m) k []

pub sets_padded : (s : List ℕ) (k : ℕ) → map_of (map sets.pages_of (s ++ replicate k 0)) ≡ map_of (map sets.pages_of s) ++ replicate k (row_of [])
sets_padded s k =
    ap map_of (map_padded sets.pages_of s k 0) ∙ map_padded row_of (map sets.pages_of s) k (sets.pages_of 0)
    ∙ ap (λ (l : List ℕ). map_of (map sets.pages_of s) ++ replicate k (row_of l)) pages_none
