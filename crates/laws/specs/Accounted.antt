-- Every page is free or in exactly one packet, at one place of its list; and a number is free when a page is.
use Rattle.std.specs.Prelude.{◌≡◌, refl, Bool, true, false, ◌||◌, ◌⊎◌, List, [], ◌∷◌, ◌++◌, ℕ, zero, suc, ◌<◌, eqb, length, get_or}
use Rattle.std.proofs.Math.Path.{ap}
use Rattle.std.proofs.Common.{sym, subst, ◌∙◌, true≢false, inl, inr, ⊎_elim, arith, eq-eqb}
use Rattle.std.proofs.Math.Decide.{ℕ_discrete}
use Rattle.rules.specs.Lists.{member, some?, owned, unless, free_below, first_empty}
use Rattle.rules.specs.Chip.{Layout, paged, Chip, size, pages_at, free_for, free, allocated}
use Rattle.rules.specs.WellFormed.{Above, Ascending, FormedAt}
use Rattle.rules.specs.Step.{Input, step_of}
use Rattle.lists.specs.Facts.{if_not, or_true, member_cases, member_first, member_at, member_free}
use Rattle.wellformed.specs.Count.{above_least}
use Rattle.lists.specs.Owned.{owned_in}
use Rattle.wellformed.specs.Pages.{first_empty_lem}
use Rattle.wellformed.specs.Pool.{number_free}
use Rattle.wellformed.specs.Fit.{Fits}
use Rattle.wellformed.proofs.Keeps.{keeps}
use Rattle.laws.specs.Layout.{layout_stays}

-- A page is in exactly one packet, at exactly one place of its list, and not listed as free.
pub record InOne (c : Chip) (p : ℕ) : Type 0 where
  pub packet : ℕ
  pub place : ℕ
  pub there : (place < length (pages_at c packet)) × (get_or (pages_at c packet) place 0 ≡ p)
  pub alone : (k i : ℕ) → i < length (pages_at c k) → get_or (pages_at c k) i 0 ≡ p → (k ≡ packet) × (i ≡ place)
  pub taken : member p (free c) ≡ false

-- A page is in no packet, and listed as free.
pub record IsFree (c : Chip) (p : ℕ) : Type 0 where
  pub listed : member p (free c) ≡ true
  pub unowned : (k : ℕ) → member p (pages_at c k) ≡ false

-- Where a number of a list stands.
stands : (p : ℕ) (l : List ℕ) → member p l ≡ true → (i : ℕ) × (i < length l) × (get_or l i 0 ≡ p)
unfolding member
stands p [] m = absurd (true≢false (sym m))
stands p (x ∷ xs) m = ⊎_elim (λ e. (0, omega arith, sym e)) (λ k. let w = stands p xs k in (suc w.0, omega (arith, w.1), w.2)) (member_cases p x xs m)

-- In a list that ascends a number stands at one place.
above_at : (x : ℕ) (l : List ℕ) (i : ℕ) → Above x l → i < length l → x < get_or l i 0
above_at x l i a h = above_least x (get_or l i 0) l a (member_at l i h)

rest_ascends : (x : ℕ) (l : List ℕ) → Above x l → Ascending l
rest_ascends x [] a = tt
rest_ascends x (y ∷ ys) a = a.1

once_in : (l : List ℕ) → Ascending l → (i j : ℕ) → i < length l → j < length l → get_or l i 0 ≡ get_or l j 0 → i ≡ j
once_in [] a i j h k e = absurd (omega arith)
once_in (x ∷ xs) a zero zero h k e = refl
once_in (x ∷ xs) a zero (suc j) h k e = absurd (omega (arith, above_at x xs j a (omega arith)))
once_in (x ∷ xs) a (suc i) zero h k e = absurd (omega (arith, above_at x xs i a (omega arith)))
once_in (x ∷ xs) a (suc i) (suc j) h k e = ap suc (once_in xs (rest_ascends x xs a) i j (omega arith) (omega arith) e)

-- A page that is owned is in some packet's list; one that is not is listed as free.
owned_where : (p : ℕ) (ls : List (List ℕ)) → owned p ls ≡ true → (k : ℕ) × (member p (get_or ls k []) ≡ true)
unfolding owned
owned_where p [] e = absurd (true≢false (sym e))
owned_where p (l ∷ ls) e = go (member p l) refl (owned_where p ls) e
  where
    go : (b : Bool) → member p l ≡ b → (owned p ls ≡ true → (k : ℕ) × (member p (get_or ls k []) ≡ true)) → b || owned p ls ≡ true → (k : ℕ) × (member p (get_or (l ∷ ls) k []) ≡ true)
    go true m f x = (0, m)
    go false m f x = let w = f x in (suc w.0, w.1)

member_left : (x : ℕ) (s t : List ℕ) → member x s ≡ true → member x (s ++ t) ≡ true
unfolding member
member_left x [] t m = absurd (true≢false (sym m))
member_left x (y ∷ s) t m = ⊎_elim (λ e. rw (eq-eqb x y e)) (λ k. or_true (eqb x y) (member_left x s t k)) (member_cases x y s m)

member_right : (x : ℕ) (s t : List ℕ) → member x t ≡ true → member x (s ++ t) ≡ true
unfolding member
member_right x [] t m = m
member_right x (y ∷ s) t m = or_true (eqb x y) (member_right x s t m)

pub free_listed : (n : ℕ) (ls : List (List ℕ)) (p : ℕ) → p < n → owned p ls ≡ false → member p (free_below n ls) ≡ true
unfolding free_below unless
free_listed zero ls p h o = absurd (omega arith)
free_listed (suc n) ls p h o = go (free_listed n ls p) (ℕ_discrete p n)
  where
    go : (p < n → owned p ls ≡ false → member p (free_below n ls) ≡ true) → Dec (p ≡ n) → member p (free_below (suc n) ls) ≡ true
    go f (yes e) = rw (sym e, o) (member_right p (free_below p ls) (p ∷ []) (member_first p []))
    go f (no d) = member_left p (free_below n ls) (unless (owned n ls) n) (f (omega arith) o)

module _ (n : ℕ) (c : Chip) (w : FormedAt n c) where
  -- of a chip of pages
  pub accounted : c.pool.layout ≡ paged → (p : ℕ) → p < size c → IsFree c p ⊎ InOne c p
  accounted e p h = go (owned p c.pool.pages) refl
    where
      go : (b : Bool) → owned p c.pool.pages ≡ b → IsFree c p ⊎ InOne c p
      go false o = inl (record {
        listed = subst (λ (l : Layout). member p (free_for l c.pool.pages) ≡ true) (sym e) (free_listed (size c) c.pool.pages p h o);
        unowned = λ k. if_not (member p (pages_at c k)) (λ m. true≢false (sym (owned_in p c.pool.pages k m) ∙ o));
      })
      go true o =
          let k = owned_where p c.pool.pages o in
          let i = stands p (pages_at c k.0) k.1 in
          let same : (j : ℕ) (x : ℕ) → x < length (pages_at c j) → get_or (pages_at c j) x 0 ≡ p → j ≡ k.0 =
          λ j x b e. w.pages.once j k.0 p (rw e at (member_at (pages_at c j) x b)) k.1 in
          inr (record {
            packet = k.0;
            place = i.0;
            there = (i.1, i.2);
            alone = λ j x b e. (same j x b e, once_in (pages_at c k.0) (w.pages.ascend k.0) x i.0 (rw (same j x b e) at b) i.1 ((rw (same j x b e) at e) ∙ sym i.2));
            taken = if_not (member p (free c)) (λ m. true≢false (sym o ∙ (member_free (size c) c.pool.pages p (subst (λ (l : Layout). member p (free_for l c.pool.pages) ≡ true) e m)).1));
          })

  -- A number is free when a page is: a grant and a stored frame find one.
  pub number_when_page : 0 < length (free c) → (first_empty c.pool.pages < n) × (allocated (first_empty c.pool.pages) c ≡ false)
  unfolding some?
  number_when_page h = (number_free w h, ap some? (first_empty_lem c.pool.pages))

-- After each step from a well-formed chip.
pub accounted_after : (n : ℕ) (i : Input) (c : Chip) → Fits n c → c.pool.layout ≡ paged → (p : ℕ) → p < size (step_of n i c).chip → IsFree (step_of n i c).chip p ⊎ InOne (step_of n i c).chip p
accounted_after n i c w e = accounted n (step_of n i c).chip (keeps n c w i).0 (layout_stays n i c ∙ e)
