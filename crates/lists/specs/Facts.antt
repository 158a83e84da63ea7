-- Facts of the lists of `rules`, over any size.
use Rattle.std.specs.Prelude.{◌≡◌, refl, Bool, true, false, not, ◌&&◌, ◌||◌, ◌⊎◌, List, [], ◌∷◌, ◌++◌, map, ℕ, zero, suc, ◌+◌, ◌≤◌, ◌<◌, eqb, leb, ltb, length, take, drop, get_or, set}
use Rattle.std.proofs.Common.{ap, sym, ◌∙◌, true≢false, inl, inr, ⊎_elim, append-nil, append_assoc, add-one, arith, eq-eqb, ne_eqb, eqb-true, le-leb, leb-true, lt-ltb, ltb-true, length-append, drop-cons}
use Rattle.std.proofs.Math.Decide.{dec_le}
use Rattle.std.proofs.lemmas.Bool.{not-true}
use Rattle.std.proofs.Math.Seq.{take-append_seam}
use Rattle.rules.specs.Lists.{member, some?, owned, unless, free_below, first_empty}

-- Tests.
infixl 35 ◌and◌
infixl 30 ◌or◌
pub if_not : (b : Bool) → (b ≡ true → ⊥) → b ≡ false
if_not true h = absurd (h refl)
if_not false h = refl

pub or_cases : (a b : Bool) → a || b ≡ true → (a ≡ true) ⊎ (b ≡ true)
or_cases true b e = inl refl
or_cases false b e = inr e

pub or_true : (a : Bool) {b : Bool} → b ≡ true → a || b ≡ true
or_true true e = refl
or_true false e = e

pub or_left : (a b : Bool) → a || b ≡ false → a ≡ false
or_left true b e = e
or_left false b e = refl

pub or_right : (a b : Bool) → a || b ≡ false → b ≡ false
or_right true b e = absurd (true≢false e)
or_right false b e = e

-- A test that is true exactly when P holds; and so of tests made of tests.
pub record Decides (b : Bool) (P : Type 0) : Type 0 where
  pub sound : b ≡ true → P
  pub complete : P → b ≡ true

pub agrees : {b : Bool} {P Q : Type 0} → Decides b P → (P → Q) → (Q → P) → Decides b Q
agrees d f g = record { sound = λ t. f (d.sound t); complete = λ q. d.complete (g q) }

-- a test that fails shows that what would have made it true does not hold
pub refutes : {b : Bool} {P Q : Type 0} → Decides b P → (Q → P) → b ≡ false → Decides false Q
refutes d f e = record { sound = λ t. absurd (true≢false (sym t)); complete = λ q. absurd (true≢false (sym (d.complete (f q)) ∙ e)) }

pub always : {P : Type 0} → P → Decides true P
always p = record { sound = λ t. p; complete = λ q. refl }

pub is_true : (b : Bool) → Decides b (b ≡ true)
is_true b = record { sound = λ t. t; complete = λ t. t }

-- a test that answers as another
pub as_true : {b t : Bool} → b ≡ t → Decides b (t ≡ true)
as_true e = record { sound = λ x. sym e ∙ x; complete = λ x. e ∙ x }

pub is_false : (b : Bool) → Decides (not b) (b ≡ false)
is_false b = record { sound = not-true b; complete = λ e. rw e }

pub ◌and◌ : {a b : Bool} {P Q : Type 0} → Decides a P → Decides b Q → Decides (a && b) (P × Q)
◌and◌ {a = true} {b} p q = record { sound = λ t. (p.sound refl, q.sound t); complete = λ w. q.complete w.1 }
◌and◌ {a = false} {b} p q = record { sound = λ t. absurd (true≢false (sym t)); complete = λ w. p.complete w.0 }

pub ◌or◌ : {a b : Bool} {P Q : Type 0} → Decides a P → Decides b Q → Decides (a || b) (P ⊎ Q)
◌or◌ {a} {b} p q = record {
  sound = λ t. ⊎_elim (λ x. inl (p.sound x)) (λ y. inr (q.sound y)) (or_cases a b t);
  complete = ⊎_elim (λ x. rw (p.complete x)) (λ y. or_true a (q.complete y));
}

pub lt_decides : (a b : ℕ) → Decides (ltb a b) (a < b)
lt_decides a b = record { sound = ltb-true a b; complete = lt-ltb a b }

pub le_decides : (a b : ℕ) → Decides (leb a b) (a ≤ b)
le_decides a b = record { sound = leb-true a b; complete = le-leb a b }

pub eq_decides : (a b : ℕ) → Decides (eqb a b) (a ≡ b)
eq_decides a b = record { sound = eqb-true a b; complete = eq-eqb a b }

-- A list is [] where its length is 0, and else its head and the rest.
pub no_head : {A : Type 0} (l : List A) → length l ≡ 0 → l ≡ []
no_head [] h = refl
no_head (x ∷ xs) h = absurd (omega arith)

pub head_and_rest : {A : Type 0} (l : List A) (d : A) → 0 < length l → l ≡ get_or l 0 d ∷ drop 1 l
head_and_rest [] d h = absurd (omega arith)
head_and_rest (x ∷ xs) d h = refl

-- One entry replaced, seen through a function.
pub map_set : {A B : Type 0} (f : A → B) (l : List A) (i : ℕ) (a : A) → map f (set l i a) ≡ set (map f l) i (f a)
map_set f [] i a = refl
map_set f (x ∷ xs) zero a = refl
map_set f (x ∷ xs) (suc i) a = ap (◌∷◌ (f x)) (map_set f xs i a)

-- Going down a list.
pub member_here : (x : ℕ) (l : List ℕ) (j : ℕ) → j < length l → x ≡ get_or l j 0 → member x (drop j l) ≡ true
unfolding member
member_here x l j h e = rw (drop-cons l j 0) (rw (eq-eqb _ _ e))

pub member_on : (x : ℕ) (l : List ℕ) (j : ℕ) → j < length l → (x ≡ get_or l j 0 → ⊥) → member x (drop j l) ≡ member x (drop (j + 1) l)
unfolding member
member_on x l j h e = rw (drop-cons l j 0, add-one) (rw (ne_eqb _ _ e))

pub owned_here : (p : ℕ) (ls : List (List ℕ)) (j : ℕ) → j < length ls → member p (get_or ls j []) ≡ true → owned p (drop j ls) ≡ true
unfolding owned
owned_here p ls j h m = rw (drop-cons ls j []) (rw m)

pub owned_on : (p : ℕ) (ls : List (List ℕ)) (j : ℕ) → j < length ls → member p (get_or ls j []) ≡ false → owned p (drop j ls) ≡ owned p (drop (j + 1) ls)
unfolding owned
owned_on p ls j h m = rw (drop-cons ls j [], add-one) (rw m)

-- One page more.
pub free_owned : (n : ℕ) (ls : List (List ℕ)) → owned n ls ≡ true → free_below (n + 1) ls ≡ free_below n ls
unfolding free_below unless
free_owned n ls h = rw (add-one, h) (append-nil _)

pub free_more : (n : ℕ) (ls : List (List ℕ)) → owned n ls ≡ false → free_below (n + 1) ls ≡ free_below n ls ++ (n ∷ [])
unfolding free_below unless
free_more n ls h = rw (add-one, h)

-- There are at most n free pages below n.
pub free_few : (n : ℕ) (ls : List (List ℕ)) → length (free_below n ls) ≤ n
unfolding free_below unless
free_few zero ls = omega arith
free_few (suc n) ls = simp length-append (go (owned n ls) (free_few n ls))
  where
    go : (b : Bool) → length (free_below n ls) ≤ n → length (free_below n ls) + length (unless b n) ≤ suc n
    go true h = omega arith
    go false h = omega arith

-- The free pages below p are the first of those below n.
pub free_split : (n p : ℕ) (ls : List (List ℕ)) → p ≤ n → (rest : List ℕ) × (free_below n ls ≡ free_below p ls ++ rest)
unfolding free_below
free_split zero p ls h = let e : p ≡ 0 = omega arith in ([], rw e)
free_split (suc n) p ls h = go (free_split n p ls) (dec_le p n)
  where
    go : (p ≤ n → (rest : List ℕ) × (free_below n ls ≡ free_below p ls ++ rest)) → Dec (p ≤ n)
        → (rest : List ℕ) × (free_below (suc n) ls ≡ free_below p ls ++ rest)
    go f (yes q) = ((f q).0 ++ unless (owned n ls) n, rw (f q).1 (append_assoc (free_below p ls) (f q).0 (unless (owned n ls) n)))
    go f (no q) = let e : p ≡ suc n = omega arith in ([], rw e (sym (append-nil (free_below (suc n) ls))))

pub free_front : (n p : ℕ) (ls : List (List ℕ)) → p ≤ n → take (length (free_below p ls)) (free_below n ls) ≡ free_below p ls
free_front n p ls h = let w = free_split n p ls h in rw w.1 (take-append_seam _ _)

-- The place of the first empty list, going down the lists.
pub first_here : (ls : List (List ℕ)) (j : ℕ) → j < length ls → some? (get_or ls j []) ≡ false → first_empty (drop j ls) ≡ 0
unfolding first_empty some?
first_here ls j h e = rw (drop-cons ls j []) (go (get_or ls j []) e)
  where
    go : (l : List ℕ) → some? l ≡ false → first_empty (l ∷ drop (suc j) ls) ≡ 0
    go [] f = refl
    go (x ∷ xs) f = absurd (true≢false f)

pub first_on : (ls : List (List ℕ)) (j : ℕ) → j < length ls → some? (get_or ls j []) ≡ true → first_empty (drop j ls) ≡ first_empty (drop (j + 1) ls) + 1
unfolding first_empty some?
first_on ls j h e = rw (drop-cons ls j [], add-one j) (go (get_or ls j []) e)
  where
    go : (l : List ℕ) → some? l ≡ true → first_empty (l ∷ drop (suc j) ls) ≡ first_empty (drop (suc j) ls) + 1
    go [] f = absurd (true≢false (sym f))
    go (x ∷ xs) f = sym (add-one _)

-- Membership. An empty list has no member.
pub nobody : {A : Type 0} (x : ℕ) → member x [] ≡ true → A
unfolding member
nobody x m = absurd (true≢false (sym m))

pub member_cases : (x y : ℕ) (ys : List ℕ) → member x (y ∷ ys) ≡ true → (x ≡ y) ⊎ (member x ys ≡ true)
unfolding member
member_cases x y ys e = ⊎_elim (λ t. inl (eqb-true x y t)) inr (or_cases (eqb x y) (member x ys) e)

pub member_first : (x : ℕ) (ys : List ℕ) → member x (x ∷ ys) ≡ true
unfolding member
member_first x ys = rw (eq-eqb x x refl)

pub member_later : (x y : ℕ) (ys : List ℕ) → member x ys ≡ true → member x (y ∷ ys) ≡ true
unfolding member
member_later x y ys e = or_true (eqb x y) e

-- What stands at a place of a list is in it.
pub member_at : (l : List ℕ) (i : ℕ) → i < length l → member (get_or l i 0) l ≡ true
member_at [] i h = absurd (omega arith)
member_at (x ∷ xs) zero h = member_first x xs
member_at (x ∷ xs) (suc i) h = member_later (get_or xs i 0) x xs (member_at xs i (omega arith))

pub member_append : (x : ℕ) (s t : List ℕ) → member x (s ++ t) ≡ true → (member x s ≡ true) ⊎ (member x t ≡ true)
unfolding member
member_append x [] t e = inr e
member_append x (y ∷ s) t e =
    ⊎_elim (λ p. inl (rw (eq-eqb x y p))) (λ m. ⊎_elim (λ a. inl (or_true (eqb x y) a)) inr (member_append x s t m)) (member_cases x y (s ++ t) e)

pub member_take : (x n : ℕ) (l : List ℕ) → member x (take n l) ≡ true → member x l ≡ true
unfolding member
member_take x zero l e = absurd (true≢false (sym e))
member_take x (suc n) [] e = e
member_take x (suc n) (y ∷ ys) e = ⊎_elim (λ p. rw (eq-eqb x y p)) (λ m. or_true (eqb x y) (member_take x n ys m)) (member_cases x y (take n ys) e)

-- What is listed as free is below the bound, and no list has it.
pub member_free : (n : ℕ) (ls : List (List ℕ)) (p : ℕ) → member p (free_below n ls) ≡ true → (p < n) × (owned p ls ≡ false)
unfolding free_below member unless
member_free zero ls p e = absurd (true≢false (sym e))
member_free (suc n) ls p e =
    ⊎_elim (λ m. let w = member_free n ls p m in (omega (arith, w.0), w.1)) (last (owned n ls) refl) (member_append p (free_below n ls) (unless (owned n ls) n) e)
  where
    last : (b : Bool) → owned n ls ≡ b → member p (unless b n) ≡ true → (p < suc n) × (owned p ls ≡ false)
    last true o m = absurd (true≢false (sym m))
    last false o m =
        ⊎_elim (λ e. (omega (arith, e), ap (λ (k : ℕ). owned k ls) e ∙ o)) (λ f. absurd (true≢false (sym f))) (member_cases p n [] m)
