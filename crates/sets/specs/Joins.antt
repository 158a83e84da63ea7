-- The sets joined and their sum, and what a loop that takes four sets at once has of them.
use Rattle.std.specs.Prelude.{◌≡◌, ℕ, zero, suc, ◌+◌, ◌*◌, ◌/◌, ◌%◌, ◌^◌, ◌<◌, ◌≤◌, Bool, true, false, not, ◌||◌, List, [], ◌∷◌, map, length, drop, nat_lt, slice_index}
use Rattle.std.proofs.Math.Path.{refl, ap, ap₂, sym}
use Rattle.std.proofs.Common.{subst, ◌∙◌, ⊎_elim, zero-le, le_trans, mod-lt, mod-eq_of_lt, suc-mul, zero-add, add-one, arith, ltb-false, le-ltb, pow_pos, drop-cons}
use Rattle.std.proofs.Math.Nat.{le-max_left}
use Rattle.std.proofs.Math.Arith.{bin_ind}
use Rattle.std.specs.Int.Bits.{bit_or, or_step, or_add_and}
use Rattle.std.proofs.lemmas.Nat.{or_comm, or_lt, and_le_l, and_le_r}
use Rattle.std.specs.Int.Count.{ones, ones_step}
use Rattle.std.proofs.Math.ListN.{length-append}
use Rattle.rules.specs.Lists.{owned, unless, free_below}
use Rattle.rules.specs.Bits.{bit}
use Rattle.lists.specs.Facts.{Decides, agrees, or_cases, or_true, or_left, or_right, is_false}
use Rattle.sets.specs.Views.{bits_below, pages_of}
use Rattle.sets.specs.Bits.{max_lt, bit_or_lem, bit_zero, bits_same}
use Rattle.sets.specs.Pages.{member_pages, below_count, or_false, or_assoc}

-- the pages of all sets
unfoldable pub joined : List ℕ → ℕ
joined [] = 0
joined (s ∷ ss) = bit_or s (joined ss)

-- the sum of the sets
unfoldable pub total : List ℕ → ℕ
total [] = 0
total (s ∷ ss) = s + total ss

-- no set has more than n pages
abbrev pub FewEach : ℕ → List ℕ → Type 0
FewEach n ss = (i : ℕ) → ones (slice_index ss i) ≤ n

-- A set has no more pages than what it is joined to.
pub ones_left : (a b : ℕ) → ones a ≤ ones (bit_or a b)
unfolding ones
ones_left = bin_ind (λ (a : ℕ). (b : ℕ) → ones a ≤ ones (bit_or a b)) (λ b. zero-le) (λ a ih b. step a b (ih (b / 2)))
  where
    step : (a b : ℕ) → ones (a / 2) ≤ ones (bit_or (a / 2) (b / 2)) → ones a ≤ ones (bit_or a b)
    step a b h =
        let m = max_lt (a % 2) (b % 2) (mod-lt a (omega arith)) (mod-lt b (omega arith)) in
        let e = or_step a b in
        let half : bit_or a b / 2 ≡ bit_or (a / 2) (b / 2) = omega (arith, e, m) in
        let digits = ones_step (bit_or a b) ∙ ap (λ (x : ℕ). bit_or a b % 2 + ones x) half in
        omega (arith, digits, ones_step a, e, m, h, le-max_left (a % 2) (b % 2))

pub ones_right : (a b : ℕ) → ones b ≤ ones (bit_or a b)
ones_right a b = subst (λ (x : ℕ). ones b ≤ ones x) (or_comm b a) (ones_left b a)

pub ones_joined : (ss : List ℕ) → FewEach (ones (joined ss)) ss
unfolding joined ones
ones_joined [] i = zero-le
ones_joined (s ∷ ss) zero = ones_left s (joined ss)
ones_joined (s ∷ ss) (suc i) = le_trans (ones_joined ss i) (ones_right s (joined ss))

-- Joined sets are no more than their sum, and no less than each.
pub or_le_left : (a b : ℕ) → a ≤ bit_or a b
or_le_left a b = omega (arith, or_add_and a b, and_le_r a b)

pub or_le_right : (a b : ℕ) → b ≤ bit_or a b
or_le_right a b = omega (arith, or_add_and a b, and_le_l a b)

pub set_le_joined : (ss : List ℕ) (i : ℕ) → slice_index ss i ≤ joined ss
unfolding joined
set_le_joined [] i = zero-le
set_le_joined (s ∷ ss) zero = or_le_left s (joined ss)
set_le_joined (s ∷ ss) (suc i) = le_trans (set_le_joined ss i) (or_le_right s (joined ss))

pub joined_le_total : (ss : List ℕ) → joined ss ≤ total ss
unfolding joined total
joined_le_total [] = zero-le
joined_le_total (s ∷ ss) = omega (arith, or_add_and s (joined ss), joined_le_total ss)

pub total_le : (m : ℕ) (ss : List ℕ) → joined ss ≤ m → total ss ≤ length ss * m
unfolding joined total
total_le m [] h = zero-le
total_le m (s ∷ ss) h =
    omega (arith, suc-mul (length ss) m, or_le_left s (joined ss), total_le m ss (le_trans (or_le_right s (joined ss)) h))

pub joined_lt : (n : ℕ) (ss : List ℕ) → ((i : ℕ) → slice_index ss i < 2 ^ n) → joined ss < 2 ^ n
unfolding joined
joined_lt n [] h = pow_pos n
joined_lt n (s ∷ ss) h = or_lt n s (joined ss) (h 0) (joined_lt n ss (λ i. h (suc i)))

-- A page of the joined sets is in one of them, and each set's pages are in the joined sets.
pub in_joined : (p : ℕ) (ss : List ℕ) (i : ℕ) → bit p (slice_index ss i) ≡ true → bit p (joined ss) ≡ true
unfolding joined
in_joined p [] i e = e
in_joined p (s ∷ ss) zero e = bit_or_lem p s (joined ss) ∙ rw e
in_joined p (s ∷ ss) (suc i) e = bit_or_lem p s (joined ss) ∙ or_true (bit p s) (in_joined p ss i e)

pub joined_in : (p : ℕ) (ss : List ℕ) → bit p (joined ss) ≡ true → (i : ℕ) × (bit p (slice_index ss i) ≡ true)
unfolding joined
joined_in p [] e = (0, e)
joined_in p (s ∷ ss) e =
    ⊎_elim (λ x. (0, x)) (λ y. let w = joined_in p ss y in (suc w.0, w.1)) (or_cases (bit p s) (bit p (joined ss)) (sym (bit_or_lem p s (joined ss)) ∙ e))

pub joined_owned : (ss : List ℕ) → ((i : ℕ) → slice_index ss i < 2 ^ 32) → (p : ℕ) → bit p (joined ss) ≡ owned p (map pages_of ss)
unfolding joined owned
joined_owned [] h p = bit_zero p
joined_owned (s ∷ ss) h p = bit_or_lem p s (joined ss) ∙ ap₂ ◌||◌ (sym (member_pages s p (h 0))) (joined_owned ss (λ i. h (suc i)) p)

-- The pages of a set and those that are free are all pages.
module _ (s : ℕ) (ls : List (List ℕ)) (owns : (p : ℕ) → bit p s ≡ owned p ls) where
  free_and_set : (n : ℕ) → length (free_below n ls) + length (bits_below n s) ≡ n
  unfolding free_below bits_below unless
  free_and_set zero = refl
  free_and_set (suc n) =
      let a = length-append (free_below n ls) (unless (owned n ls) n) in
      let b = length-append (bits_below n s) (unless (not (bit n s)) n) in
      omega (arith, a, b, free_and_set n, ap (λ (x : Bool). length (unless x n)) (sym (owns n)), one (bit n s) n)
    where
      one : (x : Bool) (n : ℕ) → length (unless x n) + length (unless (not x) n) ≡ 1
      one true n = refl
      one false n = refl

  pub free_rest : (n : ℕ) → s < 2 ^ n → length (free_below n ls) + ones s ≡ n
  free_rest n h = omega (arith, free_and_set n, below_count n s ∙ ap ones (mod-eq_of_lt h))

-- Four joined sets and a sum, and the sets that are still to be joined and added, beside all sets.
abbrev pub join4 : ℕ → ℕ → ℕ → ℕ → ℕ
join4 a b c d = bit_or (bit_or a b) (bit_or c d)

pub record Joins (ss : List ℕ) (a b c d sum : ℕ) (rest : List ℕ) : Type 0 where
  pub pages : (p : ℕ) → bit p (join4 a b c d) || bit p (joined rest) ≡ bit p (joined ss)
  pub adds : (sum + total rest) % 2 ^ 32 ≡ total ss % 2 ^ 32
  pub few : (n : ℕ) → ones a ≤ n → ones b ≤ n → ones c ≤ n → ones d ≤ n → FewEach n rest → FewEach n ss

pub joins_none : (ss : List ℕ) → Joins ss 0 0 0 0 0 ss
joins_none ss = record { pages = λ p. ap (λ (b : Bool). b || bit p (joined ss)) (bit_zero p); adds = ap (λ (x : ℕ). x % 2 ^ 32) (zero-add (total ss)); few = λ n a b c d f. f }

bit_join4 : (p a b c d : ℕ) → bit p (join4 a b c d) ≡ (bit p a || bit p b) || (bit p c || bit p d)
bit_join4 p a b c d = bit_or_lem p (bit_or a b) (bit_or c d) ∙ ap₂ ◌||◌ (bit_or_lem p a b) (bit_or_lem p c d)

regroup : (a x b y c z d w r : Bool)
    → (((a || x) || (b || y)) || ((c || z) || (d || w))) || r ≡ ((a || b) || (c || d)) || (x || (y || (z || (w || r))))
regroup true x b y c z d w r = refl
regroup false true b y c z d w r = sym (or_true (b || (c || d)) refl)
regroup false false true y c z d w r = refl
regroup false false false true c z d w r = sym (or_true (c || d) refl)
regroup false false false false true z d w r = refl
regroup false false false false false true d w r = sym (or_true d refl)
regroup false false false false false false true w r = refl
regroup false false false false false false false w r = refl

wraps : (s y t r : ℕ) → t ≡ (s + y) % 2 ^ 32 → (t + r) % 2 ^ 32 ≡ (s + (y + r)) % 2 ^ 32
wraps s y t r e = omega (arith, e)

module _ (ss : List ℕ) (a b c d sum x y z w : ℕ) (rest : List ℕ) where
  pub joins_four : {s t u v : ℕ} → s ≡ (sum + x) % 2 ^ 32 → t ≡ (s + y) % 2 ^ 32 → u ≡ (t + z) % 2 ^ 32 → v ≡ (u + w) % 2 ^ 32
      → Joins ss a b c d sum (x ∷ y ∷ z ∷ w ∷ rest) → Joins ss (bit_or a x) (bit_or b y) (bit_or c z) (bit_or d w) v rest
  unfolding joined total
  joins_four {s} {t} {u} {v} e f g h j = record {
    pages = λ p. same p ∙ j.pages p;
    adds = wraps u w v _ h ∙ wraps t z u _ g ∙ wraps s y t _ f ∙ wraps sum x s _ e ∙ j.adds;
    few = λ n ha hb hc hd l. j.few n
        (le_trans (ones_left a x) ha) (le_trans (ones_left b y) hb) (le_trans (ones_left c z) hc) (le_trans (ones_left d w) hd)
        (four n (le_trans (ones_right a x) ha) (le_trans (ones_right b y) hb) (le_trans (ones_right c z) hc) (le_trans (ones_right d w) hd) l);
  }
    where
      same : (p : ℕ) → bit p (join4 (bit_or a x) (bit_or b y) (bit_or c z) (bit_or d w)) || bit p (joined rest)
          ≡ bit p (join4 a b c d) || bit p (bit_or x (bit_or y (bit_or z (bit_or w (joined rest)))))
      same p =
          let r = bit p (joined rest) in
          ap (λ (q : Bool). q || r)
          (bit_join4 p (bit_or a x) (bit_or b y) (bit_or c z) (bit_or d w)
          ∙ ap₂ ◌||◌ (ap₂ ◌||◌ (bit_or_lem p a x) (bit_or_lem p b y)) (ap₂ ◌||◌ (bit_or_lem p c z) (bit_or_lem p d w)))
          ∙ regroup (bit p a) (bit p x) (bit p b) (bit p y) (bit p c) (bit p z) (bit p d) (bit p w) r
          ∙ ap₂ ◌||◌ (sym (bit_join4 p a b c d)) (sym (bit_or_lem p x (bit_or y (bit_or z (bit_or w (joined rest))))
          ∙ ap (λ (q : Bool). bit p x || q) (bit_or_lem p y (bit_or z (bit_or w (joined rest)))
          ∙ ap (λ (q : Bool). bit p y || q) (bit_or_lem p z (bit_or w (joined rest)) ∙ ap (λ (q : Bool). bit p z || q) (bit_or_lem p w (joined rest))))))

      four : (n : ℕ) → ones x ≤ n → ones y ≤ n → ones z ≤ n → ones w ≤ n → FewEach n rest → FewEach n (x ∷ y ∷ z ∷ w ∷ rest)
      four n hx hy hz hw f zero = hx
      four n hx hy hz hw f (suc zero) = hy
      four n hx hy hz hw f (suc (suc zero)) = hz
      four n hx hy hz hw f (suc (suc (suc zero))) = hw
      four n hx hy hz hw f (suc (suc (suc (suc i)))) = f i

-- The four sets at k.
pub drop_four : (ss : List ℕ) (k : ℕ) → k + 3 < length ss
    → drop k ss ≡ slice_index ss k ∷ slice_index ss (k + 1) ∷ slice_index ss (k + 2) ∷ slice_index ss (k + 3) ∷ drop (k + 4) ss
drop_four ss k h =
    next k (k + 1) (omega arith) (omega arith)
    ∙ ap (λ (l : List ℕ). slice_index ss k ∷ l) (next (k + 1) (k + 2) (omega arith) (omega arith)
    ∙ ap (λ (l : List ℕ). slice_index ss (k + 1) ∷ l) (next (k + 2) (k + 3) (omega arith) (omega arith)
    ∙ ap (λ (l : List ℕ). slice_index ss (k + 2) ∷ l) (next (k + 3) (k + 4) (omega arith) (omega arith))))
  where
    next : (i j : ℕ) → suc i ≡ j → i < length ss → drop i ss ≡ slice_index ss i ∷ drop j ss
    next i j e g = drop-cons ss i 0 g ∙ ap (λ (m : ℕ). slice_index ss i ∷ drop m ss) e

-- All joined: what the four and the sum say of the sets.
module _ (ss : List ℕ) (a b c d sum : ℕ) (j : Joins ss a b c d sum []) where
  pub join_all : join4 a b c d < 2 ^ 32 → ((i : ℕ) → slice_index ss i < 2 ^ 32) → join4 a b c d ≡ joined ss
  unfolding joined
  join_all h f =
      bits_same 32 (join4 a b c d) (joined ss) h (joined_lt 32 ss f)
      (λ p. sym (or_false (bit p (join4 a b c d))) ∙ ap (λ (q : Bool). bit p (join4 a b c d) || q) (sym (bit_zero p)) ∙ j.pages p)

  pub sum_all : sum < 2 ^ 32 → sum ≡ total ss % 2 ^ 32
  unfolding total
  sum_all h = omega (arith, j.adds)

  pub few_all : (n : ℕ) → ones a ≤ n → ones b ≤ n → ones c ≤ n → ones d ≤ n → FewEach n ss
  unfolding ones
  few_all n ha hb hc hd = j.few n ha hb hc hd (λ i. zero-le)

-- has one of the sets more than 8 pages?
unfoldable pub any_crowded : List ℕ → Bool
any_crowded [] = false
any_crowded (s ∷ ss) = nat_lt 8 (ones s) || any_crowded ss

pub few_decides : (ss : List ℕ) → Decides (not (any_crowded ss)) (FewEach 8 ss)
unfolding any_crowded ones
few_decides ss = agrees (is_false (any_crowded ss)) (fewer ss) (none ss)
  where
    fewer : (ss : List ℕ) → any_crowded ss ≡ false → FewEach 8 ss
    fewer [] e i = zero-le
    fewer (s ∷ ss) e zero = ltb-false 8 (ones s) (or_left (nat_lt 8 (ones s)) (any_crowded ss) e)
    fewer (s ∷ ss) e (suc i) = fewer ss (or_right (nat_lt 8 (ones s)) (any_crowded ss) e) i

    none : (ss : List ℕ) → FewEach 8 ss → any_crowded ss ≡ false
    none [] f = refl
    none (s ∷ ss) f = ap₂ ◌||◌ (le-ltb 8 (ones s) (f 0)) (none ss (λ i. f (suc i)))

-- One set more.
pub crowded_on : (found : Bool) (ss : List ℕ) (k : ℕ) → k < length ss
    → (found || nat_lt 8 (ones (slice_index ss k))) || any_crowded (drop (k + 1) ss) ≡ found || any_crowded (drop k ss)
unfolding any_crowded
crowded_on found ss k h =
    or_assoc found (nat_lt 8 (ones (slice_index ss k))) (any_crowded (drop (k + 1) ss))
    ∙ ap (λ (l : List ℕ). found || any_crowded l) (sym (drop-cons ss k 0 h ∙ ap (λ (m : ℕ). slice_index ss k ∷ drop m ss) (sym (add-one k))))
