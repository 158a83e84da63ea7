-- The sets' sum, and their joined pages, decide whether the page lists that they stand for are good.
use Rattle.std.specs.Prelude.{◌≡◌, ℕ, zero, suc, ◌*◌, ◌%◌, ◌^◌, ◌<◌, ◌≤◌, Bool, true, false, ◌&&◌, List, [], ◌∷◌, map, length, ◌≢◌, count_ones, slice_index, refl, Option, None, Some}
use Rattle.std.specs.Option.{SomeIff}
use Rattle.std.proofs.Common.{ap, ap₂, sym, ◌∙◌, true≢false, arith, lt_of_le_of_lt, lt_of_lt_of_le, mod-eq_of_lt, pow_mono}
use Rattle.std.proofs.Math.Decide.{dec_le}
use Rattle.std.proofs.Math.Arith.{lt-one}
use Rattle.std.specs.Int.Bits.{bit_and, or_add_and}
use Rattle.std.proofs.lemmas.Nat.{and_le_l, or_disjoint}
use Rattle.rules.specs.Bits.{bit}
use Rattle.rules.specs.WellFormed.{GoodPages}
use Rattle.lists.specs.Facts.{Decides, agrees, if_not}
use Rattle.sets.specs.Views.{pages_of}
use Rattle.sets.specs.Bits.{bit_and_lem, bit_past, bit_zero, bits_bound}
use Rattle.sets.specs.Pages.{pages_ascend}
use Rattle.sets.specs.Lists.{list_at, member_at, count_at_lem}
use Rattle.sets.specs.Joins.{joined, total, FewEach, joined_le_total, joined_lt, set_le_joined, total_le, in_joined, joined_in}

-- No page in common: `and` is 0.
pub apart : (s t : ℕ) → bit_and s t ≡ 0 → (p : ℕ) → bit p s ≡ true → bit p t ≡ false
apart s t e p b = sym (ap (λ (x : Bool). x && bit p t) b) ∙ sym (bit_and_lem p s t) ∙ ap (bit p) e ∙ bit_zero p

pub and_none : (d s t : ℕ) → s < 2 ^ d → ((p : ℕ) → bit p s ≡ true → bit p t ≡ false) → bit_and s t ≡ 0
and_none d s t h f = lt-one (bits_bound d 0 (bit_and s t) (lt_of_le_of_lt (and_le_l s t) h) (λ p b. absurd (clash p (sym (bit_and_lem p s t) ∙ b))))
  where
    left : (a b : Bool) → a && b ≡ true → a ≡ true
    left true b e = refl
    left false b e = e

    clash : (p : ℕ) → bit p s && bit p t ≢ true
    clash p e = let a = left (bit p s) (bit p t) e in true≢false (sym e ∙ ap₂ ◌&&◌ a (f p a))

-- The sum is the joined sets exactly where no page is in two sets: a + b is the joined pages and, once more, the common ones.
first_apart : (s : ℕ) (ss : List ℕ) → total (s ∷ ss) ≡ joined (s ∷ ss) → (bit_and s (joined ss) ≡ 0) × (total ss ≡ joined ss)
unfolding joined total
first_apart s ss e = let a = or_add_and s (joined ss) in let b = joined_le_total ss in (omega (arith, a, b, e), omega (arith, a, b, e))

pub sum_once : (ss : List ℕ) → total ss ≡ joined ss → (i j p : ℕ) → bit p (slice_index ss i) ≡ true → bit p (slice_index ss j) ≡ true → i ≡ j
sum_once [] e i j p x y = absurd (true≢false (sym x ∙ bit_zero p))
sum_once (s ∷ ss) e zero zero p x y = refl
sum_once (s ∷ ss) e zero (suc j) p x y = absurd (true≢false (sym (in_joined p ss j y) ∙ apart s (joined ss) (first_apart s ss e).0 p x))
sum_once (s ∷ ss) e (suc i) zero p x y = absurd (true≢false (sym (in_joined p ss i x) ∙ apart s (joined ss) (first_apart s ss e).0 p y))
sum_once (s ∷ ss) e (suc i) (suc j) p x y = ap suc (sum_once ss (first_apart s ss e).1 i j p x y)

pub once_sum : (n : ℕ) (ss : List ℕ) → ((i : ℕ) → slice_index ss i < 2 ^ n)
    → ((i j p : ℕ) → bit p (slice_index ss i) ≡ true → bit p (slice_index ss j) ≡ true → i ≡ j) → total ss ≡ joined ss
unfolding joined total
once_sum n [] h f = refl
once_sum n (s ∷ ss) h f =
    let e = once_sum n ss (λ i. h (suc i)) (λ i j p x y. let q = f (suc i) (suc j) p x y in omega (arith, q)) in
    let none = and_none n s (joined ss) (h 0) (λ p b. if_not (bit p (joined ss)) (λ y. let w = joined_in p ss y in let q = f 0 (suc w.0) p b w.1 in omega (arith, q))) in
    omega (arith, e, or_disjoint s (joined ss) none)

pub never : {P : Type 0} → (P → ⊥) → Decides false P
never f = record { sound = λ t. absurd (true≢false (sym t)); complete = λ q. absurd (f q) }

-- what is decided has one answer
pub decides_once : {a b : Bool} {P : Type 0} → Decides a P → Decides b P → a ≡ b
decides_once {a = true} {b = true} x y = refl
decides_once {a = true} {b = false} x y = sym (y.complete (x.sound refl))
decides_once {a = false} {b = true} x y = x.complete (y.sound refl)
decides_once {a = false} {b = false} x y = refl

-- and so has what names a number where it holds
pub some_iff_once : (P : Type 0) (v : ℕ) {a b : Option ℕ} → SomeIff a P v → SomeIff b P v → a ≡ b
some_iff_once P v {a = None} {b = None} x y = refl
some_iff_once P v {a = None} {b = Some n} x y = absurd (x y.0)
some_iff_once P v {a = Some m} {b = None} x y = absurd (y x.0)
some_iff_once P v {a = Some m} {b = Some n} x y = ap Some (x.1 ∙ sym y.1)

-- Over the number of pages.
module _ (n : ℕ) where
  -- What is asked of the sets.
  pub record GoodSets (ss : List ℕ) : Type 0 where
    pub within : (i : ℕ) → slice_index ss i < 2 ^ n
    pub at_most : (i : ℕ) → count_ones (slice_index ss i) ≤ 8
    pub once : (i j p : ℕ) → bit p (slice_index ss i) ≡ true → bit p (slice_index ss j) ≡ true → i ≡ j

  -- The same of the page lists.
  module _ (ss : List ℕ) (fits : (i : ℕ) → slice_index ss i < 2 ^ 32) where
    pub as_lists : GoodSets ss → GoodPages n (map pages_of ss)
    as_lists g = record {
      once = λ i j p x y. g.once i j p (sym (member_at ss i p (fits i)) ∙ x) (sym (member_at ss j p (fits j)) ∙ y);
      ascend = λ i. rw (list_at ss i) (pages_ascend (slice_index ss i));
      within = λ i p m. low i p (sym (member_at ss i p (fits i)) ∙ m) (dec_le n p);
      at_most = λ i. omega (arith, count_at_lem ss i (fits i), g.at_most i);
    }
      where
        low : (i p : ℕ) → bit p (slice_index ss i) ≡ true → Dec (n ≤ p) → p < n
        low i p b (yes h) = absurd (true≢false (sym b ∙ bit_past p (slice_index ss i) (lt_of_lt_of_le (g.within i) (pow_mono h))))
        low i p b (no h) = omega arith

    pub as_sets : GoodPages n (map pages_of ss) → GoodSets ss
    as_sets g = record {
      within = λ i. bits_bound 32 n (slice_index ss i) (fits i) (λ p b. g.within i p (member_at ss i p (fits i) ∙ b));
      at_most = λ i. omega (arith, count_at_lem ss i (fits i), g.at_most i);
      once = λ i j p x y. g.once i j p (member_at ss i p (fits i) ∙ x) (member_at ss j p (fits j) ∙ y);
    }

    -- What the joined sets and their sum, which wraps, tell. Sets that are below 2 ^ n, and few enough, have a sum that does not wrap.
    pub joined_high : 2 ^ n ≤ joined ss → Decides false (GoodPages n (map pages_of ss))
    joined_high h = never (λ g. let l = joined_lt n ss (as_sets g).within in omega arith)

    pub sum_other : n ≤ 32 → (total ss % 2 ^ 32 ≢ joined ss) → Decides false (GoodPages n (map pages_of ss))
    sum_other m f =
        never
        (λ g. let s = as_sets g in
        f (ap (λ (x : ℕ). x % 2 ^ 32) (once_sum n ss s.within s.once) ∙ mod-eq_of_lt (lt_of_lt_of_le (joined_lt n ss s.within) (pow_mono m))))

    pub few_good : length ss * 2 ^ n < 2 ^ 32 → joined ss < 2 ^ n → total ss % 2 ^ 32 ≡ joined ss
        → {b : Bool} → Decides b (FewEach 8 ss) → Decides b (GoodPages n (map pages_of ss))
    few_good m l e d = agrees d
        (λ f. as_lists (record { within = λ i. lt_of_le_of_lt (set_le_joined ss i) l; at_most = f; once = sum_once ss sum }))
        (λ g. (as_sets g).at_most)
      where
        sum : total ss ≡ joined ss
        sum = sym (mod-eq_of_lt (lt_of_le_of_lt (total_le (2 ^ n) ss (omega arith)) m)) ∙ e
