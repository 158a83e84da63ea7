-- The pages of a set: which they are, that they ascend, how many, and what becomes of them where the lowest bits are cleared.
use Rattle.std.specs.Prelude.{◌≡◌, ℕ, zero, suc, ◌+◌, ◌-◌, ◌*◌, ◌/◌, ◌%◌, ◌^◌, ◌<◌, ◌≤◌, Bool, true, false, not, ◌||◌, List, [], ◌∷◌, ◌++◌, length, take, drop, ◌==◌, ◌≢◌, bit_and, bit_xor, nat_lt, slice_index, slice_index_or, refl}
use Rattle.std.proofs.Common.{ap, ap₂, sym, ◌∙◌, subst, true≢false, append-nil, mod-lt, add_comm, add-suc, suc-add, add-zero, zero-add, lt_of_lt_of_le, add-one, one-add, arith, eq-eqb, ne_eqb, lt-ltb, le-ltb, get_or-drop, length-append, length-drop, pow_pos, pow_mono, shr_lt}
use Rattle.std.proofs.Math.Nat.{mod-one, zero-min, min-zero}
use Rattle.std.proofs.Math.Decide.{dec_le, ℕ_discrete}
use Rattle.std.proofs.Math.Arith.{digits_div, digits_mod}
use Rattle.std.proofs.Math.Seq.{take-nil}
use Rattle.std.specs.Int.Bits.{differ, and_step, xor_step, and_self}
use lib.Count.{ones, ones_step, ones_cat, count_trailing_zeros}
use Rattle.std.proofs.lemmas.Nat.{mod-pow-add}
use Rattle.rules.specs.Lists.{member, some?, owned, unless, free_below}
use Rattle.rules.specs.Bits.{bit}
use Rattle.rules.specs.WellFormed.{Above, Ascending}
use Rattle.sets.specs.Views.{bits_below, pages_of}
use Rattle.sets.specs.Bits.{bit_low, bit_half, bit_past, bits_same}

-- The same list made from its front: d bits of n, the lowest of which stands for p.
when_set : ℕ → ℕ → List ℕ → List ℕ
when_set zero p l = l
when_set (suc b) p l = p ∷ l

bits_from : ℕ → ℕ → ℕ → List ℕ
bits_from zero p n = []
bits_from (suc d) p n = when_set (n % 2) p (bits_from d (suc p) (n / 2))

-- what goes by a digit
by_digit : (P : ℕ → Type 0) (x : ℕ) → (x % 2 ≡ 0 → P 0) → (x % 2 ≡ 1 → P 1) → P (x % 2)
by_digit P x f g = go (x % 2) refl (mod-lt x (omega arith))
  where
    go : (r : ℕ) → x % 2 ≡ r → r < 2 → P r
    go zero e h = f e
    go (suc zero) e h = g e
    go (suc (suc r)) e h = absurd (omega arith)

when_append : (b p : ℕ) (l m : List ℕ) → when_set b p (l ++ m) ≡ when_set b p l ++ m
unfolding when_set
when_append zero p l m = refl
when_append (suc b) p l m = refl

from_snoc : (d p n : ℕ) → bits_from (suc d) p n ≡ bits_from d p n ++ unless (not (bit d n)) (d + p)
unfolding bits_from when_set unless
from_snoc zero p n =
    rw (bit_low n, zero-add p) (by_digit (λ b. when_set b p [] ≡ unless (not (b == 1)) p) n (λ e. refl) (λ e. refl))
from_snoc (suc d) p n =
    ap (when_set (n % 2) p) (from_snoc d (suc p) (n / 2) ∙ rw (bit_half d n, add-suc d p, suc-add d p))
    ∙ when_append (n % 2) p (bits_from d (suc p) (n / 2)) (unless (not (bit (suc d) n)) (suc d + p))

below_from : (n s : ℕ) → bits_below n s ≡ bits_from n 0 s
unfolding bits_below bits_from
below_from zero s = refl
below_from (suc n) s =
    ap (λ (l : List ℕ). l ++ unless (not (bit n s)) n) (below_from n s)
    ∙ ap (λ (k : ℕ). bits_from n 0 s ++ unless (not (bit n s)) k) (sym (add-zero n))
    ∙ sym (from_snoc n 0 s)

pages_from : (s : ℕ) → pages_of s ≡ bits_from 32 0 s
unfolding pages_of
pages_from s = below_from 32 s

half_lt : (d n : ℕ) → n < 2 ^ suc d → n / 2 < 2 ^ d
half_lt d n h = shr_lt d 1 (subst (λ (k : ℕ). n < 2 ^ k) (sym (add-one d)) h)

-- How many.
from_length : (d p n : ℕ) → n < 2 ^ d → length (bits_from d p n) ≡ ones n
unfolding bits_from when_set ones
from_length zero p n h = let e : n ≡ 0 = omega arith in rw e
from_length (suc d) p n h =
    by_digit (λ b. length (when_set b p (bits_from d (suc p) (n / 2))) ≡ b + length (bits_from d (suc p) (n / 2))) n (λ e. omega arith) (λ e. omega arith)
    ∙ ap (λ (x : ℕ). n % 2 + x) (from_length d (suc p) (n / 2) (half_lt d n h))
    ∙ sym (ones_step n)

pub pages_count : (s : ℕ) → s < 2 ^ 32 → length (pages_of s) ≡ ones s
pages_count s h = ap length (pages_from s) ∙ from_length 32 0 s h

-- They ascend.
from_above : (d p n x : ℕ) → x < p → Above x (bits_from d p n)
unfolding bits_from when_set
from_above zero p n x h = tt
from_above (suc d) p n x h =
    by_digit (λ b. Above x (when_set b p (bits_from d (suc p) (n / 2)))) n
    (λ e. from_above d (suc p) (n / 2) x (omega arith))
    (λ e. (h, from_above d (suc p) (n / 2) p (omega arith)))

from_ascends : (d p n : ℕ) → Ascending (bits_from d p n)
unfolding bits_from when_set
from_ascends zero p n = tt
from_ascends (suc d) p n =
    by_digit (λ b. Ascending (when_set b p (bits_from d (suc p) (n / 2)))) n
    (λ e. from_ascends d (suc p) (n / 2))
    (λ e. from_above d (suc p) (n / 2) p (omega arith))

pub pages_ascend : (s : ℕ) → Ascending (pages_of s)
pages_ascend s = rw (pages_from s) (from_ascends 32 0 s)

-- The empty set, and a set that has a page.
from_none : (d p : ℕ) → bits_from d p 0 ≡ []
unfolding bits_from when_set
from_none zero p = refl
from_none (suc d) p = from_none d (suc p)

pub pages_none : pages_of 0 ≡ []
pages_none = pages_from 0 ∙ from_none 32 0

from_some : (d p n : ℕ) → n < 2 ^ d → 0 < n → some? (bits_from d p n) ≡ true
unfolding bits_from when_set some?
from_some zero p n h g = absurd (omega arith)
from_some (suc d) p n h g =
    by_digit (λ b. some? (when_set b p (bits_from d (suc p) (n / 2))) ≡ true) n
    (λ e. from_some d (suc p) (n / 2) (half_lt d n h) (omega arith))
    (λ e. refl)

pub pages_some : (s : ℕ) → s < 2 ^ 32 → 0 < s → some? (pages_of s) ≡ true
pages_some s h g = ap some? (pages_from s) ∙ from_some 32 0 s h g

-- as a test: the set is not 0
pub some_pages : (s : ℕ) → s < 2 ^ 32 → some? (pages_of s) ≡ not (s == 0)
unfolding some?
some_pages zero h = ap some? pages_none
some_pages (suc s) h = pages_some (suc s) h (omega arith) ∙ sym (ap not (ne_eqb (suc s) 0 (λ e. omega arith)))

some_length : (l : List ℕ) → some? l ≡ true → 0 < length l
unfolding some?
some_length [] e = absurd (true≢false (sym e))
some_length (x ∷ xs) e = omega arith

-- The lowest, which `trailing_zeros` finds.
from_lowest : (d p n : ℕ) → n < 2 ^ d → 0 < n → slice_index (bits_from d p n) 0 ≡ count_trailing_zeros d n + p
unfolding bits_from when_set count_trailing_zeros
from_lowest zero p n h g = absurd (omega arith)
from_lowest (suc d) p n h g =
    by_digit (λ b. slice_index (when_set b p (bits_from d (suc p) (n / 2))) 0 ≡ lib.Count.under b (count_trailing_zeros d (n / 2)) + p) n
    (λ e. from_lowest d (suc p) (n / 2) (half_lt d n h) (omega arith) ∙ omega arith)
    (λ e. omega arith)

pub pages_lowest : (s : ℕ) → s < 2 ^ 32 → 0 < s → slice_index (pages_of s) 0 ≡ count_trailing_zeros 32 s
pages_lowest s h g = ap (λ (l : List ℕ). slice_index l 0) (pages_from s) ∙ from_lowest 32 0 s h g ∙ add-zero _

-- `x & (x - 1)` clears the lowest.
less_odd : (n : ℕ) → n % 2 ≡ 1 → bit_and n (n - 1) ≡ n / 2 * 2
less_odd n e =
    let a : (n - 1) / 2 ≡ n / 2 = omega arith in
    let b : (n - 1) % 2 ≡ 0 = omega arith in
    and_step n (n - 1) ∙ rw (a, b, min-zero (n % 2), and_self (n / 2)) (add-zero _)

less_even : (n : ℕ) → n % 2 ≡ 0 → 0 < n → bit_and n (n - 1) ≡ bit_and (n / 2) (n / 2 - 1) * 2
less_even n e h =
    let a : (n - 1) / 2 ≡ n / 2 - 1 = omega arith in
    and_step n (n - 1) ∙ rw (a, e, zero-min ((n - 1) % 2)) (add-zero _)

from_even : (d p n m : ℕ) → n ≡ m * 2 → bits_from (suc d) p n ≡ bits_from d (suc p) m
unfolding bits_from when_set
from_even d p n m e =
    let a : n / 2 ≡ m = omega arith in
    let b : n % 2 ≡ 0 = omega arith in
    rw (a, b)

from_less : (d p n : ℕ) → n < 2 ^ d → 0 < n → bits_from d p (bit_and n (n - 1)) ≡ drop 1 (bits_from d p n)
unfolding bits_from when_set
from_less zero p n h g = refl
from_less (suc d) p n h g =
    by_digit (λ b. bits_from (suc d) p (bit_and n (n - 1)) ≡ drop 1 (when_set b p (bits_from d (suc p) (n / 2)))) n
    (λ e. from_even d p _ _ (less_even n e g) ∙ from_less d (suc p) (n / 2) (half_lt d n h) (omega arith))
    (λ e. from_even d p _ _ (less_odd n e))

-- as the code has it: y is x - 1 within 32 bits
pub pages_less : (x y : ℕ) → x < 2 ^ 32 → y < 2 ^ 32 → (y + 1) % 2 ^ 32 ≡ x → pages_of (bit_and x y) ≡ drop 1 (pages_of x)
pages_less zero y h g e = rw pages_none
pages_less (suc x) y h g e =
    let f : y ≡ suc x - 1 = omega arith in
    rw (f, pages_from (suc x), pages_from (bit_and (suc x) (suc x - 1))) (from_less 32 0 (suc x) h (omega arith))

-- What is left where the set without its k lowest is taken away: these k.
from_least : (d q n k x : ℕ) (l : List ℕ) → drop k (bits_from d q n) ≡ x ∷ l → q ≤ x
unfolding bits_from when_set
from_least zero q n zero x l e = let z : ◌≡◌ {A = ℕ} 0 1 = cc in absurd (omega arith)
from_least zero q n (suc k) x l e = let z : ◌≡◌ {A = ℕ} 0 1 = cc in absurd (omega arith)
from_least (suc d) q n k x l e =
    by_digit (λ b. drop k (when_set b q (bits_from d (suc q) (n / 2))) ≡ x ∷ l → q ≤ x) n
    (λ f h. omega (arith, from_least d (suc q) (n / 2) k x l h))
    (λ f. go k (λ j. from_least d (suc q) (n / 2) j x l)) e
  where
    go : (k : ℕ) → ((j : ℕ) → drop j (bits_from d (suc q) (n / 2)) ≡ x ∷ l → suc q ≤ x) → drop k (q ∷ bits_from d (suc q) (n / 2)) ≡ x ∷ l → q ≤ x
    go zero f e = let z : q ≡ x = cc in omega arith
    go (suc k) f e = omega (arith, f k e)

never : (d p n k : ℕ) (l : List ℕ) → drop k (bits_from d (suc p) n) ≢ p ∷ l
never d p n k l e = omega (arith, from_least d (suc p) n k p l e)

from_digit : (d p q r : ℕ) → r < 2 → bits_from (suc d) p (q * 2 + r) ≡ when_set r p (bits_from d (suc p) q)
unfolding bits_from
from_digit d p q r h = ap₂ (λ (a b : ℕ). when_set a p (bits_from d (suc p) b)) (digits_mod q h) (digits_div q h)

xor_digit : (d p s w a b : ℕ) → s % 2 ≡ a → w % 2 ≡ b → differ a b < 2
    → bits_from (suc d) p (bit_xor s w) ≡ when_set (differ a b) p (bits_from d (suc p) (bit_xor (s / 2) (w / 2)))
xor_digit d p s w a b e f h =
    ap (bits_from (suc d) p) (xor_step s w ∙ ap₂ (λ (x y : ℕ). bit_xor (s / 2) (w / 2) * 2 + differ x y) e f)
    ∙ from_digit d p (bit_xor (s / 2) (w / 2)) (differ a b) h

-- by the two lowest digits, and those behind them
module _ (p : ℕ) (S W X Y : List ℕ) (rest : (j : ℕ) → W ≡ drop j S → Y ≡ take j S) where
  goes : (k : ℕ) → X ≡ p ∷ Y → (W ≢ p ∷ S) → W ≡ drop k (p ∷ S) → X ≡ take k (p ∷ S)
  goes zero x n h = absurd (n h)
  goes (suc k) x n h = x ∙ ap (λ (l : List ℕ). p ∷ l) (rest k h)

  stays : (k : ℕ) → X ≡ Y → ((j : ℕ) → drop j S ≢ p ∷ W) → p ∷ W ≡ drop k (p ∷ S) → X ≡ take k (p ∷ S)
  stays zero x n h = let e : W ≡ S = cc in x ∙ rest 0 e
  stays (suc k) x n h = absurd (n k (sym h))

from_xor : (d p s w k : ℕ) → bits_from d p w ≡ drop k (bits_from d p s) → bits_from d p (bit_xor s w) ≡ take k (bits_from d p s)
unfolding bits_from when_set
from_xor zero p s w k h = sym (take-nil k)
from_xor (suc d) p s w k h =
    let S = bits_from d (suc p) (s / 2) in
    let W = bits_from d (suc p) (w / 2) in
    let X = bits_from (suc d) p (bit_xor s w) in
    let Y = bits_from d (suc p) (bit_xor (s / 2) (w / 2)) in
    let rest : (j : ℕ) → W ≡ drop j S → Y ≡ take j S = from_xor d (suc p) (s / 2) (w / 2) in
    by_digit (λ a. when_set (w % 2) p W ≡ drop k (when_set a p S) → X ≡ take k (when_set a p S)) s
    (λ e. by_digit (λ b. when_set b p W ≡ drop k S → X ≡ take k S) w
    (λ f g. xor_digit d p s w 0 0 e f (omega arith) ∙ rest k g)
    (λ f g. absurd (never d p (s / 2) k W (sym g))))
    (λ e. by_digit (λ b. when_set b p W ≡ drop k (p ∷ S) → X ≡ take k (p ∷ S)) w
    (λ f. goes p S W X Y rest k (xor_digit d p s w 1 0 e f (omega arith)) (never d p (w / 2) 0 S))
    (λ f. stays p S W X Y rest k (xor_digit d p s w 1 1 e f (omega arith)) (λ j. never d p (s / 2) j W))) h

pub pages_xor : (s w k : ℕ) → pages_of w ≡ drop k (pages_of s) → pages_of (bit_xor s w) ≡ take k (pages_of s)
pages_xor s w k h =
    pages_from (bit_xor s w) ∙ from_xor 32 0 s w k (sym (pages_from w) ∙ h ∙ ap (drop k) (pages_from s)) ∙ ap (take k) (sym (pages_from s))

-- Page p is listed where bit p is set.
pub or_false : (b : Bool) → b || false ≡ b
or_false true = refl
or_false false = refl

pub or_assoc : (a b c : Bool) → (a || b) || c ≡ a || (b || c)
or_assoc true b c = refl
or_assoc false b c = refl

member_both : (x : ℕ) (s t : List ℕ) → member x (s ++ t) ≡ member x s || member x t
unfolding member
member_both x [] t = refl
member_both x (y ∷ s) t = ap (λ (b : Bool). (x == y) || b) (member_both x s t) ∙ sym (or_assoc (x == y) (member x s) (member x t))

member_last : (b : Bool) (n : ℕ) → member n (unless (not b) n) ≡ b
unfolding member unless
member_last true n = rw (eq-eqb n n refl)
member_last false n = refl

member_other : (b : Bool) (p n : ℕ) → (p ≢ n) → member p (unless (not b) n) ≡ false
unfolding member unless
member_other true p n h = rw (ne_eqb p n h)
member_other false p n h = refl

member_past : (n s p : ℕ) → n ≤ p → member p (bits_below n s) ≡ false
unfolding bits_below member
member_past zero s p h = refl
member_past (suc n) s p h =
    member_both p (bits_below n s) (unless (not (bit n s)) n)
    ∙ ap₂ ◌||◌ (member_past n s p (omega arith)) (member_other (bit n s) p n (λ e. omega arith))

member_below : (n s p : ℕ) → p < n → member p (bits_below n s) ≡ bit p s
unfolding bits_below
member_below zero s p h = absurd (omega arith)
member_below (suc n) s p h = member_both p (bits_below n s) (unless (not (bit n s)) n) ∙ go (member_below n s p) (ℕ_discrete p n)
  where
    go : (p < n → member p (bits_below n s) ≡ bit p s) → Dec (p ≡ n) → member p (bits_below n s) || member p (unless (not (bit n s)) n) ≡ bit p s
    go f (yes e) = rw e (ap₂ ◌||◌ (member_past n s n (omega arith)) (member_last (bit n s) n))
    go f (no e) = ap₂ ◌||◌ (f (omega arith)) (member_other (bit n s) p n e) ∙ or_false (bit p s)

pub member_pages : (s p : ℕ) → s < 2 ^ 32 → member p (pages_of s) ≡ bit p s
unfolding pages_of
member_pages s p h = go (dec_le 32 p)
  where
    go : Dec (32 ≤ p) → member p (bits_below 32 s) ≡ bit p s
    go (yes g) = member_past 32 s p g ∙ sym (bit_past p s (lt_of_lt_of_le h (pow_mono g)))
    go (no g) = member_below 32 s p (omega arith)

-- So sets with the same pages are the same set.
pub pages_one : (s t : ℕ) → s < 2 ^ 32 → t < 2 ^ 32 → pages_of s ≡ pages_of t → s ≡ t
pages_one s t h g e = bits_same 32 s t h g (λ p. sym (member_pages s p h) ∙ ap (member p) e ∙ member_pages t p g)

-- Document 02: "page k of a packet is the place of its set bit with exactly k set bits below it". The set bits below p are those of s % 2 ^ p.
digit_count : (n s : ℕ) → length (unless (not (bit n s)) n) ≡ ones (s / 2 ^ n % 2)
unfolding unless bit ones
digit_count n s = by_digit (λ b. length (unless (not (b == 1)) n) ≡ ones b) (s / 2 ^ n) (λ e. refl) (λ e. refl)

pub below_count : (n s : ℕ) → length (bits_below n s) ≡ ones (s % 2 ^ n)
unfolding bits_below ones
below_count zero s = ap ones (sym (mod-one s))
below_count (suc n) s =
    length-append (bits_below n s) (unless (not (bit n s)) n)
    ∙ ap₂ ◌+◌ (below_count n s) (digit_count n s)
    ∙ add_comm (ones (s % 2 ^ n)) (ones (s / 2 ^ n % 2))
    ∙ sym (ones_cat n (s / 2 ^ n % 2) (s % 2 ^ n) (mod-lt s (pow_pos n)))
    ∙ ap ones (sym (mod-pow-add s 1 n) ∙ ap (λ (k : ℕ). s % 2 ^ k) (one-add n))

abbrev pub Placed : ℕ → ℕ → ℕ → Type 0
Placed s k p = (bit p s ≡ true) × (ones (s % 2 ^ p) ≡ k)

-- Bits that say which pages below n no list has.
below_more : (k n r : ℕ) → r < 2 ^ n → bits_below (k + n) r ≡ bits_below n r
unfolding bits_below unless
below_more zero n r h = rw (zero-add n)
below_more (suc k) n r h =
    rw (suc-add k n, bit_past (k + n) r (lt_of_lt_of_le h (pow_mono (omega arith)))) (append-nil _ ∙ below_more k n r h)

below_free : (n r : ℕ) (ls : List (List ℕ)) → ((p : ℕ) → p < n → bit p r ≡ not (owned p ls)) → bits_below n r ≡ free_below n ls
unfolding bits_below free_below
below_free zero r ls h = refl
below_free (suc n) r ls h =
    ap₂ (λ (l : List ℕ) (b : Bool). l ++ unless b n) (below_free n r ls (λ p g. h p (omega arith))) (ap not (h n (omega arith)) ∙ not_not (owned n ls))
  where
    not_not : (b : Bool) → not (not b) ≡ b
    not_not true = refl
    not_not false = refl

pub pages_free : (n r : ℕ) (ls : List (List ℕ)) → n ≤ 32 → r < 2 ^ n → ((p : ℕ) → p < n → bit p r ≡ not (owned p ls)) → pages_of r ≡ free_below n ls
unfolding pages_of
pages_free n r ls m h f =
    let e : 32 ≡ 32 - n + n = omega arith in
    ap (λ (k : ℕ). bits_below k r) e ∙ below_more (32 - n) n r h ∙ below_free n r ls f

-- The set without its k lowest has a page where there is a page k, and that is its lowest.
module _ (s r k : ℕ) (e : pages_of r ≡ drop k (pages_of s)) where
  pub rest_some : k < length (pages_of s) → 0 < r
  rest_some h = go r e
    where
      go : (r : ℕ) → pages_of r ≡ drop k (pages_of s) → 0 < r
      go zero f = let a = ap length (sym f ∙ pages_none) in absurd (omega (arith, a, length-drop k (pages_of s)))
      go (suc r) f = omega arith

  pub rest_first : slice_index_or (pages_of r) 0 0 ≡ slice_index (pages_of s) k
  rest_first = ap (λ (l : List ℕ). slice_index l 0) e ∙ get_or-drop k (pages_of s) 0 0 ∙ ap (λ (i : ℕ). slice_index (pages_of s) i) (add-zero k)

  pub rest_none : r ≡ 0 → length (pages_of s) ≤ k
  rest_none f = let a = ap length (sym e ∙ ap pages_of f ∙ pages_none) in omega (arith, a, length-drop k (pages_of s))

  pub rest_goes : r < 2 ^ 32 → 0 < r → k < length (pages_of s)
  rest_goes h g = let a = some_length (pages_of r) (pages_some r h g) in let b = ap length e in omega (arith, a, b, length-drop k (pages_of s))

  -- as a test: that set is not 0
  pub rest_goes? : r < 2 ^ 32 → nat_lt k (length (pages_of s)) ≡ not (r == 0)
  rest_goes? h = go (ℕ_discrete r 0)
    where
      go : Dec (r ≡ 0) → nat_lt k (length (pages_of s)) ≡ not (r == 0)
      go (yes d) = le-ltb k (length (pages_of s)) (rest_none d) ∙ sym (ap not (eq-eqb r 0 d))
      go (no d) = lt-ltb k (length (pages_of s)) (rest_goes h (omega arith)) ∙ sym (ap not (ne_eqb r 0 d))
