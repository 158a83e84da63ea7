use Rattle.std.proofs.Common.{rules, ◌≡◌, ◌≢◌, ℕ, suc, zero, ◌^◌, ◌<◌, ◌≤◌, true, true≢false, List, [], ◌∷◌, map, slice_index, length, EachIndex, MatchOption, Option, Some, None, refl, sym, ap, ◌∙◌, arith}
use Rattle.std.specs.Option.{unwrap_or}
use Rattle.rules.specs.Lists.{some?, first_empty}
use Rattle.sets.specs.Views.{pages_of}
use Rattle.sets.specs.Pages.{pages_none, pages_some}
use Rattle.sets.proofs.map.lowest_unallocated.Goals as goal

first-on : (l : List ℕ) (ls : List (List ℕ)) → some? l ≡ true → suc (first_empty ls) ≡ first_empty (l ∷ ls)
unfolding first_empty some?
first-on [] ls e = absurd (true≢false (sym e))
first-on (x ∷ xs) ls e = refl

-- The place of the first set that is 0, or the end, is that of the first empty list.
first-is : (ss : List ℕ) (i : ℕ) → ((k : ℕ) → slice_index ss k < 2 ^ 32) → i ≤ length ss → ((k : ℕ) → k < i → slice_index ss k ≢ 0)
    → (i < length ss → slice_index ss i ≡ 0) → i ≡ first_empty (map pages_of ss)
unfolding first_empty
first-is [] zero f h before at = refl
first-is [] (suc i) f h before at = absurd (omega arith)
first-is (zero ∷ ss) zero f h before at = rw pages_none
first-is (zero ∷ ss) (suc i) f h before at = absurd (before 0 (omega arith) refl)
first-is (suc s ∷ ss) zero f h before at = let e = at (omega arith) in absurd (omega arith)
first-is (suc s ∷ ss) (suc i) f h before at =
    ap suc (first-is ss i (λ k. f (suc k)) (omega arith) (λ k l. before (suc k) (omega arith)) (λ l. at (omega arith)))
    ∙ first-on (pages_of (suc s)) (map pages_of ss) (pages_some (suc s) (f 0) (omega arith))

found : (ss : List ℕ) (r : Option ℕ) → ((k : ℕ) → slice_index ss k < 2 ^ 32)
    → MatchOption r (EachIndex ss (λ k. slice_index ss k ≢ 0)) (λ i. (i < length ss) × (slice_index ss i ≡ 0) × ((k : ℕ) → k < i → slice_index ss k ≢ 0))
    → unwrap_or r (length ss) ≡ first_empty (map pages_of ss)
found ss None f h = first-is ss (length ss) f (omega arith) h (λ l. absurd (omega arith))
found ss (Some i) f h = first-is ss i f (omega (arith, h.0)) h.2 (λ l. h.1)

pub returns : goal.returns
returns c = c.unwrap_or.ensures ∙ found c.args.sets.now c.position.result (λ i. omega (arith, c.type_inv.sets i)) (search rules)
