use Rattle.std.proofs.Common.{rules, ℕ, ◌≤◌, List, length, EachIndex, IsTrue, count_ones, slice_index, ◌↔◌, zero-le, arith}
use Rattle.std.proofs.Math.Decide.{dec_le}
use Rattle.std.specs.Int.Count.{ones}
use lib.ListN.{get_or-eq_default}
use Rattle.lists.specs.Facts.{is_true, agrees}
use Rattle.sets.specs.Joins.{FewEach}
use Rattle.sets.proofs.map.few_each.Goals as goal

-- Past the end no set has a page.
few-past : (ss : List ℕ) → EachIndex ss (λ k. count_ones (slice_index ss k) ≤ 8) → FewEach 8 ss
unfolding ones
few-past ss f i = go (dec_le (length ss) i)
  where
    go : Dec (length ss ≤ i) → count_ones (slice_index ss i) ≤ 8
    go (yes h) = rw (get_or-eq_default ss 0 h) zero-le
    go (no h) = f i (omega arith)

pub returns : goal.returns
returns c =
    let sets = c.args.sets.now in
    let e : IsTrue c.all.result ↔ EachIndex sets (λ k. count_ones (slice_index sets k) ≤ 8) = search rules in
    agrees (is_true c.all.result) (λ t. few-past sets (e.0 t)) (λ f. e.1 (λ k h. f k))
