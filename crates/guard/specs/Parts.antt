-- A record has places for 24 packets, and the part n: what the record's page sets say, the part's say too, where the places from n on are empty.
use Rattle.std.specs.Prelude.{◌≡◌, ◌↔◌, List, [], ◌∷◌, ◌++◌, map, ℕ, suc, ◌+◌, ◌-◌, ◌≤◌, ◌<◌, length, take, drop, get_or, replicate}
use Rattle.std.proofs.Common.{ap, ap₂, sym, subst, ◌∙◌, add-one, arith, take-append-drop, drop-cons}
use Rattle.rules.specs.Lists.{member, some?, free_below}
use Rattle.rules.specs.WellFormed.{Ascending, GoodPages, GoodQueues}
use Rattle.sets.specs.Views.{pages_of}
use Rattle.sets.specs.Lists.{list_at}
use Rattle.state.specs.Places.{padded_at, padded_free}

-- The queues ask of a packet only whether it has pages.
pub queues_alike : {n : ℕ} {ls ms : List (List ℕ)} {rx tx completion : List ℕ} → ((k : ℕ) → some? (get_or ls k []) ≡ some? (get_or ms k [])) → GoodQueues n ls rx tx completion → GoodQueues n ms rx tx completion
queues_alike alike g = record {
  rx_allocated = λ k m. sym (alike k) ∙ g.rx_allocated k m;
  tx_allocated = λ k m. sym (alike k) ∙ g.tx_allocated k m;
  rx_distinct = g.rx_distinct;
  tx_distinct = g.tx_distinct;
  not_both = g.not_both;
  completion_few = g.completion_few;
  completion_numbers = g.completion_numbers;
}

-- Page lists that agree at every place are good together, and so are the queues beside them.
module _ {n : ℕ} {ls ms : List (List ℕ)} (same : (i : ℕ) → get_or ls i [] ≡ get_or ms i []) where
  pub pages_same : GoodPages n ls → GoodPages n ms
  pages_same g = record {
    once = λ i j p a b. g.once i j p (ap (member p) (same i) ∙ a) (ap (member p) (same j) ∙ b);
    ascend = λ i. subst Ascending (same i) (g.ascend i);
    within = λ i p a. g.within i p (ap (member p) (same i) ∙ a);
    at_most = λ i. subst (λ (l : List ℕ). length l ≤ 8) (same i) (g.at_most i);
  }

  pub queues_same : {rx tx completion : List ℕ} → GoodQueues n ls rx tx completion → GoodQueues n ms rx tx completion
  queues_same = queues_alike (λ k. ap some? (same k))

-- Such are the record's and the part's.
module _ (s : List ℕ) (n : ℕ) (rest : drop n s ≡ replicate (24 - n) 0) where
  cut : s ≡ take n s ++ replicate (24 - n) 0
  cut = sym (take-append-drop n s) ∙ ap (λ (r : List ℕ). take n s ++ r) rest

  -- the number of packet i
  pub part_at : (i : ℕ) → get_or s i 0 ≡ get_or (take n s) i 0
  part_at i = ap (λ (l : List ℕ). get_or l i 0) cut ∙ padded_at (take n s) (24 - n) i

  -- its pages
  pub part_pages : (i : ℕ) → get_or (map pages_of s) i [] ≡ get_or (map pages_of (take n s)) i []
  part_pages i = list_at s i ∙ ap pages_of (part_at i) ∙ sym (list_at (take n s) i)

  -- and those that no packet has
  pub part_free : (m : ℕ) → free_below m (map pages_of s) ≡ free_below m (map pages_of (take n s))
  part_free m = ap (λ (l : List ℕ). free_below m (map pages_of l)) cut ∙ padded_free m (take n s) (24 - n)

-- Places from k on are empty where place k is, and those behind it are.
pub empty_here : (s : List ℕ) (k : ℕ) → k < length s → k < 24 → (drop k s ≡ replicate (24 - k) 0) ↔ ((get_or s k 0 ≡ 0) × (drop (k + 1) s ≡ replicate (24 - (k + 1)) 0))
empty_here s k inside small = (
  λ e. let f = sym here ∙ e ∙ zeros in (ap (λ (l : List ℕ). get_or l 0 0) f, ap (λ (l : List ℕ). drop 1 l) f),
  λ e. here ∙ ap₂ ◌∷◌ e.0 e.1 ∙ sym zeros,
)
  where
    here : drop k s ≡ get_or s k 0 ∷ drop (k + 1) s
    here = drop-cons s k 0 inside ∙ ap (λ (j : ℕ). get_or s k 0 ∷ drop j s) (sym (add-one k))

    zeros : ◌≡◌ {A = List ℕ} (replicate (24 - k) 0) (0 ∷ replicate (24 - (k + 1)) 0)
    zeros = let e : 24 - k ≡ suc (24 - (k + 1)) = omega arith in ap (λ (m : ℕ). replicate {A = ℕ} m 0) e
