-- The bytes of a queue add up to what its entries do exactly where 0 stands behind them; and so do those of three queues, since no byte is below 0.
use Rattle.std.specs.Prelude.{◌≡◌, refl, List, [], ◌∷◌, ◌++◌, ℕ, ◌+◌, ◌-◌, ◌≤◌, ◌<◌, length, take, drop, replicate, sum}
use Rattle.std.proofs.Common.{ap, ap₂, sym, ◌∙◌, arith, length-drop, take-append-drop, length-take-le}
use Rattle.std.proofs.lemmas.List.Sums.{sum_by-cons, sum_by-append, sum_by-take-drop}
use Rattle.std.proofs.lemmas.List.Folds.{sum_by-replicate}
use Rattle.queues.specs.Slots.{Slots}
use Rattle.queues.specs.Parts.{slots, part_long}
use Rattle.state.specs.View.{queue_in}
use Rattle.state.specs.Only.{parts_all}

zeros_only : (l : List ℕ) → sum l ≡ 0 → l ≡ replicate (length l) 0
zeros_only [] e = refl
zeros_only (x ∷ xs) e = let both = sum_by-cons (λ (y : ℕ). y) x xs in ap₂ ◌∷◌ (omega (arith, e, both)) (zeros_only xs (omega (arith, e, both)))

module _ (p : List ℕ) (c : ℕ) where
  split : sum (take c p) + sum (drop c p) ≡ sum p
  split = sum_by-take-drop (λ (x : ℕ). x) p c

  slots_sum : Slots p c (take c p) → sum p ≡ sum (take c p)
  slots_sum s = ap sum s.same ∙ sum_by-append (λ (x : ℕ). x) (take c p) _ ∙ omega (arith, sum_by-replicate (λ (x : ℕ). x) (length p - c) 0)

  sum_slots : c ≤ length p → sum p ≡ sum (take c p) → Slots p c (take c p)
  sum_slots fits e = record {
    many = sym (length-take-le c p fits);
    fits = fits;
    same = sym (take-append-drop c p) ∙ ap (λ (l : List ℕ). take c p ++ l) (zeros_only (drop c p) (omega (arith, e, split)) ∙ ap (λ (n : ℕ). replicate n 0) (length-drop c p));
  }

-- Three queues with so many entries.
module _ (q : List ℕ) (a b c : ℕ) (long : length q ≡ 72) where
  abbrev entries : ℕ
  entries = sum (queue_in 0 a q) + sum (queue_in 1 b q) + sum (queue_in 2 c q)

  parts_sum : sum q ≡ sum (slots 0 q) + sum (slots 1 q) + sum (slots 2 q)
  parts_sum = ap sum (parts_all q long) ∙ omega (arith, sum_by-append (λ (x : ℕ). x) (slots 0 q) (slots 1 q ++ slots 2 q), sum_by-append (λ (x : ℕ). x) (slots 1 q) (slots 2 q))

  pub entries_sum : entries ≤ sum q
  entries_sum = omega (arith, parts_sum, split (slots 0 q) a, split (slots 1 q) b, split (slots 2 q) c)

  pub queues_sum : Slots (slots 0 q) a (queue_in 0 a q) → Slots (slots 1 q) b (queue_in 1 b q) → Slots (slots 2 q) c (queue_in 2 c q) → sum q ≡ entries
  queues_sum x y z = omega (arith, parts_sum, slots_sum (slots 0 q) a x, slots_sum (slots 1 q) b y, slots_sum (slots 2 q) c z)

  module _ (e : sum q ≡ entries) where
    part : (k n : ℕ) → k < 3 → n ≤ 24 → sum (slots k q) ≡ sum (queue_in k n q) → Slots (slots k q) n (queue_in k n q)
    part k n h fits = sum_slots (slots k q) n (omega (arith, fits, part_long k q long h))

    pub rx_slots : a ≤ 24 → Slots (slots 0 q) a (queue_in 0 a q)
    rx_slots h = part 0 a (omega arith) h (omega (arith, e, parts_sum, split (slots 0 q) a, split (slots 1 q) b, split (slots 2 q) c))

    pub tx_slots : b ≤ 24 → Slots (slots 1 q) b (queue_in 1 b q)
    tx_slots h = part 1 b (omega arith) h (omega (arith, e, parts_sum, split (slots 0 q) a, split (slots 1 q) b, split (slots 2 q) c))

    pub completion_slots : c ≤ 24 → Slots (slots 2 q) c (queue_in 2 c q)
    completion_slots h = part 2 c (omega arith) h (omega (arith, e, parts_sum, split (slots 0 q) a, split (slots 1 q) b, split (slots 2 q) c))
