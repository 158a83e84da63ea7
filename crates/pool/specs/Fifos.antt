-- What holds of each of the three queues alike, by where it stands.
use Rattle.std.specs.Prelude.{◌≡◌, refl, List, ℕ, Option, None, Some, IfSome, ◌+◌, ◌*◌, ◌/◌, ◌%◌, ◌<◌, ◌≢◌, length, set}
use Rattle.std.proofs.Common.{ap, sym, subst, ◌∙◌, arith}
use Rattle.std.proofs.lemmas.List.{set_comm}
use Rattle.rules.specs.Chip.{Layout, Pool}
use Rattle.rules.specs.Fields.{set_rx, set_tx, set_completion}
use Rattle.sets.specs.Members.{set_of}
use Rattle.queues.specs.Slots.{Slots}
use Rattle.queues.specs.Parts.{slots, replaced}
use Rattle.state.specs.View.{word, figures, queue_in, pool_of, Kept}
use Rattle.state.specs.Promise.{Halves, QueuesIn}
use Rattle.state.specs.Stores.{Recounts, store_rx, store_tx, store_completion}
use Rattle.pool.specs.Queues.{Rejoins, rejoined, requeued_rx, requeued_tx, requeued_completion}

-- the bits that two words keep, the lower 16 first
abbrev pub bits_at : ℕ → List ℕ → ℕ
bits_at low w = word w low + word w (low + 1) * 65536

abbrev pub with_bits : ℕ → ℕ → List ℕ → List ℕ
with_bits low x w = set (set w low (x % 65536)) (low + 1) (x / 65536)

-- the words with f of the bits in place of them, where bits are kept
abbrev pub bits_by : Option ℕ → (ℕ → ℕ) → List ℕ → List ℕ
bits_by None f w = w
bits_by (Some low) f w = with_bits low (f (bits_at low w)) w

-- What is at these places are the queue's slots, its count and its bits, and the pool has its entries so.
pub record IsFifo (place from count : ℕ) (bits : Option ℕ) (entries : Pool → List ℕ) (set_entries : List ℕ → Pool → Pool) : Type 0 where
  pub few : place < 3
  pub begins : from ≡ 24 * place
  pub counts : count < 32
  pub marks : IfSome bits (λ low. low + 1 < 32)
  pub own : (l : Layout) (w s q : List ℕ) → entries (pool_of l (figures w) s q) ≡ queue_in place (word w count) q
  pub in_slots : (w q : List ℕ) → QueuesIn (figures w) q → Slots (slots place q) (word w count) (queue_in place (word w count) q)
  pub in_bits : (w q : List ℕ) → QueuesIn (figures w) q → IfSome bits (λ low. Halves (word w low) (word w (low + 1)) (set_of (queue_in place (word w count) q)))
  -- where its slots, count and bits become those of other entries, the pool has these, and no more changes
  pub stored : (w q p l : List ℕ) (n : ℕ) → Kept w → QueuesIn (figures w) q → Slots p n l → length p ≡ 24 → Rejoins (set_entries l) w q (set (bits_by bits (λ x. set_of l) w) count n) (replaced place p q)

-- the count may be stored last
last : {c : List ℕ} (count low high n x y : ℕ) (w : List ℕ) → low ≢ count → high ≢ count → Recounts c w (set (set (set w count n) low x) high y) → Recounts c w (set (set (set w low x) high y) count n)
last {c} count low high n x y w apart above r =
    subst (Recounts c w) (sym (set_comm (set w low x) high count y n above ∙ ap (λ (v : List ℕ). set v high y) (set_comm w low count x n apart))) r

pub rx_laws : IsFifo 0 0 6 (Some 28) (λ p. p.rx) set_rx
rx_laws = record {
  few = omega arith;
  begins = refl;
  counts = omega arith;
  marks = omega arith;
  own = λ l w s q. refl;
  in_slots = λ w q h. h.rx;
  in_bits = λ w q h. h.in_rx;
  stored = λ w q p l n k h e long. rejoined (last 6 28 29 n _ _ w (omega arith) (omega arith) (store_rx n _ _ w k)) refl (requeued_rx (figures w) q p l n h e long _ _ (record { lower = refl; upper = refl }));
}

pub tx_laws : IsFifo 1 24 8 (Some 30) (λ p. p.tx) set_tx
tx_laws = record {
  few = omega arith;
  begins = refl;
  counts = omega arith;
  marks = omega arith;
  own = λ l w s q. refl;
  in_slots = λ w q h. h.tx;
  in_bits = λ w q h. h.in_tx;
  stored = λ w q p l n k h e long. rejoined (last 8 30 31 n _ _ w (omega arith) (omega arith) (store_tx n _ _ w k)) refl (requeued_tx (figures w) q p l n h e long _ _ (record { lower = refl; upper = refl }));
}

pub completion_laws : IsFifo 2 48 9 None (λ p. p.completion) set_completion
completion_laws = record {
  few = omega arith;
  begins = refl;
  counts = omega arith;
  marks = tt;
  own = λ l w s q. refl;
  in_slots = λ w q h. h.completion;
  in_bits = λ w q h. tt;
  stored = λ w q p l n k h e long. rejoined (store_completion n w k) refl (requeued_completion (figures w) q p l n h e long);
}
