-- What a change of the queues promises, and what becomes of the three queues where the bytes of one are replaced.
use Rattle.std.specs.Prelude.{◌≡◌, refl, true, false, ◌||◌, List, [], ◌∷◌, ℕ, ◌*◌, ◌<◌, length, take, get_or, replicate}
use Rattle.std.proofs.Common.{ap, sym, subst, ◌∙◌, arith}
use Rattle.std.proofs.lemmas.List.{length-replicate}
use Rattle.rules.specs.Bits.{bit}
use Rattle.rules.specs.Lists.{member, some?}
use Rattle.rules.specs.Chip.{Registers, Layout, paged, Pool, page_numbers, empty_pool}
use Rattle.rules.specs.Fields.{set_rx, set_tx, set_completion, in_pool}
use Rattle.rules.specs.WellFormed.{Distinct}
use Rattle.lists.specs.Each.{Each, member_each}
use Rattle.wellformed.specs.Parts.{part_few}
use Rattle.wellformed.specs.Pool.{has_small}
use Rattle.sets.specs.Members.{set_of}
use Rattle.queues.specs.Slots.{Slots}
use Rattle.queues.specs.Parts.{slots, replaced, replaced_long, replaced_same, replaced_other, slots_entries, slots_as}
use Rattle.queues.specs.Changes.{slots_head}
use Rattle.state.specs.View.{word, registers_in, figures, rx_bits, tx_bits, with_rx, with_tx, with_completion, queue_in, lists_of, pool_of, view_of, Kept}
use Rattle.state.specs.Promise.{Halves, QueuesIn, PagesIn, SoundOf, ReadyOf}
use Rattle.state.specs.Stores.{Recounts}
use Rattle.state.specs.Counted.{queued_kept}

-- packet k may join the entries l: all are packet numbers, and each stands there once
pub record MayJoin (k : ℕ) (l : List ℕ) : Type 0 where
  pub once : Distinct (k ∷ l)
  pub small : Each (λ j. j < 24) (k ∷ l)

-- the pool changes by f, whatever the packets' pages; no register changes, nor MIR
pub record Rejoins (f : Pool → Pool) (w q w' q' : List ℕ) : Type 0 where
  pub regs : registers_in w' ≡ registers_in w
  pub pool : (l : Layout) (s : List ℕ) → pool_of l (figures w') s q' ≡ f (pool_of l (figures w) s q)
  pub free : word w' 4 ≡ word w 4
  pub kept : Kept w'
  pub queues : QueuesIn (figures w') q'

-- no packet has pages and no queue has entries; no register changes
pub record EmptiedOf (l : Layout) (n : ℕ) (w w' s' q' : List ℕ) : Type 0 where
  pub regs : registers_in w' ≡ registers_in w
  pub pool : pool_of l (figures w') s' q' ≡ empty_pool l n
  pub sound : SoundOf l w' s' q'

abbrev pub Emptied : ℕ → List ℕ → List ℕ → List ℕ → List ℕ → Type 0
Emptied = EmptiedOf paged

-- the chip after it; and the state is sound
pub rejoins_chip : {f : Pool → Pool} {w q w' q' : List ℕ} → Rejoins f w q w' q' → (l : Layout) (s mem : List ℕ) → view_of l w' s q' mem ≡ in_pool f (view_of l w s q mem)
rejoins_chip {f} {w} {q} {w'} {q'} a l s mem =
    ap (λ (r : Registers). record { regs = r; pool = pool_of l (figures w') s q'; memory = mem }) a.regs
    ∙ ap (λ (p : Pool). record { regs = registers_in w; pool = p; memory = mem }) (a.pool l s)

pub rejoins_sets : {l : Layout} {f : Pool → Pool} {w q w' q' s : List ℕ} → Rejoins f w q w' q' → PagesIn l (figures w) s → PagesIn l (figures w') s
rejoins_sets a e = record { part = e.part; free = a.free ∙ e.free; small = e.small }

pub rejoins_sound : {l : Layout} {f : Pool → Pool} {w q w' q' s : List ℕ} → Rejoins f w q w' q' → PagesIn l (figures w) s → SoundOf l w' s q'
rejoins_sound a e = record { kept = a.kept; queues = a.queues; sets = rejoins_sets a e }

pub rejoins_both : {f g : Pool → Pool} {w q w' q' w'' q'' : List ℕ} → Rejoins f w q w' q' → Rejoins g w' q' w'' q'' → Rejoins (λ p. g (f p)) w q w'' q''
rejoins_both {f} {g} a b = record { regs = b.regs ∙ a.regs; pool = λ l s. b.pool l s ∙ ap g (a.pool l s); free = b.free ∙ a.free; kept = b.kept; queues = b.queues }

-- from the figures that are stored, and the queues that they are right for
pub rejoined : {f : Pool → Pool} {c' w q w' q' : List ℕ} → Recounts c' w w' → word c' 3 ≡ word w 4 → QueuesIn c' q' × ((l : Layout) (s : List ℕ) → pool_of l c' s q' ≡ f (pool_of l (figures w) s q)) → Rejoins f w q w' q'
rejoined {q' = q'} r e a = record {
  regs = r.regs;
  pool = λ l s. ap (λ (x : List ℕ). pool_of l x s q') r.counted ∙ a.1 l s;
  free = ap (λ (x : List ℕ). word x 3) r.counted ∙ e;
  kept = r.kept;
  queues = subst (λ (x : List ℕ). QueuesIn x q') (sym r.counted) a.0;
}

-- The bytes p, with n entries l, in the place of those of one queue: that queue has these entries, and the others stay.
module _ (c q p l : List ℕ) (n : ℕ) (h : QueuesIn c q) (e : Slots p n l) (long : length p ≡ 24) where
  -- what the queue itself becomes
  own : (k : ℕ) → k < 3 → Slots (slots k (replaced k p q)) n (queue_in k n (replaced k p q))
  own k small = rw (replaced_same k p q long h.long small) (slots_as p n l e)

  own_entries : (k : ℕ) → k < 3 → queue_in k n (replaced k p q) ≡ l
  own_entries k small = ap (take n) (replaced_same k p q long h.long small) ∙ slots_entries p n l e

  -- what another stays
  other : (j k count : ℕ) → k < 3 → (j ≡ k → ⊥) → Slots (slots j q) count (queue_in j count q) → Slots (slots j (replaced k p q)) count (queue_in j count (replaced k p q))
  other j k count small apart s = rw (replaced_other j k p q long h.long small apart) s

  other_entries : (j k count : ℕ) → k < 3 → (j ≡ k → ⊥) → queue_in j count (replaced k p q) ≡ queue_in j count q
  other_entries j k count small apart = ap (take count) (replaced_other j k p q long h.long small apart)

  pub requeued_rx : (low high : ℕ) → Halves low high (set_of l) → QueuesIn (with_rx n low high c) (replaced 0 p q) × ((i : Layout) (s : List ℕ) → pool_of i (with_rx n low high c) s (replaced 0 p q) ≡ set_rx l (pool_of i c s q))
  requeued_rx low high m = (
    record {
      long = replaced_long 0 p q long h.long (omega arith);
      rx = own 0 (omega arith);
      tx = other 1 0 _ (omega arith) (λ x. absurd (omega arith)) h.tx;
      completion = other 2 0 _ (omega arith) (λ x. absurd (omega arith)) h.completion;
      in_rx = rw (own_entries 0 (omega arith)) m;
      in_tx = rw (other_entries 1 0 (word c 1) (omega arith) (λ x. absurd (omega arith))) h.in_tx;
    },
    λ i s. rw (own_entries 0 (omega arith), other_entries 1 0 (word c 1) (omega arith) (λ x. absurd (omega arith)), other_entries 2 0 (word c 2) (omega arith) (λ x. absurd (omega arith))) refl,
  )

  pub requeued_tx : (low high : ℕ) → Halves low high (set_of l) → QueuesIn (with_tx n low high c) (replaced 1 p q) × ((i : Layout) (s : List ℕ) → pool_of i (with_tx n low high c) s (replaced 1 p q) ≡ set_tx l (pool_of i c s q))
  requeued_tx low high m = (
    record {
      long = replaced_long 1 p q long h.long (omega arith);
      rx = other 0 1 _ (omega arith) (λ x. absurd (omega arith)) h.rx;
      tx = own 1 (omega arith);
      completion = other 2 1 _ (omega arith) (λ x. absurd (omega arith)) h.completion;
      in_rx = rw (other_entries 0 1 (word c 0) (omega arith) (λ x. absurd (omega arith))) h.in_rx;
      in_tx = rw (own_entries 1 (omega arith)) m;
    },
    λ i s. rw (other_entries 0 1 (word c 0) (omega arith) (λ x. absurd (omega arith)), own_entries 1 (omega arith), other_entries 2 1 (word c 2) (omega arith) (λ x. absurd (omega arith))) refl,
  )

  pub requeued_completion : QueuesIn (with_completion n c) (replaced 2 p q) × ((i : Layout) (s : List ℕ) → pool_of i (with_completion n c) s (replaced 2 p q) ≡ set_completion l (pool_of i c s q))
  requeued_completion = (
    record {
      long = replaced_long 2 p q long h.long (omega arith);
      rx = other 0 2 _ (omega arith) (λ x. absurd (omega arith)) h.rx;
      tx = other 1 2 _ (omega arith) (λ x. absurd (omega arith)) h.tx;
      completion = own 2 (omega arith);
      in_rx = rw (other_entries 0 2 (word c 0) (omega arith) (λ x. absurd (omega arith))) h.in_rx;
      in_tx = rw (other_entries 1 2 (word c 1) (omega arith) (λ x. absurd (omega arith))) h.in_tx;
    },
    λ i s. rw (other_entries 0 2 (word c 0) (omega arith) (λ x. absurd (omega arith)), other_entries 1 2 (word c 1) (omega arith) (λ x. absurd (omega arith)), own_entries 2 (omega arith)) refl,
  )

-- Who may join, on a state that is in order: a packet number that the queue has not.
module _ {i : Layout} {w s q : List ℕ} (r : ReadyOf i w s q) (k : ℕ) (number : k < 24) where
  small_entries : (l : List ℕ) → ((j : ℕ) → member j l ≡ true → some? (get_or (lists_of i s) j []) ≡ true) → Each (λ j. j < 24) l
  small_entries l h = member_each (λ j. j < 24) l (λ j m. omega (arith, has_small (lists_of i s) j (h j m), r.well.count, part_few r.sound.sets.part))

  pub may_join_rx : member k (queue_in 0 (word w 6) q) ≡ false → MayJoin k (queue_in 0 (word w 6) q)
  may_join_rx e = record { once = (e, r.well.queues.rx_distinct); small = (number, small_entries _ r.well.queues.rx_allocated) }

  pub may_join_tx : member k (queue_in 1 (word w 8) q) ≡ false → MayJoin k (queue_in 1 (word w 8) q)
  may_join_tx e = record { once = (e, r.well.queues.tx_distinct); small = (number, small_entries _ r.well.queues.tx_allocated) }

-- The first byte of a queue that has entries is its head.
pub head_told : (k count : ℕ) (q : List ℕ) → Slots (slots k q) count (queue_in k count q) → 0 < count → get_or (slots k q) 0 0 ≡ get_or (queue_in k count q) 0 0
head_told k count q h some = slots_head (slots k q) count (queue_in k count q) h some

-- A packet is in RX or TX where one of its kept bits is set.
pub queued_told : {i : Layout} {w s q : List ℕ} → ReadyOf i w s q → (k : ℕ) → bit k (rx_bits w) || bit k (tx_bits w) ≡ member k (queue_in 0 (word w 6) q) || member k (queue_in 1 (word w 8) q)
queued_told {i} {s = s} r k = queued_kept {mem = replicate (256 * page_numbers i (length s)) 0} (record { ready = r; full = length-replicate {A = ℕ} (256 * page_numbers i (length s)) 0 }) k
