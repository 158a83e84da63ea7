-- The kept figures are those that a full count gives (document 02, W7: "with the answer a full count would give"), for every record in order: MIR's free pages,
-- and for each packet whether it is in RX and in TX.
use Rattle.std.specs.Prelude.{◌≡◌, ◌||◌, List, ℕ, ◌+◌, ◌*◌, ◌/◌, ◌<◌, length}
use Rattle.std.proofs.Common.{ap, ap₂, sym, ◌∙◌, arith}
use Rattle.rules.specs.Bits.{bit, word_of}
use Rattle.rules.specs.Lists.{member}
use Rattle.rules.specs.Chip.{Layout, Pool, free_for, free}
use Rattle.rules.specs.Mmu.{queued}
use Rattle.wellformed.specs.Parts.{part_few}
use Rattle.sets.specs.Members.{set_of, set_members}
use Rattle.state.specs.View.{word, figures, rx_bits, tx_bits, lists_of, pool_of, view_of}
use Rattle.state.specs.Pages.{numbers_length}
use Rattle.state.specs.Promise.{Halves, SoundOf}
use Rattle.state.specs.Entry.{InOrderOf}

-- the figures c are those of the pool
pub record FullCount (c : List ℕ) (p : Pool) : Type 0 where
  pub rx : word c 0 ≡ length p.rx
  pub tx : word c 1 ≡ length p.tx
  pub completion : word c 2 ≡ length p.completion
  pub mir : word c 3 ≡ word_of (length p.pages) (length (free_for p.layout p.pages))
  pub in_rx : Halves (word c 4) (word c 5) (set_of p.rx)
  pub in_tx : Halves (word c 6) (word c 7) (set_of p.tx)

pub full_count : {l : Layout} {w s q : List ℕ} → SoundOf l w s q → FullCount (figures w) (pool_of l (figures w) s q)
full_count {l} {w} {s} {q} o = record {
  rx = o.queues.rx.many;
  tx = o.queues.tx.many;
  completion = o.queues.completion.many;
  mir = o.sets.free ∙ ap (λ (n : ℕ). word_of n (length (free_for l (lists_of l s)))) (sym (numbers_length l s));
  in_rx = o.queues.in_rx;
  in_tx = o.queues.in_tx;
}

-- The halves of a number make it up again, and two words that make it up are its halves.
pub whole : {low high x : ℕ} → Halves low high x → low + high * 65536 ≡ x
whole h = omega (arith, h.lower, h.upper)

pub halves : (low high x : ℕ) → low < 65536 → low + high * 65536 ≡ x → Halves low high x
halves low high x h e = record { lower = omega (arith, h, e); upper = omega (arith, h, e) }

-- Figure by figure, as document 01 counts.
module _ {l : Layout} {w s q mem : List ℕ} (o : InOrderOf l w s q mem) where
  abbrev sound : SoundOf l w s q
  sound = o.ready.sound

  pub free_kept : word w 4 / 256 ≡ length (free (view_of l w s q mem))
  unfolding word_of
  free_kept = omega (arith, sound.sets.free, part_few sound.sets.part)

  pub rx_kept : (k : ℕ) → bit k (rx_bits w) ≡ member k (view_of l w s q mem).pool.rx
  rx_kept k = ap (bit k) (whole sound.queues.in_rx) ∙ set_members (view_of l w s q mem).pool.rx o.ready.well.queues.rx_distinct k

  pub tx_kept : (k : ℕ) → bit k (tx_bits w) ≡ member k (view_of l w s q mem).pool.tx
  tx_kept k = ap (bit k) (whole sound.queues.in_tx) ∙ set_members (view_of l w s q mem).pool.tx o.ready.well.queues.tx_distinct k

  -- so refusal 6 is told by two bits
  pub queued_kept : (k : ℕ) → bit k (rx_bits w) || bit k (tx_bits w) ≡ queued k (view_of l w s q mem)
  queued_kept k = ap₂ ◌||◌ (rx_kept k) (tx_kept k)
