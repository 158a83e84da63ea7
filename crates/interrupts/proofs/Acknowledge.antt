-- The chip after an acknowledge, and after a write of the mask beside it.
use Rattle.std.specs.Prelude.{Ok}
use mathlib.Core.Path.{◌≡◌, refl, ap, ap₂, sym, subst, ◌∙◌}
use mathlib.Core.Bool.{Bool, true, false, cond, not, ◌&&◌}
use mathlib.Core.List.{List, []}
use Prim.Native.Nat.{ℕ, ◌*◌, ◌/◌, ◌%◌, ◌^◌}
use native.Mathlib.Omega.{arith}
use lib.Dec.{eqb}
use lib.ListN.{set, drop}
use Rattle.rules.specs.Bits.{bit, low_byte, high_byte}
use Rattle.rules.specs.Chip.{Registers, Layout, Chip}
use Rattle.rules.specs.Fields.{set_tx_empty, set_overrun, set_completion, set_mask, in_registers, in_pool}
use Rattle.rules.specs.Interrupts.{acknowledge}
use Rattle.rules.specs.Registers.{Lanes, low, high, both, INTERRUPT, write_interrupt, write_register}
use Rattle.state.specs.Meaning.{is_high, high_after, Joined}
use Rattle.state.specs.View.{word, registers_in, figures, queue_in, view_of, Kept}
use Rattle.state.specs.Promise.{QueuesIn, PagesIn, Sets, sets_as, sets_chip, MakesOf}
use Rattle.state.specs.Stores.{store_latches, store_mask}
use Rattle.pool.specs.Queues.{Rejoins, rejoins_chip}
use Rattle.interrupts.specs.Promises.{Acknowledged, Acknowledges}
use Rattle.interrupts.proofs.Queues.{no_entries}

-- bit 1 of the low byte
same_bit : (v : ℕ) → bit 1 (low_byte v) ≡ bit 1 v
unfolding bit low_byte
same_bit v = let e : v % 256 / 2 ^ 1 % 2 ≡ v / 2 ^ 1 % 2 = omega arith in ap (λ (n : ℕ). eqb n 1) e

-- the two latches after an acknowledge by v
abbrev unlatched : ℕ → Registers → Registers
unlatched v r = set_tx_empty (r.sending.tx_empty && not (bit 2 (low_byte v))) (set_overrun (r.receiving.overrun && not (bit 4 (low_byte v))) r)

-- The latches are stored, then the head of completion leaves, or there is none that must.
module _ (v new : ℕ) (w q : List ℕ) (k : Kept w) (h : QueuesIn (figures w) q) (a : Acknowledged v (word w 13) new) where
  latched : Sets (unlatched v) w (set w 13 new)
  latched = sets_as (store_latches new a.latched w k) (ap₂ (λ (x y : Bool). set_tx_empty x (set_overrun y (registers_in w))) a.tx_empty a.overrun)

  pub kept_then : Kept (set w 13 new)
  kept_then = latched.kept

  pub queues_then : QueuesIn (figures (set w 13 new)) q
  queues_then = subst (λ (c : List ℕ). QueuesIn c q) (sym latched.still) h

  mir_then : word (set w 13 new) 4 ≡ word w 4
  mir_then = ap (λ (c : List ℕ). word c 3) latched.still

  -- where the queue of completion stays as it was
  same_queue : cond (bit 1 (low_byte v)) (drop 1 (queue_in 2 (word w 9) q)) (queue_in 2 (word w 9) q) ≡ queue_in 2 (word w 9) q → Acknowledges v w q (set w 13 new) q
  same_queue e = record {
    chip = λ l s mem. sets_chip latched l s q mem ∙ ap (λ (x : List ℕ). in_pool (set_completion x) (in_registers (unlatched v) (view_of l w s q mem))) (sym e);
    free = mir_then;
    kept = kept_then;
    queues = queues_then;
  }

  pub none_asked : bit 1 v ≡ false → Acknowledges v w q (set w 13 new) q
  none_asked e = same_queue (ap (λ (b : Bool). cond b (drop 1 (queue_in 2 (word w 9) q)) (queue_in 2 (word w 9) q)) (same_bit v ∙ e))

  pub none_there : word (set w 13 new) 9 ≡ 0 → Acknowledges v w q (set w 13 new) q
  none_there z =
      let e = no_entries (queue_in 2 (word w 9) q) (word w 9) h.completion.many (sym (ap (λ (c : List ℕ). word c 2) latched.still) ∙ z) in
      same_queue (ap (λ (l : List ℕ). cond (bit 1 (low_byte v)) (drop 1 l) l) e ∙ either (bit 1 (low_byte v)) ∙ sym e)
    where
      either : (b : Bool) → cond {A = List ℕ} b [] [] ≡ []
      either true = refl
      either false = refl

  pub head_leaves : {w' q' : List ℕ} → bit 1 v ≡ true → Rejoins (λ p. set_completion (drop 1 p.completion) p) (set w 13 new) q w' q' → Acknowledges v w q w' q'
  head_leaves e r = record {
    chip = λ l s mem. rejoins_chip r l s mem
        ∙ ap (in_pool (λ p. set_completion (drop 1 p.completion) p)) (sets_chip latched l s q mem)
        ∙ ap (λ (b : Bool). in_pool (set_completion (cond b (drop 1 (queue_in 2 (word w 9) q)) (queue_in 2 (word w 9) q))) (in_registers (unlatched v) (view_of l w s q mem))) (sym (same_bit v ∙ e));
    free = r.free ∙ mir_then;
    kept = r.kept;
    queues = r.queues;
  }

-- An acknowledge after the mask is stored is a write of both; and the mask alone.
with_mask : (p : Lanes) (v m old : ℕ) (c : Chip) → is_high p ≡ false → c.regs.mask ≡ old / 256 → m ≡ high_after p v old → acknowledge (low_byte v) (in_registers (set_mask m) c) ≡ write_interrupt p v c
unfolding write_interrupt high_byte
with_mask low v m old c notHigh same e = ap (λ (x : ℕ). acknowledge (low_byte v) (in_registers (set_mask x) c)) (e ∙ sym same)
with_mask high v m old c notHigh same e = absurd (let y : ◌≡◌ {A = ℕ} 0 1 = cc in omega arith)
with_mask both v m old c notHigh same e = ap (λ (x : ℕ). acknowledge (low_byte v) (in_registers (set_mask x) c)) e

mask_alone : (p : Lanes) (v m old : ℕ) (c : Chip) → is_high p ≡ true → m ≡ high_after p v old → in_registers (set_mask m) c ≡ write_interrupt p v c
unfolding write_interrupt low_byte
mask_alone low v m old c is_high e = absurd (let y : ◌≡◌ {A = ℕ} 0 1 = cc in omega arith)
mask_alone high v m old c is_high e = ap (λ (x : ℕ). in_registers (set_mask x) c) e
mask_alone both v m old c is_high e = absurd (let y : ◌≡◌ {A = ℕ} 0 1 = cc in omega arith)

-- A write to interrupt status and mask: the mask is stored first.
module _ (p : Lanes) (v new m : ℕ) (w q : List ℕ) (k : Kept w) (h : QueuesIn (figures w) q) (joined : Joined p v (word w 22) new) (right : m ≡ new / 256 * 256) where
  masked : Sets (set_mask (new / 256)) w (set w 22 m)
  masked = store_mask (new / 256) m right w k

  pub masked_kept : Kept (set w 22 m)
  masked_kept = masked.kept

  pub masked_queues : QueuesIn (figures (set w 22 m)) q
  masked_queues = subst (λ (c : List ℕ). QueuesIn c q) (sym masked.still) h

  masked_sets : {l : Layout} {s : List ℕ} → PagesIn l (figures w) s → PagesIn l (figures (set w 22 m)) s
  masked_sets {l} {s} e = subst (λ (c : List ℕ). PagesIn l c s) (sym masked.still) e

  pub writes_mask : is_high p ≡ true → (l : Layout) (s mem : List ℕ) → PagesIn l (figures w) s → MakesOf l (write_register INTERRUPT p v (view_of l w s q mem)) (Ok 0) (set w 22 m) s q mem
  unfolding write_register
  writes_mask e l s mem h = record {
    chip = sets_chip masked l s q mem ∙ mask_alone p v (new / 256) (word w 22) (view_of l w s q mem) e joined.high;
    reply = refl;
    sound = record { kept = masked_kept; queues = masked_queues; sets = masked_sets h };
  }

  pub writes_both : {w' q' : List ℕ} → is_high p ≡ false → Acknowledges v (set w 22 m) q w' q' → (l : Layout) (s mem : List ℕ) → PagesIn l (figures w) s → MakesOf l (write_register INTERRUPT p v (view_of l w s q mem)) (Ok 0) w' s q' mem
  unfolding write_register
  writes_both e a l s mem h = record {
    chip = a.chip l s mem ∙ ap (acknowledge (low_byte v)) (sets_chip masked l s q mem) ∙ with_mask p v (new / 256) (word w 22) (view_of l w s q mem) e refl joined.high;
    reply = refl;
    sound = record { kept = a.kept; queues = a.queues; sets = record { part = h.part; free = a.free ∙ (masked_sets h).free; small = h.small } };
  }
