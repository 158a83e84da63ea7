-- MMU commands on two chips beside each other.
use Rattle.std.specs.Prelude.{◌≡◌, refl, Bool, cond, ℕ, ◌<◌, leb, length}
use Rattle.std.proofs.Math.Path.{ap, subst}
use Rattle.std.proofs.Common.{sym, true≢false, arith, leb-true}
use Rattle.std.proofs.Math.Bool.{true, false}
use mathlib.Core.List.{List, [], ◌∷◌}
use Rattle.std.proofs.Math.ListN.{replicate}
use Rattle.rules.specs.Chip.{Layout, Chip, size, free_for, free, allocated, empty_pool}
use Rattle.rules.specs.Fields.{set_result, set_waiting, set_rx, in_registers, in_pool}
use Rattle.rules.specs.Answers.{Reply, Effect, did, refuse}
use Rattle.rules.specs.Mmu.{Command, nothing, allocate, reset, remove_rx, remove_and_release, release, enqueue, reset_tx, unknown, perform, lowest_number, grant, pend, due, freed, give_back, queued, if_idle, if_head}
use Rattle.rules.specs.Registers.{head_of}
use Rattle.lists.specs.Facts.{member_first}
use Rattle.wellformed.specs.Pool.{has_small}
use Rattle.wellformed.specs.Keeps.{Valid}
use Rattle.strip_laws.specs.Written.{Marks, anew, settled_marks, command_marks}
use Rattle.strip_laws.specs.SameCounts.{allocated_alike}
use Rattle.strip_laws.specs.Packets.{Packets, emptied_in_both}
use Rattle.strip_laws.specs.Beside.{on, Follows, Effects, stays, same_answer, marks_by, pick_both, unless_both, Beside, both_good}
use Rattle.strip_laws.proofs.Beside.{as_many_packets, as_many_free, grants_alike, gives_back_alike}

module _ {n : ℕ} {l : Layout} {m : Marks} {c : Chip} {ls : List (List ℕ)} {bytes : List ℕ} (b : Beside n l m c ls bytes) where
  abbrev other : Chip
  other = on l ls bytes c

  -- Registers and queues alone may change, and the reply is the same.
  pub as_is : {wide : ℕ} {after : Marks} {r : Reply} {x : Chip} → Packets (marks_by r m after) x.pool.pages x.memory ls bytes
      → Effects l wide c m after (record { reply = r; chip = x }) (record { reply = r; chip = on l ls bytes x })
  as_is {wide} {after} {r} {x} p = record { reply = same_answer _; chips = stays x p }

  -- Both are done.
  pub both_did : {wide : ℕ} {after : Marks} {x y : Chip} → Follows l after x y → Effects l wide c m after (did x) (did y)
  both_did f = record { reply = same_answer _; chips = f }

  -- A number is allocated on both or on neither.
  pub same_allocated : (k : ℕ) → allocated k other ≡ allocated k c
  same_allocated k = allocated_alike c.pool.pages ls b.packets.counts k

  -- The RX head is allocated, and what is allocated is in range.
  pub head_allocated : (k : ℕ) (ks : List ℕ) → c.pool.rx ≡ k ∷ ks → allocated k c ≡ true
  head_allocated k ks e = b.fits.0.queues.rx_allocated k (rw e (member_first k ks))

  pub allocated_small : (k : ℕ) → allocated k c ≡ true → k < n
  allocated_small k a = omega (arith, has_small c.pool.pages k a, b.fits.0.count)

  -- refusal 7 on both, else by the RX head
  pub by_head_both : (R : Effect → Effect → Type 0) (f g : ℕ → List ℕ → Effect) → R (refuse 7 c) (refuse 7 other)
      → ((k : ℕ) (ks : List ℕ) → c.pool.rx ≡ k ∷ ks → R (f k ks) (g k ks)) → R (if_head c c.pool.rx f) (if_head other c.pool.rx g)
  by_head_both R f g r7 h = go c.pool.rx refl
    where
      go : (rx : List ℕ) → c.pool.rx ≡ rx → R (if_head c rx f) (if_head other rx g)
      go [] e = r7
      go (k ∷ ks) e = h k ks e

  -- refusals 5 and 6 on both
  by_idle_both : (R : Effect → Effect → Type 0) (x y : Effect) → R (refuse 5 c) (refuse 5 other) → R (refuse 6 c) (refuse 6 other) → (allocated c.regs.numbers.packet c ≡ true → R x y) → R (if_idle c x) (if_idle other y)
  by_idle_both R x y r5 r6 h =
      let k = c.regs.numbers.packet in
      unless_both R (allocated k c) (allocated k other) (same_allocated k) (λ a. r5) (λ a. pick_both R (queued k c) (queued k c) refl (λ q. r6) (λ q. h a))

  -- Pages given back by a chip with another RX.
  gives_back : (k : ℕ) (rx : List ℕ) → k < n → Follows l (settled_marks (freed k c) m) (give_back k (in_pool (set_rx rx) c)) (give_back k (in_pool (set_rx rx) other))
  unfolding due
  gives_back k rx h = gives_back_alike (record { lists = (both_good b).lists; others = (both_good b).others; packets = b.packets }) k h

  pub same_perform : (k : Command) → Valid k → Effects l 0 c m (command_marks k c m) (perform k c) (perform k other)
  unfolding perform command_marks head_of
  same_perform nothing v = as_is b.packets
  same_perform (allocate w) v =
      go (leb w (length (free c))) (leb w (length (free_for l ls))) (rw (as_many_free (both_good b))) (λ e. grants_alike (both_good b) w (omega (arith, v.0)) (leb-true w (length (free c)) e))
    where
      go : (x x' : Bool) → x' ≡ x → (x ≡ true → Follows l (anew (lowest_number c) m) (grant w c) (grant w other))
          → Effects l 0 c m (cond x (anew (lowest_number c) m) m) (cond x (did (grant w c)) (did (pend w c))) (cond x' (did (grant w other)) (did (pend w other)))
      go true true e f = both_did (f refl)
      go true false e f = absurd (true≢false (sym e))
      go false true e f = absurd (true≢false e)
      go false false e f = as_is b.packets
  same_perform reset v =
      both_did (record {
        lists = replicate (size c) [];
        bytes = bytes;
        is = ap (λ (k : ℕ). in_registers (λ r. set_waiting 0 (set_result 0x80 r)) (in_pool (λ q. empty_pool l k) other)) (as_many_packets (both_good b));
        packets = emptied_in_both b.packets (size c);
      })
  same_perform remove_rx v = by_head_both (Effects l 0 c m m) _ _ (as_is b.packets) (λ k ks e. as_is b.packets)
  same_perform remove_and_release v =
      by_head_both (Effects l 0 c m (settled_marks (freed (head_of c.pool.rx) c) m)) _ _ (as_is b.packets)
      (λ k ks e. subst (λ (rx : List ℕ). Effects l 0 c m (settled_marks (freed (head_of rx) c) m) (did (give_back k (in_pool (set_rx ks) c))) (did (give_back k (in_pool (set_rx ks) other)))) (sym e)
      (both_did (gives_back k ks (allocated_small k (head_allocated k ks e)))))
  same_perform release v =
      by_idle_both (Effects l 0 c m (settled_marks (freed c.regs.numbers.packet c) m)) _ _ (as_is b.packets) (as_is b.packets)
      (λ a. both_did (gives_back_alike (both_good b) c.regs.numbers.packet (allocated_small c.regs.numbers.packet a)))
  same_perform enqueue v = by_idle_both (Effects l 0 c m m) _ _ (as_is b.packets) (as_is b.packets) (λ a. as_is b.packets)
  same_perform reset_tx v = as_is b.packets
  same_perform unknown v = as_is b.packets
