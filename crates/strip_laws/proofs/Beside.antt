-- Another chip beside a chip: the same registers and queues, a layout, page lists and memory of its own. What the same effect on both has to keep; and pages given back and granted on both, an allocation that waits among them.
use Rattle.std.specs.Prelude.{◌≡◌, Bool, cond, not, List, [], ℕ, ◌+◌, ◌*◌, ◌/◌, ◌%◌, ◌^◌, ◌≤◌, ◌<◌, eqb, length, get_or, set, take}
use Rattle.std.proofs.Math.Path.{refl}
use Rattle.std.proofs.Common.{ap, sym, ◌∙◌, true≢false, arith, length-take}
use Rattle.std.proofs.Math.Bool.{true, false}
use Rattle.rules.specs.Lists.{first_empty}
use Rattle.rules.specs.Chip.{Layout, Chip, size, pages_at, free_for, free}
use Rattle.rules.specs.Fields.{set_result, set_waiting, in_registers}
use Rattle.rules.specs.Answers.{Reply, Effect, Turn}
use Rattle.rules.specs.Packet.{put_bytes}
use Rattle.rules.specs.Mmu.{lowest_number, allot, grant, due, settle, freed, give_back}
use Rattle.lists.specs.Each.{Each}
use Rattle.wellformed.specs.Layouts.{GoodLists, unallocated, back_lists}
use Rattle.wellformed.specs.Pool.{good_lists}
use Rattle.wellformed.specs.Settle.{due_decides}
use Rattle.wellformed.specs.Fit.{Fits}
use Rattle.strip_laws.specs.Written.{Marks, marked, anew, settled_marks}
use Rattle.strip_laws.specs.Strips.{WrittenAt}
use Rattle.strip_laws.specs.SameCounts.{first_alike, free_alike}
use Rattle.strip_laws.specs.Packets.{Packets, put_in_both}
use Rattle.strip_laws.proofs.Packets.{freed_in_both, granted_in_both}
use Rattle.strip_laws.specs.Beside.{on, Follows, stays, Good}

module _ {n : ℕ} {l : Layout} {m : Marks} {c : Chip} {ls : List (List ℕ)} {bytes : List ℕ} (g : Good n l m c ls bytes) where
  -- as many packets
  pub as_many_packets : length ls ≡ size c
  as_many_packets = g.others.count ∙ sym g.lists.count

  -- as many pages are free, and the same number comes next
  pub as_many_free : length (free_for l ls) ≡ length (free c)
  as_many_free = free_alike c.pool.layout l n c.pool.pages ls g.lists g.others g.packets.counts

  pub next_alike : first_empty ls ≡ lowest_number c
  next_alike = first_alike c.pool.pages ls as_many_packets g.packets.counts

  -- So many pages go to that number.
  pub granted_lists_alike : (w : ℕ) → 0 < w → w ≤ length (free c)
      → Packets (anew (lowest_number c) m) (allot w c).pool.pages c.memory (set ls (first_empty ls) (take w (free_for l ls))) bytes
  granted_lists_alike w some enough =
      let k = unallocated c.pool.layout n c.pool.pages g.lists (omega (arith, some, enough)) in
      rw next_alike
      (granted_in_both g.packets (lowest_number c) (omega (arith, k, g.lists.count)) (omega (arith, k, g.others.count)) (take w (free c)) (take w (free_for l ls))
      (simp length-take (omega (arith, as_many_free))))

  -- It is granted them on both: the same result.
  pub grants_alike : (w : ℕ) → 0 < w → w ≤ length (free c) → Follows l (anew (lowest_number c) m) (grant w c) (grant w (on l ls bytes c))
  grants_alike w some enough = record {
    lists = set ls (first_empty ls) (take w (free_for l ls));
    bytes = bytes;
    is = ap (λ (k : ℕ). in_registers (λ r. set_waiting 0 (set_result k r)) (allot w (on l ls bytes c))) next_alike;
    packets = granted_lists_alike w some enough;
  }

  -- An allocation that waits is due on both or on neither.
  due_alike : due (on l ls bytes c) ≡ due c
  unfolding due
  due_alike = rw as_many_free

  pub settles_alike : Follows l (settled_marks c m) (settle c) (settle (on l ls bytes c))
  unfolding settle
  settles_alike = go (due c) (due (on l ls bytes c)) due_alike (λ e. let d = (due_decides c).sound e in grants_alike c.regs.numbers.waiting d.0 d.1)
    where
      go : (b b' : Bool) → b' ≡ b → (b ≡ true → Follows l (anew (lowest_number c) m) (grant c.regs.numbers.waiting c) (grant c.regs.numbers.waiting (on l ls bytes c)))
          → Follows l (cond b (anew (lowest_number c) m) m) (cond b (grant c.regs.numbers.waiting c) c) (cond b' (grant c.regs.numbers.waiting (on l ls bytes c)) (on l ls bytes c))
      go true true e f = f refl
      go true false e f = absurd (true≢false (sym e))
      go false true e f = absurd (true≢false e)
      go false false e f = stays c g.packets

-- A packet gives its pages back on both.
pub gives_back_alike : {n : ℕ} {l : Layout} {m : Marks} {c : Chip} {ls : List (List ℕ)} {bytes : List ℕ} → Good n l m c ls bytes → (k : ℕ) → k < n
    → Follows l (settled_marks (freed k c) m) (give_back k c) (give_back k (on l ls bytes c))
gives_back_alike {n} {l} {m} {c} {ls} {bytes} g k h =
    settles_alike (record {
      lists = back_lists n c.pool.pages k h c.pool.layout g.lists;
      others = back_lists n ls k h l g.others;
      packets = freed_in_both g.packets k (omega (arith, h, g.lists.count)) (omega (arith, h, g.others.count));
    })
