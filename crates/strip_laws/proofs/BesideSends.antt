-- A send that finishes on two chips beside each other, where what it reads is written: the same refusals and the same bytes put out, and the status word in both packets.
use Rattle.std.specs.Prelude.{◌≡◌, Bool, cond, not, ℕ, ◌-◌, ◌*◌, ◌≤◌, ltb, get_or, drop}
use Rattle.std.proofs.Math.Path.{refl, ap, subst}
use Rattle.std.proofs.Common.{sym, ◌∙◌, ltb-false}
use Rattle.std.proofs.Math.Bool.{true, false}
use mathlib.Core.List.{List, [], ◌∷◌}
use native.Mathlib.Omega.{arith}
use Rattle.std.proofs.Math.ListN.{length}
use Rattle.rules.specs.Bits.{bit, low_byte, high_byte}
use Rattle.rules.specs.Lists.{member, some?}
use Rattle.rules.specs.Chip.{Layout, Chip, pages_at, allocated}
use Rattle.rules.specs.Fields.{set_tx, in_registers, in_pool}
use Rattle.rules.specs.Answers.{Reply, Turn, over}
use Rattle.rules.specs.Packet.{get_bytes, put_bytes}
use Rattle.rules.specs.Mmu.{due, freed}
use Rattle.rules.specs.Send.{Send, in_limits, byte_count, send_length, control_byte, put_out, good, sent_registers, auto_release, retire, status_word, status_written, send_head, no_place, if_usable, if_sendable, by_tx_head, finish}
use Rattle.lists.specs.Facts.{member_first, head_and_rest}
use Rattle.wellformed.specs.Cases.{pick}
use Rattle.laws.specs.Head.{byte_at, head_count, head_control, count_at, count_is}
use Rattle.laws.specs.Sendable.{Reaches, within_decides, sendable_done}
use Rattle.laws.proofs.PutOut.{control_is}
use Rattle.strip_laws.specs.Written.{Marks, marked, settled_marks, send_marks, ReadsWritten}
use Rattle.laws.specs.Placed.{get_alike}
use Rattle.strip_laws.specs.Packets.{Packets}
use Rattle.strip_laws.specs.Beside.{on, Follows, stays, same_answer, marks_by, Turns, pick_both, unless_both, Good, Beside, puts_alike, both_good}
use Rattle.strip_laws.proofs.Beside.{as_many_packets, gives_back_alike}
use Rattle.strip_laws.proofs.BesideCommands.{allocated_small}

-- a send of packet k, with these bytes put out and this address
abbrev sent_with : Send → ℕ → List ℕ → Chip → List ℕ → List ℕ → List ℕ → Turn
sent_with s k rest c out bytes address =
    let is_good = good c.regs.sending.tcr s.outcome in
    record {
      reply = record { number = 0; value = length bytes };
      chip =
          retire (auto_release is_good c.regs) k
          (status_written (pages_at c k) (status_word is_good s address c.regs)
          (in_pool (set_tx rest) (in_registers (sent_registers is_good s address (not (some? rest))) c)));
      output = over bytes out;
    }

sent_with_lem : (s : Send) (k : ℕ) (rest : List ℕ) (c : Chip) (out : List ℕ)
    → send_head s k rest c out
    ≡ sent_with s k rest c out (put_out c.regs.sending.tcr (byte_count (pages_at c k) c.memory) (pages_at c k) c.memory) (get_bytes 6 4 (pages_at c k) c.memory)
unfolding send_head
sent_with_lem s k rest c out = refl

-- Data of a count from 12 on has six bytes at least.
six_bytes : (count last : ℕ) → 12 ≤ count → 6 ≤ send_length count last
unfolding send_length
six_bytes count last h = pick (λ (x : ℕ). 6 ≤ x) (bit 5 last) (omega arith) (omega arith)

module _ {n : ℕ} {l : Layout} {m : Marks} {c : Chip} {ls : List (List ℕ)} {bytes : List ℕ} (b : Beside n l m c ls bytes) (s : Send) (out : List ℕ) where
  abbrev other : Chip
  other = on l ls bytes c

  abbrev released : Bool
  released = auto_release (good c.regs.sending.tcr s.outcome) c.regs

  abbrev R : Turn → Turn → Type 0
  R = Turns l 0 c m (send_marks s c m)

  -- A refusal leaves both, and tells the same.
  refuses : {r : Reply} → Packets (marks_by r m (send_marks s c m)) c.pool.pages c.memory ls bytes
      → R (record { reply = r; chip = c; output = out }) (record { reply = r; chip = other; output = out })
  refuses p = record { reply = same_answer _; output = refl; chips = stays c p }

  -- refusals 13, 18 and 19 on both
  by_count_both : (count pageCount : ℕ) (t u : Turn) → (bit 0 count ≡ false → 12 ≤ count → count ≤ 256 * pageCount → R t u) → R (if_usable count pageCount c out t) (if_usable count pageCount other out u)
  unfolding if_usable
  by_count_both count pageCount t u h =
      pick_both R (bit 0 count) (bit 0 count) refl (λ o. refuses b.packets)
      (λ o. pick_both R (ltb count 12) (ltb count 12) refl (λ e. refuses b.packets)
      (λ e. pick_both R (ltb (256 * pageCount) count) (ltb (256 * pageCount) count) refl (λ f. refuses b.packets) (λ f. h o (ltb-false count 12 e) (ltb-false (256 * pageCount) count f))))

  -- The head of TX is sent on both, with the same bytes put out and the same address.
  module _ (k : ℕ) (is-head : k ≡ get_or c.pool.tx 0 0) (a : allocated k c ≡ true) (room : 2 ≤ 256 * length (pages_at c k)) (rest x address : List ℕ) where
    abbrev word : ℕ
    word = status_word (good c.regs.sending.tcr s.outcome) s address c.regs

    abbrev noted : Chip
    noted = status_written (pages_at c k) word (in_pool (set_tx rest) (in_registers (sent_registers (good c.regs.sending.tcr s.outcome) s address (not (some? rest))) c))

    abbrev bytes' : List ℕ
    bytes' = put_bytes (low_byte word ∷ high_byte word ∷ []) 0 (get_or ls k []) bytes

    -- the status word is put into both, and the packet retires on both
    status_in_both : Good n l (marked k 0 2 m) noted ls bytes'
    unfolding low_byte high_byte
    status_in_both = record {
      lists = (both_good b).lists;
      others = (both_good b).others;
      packets = puts_alike b k 0 (low_byte word ∷ high_byte word ∷ []) (omega arith, (omega arith, tt)) room;
    }

    retires : (y : Bool) → Follows l (cond y (settled_marks (freed k c) (marked k 0 2 m)) (marked k 0 2 m)) (retire y k noted) (retire y k (on l ls bytes' noted))
    unfolding due
    retires true = gives_back_alike status_in_both k (allocated_small b k a)
    retires false = stays _ status_in_both.packets

    same_sent : R (sent_with s k rest c out x address) (sent_with s k rest other out x address)
    unfolding send_marks
    same_sent = rw (sym is-head) (record { reply = same_answer _; output = refl; chips = retires released })

  module _ (r : Reaches s c out) (w : ReadsWritten c m (finish s c out)) where
    abbrev k : ℕ
    k = get_or c.pool.tx 0 0

    abbrev rest : List ℕ
    rest = drop 1 c.pool.tx

    head_there : allocated k c ≡ true
    head_there = b.fits.0.queues.tx_allocated k (ap (λ (x : List ℕ). member k x) (head_and_rest c.pool.tx 0 r.waiting) ∙ member_first k rest)

    -- What is written of it, and so its count, its control byte, its data and its address.
    same : (j : ℕ) → m k j ≡ true → byte_at (get_or ls k []) bytes j ≡ byte_at (pages_at c k) c.memory j
    same j e = b.packets.same k j head_there e

    count_alike : count_at (get_or ls k []) bytes ≡ head_count c
    count_alike = omega (arith, same 2 w.low, same 3 w.high)

    told_alike : byte_count (get_or ls k []) bytes ≡ byte_count (pages_at c k) c.memory
    told_alike = count_is (get_or ls k []) bytes ∙ count_alike ∙ sym (count_is (pages_at c k) c.memory)

    module _ (done : (finish s c out).reply.number ≡ 0) (least : 12 ≤ head_count c) where
      control_alike : control_byte (byte_count (get_or ls k []) bytes) (get_or ls k []) bytes ≡ head_control c
      control_alike = control_is (get_or ls k []) bytes ∙ ap (λ (x : ℕ). byte_at (get_or ls k []) bytes (x - 1)) count_alike ∙ same (head_count c - 1) (w.control done)

      abbrev long : ℕ
      long = send_length (head_count c) (head_control c)

      data_alike : get_bytes long 4 (get_or ls k []) bytes ≡ get_bytes long 4 (pages_at c k) c.memory
      data_alike = get_alike long 4 (pages_at c k) c.memory (get_or ls k []) bytes (λ j h i. same j (w.bytes done j h i))

      address_alike : get_bytes 6 4 (get_or ls k []) bytes ≡ get_bytes 6 4 (pages_at c k) c.memory
      address_alike =
          get_alike 6 4 (pages_at c k) c.memory (get_or ls k []) bytes (λ j h i. same j (w.bytes done j h (omega (arith, i, six_bytes (head_count c) (head_control c) least))))

      put_out_alike : (tcr : ℕ) → put_out tcr (byte_count (get_or ls k []) bytes) (get_or ls k []) bytes ≡ put_out tcr (byte_count (pages_at c k) c.memory) (pages_at c k) c.memory
      unfolding put_out
      put_out_alike tcr =
          rw (control_alike, count_is (get_or ls k []) bytes, count_alike, control_is (pages_at c k) c.memory, count_is (pages_at c k) c.memory, data_alike)

    same_sendable : R (if_sendable s k rest c out) (if_sendable s k rest other out)
    unfolding if_sendable
    same_sendable =
        let P = pages_at c k in
        let told = count_is P c.memory in
        rw (told_alike, b.packets.counts k)
        (by_count_both (byte_count P c.memory) (length P) _ _
        (λ o least within. pick_both R (no_place s c) (no_place s other) (rw (as_many_packets (both_good b))) (λ f. refuses b.packets)
        (λ f. let high : 12 ≤ head_count c = omega (arith, least, told) in
        let done = sendable_done s c out (record { reaches = r; even_count = ap (bit 0) (sym told) ∙ o; least = high; within = omega (arith, within, told) }) f in
        rw (sent_with_lem s k rest c out, sent_with_lem s k rest other out, put_out_alike done high c.regs.sending.tcr, address_alike done high)
        (same_sent k refl head_there (omega (arith, least, within)) rest (put_out c.regs.sending.tcr (byte_count P c.memory) P c.memory) (get_bytes 6 4 P c.memory)))))

  -- refusals 15, 11 and 12 on both, else as the count says
  pub same_finish : (Reaches s c out → ReadsWritten c m (finish s c out)) → R (finish s c out) (finish s other out)
  unfolding finish
  same_finish reads =
      pick_both R (ltb (length out) 2052) (ltb (length out) 2052) refl (λ e. refuses b.packets)
      (λ e. unless_both R (in_limits s) (in_limits s) refl (λ i. refuses b.packets)
      (λ i. unless_both R (bit 0 c.regs.sending.tcr) (bit 0 c.regs.sending.tcr) refl (λ t. refuses b.packets)
      (λ t. go (ltb-false (length out) 2052 e) i t c.pool.tx refl)))
    where
      go : 2052 ≤ length out → in_limits s ≡ true → bit 0 c.regs.sending.tcr ≡ true → (tx : List ℕ) → c.pool.tx ≡ tx → R (by_tx_head s tx c out) (by_tx_head s tx other out)
      go room i t [] e = refuses b.packets
      go room i t (j ∷ js) e =
          let r : Reaches s c out = record { room = room; limits = (within_decides s).sound i; enabled = t; waiting = rw e (omega arith) } in
          subst (λ (x : List ℕ). R (if_sendable s (get_or x 0 0) (drop 1 x) c out) (if_sendable s (get_or x 0 0) (drop 1 x) other out)) e (same_sendable r (reads r))
