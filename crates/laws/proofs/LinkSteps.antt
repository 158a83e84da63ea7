-- Commands, data, registers, frames and link events on a chip and on the same with another link: the tests answer the same, since none looks at the link.
use Rattle.std.specs.Prelude.{◌≡◌, Bool, cond, not, List, [], ◌∷◌, ℕ, leb, ltb, length}
use Rattle.std.proofs.Math.Path.{refl}
use Rattle.std.proofs.Math.Bool.{true, false}
use Rattle.rules.specs.Bits.{bit, low_byte}
use Rattle.rules.specs.Chip.{Link, Registers, Chip, pages_at, allocated, free}
use Rattle.rules.specs.Fields.{in_registers}
use Rattle.rules.specs.Answers.{Reply, Effect, did}
use Rattle.rules.specs.Mmu.{Command, nothing, allocate, reset, remove_rx, remove_and_release, release, enqueue, reset_tx, unknown, decode, due, settle, queued, if_idle, if_head, perform}
use Rattle.rules.specs.Data.{rcv, against, odd_fixed, past, if_packet, if_open, read_data, write_data}
use Rattle.rules.specs.Link.{plug}
use Rattle.rules.specs.Registers.{Lanes, low, high, both, Register, TCR, EPHSR, RCR, ECR, MIR, RESERVED, STATION, CONTROL, COMMAND, PACKET, HEADS, POINTER, DATA, INTERRUPT, TABLE, BANK, UNUSED, ABSENT, width, bytes_of, merged, new_rcr, write_rcr, write_tcr, write_interrupt, low_only, read_register, write_register, register_at, misplaced, lanes_at, Access, read, write, access}
use Rattle.rules.specs.Receive.{Frame, Arrival, stored, disabled, not_accepted, too_long, bad, no_room, judge, accepted, dropped, needed, data_length, after, verdict, arrive}
use Rattle.rules.specs.Step.{driver}
use Rattle.laws.specs.LinkApart.{linked, ByLink, beside_link, value_beside}
use Rattle.laws.specs.LinkReads.{interrupt_beside}
use Rattle.laws.proofs.LinkReads.{ephsr_beside}
use Rattle.laws.specs.LinkSteps.{pick_alike, Effects}

-- Both are done, and nothing is told.
both_did : {f : ℕ → ℕ} {d u : Chip} → ByLink d u → Effects f (did d) (did u)
both_did e = record { number = refl; value = refl; chips = e }

module _ (y : Link) where
  -- The same reply on both, and the same chip but for the link.
  as_is : {f : ℕ → ℕ} (r : Reply) (d : Chip) → Effects f (record { reply = r; chip = d }) (record { reply = r; chip = linked y d })
  as_is r d = record { number = refl; value = refl; chips = refl }

  -- What waits is granted on both, or on neither.
  settles : (d : Chip) → ByLink (settle d) (settle (linked y d))
  unfolding settle due
  settles d = pick_alike ByLink (due d) refl refl

  module _ (c : Chip) where
    abbrev other : Chip
    other = linked y c

    abbrev R : Effect → Effect → Type 0
    R = Effects (λ v. v)

    -- refusal 7 on both, else by the RX head
    by_head_both : (f g : ℕ → List ℕ → Effect) (l : List ℕ) → ((k : ℕ) (ks : List ℕ) → R (f k ks) (g k ks)) → R (if_head c l f) (if_head other l g)
    by_head_both f g [] h = as_is _ c
    by_head_both f g (k ∷ ks) h = h k ks

    -- refusals 5 and 6 on both
    by_idle_both : (e u : Effect) → R e u → R (if_idle c e) (if_idle other u)
    by_idle_both e u h = let k = c.regs.numbers.packet in pick_alike R (not (allocated k c)) (as_is _ c) (pick_alike R (queued k c) (as_is _ c) h)

    performs : (k : Command) → R (perform k c) (perform k other)
    unfolding perform
    performs nothing = as_is _ c
    performs (allocate m) = pick_alike R (leb m (length (free c))) (as_is _ _) (as_is _ _)
    performs reset = as_is _ _
    performs remove_rx = by_head_both _ _ c.pool.rx (λ k ks. as_is _ _)
    performs remove_and_release = by_head_both _ _ c.pool.rx (λ k ks. both_did (settles _))
    performs release = by_idle_both _ _ (both_did (settles _))
    performs enqueue = by_idle_both _ _ (as_is _ _)
    performs reset_tx = as_is _ _
    performs unknown = as_is _ c

    -- refusals 7 and 5 on both, else by the pages of the packet that the pointer means
    by_packet_both : (f g : List ℕ → Effect) → ((pages : List ℕ) → R (f pages) (g pages)) → R (if_packet c f) (if_packet other g)
    unfolding if_packet
    by_packet_both f g h =
        pick_alike R (rcv c.regs.pointer) (by_head_both _ _ c.pool.rx (λ k ks. h (pages_at c k)))
        (pick_alike R (not (allocated c.regs.numbers.packet c)) (as_is _ c) (h (pages_at c c.regs.numbers.packet)))

    -- refusals 8, 9 and 10 on both
    by_tests_both : (isRead : Bool) (wide : ℕ) (pages : List ℕ) (e u : Effect) → R e u → R (if_open isRead wide pages c e) (if_open isRead wide pages other u)
    unfolding if_open
    by_tests_both isRead wide pages e u h =
        let p = c.regs.pointer in
        pick_alike R (against isRead p) (as_is _ c) (pick_alike R (odd_fixed p) (as_is _ c) (pick_alike R (past wide p pages) (as_is _ c) h))

    reads_data : (wide : ℕ) → R (read_data wide c) (read_data wide other)
    unfolding read_data
    reads_data wide = by_packet_both _ _ (λ pages. by_tests_both true wide pages _ _ (as_is _ _))

    writes_data : (bytes : List ℕ) → R (write_data bytes c) (write_data bytes other)
    unfolding write_data
    writes_data bytes = by_packet_both _ _ (λ pages. by_tests_both false (length bytes) pages _ _ (as_is _ _))

    -- Two registers show the link; a read of any other gives the same.
    reads : (r : Register) (p : Lanes) → Effects (beside_link r p) (read_register r p c) (read_register r p other)
    unfolding read_register
    reads TCR p = as_is _ c
    reads EPHSR p = record { number = refl; value = ephsr_beside p y.up c.regs.link.up c.regs.sending.ephsr; chips = refl }
    reads RCR p = as_is _ c
    reads ECR p = as_is _ _
    reads MIR p = as_is _ c
    reads RESERVED p = as_is _ c
    reads (STATION k) p = as_is _ c
    reads CONTROL p = as_is _ c
    reads COMMAND p = as_is _ c
    reads PACKET p = as_is _ c
    reads HEADS p = as_is _ c
    reads POINTER p = as_is _ c
    reads DATA p = reads_data (width p)
    reads INTERRUPT p = record { number = refl; value = interrupt_beside p y c; chips = refl }
    reads (TABLE k) p = as_is _ c
    reads BANK p = as_is _ c
    reads UNUSED p = as_is _ c
    reads ABSENT p = as_is _ c

    -- A soft reset forgets the change on both, and so does a write of control.
    writes_rcr : (x : ℕ) → ByLink (write_rcr x c) (write_rcr x other)
    unfolding write_rcr
    writes_rcr x = pick_alike ByLink (bit 15 x) refl refl

    writes_tcr : (x : ℕ) → ByLink (in_registers (write_tcr x) c) (in_registers (write_tcr x) other)
    unfolding write_tcr
    writes_tcr x = pick_alike (λ (r r' : Registers). ByLink (in_registers (λ z. r) c) (in_registers (λ z. r') c)) (bit 0 x) refl refl

    writes_interrupt : (p : Lanes) (v : ℕ) → ByLink (write_interrupt p v c) (write_interrupt p v other)
    unfolding write_interrupt
    writes_interrupt low v = refl
    writes_interrupt high v = refl
    writes_interrupt both v = refl

    -- refusal 3 on both, where the high byte is read-only
    by_lanes_both : (p : Lanes) (e u : Effect) → R e u → R (low_only p c e) (low_only p other u)
    unfolding low_only
    by_lanes_both low e u h = h
    by_lanes_both high e u h = as_is _ c
    by_lanes_both both e u h = h

    writes : (r : Register) (p : Lanes) (v : ℕ) → R (write_register r p v c) (write_register r p v other)
    unfolding write_register
    writes TCR p v = both_did (writes_tcr (merged p v c.regs.sending.tcr))
    writes EPHSR p v = as_is _ c
    writes RCR p v = both_did (writes_rcr (new_rcr p v c.regs.receiving.rcr))
    writes ECR p v = as_is _ c
    writes MIR p v = as_is _ c
    writes RESERVED p v = by_lanes_both p _ _ (as_is _ _)
    writes (STATION k) p v = as_is _ _
    writes CONTROL p v = both_did refl
    writes COMMAND p v = by_lanes_both p _ _ (performs (decode (low_byte v)))
    writes PACKET p v = by_lanes_both p _ _ (as_is _ _)
    writes HEADS p v = as_is _ c
    writes POINTER p v = as_is _ _
    writes DATA p v = writes_data (bytes_of p v)
    writes INTERRUPT p v = both_did (writes_interrupt p v)
    writes (TABLE k) p v = as_is _ _
    writes BANK p v = by_lanes_both p _ _ (as_is _ _)
    writes UNUSED p v = as_is _ c
    writes ABSENT p v = as_is _ c

    pub accesses : (a : Access) → Effects (value_beside (driver a) c) (access a c) (access a other)
    unfolding access
    accesses (read w o) =
        let r = register_at c.regs.numbers.bank o in
        pick_alike (Effects (beside_link r (lanes_at w o))) (misplaced w o) (as_is _ c) (reads r (lanes_at w o))
    accesses (write w o v) = pick_alike R (misplaced w o) (as_is _ c) (writes (register_at c.regs.numbers.bank o) (lanes_at w o) v)

    -- What a frame does to the chip, on both: it reads no link.
    afters : (v : Arrival) (f : Frame) → ByLink (after v f c) (after v f other)
    unfolding after needed data_length
    afters stored f = refl
    afters disabled f = refl
    afters not_accepted f = refl
    afters too_long f = refl
    afters bad f = refl
    afters no_room f = refl

    pub arrives : (f : Frame) → R (arrive f c) (arrive f other)
    unfolding arrive judge accepted dropped needed data_length
    arrives f = pick_alike R (ltb (length f.bytes) 18) (as_is _ c) (record { number = refl; value = refl; chips = afters (verdict f c) f })

    -- refusal 11 on both, else the link is set on both
    pub plugs : (x : ℕ) → R (plug x c) (plug x other)
    unfolding plug
    plugs x = pick_alike R (ltb 1 x) (as_is _ c) (both_did refl)
