-- No register access but a data read looks at memory; what a data read does, but for its value, does not depend on it either. Accesses and link events on two chips that are equal but for the bytes of memory.
use Rattle.std.specs.Prelude.{◌≡◌, Bool, not, List, [], ◌∷◌, ℕ, leb, ltb, length}
use Rattle.std.proofs.Math.Path.{refl, sym}
use Rattle.std.proofs.Common.{subst, ◌∙◌}
use Rattle.std.proofs.Math.Bool.{true, false}
use Rattle.rules.specs.Bits.{bit, low_byte}
use Rattle.rules.specs.Chip.{Registers, Pool, Chip, pages_at, allocated, free}
use Rattle.rules.specs.Answers.{Reply, Effect, did}
use Rattle.rules.specs.Mmu.{Command, nothing, allocate, reset, remove_rx, remove_and_release, release, enqueue, reset_tx, unknown, decode, due, settle, queued, if_idle, if_head, perform}
use Rattle.rules.specs.Interrupts.{status}
use Rattle.rules.specs.Data.{rcv, address, against, odd_fixed, past, if_packet, if_open, value_of, read_data, write_data}
use Rattle.rules.specs.Packet.{get_bytes}
use Rattle.rules.specs.Link.{plug}
use Rattle.rules.specs.Registers.{Lanes, low, high, both, Register, TCR, EPHSR, RCR, ECR, MIR, RESERVED, STATION, CONTROL, COMMAND, PACKET, HEADS, POINTER, DATA, INTERRUPT, TABLE, BANK, UNUSED, ABSENT, width, bytes_of, new_rcr, write_rcr, write_interrupt, low_only, read_register, write_register, register_at, misplaced, lanes_at, Access, read, write, access}
use Rattle.rules.specs.Step.{driver}
use Rattle.lists.specs.Bytes.{length_put}
use Rattle.laws.specs.DataAccesses.{data_in, data_read}
use Rattle.laws.specs.LinkSteps.{pick_alike}
use Rattle.blind_laws.specs.Alike.{ButBytes}

-- a chip with other bytes in its memory
abbrev pub holding : List ℕ → Chip → Chip
holding bytes c = record { regs = c.regs; pool = c.pool; memory = bytes }

-- Two chips that are equal but for the bytes of memory are such.
pub is_holding : {c d : Chip} → ButBytes c d → d ≡ holding d.memory c
is_holding {c} {d} e = λ i. record { regs = e.registers i; pool = e.pool i; memory = d.memory }

-- the two effects of an access, whose value is `wide` bytes of data where it is done
pub record Effects (wide : ℕ) (e u : Effect) : Type 0 where
  pub number : u.reply.number ≡ e.reply.number
  pub value : (e.reply.number ≡ 0 → wide ≡ 0) → u.reply.value ≡ e.reply.value
  pub chips : ButBytes e.chip u.chip

module _ (bytes m : List ℕ) (long : length bytes ≡ length m) where
  -- The same beside both memories.
  pub beside : {r : Registers} {q : Pool} → ButBytes (record { regs = r; pool = q; memory = m }) (record { regs = r; pool = q; memory = bytes })
  beside = record { registers = refl; pool = refl; as_long = long }

  -- What waits is granted on both, or on neither.
  pub settles : (r : Registers) (q : Pool) → ButBytes (settle (record { regs = r; pool = q; memory = m })) (settle (record { regs = r; pool = q; memory = bytes }))
  unfolding settle due
  settles r q = pick_alike ButBytes (due (record { regs = r; pool = q; memory = m })) beside beside

both_did : {wide : ℕ} {x y : Chip} → ButBytes x y → Effects wide (did x) (did y)
both_did e = record { number = refl; value = λ h. refl; chips = e }

module _ (c : Chip) (bytes : List ℕ) (long : length bytes ≡ length c.memory) where
  abbrev other : Chip
  other = holding bytes c

  abbrev R : Effect → Effect → Type 0
  R = Effects 0

  -- The same reply on both, and nothing more.
  as_is : {wide : ℕ} (r : Reply) → Effects wide (record { reply = r; chip = c }) (record { reply = r; chip = other })
  as_is r = record { number = refl; value = λ h. refl; chips = beside bytes c.memory long }

  -- Both are done, with registers and pool alike.
  done_both : {wide : ℕ} {r : Registers} {q : Pool} → Effects wide (did (record { regs = r; pool = q; memory = c.memory })) (did (record { regs = r; pool = q; memory = bytes }))
  done_both = both_did (beside bytes c.memory long)

  -- refusal 7 on both, else by the RX head
  by_head_both : {wide : ℕ} (f g : ℕ → List ℕ → Effect) (l : List ℕ) → ((k : ℕ) (ks : List ℕ) → Effects wide (f k ks) (g k ks)) → Effects wide (if_head c l f) (if_head other l g)
  by_head_both f g [] h = as_is _
  by_head_both f g (k ∷ ks) h = h k ks

  -- refusals 5 and 6 on both
  by_idle_both : (e u : Effect) → R e u → R (if_idle c e) (if_idle other u)
  by_idle_both e u h = let k = c.regs.numbers.packet in pick_alike R (not (allocated k c)) (as_is _) (pick_alike R (queued k c) (as_is _) h)

  performs : (k : Command) → R (perform k c) (perform k other)
  unfolding perform
  performs nothing = as_is _
  performs (allocate w) = pick_alike R (leb w (length (free c))) done_both done_both
  performs reset = done_both
  performs remove_rx = by_head_both _ _ c.pool.rx (λ k ks. done_both)
  performs remove_and_release = by_head_both _ _ c.pool.rx (λ k ks. both_did (settles bytes c.memory long _ _))
  performs release = by_idle_both _ _ (both_did (settles bytes c.memory long _ _))
  performs enqueue = by_idle_both _ _ done_both
  performs reset_tx = done_both
  performs unknown = as_is _

  -- refusals 7 and 5 on both, else by the pages of the packet that the pointer means
  by_packet_both : {wide : ℕ} (f g : List ℕ → Effect) → ((pages : List ℕ) → Effects wide (f pages) (g pages)) → Effects wide (if_packet c f) (if_packet other g)
  unfolding if_packet
  by_packet_both {wide} f g h =
      pick_alike (Effects wide) (rcv c.regs.pointer) (by_head_both _ _ c.pool.rx (λ k ks. h (pages_at c k)))
      (pick_alike (Effects wide) (not (allocated c.regs.numbers.packet c)) (as_is _) (h (pages_at c c.regs.numbers.packet)))

  -- refusals 8, 9 and 10 on both
  by_tests_both : {wide : ℕ} (isRead : Bool) (w : ℕ) (pages : List ℕ) (e u : Effect) → Effects wide e u → Effects wide (if_open isRead w pages c e) (if_open isRead w pages other u)
  unfolding if_open
  by_tests_both {wide} isRead w pages e u h =
      let p = c.regs.pointer in
      pick_alike (Effects wide) (against isRead p) (as_is _) (pick_alike (Effects wide) (odd_fixed p) (as_is _) (pick_alike (Effects wide) (past w p pages) (as_is _) h))

  none_read : (w : ℕ) (pages : List ℕ) → w ≡ 0 → value_of (get_bytes w (address c.regs.pointer) pages bytes) ≡ value_of (get_bytes w (address c.regs.pointer) pages c.memory)
  unfolding get_bytes
  none_read w pages e = rw e refl

  -- A read of no bytes has value 0 on both; any other may tell other bytes, and does the same.
  reads_data : (w : ℕ) → Effects w (read_data w c) (read_data w other)
  unfolding read_data
  reads_data w = by_packet_both _ _ (λ pages. by_tests_both true w pages _ _ (record { number = refl; value = λ e. none_read w pages (e refl); chips = beside bytes c.memory long }))

  -- The same bytes are put into both.
  writes_data : (written : List ℕ) → R (write_data written c) (write_data written other)
  unfolding write_data
  writes_data written =
      by_packet_both _ _ (λ pages. by_tests_both false (length written) pages _ _
      (both_did (record { registers = refl; pool = refl; as_long = length_put written (address c.regs.pointer) pages bytes ∙ long ∙ sym (length_put written (address c.regs.pointer) pages c.memory) })))

  reads : (r : Register) (p : Lanes) → Effects (data_in r (width p)) (read_register r p c) (read_register r p other)
  unfolding read_register status
  reads TCR p = as_is _
  reads EPHSR p = as_is _
  reads RCR p = as_is _
  reads ECR p = record { number = refl; value = λ h. refl; chips = beside bytes c.memory long }
  reads MIR p = as_is _
  reads RESERVED p = as_is _
  reads (STATION k) p = as_is _
  reads CONTROL p = as_is _
  reads COMMAND p = as_is _
  reads PACKET p = as_is _
  reads HEADS p = as_is _
  reads POINTER p = as_is _
  reads DATA p = reads_data (width p)
  reads INTERRUPT p = as_is _
  reads (TABLE k) p = as_is _
  reads BANK p = as_is _
  reads UNUSED p = as_is _
  reads ABSENT p = as_is _

  writes_rcr : (x : ℕ) → ButBytes (write_rcr x c) (write_rcr x other)
  unfolding write_rcr
  writes_rcr x = pick_alike ButBytes (bit 15 x) (beside bytes c.memory long) (beside bytes c.memory long)

  writes_interrupt : (p : Lanes) (v : ℕ) → ButBytes (write_interrupt p v c) (write_interrupt p v other)
  unfolding write_interrupt
  writes_interrupt low v = beside bytes c.memory long
  writes_interrupt high v = beside bytes c.memory long
  writes_interrupt both v = beside bytes c.memory long

  -- refusal 3 on both, where the high byte is read-only
  by_lanes_both : (p : Lanes) (e u : Effect) → R e u → R (low_only p c e) (low_only p other u)
  unfolding low_only
  by_lanes_both low e u h = h
  by_lanes_both high e u h = as_is _
  by_lanes_both both e u h = h

  writes : (r : Register) (p : Lanes) (v : ℕ) → R (write_register r p v c) (write_register r p v other)
  unfolding write_register
  writes TCR p v = done_both
  writes EPHSR p v = as_is _
  writes RCR p v = both_did (writes_rcr (new_rcr p v c.regs.receiving.rcr))
  writes ECR p v = as_is _
  writes MIR p v = as_is _
  writes RESERVED p v = by_lanes_both p _ _ done_both
  writes (STATION k) p v = done_both
  writes CONTROL p v = done_both
  writes COMMAND p v = by_lanes_both p _ _ (performs (decode (low_byte v)))
  writes PACKET p v = by_lanes_both p _ _ done_both
  writes HEADS p v = as_is _
  writes POINTER p v = done_both
  writes DATA p v = writes_data (bytes_of p v)
  writes INTERRUPT p v = both_did (writes_interrupt p v)
  writes (TABLE k) p v = done_both
  writes BANK p v = by_lanes_both p _ _ done_both
  writes UNUSED p v = as_is _
  writes ABSENT p v = as_is _

  accesses : (a : Access) → Effects (data_read (driver a) c) (access a c) (access a other)
  unfolding access
  accesses (read w o) =
      let r = register_at c.regs.numbers.bank o in
      pick_alike (Effects (data_in r (width (lanes_at w o)))) (misplaced w o) (as_is _) (reads r (lanes_at w o))
  accesses (write w o v) = pick_alike R (misplaced w o) (as_is _) (writes (register_at c.regs.numbers.bank o) (lanes_at w o) v)

  -- refusal 11 on both, else the link is set on both
  plugs : (x : ℕ) → R (plug x c) (plug x other)
  unfolding plug
  plugs x = pick_alike R (ltb 1 x) (as_is _) done_both

-- Any access and any link event, on two chips that are equal but for the bytes of memory.
pub same_access : {c d : Chip} → ButBytes c d → (a : Access) → Effects (data_read (driver a) c) (access a c) (access a d)
same_access {c} {d} e a = subst (λ (x : Chip). Effects (data_read (driver a) c) (access a c) (access a x)) (sym (is_holding e)) (accesses c d.memory e.as_long a)

pub same_plug : {c d : Chip} → ButBytes c d → (x : ℕ) → Effects 0 (plug x c) (plug x d)
same_plug {c} {d} e x = subst (λ (y : Chip). Effects 0 (plug x c) (plug x y)) (sym (is_holding e)) (plugs c d.memory e.as_long x)

-- So no register access but a data read looks at memory: the whole reply is the same, whatever stands there.
pub no_look : (a : Access) (c : Chip) (bytes : List ℕ) → length bytes ≡ length c.memory → data_read (driver a) c ≡ 0 → (access a (holding bytes c)).reply ≡ (access a c).reply
no_look a c bytes long none = let e = accesses c bytes long a in λ i. record { number = e.number i; value = e.value (λ d. none) i }
