-- What a load reads and what it writes, for any chip. A load is an access to the bank, the packet number, the pointer or data, as a driver makes them to fill a packet.
use Rattle.std.specs.Prelude.{◌≡◌, Bool, cond, not, ℕ, ◌+◌, ◌*◌, ltb, get_or}
use Rattle.std.proofs.Math.Path.{refl, ap}
use Rattle.std.proofs.Common.{sym, ◌∙◌, true≢false, ltb-false}
use Rattle.std.proofs.Math.Bool.{true, false}
use mathlib.Core.List.{List}
use Rattle.std.proofs.Math.ListN.{length}
use Rattle.rules.specs.Chip.{Chip, pages_at, allocated}
use Rattle.rules.specs.Fields.{set_bank, set_packet, set_pointer, in_registers, in_memory}
use Rattle.rules.specs.Answers.{Reply, Effect}
use Rattle.rules.specs.Data.{rcv, address, against, odd_fixed, past, if_packet, if_open, moved, value_of, read_data, write_data}
use Rattle.rules.specs.Registers.{Width, Lanes, low, high, both, Register, BANK, PACKET, POINTER, DATA, register_at, misplaced, lanes_at, width, bytes_of, low_only, read_register, write_register, Access, read, write, access}
use Rattle.laws.specs.Apart.{Within, Outside, Apart, put_outside, get_after_put, put_either_order}
use Rattle.laws.specs.Reception.{Reception, receive, Spares, kept}
use Rattle.wellformed.specs.Cases.{pick_by, pick_unless}
use Rattle.lists.specs.Owned.{owned_in}
use Rattle.laws.specs.Loading.{Clear, Load, Also, Loaded, to_bank, to_packet, to_pointer, to_data}

-- A load before and after a reception that spares the packet's pages.
module _ (x : Reception) (c : Chip) (w : Spares c.pool x) where
  abbrev unchanged : {s : Effect} → Also x s (record { reply = s.reply; chip = receive x s.chip })
  unchanged = record { reply = refl; chip = refl }

  by_test : (b : Bool) {s s' t t' : Effect} → (b ≡ true → Also x s t) → (b ≡ false → Also x s' t') → Also x (cond b s s') (cond b t t')
  by_test true d e = d refl
  by_test false d e = e refl

  in_low : (p : Lanes) {s t : Effect} → Also x s t → Also x (low_only p c s) (low_only p (receive x c) t)
  unfolding low_only
  in_low low e = e
  in_low high e = unchanged
  in_low both e = e

  module _ (clear : Clear c) (a : allocated c.regs.numbers.packet c ≡ true) where
    abbrev pages : List ℕ
    pages = pages_at c c.regs.numbers.packet

    abbrev at : ℕ
    at = address c.regs.pointer

    apart : Apart pages x.pages
    apart p m k = true≢false (sym (owned_in p c.pool.pages c.regs.numbers.packet m) ∙ w.fresh p k)

    -- It is on the same packet, which has the same pages.
    same_packet : (f g : List ℕ → Effect) → Also x (f pages) (g pages) → Also x (if_packet c f) (if_packet (receive x c) g)
    unfolding if_packet
    same_packet f g e =
        by_test (rcv c.regs.pointer) (λ t. absurd (true≢false (sym t ∙ clear)))
        (λ t. rw (kept c.pool x w c.regs.numbers.packet a) (by_test (not (allocated c.regs.numbers.packet c)) (λ t. unchanged) (λ t. e)))

    -- Its tests look at the pointer, and at how many pages there are.
    same_tests : (isRead : Bool) (wide : ℕ) {s t : Effect} → (Within at wide pages → Also x s t) → Also x (if_open isRead wide pages c s) (if_open isRead wide pages (receive x c) t)
    unfolding if_open past
    same_tests isRead wide f =
        let p = c.regs.pointer in
        by_test (against isRead p) (λ e. unchanged)
        (λ e. by_test (odd_fixed p) (λ e. unchanged)
        (λ e. by_test (ltb (256 * length pages) (at + wide)) (λ e. unchanged)
        (λ e. f (ltb-false (256 * length pages) (at + wide) e))))

    -- It reads none of the reception's bytes, and may write its own before or after them.
    same_read : (wide : ℕ) → Also x (read_data wide c) (read_data wide (receive x c))
    unfolding read_data
    same_read wide =
        same_packet _ _ (same_tests true wide
        (λ h. record { reply = ap (λ (l : List ℕ). record { number = 0; value = value_of l }) (get_after_put pages x.pages apart wide at h x.image 0 c.memory w.fits); chip = refl }))

    same_write : (bytes : List ℕ) → Also x (write_data bytes c) (write_data bytes (receive x c))
    unfolding write_data
    same_write bytes =
        same_packet _ _ (same_tests false (length bytes)
        (λ h. record { reply = refl; chip = ap (λ (m : List ℕ). in_memory (λ k. m) (moved (length bytes) (receive x c))) (sym (put_either_order pages x.pages apart bytes at h x.image 0 c.memory w.fits)) }))

  module _ (wide : Width) (o : ℕ) (r : Register) (e : register_at c.regs.numbers.bank o ≡ r) where
    reads : Also x (read_register r (lanes_at wide o) c) (read_register r (lanes_at wide o) (receive x c)) → Also x (access (read wide o) c) (access (read wide o) (receive x c))
    unfolding access
    reads h = by_test (misplaced wide o) (λ t. unchanged) (λ t. rw e h)

    writes : (v : ℕ) → Also x (write_register r (lanes_at wide o) v c) (write_register r (lanes_at wide o) v (receive x c)) → Also x (access (write wide o v) c) (access (write wide o v) (receive x c))
    unfolding access
    writes v h = by_test (misplaced wide o) (λ t. unchanged) (λ t. rw e h)

  -- A load reads bank, packet number, allocation result, pointer, and the pages and bytes of an allocated packet: nothing that a frame writes.
  pub load_reads : (a : Access) → Load c c a → Also x (access a c) (access a (receive x c))
  unfolding read_register write_register
  load_reads (read wide o) (to_bank e) = reads wide o BANK e unchanged
  load_reads (read wide o) (to_packet e) = reads wide o PACKET e unchanged
  load_reads (read wide o) (to_pointer e) = reads wide o POINTER e unchanged
  load_reads (read wide o) (to_data e clear a) = reads wide o DATA e (same_read clear a (width (lanes_at wide o)))
  load_reads (write wide o v) (to_bank e) = writes wide o BANK e v (in_low (lanes_at wide o) unchanged)
  load_reads (write wide o v) (to_packet e) = writes wide o PACKET e v (in_low (lanes_at wide o) unchanged)
  load_reads (write wide o v) (to_pointer e) = writes wide o POINTER e v unchanged
  load_reads (write wide o v) (to_data e clear a) = writes wide o DATA e v (same_write clear a (bytes_of (lanes_at wide o) v))

module _ (c : Chip) where
  -- registers alone
  no_byte : {x : Reply} {b k p : ℕ} → Loaded c (record { reply = x; chip = in_registers (λ r. set_bank b (set_packet k (set_pointer p r))) c })
  no_byte = record { registers = refl; pool = refl; memory = λ i h. refl }

  low_or_none : (p : Lanes) (s : Effect) → Loaded c s → Loaded c (low_only p c s)
  unfolding low_only
  low_or_none low s h = h
  low_or_none high s h = no_byte
  low_or_none both s h = h

  module _ (clear : Clear c) where
    of_packet : (f : List ℕ → Effect) → Loaded c (f (pages_at c c.regs.numbers.packet)) → Loaded c (if_packet c f)
    unfolding if_packet
    of_packet f h = pick_by (Loaded c) (rcv c.regs.pointer) (λ t. absurd (true≢false (sym t ∙ clear))) (λ t. pick_unless (Loaded c) (allocated c.regs.numbers.packet c) (λ e. no_byte) (λ e. h))

    open_or_none : (isRead : Bool) (wide : ℕ) (pages : List ℕ) (s : Effect) → (Within (address c.regs.pointer) wide pages → Loaded c s) → Loaded c (if_open isRead wide pages c s)
    unfolding if_open past
    open_or_none isRead wide pages s f =
        let p = c.regs.pointer in
        pick_by (Loaded c) (against isRead p) (λ e. no_byte)
        (λ e. pick_by (Loaded c) (odd_fixed p) (λ e. no_byte)
        (λ e. pick_by (Loaded c) (ltb (256 * length pages) (address p + wide)) (λ e. no_byte) (λ e. f (ltb-false (256 * length pages) (address p + wide) e))))

    data_read_lem : (wide : ℕ) → Loaded c (read_data wide c)
    unfolding read_data
    data_read_lem wide = of_packet _ (open_or_none true wide _ _ (λ h. no_byte))

    data_written : (bytes : List ℕ) → Loaded c (write_data bytes c)
    unfolding write_data
    data_written bytes =
        let pages = pages_at c c.regs.numbers.packet in
        of_packet _ (open_or_none false (length bytes) pages _
        (λ h. record { registers = refl; pool = refl; memory = λ i k. put_outside pages i k bytes (address c.regs.pointer) c.memory h }))

  -- A load writes bank, packet number and pointer, and memory in the pages of the packet in the packet number register: nothing that a frame reads.
  pub load_writes : (start : Chip) (a : Access) → Load start c a → Loaded c (access a c)
  unfolding access read_register write_register
  load_writes start (read wide o) l = pick_by (Loaded c) (misplaced wide o) (λ t. no_byte) (λ t. go l)
    where
      go : Load start c (read wide o) → Loaded c (read_register (register_at c.regs.numbers.bank o) (lanes_at wide o) c)
      go (to_bank e) = rw e no_byte
      go (to_packet e) = rw e no_byte
      go (to_pointer e) = rw e no_byte
      go (to_data e clear a) = rw e (data_read_lem clear (width (lanes_at wide o)))
  load_writes start (write wide o v) l = pick_by (Loaded c) (misplaced wide o) (λ t. no_byte) (λ t. go l)
    where
      go : Load start c (write wide o v) → Loaded c (write_register (register_at c.regs.numbers.bank o) (lanes_at wide o) v c)
      go (to_bank e) = rw e (low_or_none (lanes_at wide o) _ no_byte)
      go (to_packet e) = rw e (low_or_none (lanes_at wide o) _ no_byte)
      go (to_pointer e) = rw e no_byte
      go (to_data e clear a) = rw e (data_written clear (bytes_of (lanes_at wide o) v))
