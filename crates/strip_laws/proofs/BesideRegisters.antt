-- Registers on two chips beside each other, one by one: all but MIR, commands and data look at no page.
use Rattle.std.proofs.Math.Path.{refl, ap, subst}
use Rattle.std.specs.Prelude.{List, [], ℕ, ltb}
use Rattle.std.proofs.Math.ListN.{replicate}
use Rattle.rules.specs.Bits.{bit, low_byte}
use Rattle.rules.specs.Chip.{Layout, Chip, size, reset_registers, empty_pool}
use Rattle.rules.specs.Fields.{set_rcr}
use Rattle.rules.specs.Answers.{Effect}
use Rattle.rules.specs.Mmu.{decode}
use Rattle.rules.specs.Interrupts.{status}
use Rattle.rules.specs.Link.{plug}
use Rattle.rules.specs.Data.{address, write_data}
use Rattle.rules.specs.Registers.{Lanes, low, high, both, Register, TCR, EPHSR, RCR, ECR, MIR, RESERVED, STATION, CONTROL, COMMAND, PACKET, HEADS, POINTER, DATA, INTERRUPT, TABLE, BANK, UNUSED, ABSENT, width, bytes_of, new_rcr, write_rcr, write_interrupt, low_only, read_register, write_register, register_at, misplaced, lanes_at, Access, read, write, access}
use Rattle.rules.specs.Step.{driver}
use Rattle.wellformed.specs.Keeps.{decode_valid}
use Rattle.strip_laws.specs.Written.{Marks, marked, write_marks, access_marks}
use Rattle.laws.specs.DataAccesses.{meant, data_in, data_read}
use Rattle.strip_laws.specs.Packets.{emptied_in_both}
use Rattle.strip_laws.specs.Beside.{on, Follows, stays, Effects, pick_both, Beside, both_good}
use Rattle.strip_laws.proofs.Beside.{as_many_packets, as_many_free}
use Rattle.strip_laws.proofs.BesideCommands.{as_is, both_did, same_perform}
use Rattle.strip_laws.specs.BesideData.{width_written, width_few, bytes_written}
use Rattle.strip_laws.proofs.BesideData.{same_read_data, same_write_data}

module _ {n : ℕ} {l : Layout} {m : Marks} {c : Chip} {ls : List (List ℕ)} {bytes : List ℕ} (b : Beside n l m c ls bytes) where
  abbrev other : Chip
  other = on l ls bytes c

  -- MIR shows how many packets there are and how many pages are free.
  same_mir : (p : Lanes) → Effects l 0 c m m (read_register MIR p c) (read_register MIR p other)
  unfolding read_register
  same_mir p = rw (as_many_packets (both_good b), as_many_free (both_good b)) (as_is b b.packets)

  pub same_read : (r : Register) (p : Lanes) → Effects l (data_in r (width p)) c m m (read_register r p c) (read_register r p other)
  unfolding read_register status
  same_read TCR p = as_is b b.packets
  same_read EPHSR p = as_is b b.packets
  same_read RCR p = as_is b b.packets
  same_read ECR p = as_is b b.packets
  same_read MIR p = same_mir p
  same_read RESERVED p = as_is b b.packets
  same_read (STATION k) p = as_is b b.packets
  same_read CONTROL p = as_is b b.packets
  same_read COMMAND p = as_is b b.packets
  same_read PACKET p = as_is b b.packets
  same_read HEADS p = as_is b b.packets
  same_read POINTER p = as_is b b.packets
  same_read DATA p = same_read_data b (width p) (width_few p)
  same_read INTERRUPT p = as_is b b.packets
  same_read (TABLE k) p = as_is b b.packets
  same_read BANK p = as_is b b.packets
  same_read UNUSED p = as_is b b.packets
  same_read ABSENT p = as_is b b.packets

  -- A soft reset empties both.
  same_rcr : (x : ℕ) → Follows l m (write_rcr x c) (write_rcr x other)
  unfolding write_rcr
  same_rcr x =
      pick_both (Follows l m) (bit 15 x) (bit 15 x) refl
      (λ e. record {
        lists = replicate (size c) [];
        bytes = bytes;
        is = ap (λ (k : ℕ). record { regs = set_rcr 0x8000 (reset_registers c.regs.receiving.station c.regs.link.up); pool = empty_pool l k; memory = bytes }) (as_many_packets (both_good b));
        packets = emptied_in_both b.packets (size c);
      })
      (λ e. stays _ b.packets)

  same_interrupt : (p : Lanes) (v : ℕ) → Follows l m (write_interrupt p v c) (write_interrupt p v other)
  unfolding write_interrupt
  same_interrupt low v = stays _ b.packets
  same_interrupt high v = stays _ b.packets
  same_interrupt both v = stays _ b.packets

  -- refusal 3 on both, where the high byte is read-only
  by_lanes_both : (after : Marks) (p : Lanes) (x y : Effect) → Effects l 0 c m after x y → Effects l 0 c m after (low_only p c x) (low_only p other y)
  unfolding low_only
  by_lanes_both after low x y e = e
  by_lanes_both after high x y e = as_is b b.packets
  by_lanes_both after both x y e = e

  pub same_write : (r : Register) (p : Lanes) (v : ℕ) → Effects l 0 c m (write_marks r p v c m) (write_register r p v c) (write_register r p v other)
  unfolding write_register write_marks
  same_write TCR p v = as_is b b.packets
  same_write EPHSR p v = as_is b b.packets
  same_write RCR p v = both_did b (same_rcr (new_rcr p v c.regs.receiving.rcr))
  same_write ECR p v = as_is b b.packets
  same_write MIR p v = as_is b b.packets
  same_write RESERVED p v = by_lanes_both m p _ _ (as_is b b.packets)
  same_write (STATION k) p v = as_is b b.packets
  same_write CONTROL p v = as_is b b.packets
  same_write COMMAND p v = by_lanes_both _ p _ _ (same_perform b (decode (low_byte v)) (decode_valid (low_byte v)))
  same_write PACKET p v = by_lanes_both m p _ _ (as_is b b.packets)
  same_write HEADS p v = as_is b b.packets
  same_write POINTER p v = as_is b b.packets
  same_write DATA p v =
      subst (λ (w : ℕ). Effects l 0 c m (marked (meant c) (address c.regs.pointer) w m) (write_data (bytes_of p v) c) (write_data (bytes_of p v) other)) (width_written p v)
      (same_write_data b (bytes_of p v) (bytes_written p v))
  same_write INTERRUPT p v = both_did b (same_interrupt p v)
  same_write (TABLE k) p v = as_is b b.packets
  same_write BANK p v = by_lanes_both m p _ _ (as_is b b.packets)
  same_write UNUSED p v = as_is b b.packets
  same_write ABSENT p v = as_is b b.packets

  pub same_access : (a : Access) → Effects l (data_read (driver a) c) c m (access_marks a c m) (access a c) (access a other)
  unfolding access access_marks
  same_access (read w o) =
      pick_both (Effects l (data_read (driver (read w o)) c) c m m) (misplaced w o) (misplaced w o) refl (λ e. as_is b b.packets) (λ e. same_read (register_at c.regs.numbers.bank o) (lanes_at w o))
  same_access (write w o v) =
      pick_both (Effects l 0 c m _) (misplaced w o) (misplaced w o) refl (λ e. as_is b b.packets) (λ e. same_write (register_at c.regs.numbers.bank o) (lanes_at w o) v)

  -- The link is set on both.
  pub same_plug : (x : ℕ) → Effects l 0 c m m (plug x c) (plug x other)
  unfolding plug
  same_plug x = pick_both (Effects l 0 c m m) (ltb 1 x) (ltb 1 x) refl (λ e. as_is b b.packets) (λ e. as_is b b.packets)
