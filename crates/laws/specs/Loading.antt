-- What a load reads and what it writes, for any chip. A load is an access to the bank, the packet number, the pointer or data, as a driver makes them to fill a packet.
use Rattle.std.specs.Prelude.{◌≡◌, Bool, cond, not, ℕ, ◌+◌, ◌*◌, ltb, get_or}
use Rattle.std.proofs.Math.Path.{refl, ap}
use Rattle.std.proofs.Common.{sym, ◌∙◌, true≢false, ltb-false}
use Rattle.std.proofs.Math.Bool.{true, false}
use mathlib.Core.List.{List}
use Rattle.std.proofs.Math.ListN.{length}
use Rattle.rules.specs.Chip.{Chip, pages_at, allocated}
use Rattle.rules.specs.Fields.{set_bank, set_packet, set_pointer, in_registers, in_memory}
use Rattle.rules.specs.Answers.{Reply, Effect}
use Rattle.rules.specs.Data.{rcv, address, against, odd_fixed, past, if_packet, if_open, moved, value_of, read_data, write_data}
use Rattle.rules.specs.Registers.{Width, Lanes, low, high, both, Register, BANK, PACKET, POINTER, DATA, register_at, misplaced, lanes_at, width, bytes_of, low_only, read_register, write_register, Access, read, write, access}
use Rattle.laws.specs.Apart.{Within, Outside, Apart, put_outside, get_after_put, put_either_order}
use Rattle.laws.specs.Reception.{Reception, receive, Spares, kept}
use Rattle.wellformed.specs.Cases.{pick_by, pick_unless}
use Rattle.lists.specs.Owned.{owned_in}

-- the register that an access reaches
abbrev offset : Access → ℕ
offset (read w o) = o
offset (write w o v) = o

abbrev pub reached : Access → Chip → Register
reached a c = register_at c.regs.numbers.bank (offset a)

-- Demand 3: "receive bit clear".
abbrev pub Clear : Chip → Type 0
Clear c = rcv c.regs.pointer ≡ false

-- Demand 3: "bank selections and accesses to packet number, pointer and data (receive bit clear throughout, each data access on a packet allocated before the run)". The bit counts at data accesses alone.
pub data Load (start now : Chip) (a : Access) : Type 0 where
  to_bank : reached a now ≡ BANK → Load start now a
  to_packet : reached a now ≡ PACKET → Load start now a
  to_pointer : reached a now ≡ POINTER → Load start now a
  to_data : reached a now ≡ DATA → Clear now → allocated now.regs.numbers.packet start ≡ true → Load start now a

-- the same answer, and the reception done as well
pub record Also (x : Reception) (s t : Effect) : Type 0 where
  pub reply : t.reply ≡ s.reply
  pub chip : t.chip ≡ receive x s.chip

-- what a load may change
pub record Loaded (c : Chip) (s : Effect) : Type 0 where
  -- of the registers bank, packet number and pointer
  pub registers : s.chip.regs ≡ set_bank s.chip.regs.numbers.bank (set_packet s.chip.regs.numbers.packet (set_pointer s.chip.regs.pointer c.regs))
  pub pool : s.chip.pool ≡ c.pool
  -- of memory the pages of the packet in the packet number register
  pub memory : (i : ℕ) → Outside i (pages_at c c.regs.numbers.packet) → get_or s.chip.memory i 0 ≡ get_or c.memory i 0
