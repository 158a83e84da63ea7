-- Document 01, "Registers". "Low byte at the even offset": a register is a word of two bytes, and an access reaches the low byte, the high byte or both.
use Rattle.std.specs.Prelude.{Bool, cond, ◌||◌, List, [], ◌∷◌, ℕ, ◌+◌, ◌*◌, ◌/◌, ◌%◌, eqb, ltb, length, get_or, set, replicate}
use Rattle.rules.specs.Bits.{bit, clear_bit, low_byte, high_byte, word_of, word_at}
use Rattle.rules.specs.Chip.{Registers, Chip, size, free, reset_registers, empty_pool}
use Rattle.rules.specs.Fields.{set_tcr, set_ephsr, set_rcr, set_ecr, set_reserved, set_station, set_control, set_packet, set_pointer, set_mask, set_table, set_bank, in_registers}
use Rattle.rules.specs.Answers.{Effect, done_with, did, refuse}
use Rattle.rules.specs.Mmu.{command}
use Rattle.rules.specs.Interrupts.{status, acknowledge}
use Rattle.rules.specs.Link.{shown_ephsr, forget_change}
use Rattle.rules.specs.Data.{read_data, write_data}

pub data Width : Type 0 where
  byte : Width
  word : Width

-- which of a register's two bytes an access reaches
pub data Lanes : Type 0 where
  low : Lanes
  high : Lanes
  both : Lanes

pub data Register : Type 0 where
  TCR : Register
  EPHSR : Register
  RCR : Register
  ECR : Register
  MIR : Register
  -- low byte: pages reserved for transmit; high byte: 33h
  RESERVED : Register
  -- two bytes of the station address, from byte 2k on
  STATION : ℕ → Register
  CONTROL : Register
  -- low byte: MMU command; high byte: 0
  COMMAND : Register
  -- low byte: packet number; high byte: allocation result
  PACKET : Register
  -- low byte: head of completion; high byte: head of RX
  HEADS : Register
  POINTER : Register
  DATA : Register
  -- low byte: interrupt status; high byte: mask
  INTERRUPT : Register
  -- two bytes of the multicast table, from byte 2k on
  TABLE : ℕ → Register
  -- low byte: bank; high byte: 33h
  BANK : Register
  -- banks 5 to 7
  UNUSED : Register
  -- not modelled
  ABSENT : Register

-- the registers at offsets 0, 2, 4, 6, 8, A and C of banks 0 to 7
abbrev pub banks : List (List Register)
banks =
    (TCR ∷ EPHSR ∷ RCR ∷ ECR ∷ MIR ∷ RESERVED ∷ ABSENT ∷ [])
    ∷ (ABSENT ∷ ABSENT ∷ STATION 0 ∷ STATION 1 ∷ STATION 2 ∷ ABSENT ∷ CONTROL ∷ [])
    ∷ (COMMAND ∷ PACKET ∷ HEADS ∷ POINTER ∷ DATA ∷ DATA ∷ INTERRUPT ∷ [])
    ∷ (TABLE 0 ∷ TABLE 1 ∷ TABLE 2 ∷ TABLE 3 ∷ ABSENT ∷ ABSENT ∷ ABSENT ∷ [])
    ∷ replicate 7 ABSENT
    ∷ replicate 7 UNUSED
    ∷ replicate 7 UNUSED
    ∷ replicate 7 UNUSED
    ∷ []

-- E is the bank and F reads 33h, "in every bank"
unfoldable pub register_at : ℕ → ℕ → Register
register_at bank offset = cond (eqb (offset / 2) 7) BANK (get_or (get_or banks bank []) (offset / 2) ABSENT)

-- refusal 1: "offset above 15, or a word at an odd offset"
unfoldable pub misplaced : Width → ℕ → Bool
misplaced byte offset = ltb 15 offset
misplaced word offset = ltb 15 offset || bit 0 offset

unfoldable pub lanes_at : Width → ℕ → Lanes
lanes_at byte offset = cond (bit 0 offset) high low
lanes_at word offset = both

-- what a read gives of a register's word
unfoldable pub taken : Lanes → ℕ → ℕ
taken low x = low_byte x
taken high x = high_byte x
taken both x = x

-- "A byte write changes that byte only": a register's word x after a write of v
unfoldable pub merged : Lanes → ℕ → ℕ → ℕ
merged low v x = word_of (low_byte v) (high_byte x)
merged high v x = word_of (low_byte x) (low_byte v)
merged both v x = word_of (low_byte v) (high_byte v)

-- the same for bytes i and i + 1 of a list
unfoldable pub merged_at : Lanes → ℕ → ℕ → List ℕ → List ℕ
merged_at low v i l = set l i (low_byte v)
merged_at high v i l = set l (i + 1) (low_byte v)
merged_at both v i l = set (set l i (low_byte v)) (i + 1) (high_byte v)

-- how many bytes of data an access moves, and which a write writes
unfoldable pub width : Lanes → ℕ
width low = 1
width high = 1
width both = 2

unfoldable pub bytes_of : Lanes → ℕ → List ℕ
bytes_of low v = low_byte v ∷ []
bytes_of high v = low_byte v ∷ []
bytes_of both v = low_byte v ∷ high_byte v ∷ []

-- "80h when empty"
unfoldable pub head_of : List ℕ → ℕ
head_of [] = 0x80
head_of (k ∷ ks) = k

-- "resets everything except the station address and packet memory; RCR then reads 8000h"; it "keeps the link and forgets the change" (W8)
abbrev pub soft_reset : Chip → Chip
soft_reset c = record { regs = set_rcr 0x8000 (reset_registers c.regs.receiving.station c.regs.link.up); pool = empty_pool c.pool.layout (size c); memory = c.memory }

-- "RCR bit 0 (RX_ABORT) can only be cleared by a write, never set."
unfoldable pub new_rcr : Lanes → ℕ → ℕ → ℕ
new_rcr p v x = cond (bit 0 x) (merged p v x) (clear_bit 0 (merged p v x))

-- "A write to either byte of RCR that leaves its bit 15 set resets"
unfoldable pub write_rcr : ℕ → Chip → Chip
write_rcr x c = cond (bit 15 x) (soft_reset c) (in_registers (set_rcr x) c)

-- "clears EPHSR bits 15, 10, 9, 5, 4 and 0"
unfoldable pub forgotten : ℕ → ℕ
forgotten e = clear_bit 15 (clear_bit 10 (clear_bit 9 (clear_bit 5 (clear_bit 4 (clear_bit 0 e)))))

-- "A write to either byte of TCR that leaves TXENA (TCR bit 0) set clears .."
unfoldable pub write_tcr : ℕ → Registers → Registers
write_tcr x r = cond (bit 0 x) (set_tcr x (set_ephsr (forgotten r.sending.ephsr) r)) (set_tcr x r)

-- "Reading either byte of ECR clears it and EPHSR bit 12 after the value is taken."
abbrev pub clear_ecr : Registers → Registers
clear_ecr r = set_ecr 0 (set_ephsr (clear_bit 12 r.sending.ephsr) r)

-- "C interrupt status, acknowledge on write; D mask"
unfoldable pub write_interrupt : Lanes → ℕ → Chip → Chip
write_interrupt low v c = acknowledge (low_byte v) c
write_interrupt high v c = in_registers (set_mask (low_byte v)) c
write_interrupt both v c = in_registers (set_mask (high_byte v)) (acknowledge (low_byte v) c)

-- refusal 3: "write in which every byte is read-only", where the high byte is; "a word write skips its read-only half"
unfoldable pub low_only : Lanes → Chip → Effect → Effect
low_only low c e = e
low_only high c e = refuse 3 c
low_only both c e = e

-- p: the lanes that the access reaches
unfoldable pub read_register : Register → Lanes → Chip → Effect
read_register TCR p c = done_with (taken p c.regs.sending.tcr) c
read_register EPHSR p c = done_with (taken p (shown_ephsr c.regs)) c
read_register RCR p c = done_with (taken p c.regs.receiving.rcr) c
read_register ECR p c = done_with (taken p c.regs.sending.ecr) (in_registers clear_ecr c)
-- "low byte 18h, high byte free pages": 18h is 24, the number of pages; on the other part 12h, "MIR 1212h after reset" (W9)
read_register MIR p c = done_with (taken p (word_of (size c) (length (free c)))) c
read_register RESERVED p c = done_with (taken p (word_of c.regs.receiving.reserved 0x33)) c
read_register (STATION k) p c = done_with (taken p (word_at (2 * k) c.regs.receiving.station)) c
read_register CONTROL p c = done_with (taken p c.regs.control) c
read_register COMMAND p c = done_with 0 c
read_register PACKET p c = done_with (taken p (word_of c.regs.numbers.packet c.regs.numbers.result)) c
read_register HEADS p c = done_with (taken p (word_of (head_of c.pool.completion) (head_of c.pool.rx))) c
read_register POINTER p c = done_with (taken p c.regs.pointer) c
read_register DATA p c = read_data (width p) c
read_register INTERRUPT p c = done_with (taken p (word_of (status c) c.regs.mask)) c
read_register (TABLE k) p c = done_with (taken p (word_at (2 * k) c.regs.receiving.table)) c
read_register BANK p c = done_with (taken p (word_of c.regs.numbers.bank 0x33)) c
-- "byte reads give 33h, word reads 3333h"
read_register UNUSED p c = done_with (taken p 0x3333) c
read_register ABSENT p c = refuse 2 c

-- "Bits without a rule here are stored, read back and do nothing."
unfoldable pub write_register : Register → Lanes → ℕ → Chip → Effect
write_register TCR p v c = did (in_registers (λ r. write_tcr (merged p v r.sending.tcr) r) c)
write_register EPHSR p v c = refuse 3 c
write_register RCR p v c = did (write_rcr (new_rcr p v c.regs.receiving.rcr) c)
write_register ECR p v c = refuse 3 c
write_register MIR p v c = refuse 3 c
write_register RESERVED p v c = low_only p c (did (in_registers (set_reserved (low_byte v)) c))
write_register (STATION k) p v c = did (in_registers (λ r. set_station (merged_at p v (2 * k) r.receiving.station) r) c)
-- "a write to either control byte" forgets a change of the link (W8), also one that sets bit 7
write_register CONTROL p v c = did (in_registers (λ r. set_control (merged p v r.control) (forget_change r)) c)
write_register COMMAND p v c = low_only p c (command (low_byte v) c)
-- "packet number (value mod 64)"
write_register PACKET p v c = low_only p c (did (in_registers (set_packet (v % 64)) c))
write_register HEADS p v c = refuse 3 c
write_register POINTER p v c = did (in_registers (λ r. set_pointer (merged p v r.pointer) r) c)
write_register DATA p v c = write_data (bytes_of p v) c
write_register INTERRUPT p v c = did (write_interrupt p v c)
write_register (TABLE k) p v c = did (in_registers (λ r. set_table (merged_at p v (2 * k) r.receiving.table) r) c)
-- "E is the bank (value mod 8)"
write_register BANK p v c = low_only p c (did (in_registers (set_bank (v % 8)) c))
-- "writes are ignored"
write_register UNUSED p v c = did c
write_register ABSENT p v c = refuse 2 c

pub data Access : Type 0 where
  -- width, offset
  read : Width → ℕ → Access
  -- width, offset, value
  write : Width → ℕ → ℕ → Access

-- "accesses 16, 1, 2, 3": 16 is in `Step`, 2 and 3 are in each register
unfoldable pub access : Access → Chip → Effect
access (read w offset) c =
    cond (misplaced w offset) (refuse 1 c) (read_register (register_at c.regs.numbers.bank offset) (lanes_at w offset) c)
access (write w offset v) c =
    cond (misplaced w offset) (refuse 1 c) (write_register (register_at c.regs.numbers.bank offset) (lanes_at w offset) v c)
