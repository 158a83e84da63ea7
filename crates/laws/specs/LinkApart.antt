-- Document 02, W8: "Frames arrive and sends finish as before, whatever the link." What that says of two chips that differ at most in link and change seen, and of a link event before or after another input.
use Rattle.std.specs.Prelude.{◌≡◌, List, [], ◌∷◌, ℕ}
use Rattle.rules.specs.Bits.{clear_bit}
use Rattle.rules.specs.Chip.{Link, Chip}
use Rattle.rules.specs.Fields.{set_link, in_registers, in_memory}
use Rattle.rules.specs.Answers.{Turn}
use Rattle.rules.specs.Packet.{put_bytes}
use Rattle.rules.specs.Registers.{Lanes, low, high, both, Register, TCR, EPHSR, RCR, ECR, MIR, RESERVED, STATION, CONTROL, COMMAND, PACKET, HEADS, POINTER, DATA, INTERRUPT, TABLE, BANK, UNUSED, ABSENT, register_at, lanes_at, read, write}
use Rattle.rules.specs.Step.{Input, driver, frame, sent, link, step_of}
use Rattle.laws.specs.Head.{byte_at, head_pages}

-- the chip with another link
abbrev pub linked : Link → Chip → Chip
linked x c = in_registers (set_link x) c

-- two chips that differ at most in link and change seen: the second is the first with its own link
abbrev pub ByLink : Chip → Chip → Type 0
ByLink c d = d ≡ linked d.regs.link c

-- what a value read says beside the link: all of it but bit 14 of EPHSR (bit 6 of its high byte), and but bit 5 of the interrupt status
abbrev pub beside_link : Register → Lanes → ℕ → ℕ
beside_link EPHSR low v = v
beside_link EPHSR high v = clear_bit 6 v
beside_link EPHSR both v = clear_bit 14 v
beside_link INTERRUPT low v = clear_bit 5 v
beside_link INTERRUPT high v = v
beside_link INTERRUPT both v = clear_bit 5 v
beside_link TCR p v = v
beside_link RCR p v = v
beside_link ECR p v = v
beside_link MIR p v = v
beside_link RESERVED p v = v
beside_link (STATION k) p v = v
beside_link CONTROL p v = v
beside_link COMMAND p v = v
beside_link PACKET p v = v
beside_link HEADS p v = v
beside_link POINTER p v = v
beside_link DATA p v = v
beside_link (TABLE k) p v = v
beside_link BANK p v = v
beside_link UNUSED p v = v
beside_link ABSENT p v = v

-- of any input: only a read shows the link
abbrev pub value_beside : Input → Chip → ℕ → ℕ
value_beside (driver (read w offset)) c v = beside_link (register_at c.regs.numbers.bank offset) (lanes_at w offset) v
value_beside (driver (write w offset x)) c v = v
value_beside (frame f) c v = v
value_beside (sent s out) c v = v
value_beside (link x) c v = v

-- a chip but for bit 14 of the status word in these pages, at addresses 0 and 1: bit 6 of the byte at 1 is cleared
abbrev pub but_status : List ℕ → Chip → Chip
but_status pages c = in_memory (λ m. put_bytes (clear_bit 6 (byte_at pages m 1) ∷ []) 1 pages m) c

-- the chips after an input to c, and the same to another: they "differ at most in link and change seen" and, after a send that is done, in bit 14 of the status word that it wrote
abbrev pub ApartAfter : Input → Chip → Turn → Turn → Type 0
ApartAfter (driver a) c t u = ByLink t.chip u.chip
ApartAfter (frame f) c t u = ByLink t.chip u.chip
ApartAfter (sent s out) c t u =
    (t.reply.number ≡ 0 → ByLink (but_status (head_pages c) t.chip) (but_status (head_pages c) u.chip))
    × ((t.reply.number ≡ 0 → ⊥) → ByLink t.chip u.chip)
ApartAfter (link x) c t u = ByLink t.chip u.chip

-- the two turns t and u of one input, to c and to the other: the numbers agree, the values but for what shows the link, and what a send puts out
pub record TurnsApart (i : Input) (c : Chip) (t u : Turn) : Type 0 where
  pub number : u.reply.number ≡ t.reply.number
  pub value : value_beside i c u.reply.value ≡ value_beside i c t.reply.value
  pub output : u.output ≡ t.output
  pub after : ApartAfter i c t u

-- one step of both
abbrev pub LinkApart : ℕ → Input → Chip → Chip → Type 0
LinkApart n i c d = TurnsApart i c (step_of n i c) (step_of n i d)

-- a link event and another input, in either order: each is answered as if it came first
pub record SameAnswers (n x : ℕ) (i : Input) (c : Chip) : Type 0 where
  pub event : (step_of n (link x) (step_of n i c).chip).reply ≡ (step_of n (link x) c).reply
  pub reply : (step_of n i (step_of n (link x) c).chip).reply ≡ (step_of n i c).reply
  pub output : (step_of n i (step_of n (link x) c).chip).output ≡ (step_of n i c).output

-- the chip after both, the link event first, and last
abbrev pub link_first : ℕ → ℕ → Input → Chip → Chip
link_first n x i c = (step_of n i (step_of n (link x) c).chip).chip

abbrev pub link_last : ℕ → ℕ → Input → Chip → Chip
link_last n x i c = (step_of n (link x) (step_of n i c).chip).chip
