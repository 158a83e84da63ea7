-- Document 01, "Registers": the pointer and the data accesses.
use Rattle.std.specs.Prelude.{Bool, true, false, cond, not, ◌&&◌, List, [], ◌∷◌, ℕ, ◌+◌, ◌*◌, ◌/◌, ◌%◌, ltb, length}
use Rattle.rules.specs.Bits.{bit, word_of}
use Rattle.rules.specs.Chip.{Chip, pages_at, allocated}
use Rattle.rules.specs.Fields.{set_pointer, in_registers, in_memory}
use Rattle.rules.specs.Answers.{Effect, done_with, did, refuse}
use Rattle.rules.specs.Packet.{get_bytes, put_bytes}
use Rattle.rules.specs.Mmu.{if_head}

-- "bit 15 RCV, 14 AUTO INCR, 13 READ, 10 to 0 address"
abbrev pub rcv : ℕ → Bool
rcv p = bit 15 p

abbrev pub auto_incr : ℕ → Bool
auto_incr p = bit 14 p

abbrev pub reading : ℕ → Bool
reading p = bit 13 p

unfoldable pub address : ℕ → ℕ
address p = p % 2048

-- "grows by the width, modulo 2,048; other bits stay"
unfoldable pub advance : ℕ → ℕ → ℕ
advance width p = p / 2048 * 2048 + (p % 2048 + width) % 2048

-- "With AUTO INCR the address grows by the width"
unfoldable pub next : ℕ → ℕ → ℕ
next width p = cond (auto_incr p) (advance width p) p

-- "RCV set means the head of RX, clear means the packet number register": refusals 7 and 5, else by the packet's pages
unfoldable pub if_packet : Chip → (List ℕ → Effect) → Effect
if_packet c f =
    cond (rcv c.regs.pointer) (if_head c c.pool.rx (λ k ks. f (pages_at c k)))
    (cond (not (allocated c.regs.numbers.packet c)) (refuse 5 c) (f (pages_at c c.regs.numbers.packet)))

-- refusal 8, a data access against the READ bit; 9, an odd pointer with AUTO INCR clear; 10, past the packet's pages
unfoldable pub against : Bool → ℕ → Bool
against isRead p = cond isRead (not (reading p)) (reading p)

unfoldable pub odd_fixed : ℕ → Bool
odd_fixed p = bit 0 p && not (auto_incr p)

unfoldable pub past : ℕ → ℕ → List ℕ → Bool
past width p pages = ltb (256 * length pages) (address p + width)

unfoldable pub if_open : Bool → ℕ → List ℕ → Chip → Effect → Effect
if_open isRead width pages c e =
    let p = c.regs.pointer in
    cond (against isRead p) (refuse 8 c) (cond (odd_fixed p) (refuse 9 c) (cond (past width p pages) (refuse 10 c) e))

-- "Read-back gives the address that the next access uses"
abbrev pub moved : ℕ → Chip → Chip
moved width c = in_registers (set_pointer (next width c.regs.pointer)) c

-- "A word takes two bytes, lower first."
unfoldable pub value_of : List ℕ → ℕ
value_of [] = 0
value_of (b ∷ bs) = word_of b (value_of bs)

unfoldable pub read_data : ℕ → Chip → Effect
read_data width c =
    if_packet c (λ pages. if_open true width pages c
    (done_with (value_of (get_bytes width (address c.regs.pointer) pages c.memory)) (moved width c)))

unfoldable pub write_data : List ℕ → Chip → Effect
write_data bytes c =
    if_packet c (λ pages. if_open false (length bytes) pages c
    (did (in_memory (put_bytes bytes (address c.regs.pointer) pages) (moved (length bytes) c))))
