-- Document 01, "MMU commands"; document 02, W1: an allocation that waits.
use Rattle.std.specs.Prelude.{Bool, cond, not, ◌&&◌, ◌||◌, List, [], ◌∷◌, ◌++◌, ℕ, ◌+◌, ◌/◌, ◌%◌, eqb, leb, ltb, length, take, set}
use Rattle.rules.specs.Lists.{member, first_empty}
use Rattle.rules.specs.Chip.{Chip, size, free, allocated, empty_pool}
use Rattle.rules.specs.Fields.{set_result, set_waiting, set_pages, set_rx, set_tx, set_completion, in_registers, in_pool}
use Rattle.rules.specs.Answers.{Effect, did, refuse}

pub data Command : Type 0 where
  nothing : Command
  allocate : ℕ → Command
  reset : Command
  remove_rx : Command
  remove_and_release : Command
  release : Command
  enqueue : Command
  reset_tx : Command
  unknown : Command

-- the command that a value written to the MMU command register asks for (v / 8 is 4 for 20h to 27h)
unfoldable pub decode : ℕ → Command
decode v =
    cond (eqb v 0x00) nothing
    (cond (eqb (v / 8) 4) (allocate (v % 8 + 1))
    (cond (eqb v 0x40) reset
    (cond (eqb v 0x60) remove_rx
    (cond (eqb v 0x80) remove_and_release
    (cond (eqb v 0xa0) release
    (cond (eqb v 0xc0) enqueue
    (cond (eqb v 0xe0) reset_tx unknown)))))))

-- "the lowest unallocated number"
abbrev pub lowest_number : Chip → ℕ
lowest_number c = first_empty c.pool.pages

-- that number gets n pages: "pages are the lowest free ones"
abbrev pub allot : ℕ → Chip → Chip
allot n c = in_pool (set_pages (set c.pool.pages (lowest_number c) (take n (free c)))) c

-- an allocation that is granted: "The result is the lowest unallocated number"; none waits any more
abbrev pub grant : ℕ → Chip → Chip
grant n c = in_registers (λ r. set_waiting 0 (set_result (lowest_number c) r)) (allot n c)

-- one that is not: "the request stays pending, the result reads 80h"
abbrev pub pend : ℕ → Chip → Chip
pend n c = in_registers (λ r. set_waiting n (set_result 0x80 r)) c

-- an allocation waits, and as many pages are free
unfoldable pub due : Chip → Bool
due c = ltb 0 c.regs.numbers.waiting && leb c.regs.numbers.waiting (length (free c))

-- "the request is granted in the very step whose release leaves enough free pages"
unfoldable pub settle : Chip → Chip
settle c = cond (due c) (grant c.regs.numbers.waiting c) c

-- a packet's pages are free: "Bytes of freed pages stay."
abbrev pub freed : ℕ → Chip → Chip
freed k c = in_pool (set_pages (set c.pool.pages k [])) c

-- a packet's pages are given back, "be that a release command, remove-and-release or a good send with auto release"
abbrev pub give_back : ℕ → Chip → Chip
give_back k c = settle (freed k c)

-- refusal 6: the packet is in RX or TX
abbrev pub queued : ℕ → Chip → Bool
queued k c = member k c.pool.rx || member k c.pool.tx

-- refusals 5 and 6, for the packet in the packet number register
abbrev pub if_idle : Chip → Effect → Effect
if_idle c e = cond (not (allocated c.regs.numbers.packet c)) (refuse 5 c) (cond (queued c.regs.numbers.packet c) (refuse 6 c) e)

-- refusal 7; else by the RX head and what stands behind it
abbrev pub if_head : Chip → List ℕ → (ℕ → List ℕ → Effect) → Effect
if_head c [] f = refuse 7 c
if_head c (k ∷ ks) f = f k ks

-- "No command touches a latch."
unfoldable pub perform : Command → Chip → Effect
-- "00h nothing."
perform nothing c = did c
-- "20h to 27h allocate 1 to 8 pages: done exactly when that many are free, else the result reads 80h (command still answers 0)."; "A new allocate command replaces a waiting one"
perform (allocate n) c = cond (leb n (length (free c))) (did (grant n c)) (did (pend n c))
-- "40h frees all pages, empties all FIFOs, sets the result to 80h."; "40h and a soft reset drop it"
perform reset c = did (in_registers (λ r. set_waiting 0 (set_result 0x80 r)) (in_pool (λ q. empty_pool c.pool.layout (size c)) c))
-- "60h removes the RX head"
perform remove_rx c = if_head c c.pool.rx (λ k ks. did (in_pool (set_rx ks) c))
-- "80h removes and releases it"
perform remove_and_release c = if_head c c.pool.rx (λ k ks. did (give_back k (in_pool (set_rx ks) c)))
-- "A0h releases the packet in the packet number register"
perform release c = if_idle c (did (give_back c.regs.numbers.packet c))
-- "C0h appends it to TX"
perform enqueue c = if_idle c (did (in_pool (set_tx (c.pool.tx ++ (c.regs.numbers.packet ∷ []))) c))
-- "E0h empties TX and completion, frees nothing."; "E0h leaves it"
perform reset_tx c = did (in_pool (λ q. set_completion [] (set_tx [] q)) c)
-- "Other values: 4."
perform unknown c = refuse 4 c

-- a write of v to the MMU command register
abbrev pub command : ℕ → Chip → Effect
command v c = perform (decode v) c
