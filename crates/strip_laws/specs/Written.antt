-- Document 02, W3: which bytes of which packet have been "written since its packet was allocated", and which of them a send reads. Definitions over the rules alone: the promise of the chip of strips is stated with them.
use Rattle.std.specs.Prelude.{◌≡◌, Bool, true, false, cond, not, ◌&&◌, ◌||◌, List, [], ◌∷◌, ℕ, ◌+◌, ◌-◌, ◌≤◌, ◌<◌, eqb, leb, ltb, length, get_or}
use Rattle.rules.specs.Bits.{low_byte}
use Rattle.rules.specs.Chip.{Chip, free}
use Rattle.rules.specs.Answers.{Turn}
use Rattle.rules.specs.Mmu.{Command, nothing, allocate, reset, remove_rx, remove_and_release, release, enqueue, reset_tx, unknown, decode, lowest_number, due, freed}
use Rattle.rules.specs.Data.{address}
use Rattle.rules.specs.Registers.{Register, TCR, EPHSR, RCR, ECR, MIR, RESERVED, STATION, CONTROL, COMMAND, PACKET, HEADS, POINTER, DATA, INTERRUPT, TABLE, BANK, UNUSED, ABSENT, Lanes, width, head_of, register_at, lanes_at, Access, read, write}
use Rattle.rules.specs.Receive.{Frame, Arrival, stored, disabled, not_accepted, too_long, bad, no_room, data_length, count_of, verdict}
use Rattle.rules.specs.Send.{Send, send_length, good, auto_release}
use Rattle.rules.specs.Step.{Input, driver, frame, sent, link, step_of}
use Rattle.lists.specs.Each.{Each}
use Rattle.laws.specs.Head.{head_count, head_control}
use Rattle.laws.specs.Sendable.{Reaches}
use Rattle.laws.specs.DataAccesses.{meant}

-- is the byte of this packet at this address written
abbrev pub Marks : Type 0
Marks = ℕ → ℕ → Bool

-- at power-up none is
abbrev pub unwritten : Marks
unwritten k a = false

-- w bytes of packet k, from address a on, are written
unfoldable pub marked : ℕ → ℕ → ℕ → Marks → Marks
marked k a w m j b = m j b || (eqb j k && leb a b && ltb b (a + w))

-- packet k "starts anew"
unfoldable pub anew : ℕ → Marks → Marks
anew k m j b = m j b && not (eqb j k)

-- "at each grant": where an allocation waits for as many pages as are free, its packet starts anew
abbrev pub settled_marks : Chip → Marks → Marks
settled_marks c m = cond (due c) (anew (lowest_number c) m) m

-- commands that are done, on the chip before them: 20h to 27h may grant, and so may what gives pages back
unfoldable pub command_marks : Command → Chip → Marks → Marks
command_marks nothing c m = m
command_marks (allocate n) c m = cond (leb n (length (free c))) (anew (lowest_number c) m) m
command_marks reset c m = m
command_marks remove_rx c m = m
command_marks remove_and_release c m = settled_marks (freed (head_of c.pool.rx) c) m
command_marks release c m = settled_marks (freed c.regs.numbers.packet c) m
command_marks enqueue c m = m
command_marks reset_tx c m = m
command_marks unknown c m = m

-- "data writes", and commands; the other registers write no packet and grant none
unfoldable pub write_marks : Register → Lanes → ℕ → Chip → Marks → Marks
write_marks TCR p v c m = m
write_marks EPHSR p v c m = m
write_marks RCR p v c m = m
write_marks ECR p v c m = m
write_marks MIR p v c m = m
write_marks RESERVED p v c m = m
write_marks (STATION k) p v c m = m
write_marks CONTROL p v c m = m
write_marks COMMAND p v c m = command_marks (decode (low_byte v)) c m
write_marks PACKET p v c m = m
write_marks HEADS p v c m = m
write_marks POINTER p v c m = m
write_marks DATA p v c m = marked (meant c) (address c.regs.pointer) (width p) m
write_marks INTERRUPT p v c m = m
write_marks (TABLE k) p v c m = m
write_marks BANK p v c m = m
write_marks UNUSED p v c m = m
write_marks ABSENT p v c m = m

unfoldable pub access_marks : Access → Chip → Marks → Marks
access_marks (read w offset) c m = m
access_marks (write w offset v) c m = write_marks (register_at c.regs.numbers.bank offset) (lanes_at w offset) v c m

-- "a stored frame": its packet is granted its pages, and all that its count counts is written
unfoldable pub frame_marks : Arrival → Frame → Chip → Marks → Marks
frame_marks stored f c m = marked (lowest_number c) 0 (count_of (data_length c.regs (length f.bytes))) (anew (lowest_number c) m)
frame_marks disabled f c m = m
frame_marks not_accepted f c m = m
frame_marks too_long f c m = m
frame_marks bad f c m = m
frame_marks no_room f c m = m

-- "a send's status word", at addresses 0 and 1; with auto release the packet is given back behind it
unfoldable pub send_marks : Send → Chip → Marks → Marks
send_marks s c m =
    let k = get_or c.pool.tx 0 0 in
    cond (auto_release (good c.regs.sending.tcr s.outcome) c.regs) (settled_marks (freed k c) (marked k 0 2 m)) (marked k 0 2 m)

unfoldable pub input_marks : Input → Chip → Marks → Marks
input_marks (driver a) c m = access_marks a c m
input_marks (frame f) c m = frame_marks (verdict f c) f c m
input_marks (sent s out) c m = send_marks s c m
input_marks (link x) c m = m

-- what is written after an input, of a chip with n packets: a refusal writes nothing
unfoldable pub written : ℕ → Input → Chip → Marks → Marks
written n i c m = cond (eqb (step_of n i c).reply.number 0) (input_marks i c m) m

-- What a send reads of that packet is written. "A send that gets past refusal 12 reads bytes 2 and 3, and, where it is done, byte c − 1 and the data by its length"
-- (which is not the byte at c − 2 behind data of even length).
pub record ReadsWritten (c : Chip) (m : Marks) (t : Turn) : Type 0 where
  pub low : m (get_or c.pool.tx 0 0) 2 ≡ true
  pub high : m (get_or c.pool.tx 0 0) 3 ≡ true
  pub control : t.reply.number ≡ 0 → m (get_or c.pool.tx 0 0) (head_count c - 1) ≡ true
  pub bytes : t.reply.number ≡ 0 → (a : ℕ) → 4 ≤ a → a < 4 + send_length (head_count c) (head_control c) → m (get_or c.pool.tx 0 0) a ≡ true

-- "each send reads only bytes written since its packet was allocated": of one input, and of inputs one after another. A frame is of bytes: a word read of numbers from 256 on would not show its halves.
abbrev pub Minds : ℕ → Input → Chip → Marks → Type 0
Minds n (driver a) c m = Unit {0}
Minds n (frame f) c m = Each (λ b. b < 256) f.bytes
Minds n (sent s out) c m = Reaches s c out → ReadsWritten c m (step_of n (sent s out) c)
Minds n (link x) c m = Unit {0}

abbrev pub OnlyWritten : ℕ → List Input → Chip → Marks → Type 0
OnlyWritten n [] c m = Unit {0}
OnlyWritten n (i ∷ is) c m = Minds n i c m × OnlyWritten n is (step_of n i c).chip (written n i c m)

-- what is written after inputs, one after another
abbrev pub written_by : ℕ → List Input → Chip → Marks → Marks
written_by n [] c m = m
written_by n (i ∷ is) c m = written_by n is (step_of n i c).chip (written n i c m)
