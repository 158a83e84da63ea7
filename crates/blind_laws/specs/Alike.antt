-- Document 02, W10, payload blindness: the promise. "Two runs from power-up with the same accesses and events, except that arriving frames, of equal lengths, differ from byte 6 on, with equal CRC verdicts."
use Rattle.std.specs.Prelude.{◌≡◌, false, List, [], ◌∷◌, ℕ, ◌*◌, ◌≤◌, length, take}
use Rattle.rules.specs.Bits.{bit}
use Rattle.rules.specs.Chip.{Chip}
use Rattle.rules.specs.Interrupts.{line_up}
use Rattle.rules.specs.Registers.{Access}
use Rattle.rules.specs.Receive.{Frame, bad_crc}
use Rattle.rules.specs.Send.{Send}
use Rattle.rules.specs.Answers.{Turn}
use Rattle.rules.specs.Step.{Input, driver, frame, sent, link, step_of, run_of}
use Rattle.laws.specs.Head.{byte_at, head_pages, head_count, head_control}
use Rattle.laws.specs.Sendable.{Reaches}
use Rattle.laws.specs.Fcs.{bytes_out}
use Rattle.laws.specs.DataAccesses.{data_read}

-- frames "of equal lengths", equal in their first six bytes, "with equal CRC verdicts" and equal alignment flags; from byte 6 on they may differ
pub record FrameAlike (f g : Frame) : Type 0 where
  pub as_long : length g.bytes ≡ length f.bytes
  pub first_six : take 6 g.bytes ≡ take 6 f.bytes
  pub crc : bad_crc g.bytes ≡ bad_crc f.bytes
  pub alignment : g.alignment ≡ f.alignment

-- an input of one run, and of the other in its place
pub data InputAlike : Input → Input → Type 0 where
  -- "the same accesses and events"
  accessed : (a : Access) → InputAlike (driver a) (driver a)
  linked : (x : ℕ) → InputAlike (link x) (link x)
  -- the buffers that are lent for a send are of one length, whatever they hold
  finished : (s : Send) {out room : List ℕ} → length room ≡ length out → InputAlike (sent s out) (sent s room)
  arrived : {f g : Frame} → FrameAlike f g → InputAlike (frame f) (frame g)

-- and all inputs of the two runs
pub data InputsAlike : List Input → List Input → Type 0 where
  none : InputsAlike [] []
  next : {i j : Input} {is js : List Input} → InputAlike i j → InputsAlike is js → InputsAlike (i ∷ is) (j ∷ js)

-- the count of the TX head "must be even, at least 12, within the pages"
pub record Usable (c : Chip) : Type 0 where
  pub even_count : bit 0 (head_count c) ≡ false
  pub least : 12 ≤ head_count c
  pub within : head_count c ≤ 256 * length (head_pages c)

-- "let the packet's bytes 2 to 9 and its control byte agree in the two runs": the TX head's, just before the send, and the control byte where the count is usable
pub record HeadAlike (c d : Chip) : Type 0 where
  pub bytes : (a : ℕ) → 2 ≤ a → a ≤ 9 → byte_at (head_pages d) d.memory a ≡ byte_at (head_pages c) c.memory a
  pub control : Usable c → head_control d ≡ head_control c

-- "At each send": one that gets 15, 11 or 12 looks at no packet
abbrev pub SendAlike : Input → Chip → Chip → Type 0
SendAlike (driver a) c d = Unit {0}
SendAlike (frame f) c d = Unit {0}
SendAlike (sent s out) c d = Reaches s c out → HeadAlike c d
SendAlike (link x) c d = Unit {0}

-- at each send of the two runs, on the chips that it finds
abbrev pub SendsAlike : ℕ → List Input → List Input → Chip → Chip → Type 0
SendsAlike n [] js c d = Unit {0}
SendsAlike n (i ∷ is) [] c d = Unit {0}
SendsAlike n (i ∷ is) (j ∷ js) c d = SendAlike i c d × SendsAlike n is js (step_of n i c).chip (step_of n j d).chip

-- two chips that are equal but for the bytes of memory
pub record ButBytes (c d : Chip) : Type 0 where
  -- all of them: the latches, the waiting request and the link too
  pub registers : d.regs ≡ c.regs
  -- page lists and queues
  pub pool : d.pool ≡ c.pool
  pub as_long : length d.memory ≡ length c.memory

-- The turns t of i on c and u of the input in its place: "every answer agrees but the value of data reads and the bytes put out; so do registers, queues, page numbers and the line."
pub record TurnsAlike (i : Input) (c : Chip) (t u : Turn) : Type 0 where
  pub number : u.reply.number ≡ t.reply.number
  -- but of a data read that is done
  pub value : (t.reply.number ≡ 0 → data_read i c ≡ 0) → u.reply.value ≡ t.reply.value
  -- as many bytes are put out
  pub put_out : length (bytes_out u) ≡ length (bytes_out t)
  pub after : ButBytes t.chip u.chip
  pub line : line_up u.chip ≡ line_up t.chip

-- the same of every step
abbrev pub StepsAlike : ℕ → List Input → List Input → Chip → Chip → Type 0
StepsAlike n [] js c d = Unit {0}
StepsAlike n (i ∷ is) [] c d = Unit {0}
StepsAlike n (i ∷ is) (j ∷ js) c d = TurnsAlike i c (step_of n i c) (step_of n j d) × StepsAlike n is js (step_of n i c).chip (step_of n j d).chip

-- two runs, of the inputs `is` on c and `js` on d: every step, and the chips at the end
pub record RunsAlike (n : ℕ) (is js : List Input) (c d : Chip) : Type 0 where
  pub steps : StepsAlike n is js c d
  pub end : ButBytes (run_of n is c).chip (run_of n js d).chip
