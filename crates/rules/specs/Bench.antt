-- Document 01, "Bench program and its records"; document 02, W9: a first record may ask for the part.
use Rattle.std.specs.Prelude.{Bool, cond, not, ◌&&◌, List, [], ◌∷◌, ◌++◌, ℕ, zero, suc, ◌+◌, ◌/◌, ◌%◌, eqb, leb, ltb, length, get_or, take, drop, replicate}
use Rattle.rules.specs.Bits.{bit, word_of}
use Rattle.rules.specs.Parts.{lan91c96, part_named}
use Rattle.rules.specs.Chip.{paged, strips, Chip, powered}
use Rattle.rules.specs.Answers.{Reply, Turn, done, refusal}
use Rattle.rules.specs.Registers.{Access, read, write, byte, word}
use Rattle.rules.specs.Send.{Send}
use Rattle.rules.specs.Step.{driver, frame, sent, link, step}

-- what a record asks for (an "event" of refusal 11 is a frame, a send or the link set)
pub data Event : Type 0 where
  access : Access → Event
  -- byte 1's count, and the wire bytes behind it
  wire : ℕ → List ℕ → Event
  -- the flag alignment
  frame_ends : Bool → Event
  send : Send → Event
  -- byte 1
  link_set : ℕ → Event
  -- byte 1
  part : ℕ → Event
  unknown : Event

-- the record's byte k
abbrev pub at : List ℕ → ℕ → ℕ
at bytes k = get_or bytes k 0

abbrev pub value_in : List ℕ → ℕ
value_in bytes = word_of (at bytes 2) (at bytes 3)

-- "Byte 0: 1 read byte, 2 read word, 3 write byte, 4 write word (offset, value low, high); 5 wire bytes", "6 frame ends (byte 1: .. 1 alignment)", "bit 0 .. ignored" (W4), "7 send (outcome, collisions, deferral)"; "Record kind 8: byte 1 is 0 or 1" (W8); "kind 9, byte 1 being 94h or 96h" (W9); "Unused bytes are ignored."
unfoldable pub event_of : List ℕ → Event
event_of b =
    cond (eqb (at b 0) 1) (access (read byte (at b 1)))
    (cond (eqb (at b 0) 2) (access (read word (at b 1)))
    (cond (eqb (at b 0) 3) (access (write byte (at b 1) (value_in b)))
    (cond (eqb (at b 0) 4) (access (write word (at b 1) (value_in b)))
    (cond (eqb (at b 0) 5) (wire (at b 1) (drop 2 b))
    (cond (eqb (at b 0) 6) (frame_ends (bit 1 (at b 1)))
    (cond (eqb (at b 0) 7) (send (record { outcome = at b 1; collisions = at b 2; deferral = at b 3 }))
    (cond (eqb (at b 0) 8) (link_set (at b 1))
    (cond (eqb (at b 0) 9) (part (at b 1)) unknown))))))))

-- the chip, the wire bytes gathered so far, and the output buffer
pub record Bench : Type 0 where
  pub chip : Chip
  pub gathered : List ℕ
  pub output : List ℕ

-- it "starts from power-up"; the output buffer has 2,052 bytes, so 15 is never given
abbrev pub started_on : Chip → Bench
started_on c = record { chip = c; gathered = []; output = replicate 2052 0 }

-- "without it, the LAN91C96" (W9)
abbrev pub started : Bench
started = started_on (powered paged lan91c96)

pub record Answered : Type 0 where
  pub reply : Reply
  pub after : Bench

-- a turn of the chip, with the wire bytes that are gathered after it and the output buffer
abbrev pub told : Turn → List ℕ → List ℕ → Answered
told t left output = record { reply = t.reply; after = record { chip = t.chip; gathered = left; output = output } }

-- "count 1 to 6, then bytes; 11 if the count is wrong or more than 2,048 would gather"
unfoldable pub gather : ℕ → List ℕ → Bench → Answered
gather count bytes b =
    cond (not (leb 1 count && leb count 6 && leb (length b.gathered + count) 2048)) (record { reply = refusal 11; after = b })
    (record { reply = done; after = record { chip = b.chip; gathered = b.gathered ++ take count bytes; output = b.output } })

unfoldable pub answer : Event → Bench → Answered
answer (access a) b = told (step (driver a) b.chip) b.gathered b.output
answer (wire count bytes) b = gather count bytes b
-- "gathering emptied whatever the answer"
answer (frame_ends align) b = told (step (frame (record { bytes = b.gathered; alignment = align })) b.chip) [] b.output
-- a send is lent the bench's buffer
answer (send s) b = let t = step (sent s b.output) b.chip in told t b.gathered t.output
-- what is gathered stays
answer (link_set x) b = told (step (link x) b.chip) b.gathered b.output
-- "kind 9 later on, or with another byte, gets 11" (W9); `answer_to` has the first record
answer (part x) b = record { reply = refusal 11; after = b }
-- "record cut short or of unknown kind": "A 17 prints its line and the run goes on."
answer unknown b = record { reply = refusal 17; after = b }

-- how many packets the part has that a record asks for, 0 where it asks for none
unfoldable pub asks_for : Event → ℕ
asks_for (access a) = 0
asks_for (wire count bytes) = 0
asks_for (frame_ends align) = 0
asks_for (send s) = 0
asks_for (link_set x) = 0
asks_for (part x) = part_named x
asks_for unknown = 0

-- the bench starts as the part with n packets, of the same layout
abbrev pub started_as : ℕ → Bench → Bench
started_as n b = record { chip = powered b.chip.pool.layout n; gathered = []; output = b.output }

-- "The bench asks for the part by a first record of kind 9": it is done, and that part starts
unfoldable pub answer_first : Event → Bench → Answered
answer_first e b = cond (ltb 0 (asks_for e)) (record { reply = done; after = started_as (asks_for e) b }) (answer e b)

-- by the record's number, from 1
unfoldable pub answer_to : ℕ → Event → Bench → Answered
answer_to number e b = cond (eqb number 1) (answer_first e b) (answer e b)

-- the n lowest decimal digits of a number, as characters; a number x has at most x + 1
unfoldable pub decimal_in : ℕ → ℕ → List ℕ
decimal_in zero x = []
decimal_in (suc n) x = cond (ltb x 10) ((0x30 + x) ∷ []) (decimal_in n (x / 10) ++ ((0x30 + x % 10) ∷ []))

abbrev pub decimal : ℕ → List ℕ
decimal x = decimal_in (suc x) x

-- a lower-case hex digit, and four of them
unfoldable pub hex_digit : ℕ → ℕ
hex_digit d = cond (ltb d 10) (0x30 + d) (0x57 + d)

unfoldable pub hex4 : ℕ → List ℕ
hex4 x = hex_digit (x / 4096 % 16) ∷ hex_digit (x / 256 % 16) ∷ hex_digit (x / 16 % 16) ∷ hex_digit (x % 16) ∷ []

-- "record number from 1, answer, value (0 if none) as four lower-case hex digits"
abbrev pub columns : ℕ → Reply → List ℕ
columns number r = decimal number ++ (0x20 ∷ decimal r.number) ++ (0x20 ∷ hex4 r.value)

-- "Each line" is that. "Bytes put out by a send are not printed."
unfoldable pub line : ℕ → Reply → List ℕ
line number r = columns number r ++ (0x0a ∷ [])

-- a program's line, by the record's number, what the record asks for and the answer to it; the bench's
abbrev pub Form : Type 0
Form = ℕ → Event → Answered → List ℕ

abbrev pub plain : Form
plain number e a = line number a.reply

-- what is printed for the records in the input, from record number k on; a tail of 1 to 7 bytes is one line with 17
-- (n bounds the records, of which there are no more than bytes)
unfoldable pub printed : Form → ℕ → ℕ → List ℕ → Bench → List ℕ
printed form zero k input b = []
printed form (suc n) k [] b = []
printed form (suc n) k (x ∷ xs) b =
    let e = event_of (take 8 (x ∷ xs)) in
    cond (ltb (length (x ∷ xs)) 8) (form k unknown (answer unknown b)) (form k e (answer_to k e b) ++ printed form n (k + 1) (drop 8 (x ∷ xs)) (answer_to k e b).after)

-- what the program prints for its standard input
abbrev pub bench : List ℕ → List ℕ
bench input = printed plain (length input) 1 input started

-- and what "strip_bench" prints: the same on the chip of strips (document 02, W3)
abbrev pub strip_bench : List ℕ → List ℕ
strip_bench input = printed plain (length input) 1 input (started_on (powered strips lan91c96))
