-- The program "converter_bench", driver and chip together: the bench's records of kinds 5 to 9, and 16 to 18 for the driver's calls; lines as "watch" prints them.
use Rattle.std.specs.Prelude.{Bool, true, false, cond, List, [], ◌∷◌, ◌++◌, ℕ, zero, suc, ◌+◌, eqb, ltb, length, take, drop}
use Rattle.rules.specs.Bits.{word_of}
use Rattle.rules.specs.Parts.{lan91c96}
use Rattle.rules.specs.Chip.{paged, Chip, powered}
use Rattle.rules.specs.Answers.{Reply, done, refusal}
use Rattle.rules.specs.Interrupts.{line_up}
use Rattle.rules.specs.Bench as rules
use Rattle.rules.specs.Bench.{access, wire, frame_ends, send, link_set, part, unknown, at, event_of, Bench, started_on, asks_for}
use Rattle.rules.specs.Watch.{is_send, watch_line}
use Rattle.converter_rules.specs.Accesses.{after}
use Rattle.converter_rules.specs.Calls.{start, Called, offer, drain, tell}

-- what a record asks for
pub data Asks : Type 0 where
  -- as of the bench
  of_bench : rules.Event → Asks
  offers : Asks
  -- the buffer's length
  drains : ℕ → Asks
  is_told : Asks

-- "kinds 1 to 4 and others get 17": no access but the driver's
unfoldable pub allowed : rules.Event → rules.Event
allowed (access a) = unknown
allowed (wire count bytes) = wire count bytes
allowed (frame_ends align) = frame_ends align
allowed (send s) = send s
allowed (link_set x) = link_set x
allowed (part x) = part x
allowed unknown = unknown

-- kind 16 offer, 17 drain (bytes 1 and 2: the buffer's length, low byte first), 18 told
unfoldable pub asks_of : List ℕ → Asks
asks_of b =
    cond (eqb (at b 0) 16) offers
    (cond (eqb (at b 0) 17) (drains (word_of (at b 1) (at b 2)))
    (cond (eqb (at b 0) 18) is_told (of_bench (allowed (event_of b)))))

-- the bench, and whether the driver asked for a request that it has not yet used
pub record Desk : Type 0 where
  pub bench : Bench
  pub asked : Bool

pub record Answered : Type 0 where
  pub reply : Reply
  pub after : Desk

-- of a record as the bench answers it; of a call, with the wire bytes that are gathered and the output buffer after it
abbrev pub as_bench : rules.Answered → Bool → Answered
as_bench x asked = record { reply = x.reply; after = record { bench = x.after; asked = asked } }

abbrev pub as_call : Called → Chip → List ℕ → List ℕ → Answered
as_call x c left output = record { reply = x.reply; after = record { bench = record { chip = after x.made c; gathered = left; output = output }; asked = x.asked } }

-- "over 2,048 gets 11 and nothing happens"; the buffer is the front of the bench's output buffer
unfoldable pub drain_to : ℕ → Desk → Answered
drain_to room d =
    let b = d.bench in
    let x = drain d.asked (take room b.output) b.chip in
    cond (ltb 2048 room) (record { reply = refusal 11; after = d }) (as_call x b.chip b.gathered (x.buffer ++ drop room b.output))

unfoldable pub answer : Asks → Desk → Answered
answer (of_bench e) d = as_bench (rules.answer e d.bench) d.asked
-- "the gathered bytes are offered, gathering is emptied whatever the answer"
answer offers d = let b = d.bench in as_call (offer d.asked b.gathered b.chip) b.chip [] b.output
-- "Drain and telling leave the gathered bytes."
answer (drains room) d = drain_to room d
answer is_told d = let b = d.bench in as_call (tell d.asked b.chip) b.chip b.gathered b.output

-- "start has been called at power-up": the part with n packets, and the desk where no record asks for one
abbrev pub started_chip : ℕ → Chip
started_chip n = after start (powered paged n)

abbrev pub started : Desk
started = record { bench = started_on (started_chip lan91c96); asked = false }

-- how many packets the part has that a record asks for, 0 where it asks for none
unfoldable pub asks_part : Asks → ℕ
asks_part (of_bench e) = asks_for e
asks_part offers = 0
asks_part (drains room) = 0
asks_part is_told = 0

-- "kind 9 as record 1 powers that part up and starts it, later it gets 11"
abbrev pub started_as : ℕ → Desk → Desk
started_as n d = record { bench = record { chip = started_chip n; gathered = []; output = d.bench.output }; asked = false }

unfoldable pub answer_first : Asks → Desk → Answered
answer_first a d = cond (ltb 0 (asks_part a)) (record { reply = done; after = started_as (asks_part a) d }) (answer a d)

unfoldable pub answer_to : ℕ → Asks → Desk → Answered
answer_to number a d = cond (eqb number 1) (answer_first a d) (answer a d)

-- the line of a send that is done ends with the bytes put out, that of a drain with those drained
unfoldable pub shows : Asks → Bool
shows (of_bench e) = is_send e
shows offers = false
shows (drains room) = true
shows is_told = false

abbrev pub line_of : ℕ → Asks → Answered → List ℕ
line_of number a x = watch_line number x.reply (line_up x.after.bench.chip) (shows a) x.after.bench.output

-- what is printed for the records in the input, from record number k on; a tail of 1 to 7 bytes is one line with 17
-- (n bounds the records, of which there are no more than bytes)
unfoldable pub printed : ℕ → ℕ → List ℕ → Desk → List ℕ
printed zero k input d = []
printed (suc n) k [] d = []
printed (suc n) k (x ∷ xs) d =
    let a = asks_of (take 8 (x ∷ xs)) in
    cond (ltb (length (x ∷ xs)) 8) (line_of k (of_bench unknown) (answer (of_bench unknown) d))
    (line_of k a (answer_to k a d) ++ printed n (k + 1) (drop 8 (x ∷ xs)) (answer_to k a d).after)

-- what the program prints for its standard input
abbrev pub converter_bench : List ℕ → List ℕ
converter_bench input = printed (length input) 1 input started
