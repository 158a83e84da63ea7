-- The client's three demands, and what document 02's W3 promises of strips, W4 of the frame check sequence, W8 of the link, W9 of its two parts and W10 of private contents, a record for each, of the rules and of the code; each is proved by citing what leads to it.
-- n is how many packets a part has, and how many pages: "Demand 2 reads 18 for 24 on this part, and so does 01 wherever it counts packets or pages" (W9). All is proved once over n, and `Lan91c96` and `Lan91c94` cite it with 24 and 18.
-- Of the rules: `step_of n` and `run_of n` (rules/specs/Step) on any chip; `powered l n` is power-up, of document 01's chip where the layout l is `paged`. Of the code: `Serves l i b x`, what the public
-- entries `access`, `frame`, `send` and `link` promise of the input i on any board b (registers, page sets or counts and queues by value, and the memory lent), `chip`'s at `Paged` with l = `paged` and at `Strips` with l = `strips`;
-- `Runs l` of inputs one after another; `chip_of l b` is the chip that a board stands for, `part_in b` the n that it names, `reply_to x` document 01's number and value. `Good l b`: it is in order; `GoodOf n l b`: and names n.
use Rattle.std.specs.Prelude.{◌≡◌, Bool, true, false, ◌⊎◌, List, ◌∷◌, ◌++◌, map, ℕ, ◌*◌, ◌<◌, length, take}
use Rattle.rules.specs.Parts.{IsPart}
use Rattle.rules.specs.Lists.{member}
use Rattle.rules.specs.Chip.{Layout, paged, strips, Chip, page_numbers, size, powered}
use Rattle.rules.specs.Interrupts.{line_up}
use Rattle.rules.specs.Registers.{Access}
use Rattle.rules.specs.Receive.{Frame, bad_crc}
use Rattle.rules.specs.Send.{Send}
use Rattle.rules.specs.Step.{Input, driver, frame, sent, link, lent, step_of, step, run_of}
use Rattle.lists.specs.Each.{Each}
use Rattle.laws.specs.Sendable.{Reaches, ByCount, Before}
use Rattle.laws.specs.Refusals.{refusals, Unchanged, Valued}
use Rattle.laws.specs.Accounted.{IsFree, InOne}
use Rattle.laws.specs.Ledger.{Ledger, Resets, blank, ledger_from}
use Rattle.laws.specs.Reading.{Balances}
use Rattle.laws.specs.Fcs.{bytes_out, AppendsFcs, OneByteApart}
use Rattle.laws.specs.Head.{head_pages}
use Rattle.laws.specs.LinkApart.{ByLink, but_status, TurnsApart, LinkApart, SameAnswers, link_first, link_last}
use Rattle.laws.specs.Loads.{Loads}
use Rattle.laws.specs.Merge.{Merge, Alike}
use Rattle.strip_laws.specs.Written.{unwritten, OnlyWritten}
use Rattle.strip_laws.specs.StripsAlike.{StripsBeside}
use Rattle.blind_laws.specs.Alike.{InputsAlike, SendsAlike, RunsAlike}
use Rattle.blind_laws.specs.Private.{none_private, SendsOpen}
use Rattle.blind_laws.specs.PrivateKept.{OpenRuns}
use Rattle.laws.specs.Theorems.{Whole}
use Rattle.demands.specs.Boards.{Board, part_in, Left, reply_to, board_after, chip_of, ReadyBy, Good, GoodOf, Serves, Starts, Shows, Runs, Refused16, AsRules}
use Rattle.demands.specs.OfCode.{BalancesOn, AlikeOn}
use Rattle.demands.specs.BesideCode.{BesideOn}
use Rattle.demands.specs.LinkOfCode.{AnsweredAlike, turn_of}
use Rattle.demands.specs.BlindCode.{BoardsAlike, AllLeftAlike}

-- Demand 1. "Every access, arriving frame and send gets an answer, whatever numbers and bytes come in. What the sheet forbids or the model lacks is refused by a number of document 01; a refusal changes no
-- register, no packet byte and nothing in the output buffer." (`step_of n` is a function on every input and chip, and the public entries ask nothing of what they are given: each call has a result.)
pub record Demand1 (n : ℕ) : Type 0 where
  -- the number is 0, 16 or one of the papers' for that kind of input: a read never 3, 4 or 6, an access never 11 to 15, 18 or 19, a frame and a link event only 11, a send only 11 to 15, 18 and 19
  pub numbers : (i : Input) (c : Chip) → member (step_of n i c).reply.number (0 ∷ 16 ∷ refusals i) ≡ true
  -- a number other than 0 comes with the chip and the output buffer as they were, with no exception
  pub leaves : (i : Input) (c : Chip) → ((step_of n i c).reply.number ≡ 0 → ⊥) → Unchanged c (lent i) (step_of n i c)
  -- its value is 0, but in 13, 18 and 19 the byte count: the word at addresses 2 and 3 of the packet at the head of TX
  pub values : (i : Input) (c : Chip) → ((step_of n i c).reply.number ≡ 0 → ⊥) → Valued c (step_of n i c).reply
  -- 16 exactly where the memory has not 256n bytes (of strips 2,048n) or the chip is not well formed, with n packets; 17 never
  pub sixteen : (i : Input) (c : Chip) → ((step_of n i c).reply.number ≡ 16 → Whole n c → ⊥) × ((Whole n c → ⊥) → (step_of n i c).reply.number ≡ 16)
  pub no17 : (i : Input) (c : Chip) → (step_of n i c).reply.number ≡ 17 → ⊥
  -- a send gets 15 where its buffer has not 2,052 bytes, else 11 where its event is outside the limits, else 12 where TXENA is clear or TX is empty
  pub earlier : (s : Send) (out : List ℕ) (c : Chip) → Whole n c → Before s c out (step_of n (sent s out) c).reply
  -- any other goes by the count in the packet: 13 odd, 18 under 12, 19 past the pages, in that order and before 14, each with that count
  pub counts : (s : Send) (out : List ℕ) (c : Chip) → Whole n c → Reaches s c out → ByCount s c (step_of n (sent s out) c).reply
  -- Of the code, the same, on both chips, whatever part a board names: a refusal leaves registers, page sets or counts, queues and memory, all of them, and the output buffer; 16 is given exactly where the board is not in order.
  pub code_numbers : (l : Layout) (i : Input) (b : Board) (x : Left) → Serves l i b x → member (reply_to x).number (0 ∷ 16 ∷ refusals i) ≡ true
  pub code_leaves : (l : Layout) (i : Input) (b : Board) (x : Left) → Serves l i b x → ((reply_to x).number ≡ 0 → ⊥) → (x.board ≡ b) × (x.output ≡ lent i)
  pub code_values : (l : Layout) (i : Input) (b : Board) (x : Left) → Serves l i b x → ((reply_to x).number ≡ 0 → ⊥) → Valued (chip_of l b) (reply_to x)
  pub code_sixteen : (l : Layout) (i : Input) (b : Board) (x : Left) → Serves l i b x → ((reply_to x).number ≡ 16 → Good l b → ⊥) × ((Good l b → ⊥) → (reply_to x).number ≡ 16)
  pub code_no17 : (l : Layout) (i : Input) (b : Board) (x : Left) → Serves l i b x → (reply_to x).number ≡ 17 → ⊥
  pub code_earlier : (l : Layout) (s : Send) (out : List ℕ) (b : Board) (x : Left) → Good l b → Serves l (sent s out) b x → Before s (chip_of l b) out (reply_to x)
  pub code_counts : (l : Layout) (s : Send) (out : List ℕ) (b : Board) (x : Left) → Good l b → Serves l (sent s out) b x → Reaches s (chip_of l b) out → ByCount s (chip_of l b) (reply_to x)

-- Demand 2. "Every step does what document 01 says: answer, registers, interrupt bits, queues, all 6,144 bytes. After each step from a well-formed state every page is free or in exactly one packet, and the free
-- count that the driver reads is 24 less the pages granted plus those given back, counted over the steps since power-up or the last soft or MMU reset." On the LAN91C94 it "reads 18 for 24" (W9), and 4,608 for 6,144: here n, and 256n.
pub record Demand2 (n : ℕ) : Type 0 where
  -- a chip is well formed, with its 256n bytes (one of strips with 2,048n), at power-up and after each step from one that is
  pub powers : (l : Layout) → Whole n (powered l n)
  pub keeps : (i : Input) (c : Chip) → Whole n c → Whole n (step_of n i c).chip
  -- on a chip of pages (on one of strips, document 02's W3, no step changes which pages are a packet's own)
  pub pages : (i : Input) (c : Chip) → Whole n c → c.pool.layout ≡ paged → (p : ℕ) → p < n → IsFree (step_of n i c).chip p ⊎ InOne (step_of n i c).chip p
  -- MIR read as a byte and as a word, after selecting bank 0 from any bank or in bank 0 already, balances the ledger: after every history from power-up, and after every run from any well-formed chip, whatever was granted
  -- before, once a step of it was a soft or MMU reset
  pub ledger : (l : Layout) (inputs : List Input) → Balances n (run_of n inputs (powered l n)).chip (ledger_from n inputs (powered l n) (blank n))
  pub ledger_since : (c : Chip) → Whole n c → (k : Ledger) (before : List Input) (i : Input) (after : List Input) → Resets n i (run_of n before c).chip
      → Balances n (run_of n (before ++ (i ∷ after)) c).chip (ledger_from n (before ++ (i ∷ after)) c k)
  -- Of the code, on both chips: power-up is the rules'; each step on a board in order is the rules' step of its chip (the whole chip after it, the reply and the output, and a board in order of the same part) and leaves one result; so is the line, and of a record that is not in order it is down.
  pub code_powers : (l : Layout) (x : Left) → Starts l n x → (chip_of l x.board ≡ powered l n) × GoodOf n l x.board
  pub code_step : (l : Layout) (i : Input) (b : Board) (x : Left) → GoodOf n l b → Serves l i b x → AsRules n l (step_of n i (chip_of l b)) x
  pub code_only : (l : Layout) (i : Input) (b : Board) (x y : Left) → Serves l i b x → Serves l i b y → x ≡ y
  pub code_line : (l : Layout) (b : Board) (up : Bool) → Shows l b up
      → (ReadyBy l b → up ≡ line_up (chip_of l b)) × ((ReadyBy l b → ⊥) → up ≡ false)
  pub code_pages : (i : Input) (b : Board) (x : Left) → GoodOf n paged b → Serves paged i b x → (p : ℕ) → p < n → IsFree (chip_of paged x.board) p ⊎ InOne (chip_of paged x.board) p
  pub code_ledger : (l : Layout) (x : Left) → Starts l n x → (inputs : List Input) (xs : List Left) → Runs l inputs x.board xs → BalancesOn n l (board_after x.board xs) (ledger_from n inputs (powered l n) (blank n))
  pub code_ledger_since : (l : Layout) (b : Board) → GoodOf n l b → (k : Ledger) (before : List Input) (i : Input) (after : List Input) → Resets n i (run_of n before (chip_of l b)).chip
      → (xs : List Left) → Runs l (before ++ (i ∷ after)) b xs → BalancesOn n l (board_after b xs) (ledger_from n (before ++ (i ∷ after)) (chip_of l b) k)

-- Demand 3. "Loading and reception do not disturb each other: a run of bank selections and accesses to packet number, pointer and data (receive bit clear throughout, each data access on a packet allocated before
-- the run), merged in any way with arriving frames, ends in the same registers, queues and memory with the same answers." Any two merges, on any chip (`laws/specs/Meanwhile`: on a well-formed one, with frames stored meanwhile).
pub record Demand3 (n : ℕ) : Type 0 where
  pub any_two : (c : Chip) (loads : List Access) (frames : List Frame) → Loads c c loads → {zs others : List Input}
      → (m : Merge (map driver loads) (map frame frames) zs) (k : Merge (map driver loads) (map frame frames) others) → Alike n c m k
  -- Of the code: on any board of both chips, whatever part it names, the same registers, page sets or counts, queues and memory.
  pub code_any_two : (l : Layout) (b : Board) (loads : List Access) (frames : List Frame) → Loads (chip_of l b) (chip_of l b) loads → {zs others : List Input}
      → (m : Merge (map driver loads) (map frame frames) zs) (k : Merge (map driver loads) (map frame frames) others)
      → (xs ys : List Left) → Runs l zs b xs → Runs l others b ys → AlikeOn l b m xs k ys

-- Document 02, W3. "the promise is for sequences from power-up in which each send reads only bytes written since its packet was allocated. In these it gives the same answers, queues and registers as the paged chip,
-- and the two agree on every byte so written; only a data read of another byte may return another value."
pub record BesidePages (n : ℕ) : Type 0 where
  pub beside : (inputs : List Input) → OnlyWritten n inputs (powered paged n) unwritten → StripsBeside n inputs
  -- Of the code: what `chip` at `Paged` and at `Strips` leaves of the same inputs, each from its own power-up.
  pub code_beside : (inputs : List Input) → OnlyWritten n inputs (powered paged n) unwritten → (u v : Left) → Starts paged n u → Starts strips n v
      → (xs ys : List Left) → Runs paged inputs u.board xs → Runs strips inputs v.board ys → BesideOn n inputs u.board xs v.board ys

-- Document 02, W4. A frame check sequence does what it is for: a frame put out with one, by a good or a failed send, never has a bad CRC by the rule of arrival; and two frames of equal length, all bytes, that differ in exactly
-- one never both have a good CRC.
pub record FrameCheck (n : ℕ) : Type 0 where
  pub sent_good : (s : Send) (out : List ℕ) (c : Chip) → (step_of n (sent s out) c).reply.number ≡ 0 → AppendsFcs c → bad_crc (bytes_out (step_of n (sent s out) c)) ≡ false
  pub changed_found : (f g : List ℕ) → Each (λ b. b < 256) f → Each (λ b. b < 256) g → OneByteApart f g → bad_crc f ≡ false → bad_crc g ≡ false → ⊥
  -- Of the code, on both chips: the first bytes of the buffer, as many as the answer's value says.
  pub code_sent_good : (l : Layout) (s : Send) (out : List ℕ) (b : Board) (x : Left) → Serves l (sent s out) b x → (reply_to x).number ≡ 0 → AppendsFcs (chip_of l b) → bad_crc (take (reply_to x).value x.output) ≡ false

-- Document 02, W8. "Frames arrive and sends finish as before, whatever the link."
pub record WhateverLink (n : ℕ) : Type 0 where
  -- a link event changes link and change seen, and nothing else
  pub alone : (x : ℕ) (c : Chip) → ByLink c (step_of n (link x) c).chip
  -- any input to two chips that differ at most in link and change seen: the numbers agree, the values but for bit 14 of an EPHSR read and bit 5 of an interrupt status read, and what a send puts out; afterwards the
  -- chips differ at most in link and change seen and, after a send that is done, in bit 14 of the status word that it wrote
  pub apart : (i : Input) (c d : Chip) → ByLink c d → LinkApart n i c d
  -- a link event and a frame change places: the same answers, the same chip; a link event and a send do but for that bit, and wholly where the send is refused
  pub frame_places : (x : ℕ) (f : Frame) (c : Chip) → SameAnswers n x (frame f) c × (link_first n x (frame f) c ≡ link_last n x (frame f) c)
  pub send_places : (x : ℕ) (s : Send) (out : List ℕ) (c : Chip) → SameAnswers n x (sent s out) c × (but_status (head_pages c) (link_first n x (sent s out) c) ≡ but_status (head_pages c) (link_last n x (sent s out) c))
  pub refused_places : (x : ℕ) (s : Send) (out : List ℕ) (c : Chip) → ((step_of n (sent s out) c).reply.number ≡ 0 → ⊥) → link_first n x (sent s out) c ≡ link_last n x (sent s out) c
  -- Of the code, on both chips, whatever part a board names: of any board; of two boards in order; and of any board, where u and v are left with the link event first, y and z with it last.
  pub code_alone : (l : Layout) (x : ℕ) (b : Board) (u : Left) → Serves l (link x) b u → ByLink (chip_of l b) (chip_of l u.board)
  pub code_apart : (l : Layout) (i : Input) (b d : Board) (x y : Left) → Good l b → Good l d → ByLink (chip_of l b) (chip_of l d) → Serves l i b x → Serves l i d y → TurnsApart i (chip_of l b) (turn_of l x) (turn_of l y)
  pub code_frame_places : (l : Layout) (x : ℕ) (f : Frame) (b : Board) (u v y z : Left) → Serves l (link x) b u → Serves l (frame f) u.board v → Serves l (frame f) b y → Serves l (link x) y.board z
      → AnsweredAlike u v y z × (v.board ≡ z.board)
  pub code_send_places : (l : Layout) (x : ℕ) (s : Send) (out : List ℕ) (b : Board) (u v y z : Left) → Serves l (link x) b u → Serves l (sent s out) u.board v → Serves l (sent s out) b y → Serves l (link x) y.board z
      → AnsweredAlike u v y z × (but_status (head_pages (chip_of l b)) (chip_of l v.board) ≡ but_status (head_pages (chip_of l b)) (chip_of l z.board))

-- Document 02, W9. A part has 24 packets or 18, and "16 goes by the part's size"; a board names it by MIR's low byte.
pub record TwoParts : Type 0 where
  -- the step of a chip is that of the part with as many packets; and no step changes how many, not even a soft reset or 40h
  pub steps : (i : Input) (c : Chip) → IsPart (size c) → step i c ≡ step_of (size c) i c
  pub stays : (n : ℕ) (i : Input) (c : Chip) → size (step_of n i c).chip ≡ size c
  -- Of the code, on both chips: a board in order names a part; its chip is well formed with as many packets, and the memory has 256 bytes for each page (of strips 2,048 for each packet)
  pub code_names : (l : Layout) (b : Board) → Good l b → IsPart (part_in b)
  pub code_whole : (l : Layout) (b : Board) → Good l b → Whole (part_in b) (chip_of l b)
  pub code_size : (l : Layout) (b : Board) → Good l b → size (chip_of l b) ≡ part_in b
  pub code_memory : (l : Layout) (b : Board) → Good l b → length b.memory ≡ 256 * page_numbers l (part_in b)
  -- a board that names neither gets 16, and nothing changes; and on any board no entry changes what it names
  pub code_neither : (l : Layout) (i : Input) (b : Board) (x : Left) → (IsPart (part_in b) → ⊥) → Serves l i b x → Refused16 l i b x
  pub code_stays : (l : Layout) (i : Input) (b : Board) (x : Left) → Serves l i b x → part_in x.board ≡ part_in b

-- Document 02, W10. "two runs from power-up with the same accesses and events, except that arriving frames, of equal lengths, differ from byte 6 on, with equal CRC verdicts. At each send let the packet's bytes 2 to 9 and its control byte agree
-- in the two runs. Then every answer agrees but the value of data reads and the bytes put out; so do registers, queues, page numbers and the line." (`blind_laws/specs/Alike` has each word of it.)
pub record PayloadBlind (n : ℕ) : Type 0 where
  pub blind : (l : Layout) (is js : List Input) → InputsAlike is js → SendsAlike n is js (powered l n) (powered l n) → RunsAlike n is js (powered l n) (powered l n)
  -- what is asked of sends is known from one run alone: no send looks at a private byte, one that a frame left from its byte 6 on, and that nothing was put over since. The two memories then agree in every other byte, throughout
  pub known : (l : Layout) (is js : List Input) → InputsAlike is js → SendsOpen n is (powered l n) none_private → OpenRuns n is js (powered l n) (powered l n) none_private
  -- Of the code, on both chips: each call of two runs, and the boards at the end.
  pub code_blind : (l : Layout) (is js : List Input) → InputsAlike is js → SendsAlike n is js (powered l n) (powered l n) → (u v : Left) → Starts l n u → Starts l n v
      → (xs ys : List Left) → Runs l is u.board xs → Runs l js v.board ys → AllLeftAlike l is u.board xs ys × BoardsAlike l (board_after u.board xs) (board_after v.board ys)
