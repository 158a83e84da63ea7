-- Short laws beside the definitions, for the wrong models of must-fail/: four of document 01's plausible slips, those of document 02's W4 and W8, and others. (The other two slips, adjacent pages and bytes after a frame, are
-- edits of `packet`. An edit reaches its own crate only, so these laws stand here and not in `laws`.)
use mathlib.Core.Path.{◌≡◌, refl, ◌∙◌}
use mathlib.Core.Bool.{Bool, true, false, cond, xor, ◌||◌}
use mathlib.Core.List.{List, [], ◌∷◌, ◌++◌}
use Prim.Native.Nat.{ℕ, zero, suc, ◌*◌, ◌≤◌, ◌<◌}
use native.Mathlib.Omega.{arith}
use borrow.Author.Tests.{le-leb, lt-ltb, le-ltb, ne_eqb}
use lib.ListN.{length, get_or, take, replicate, length-replicate}
use lib.Seq.{get_or-set_same, get_or-set_other}
use Rattle.rules.specs.Bits.{bit, low_byte, high_byte, word_of, word_at}
use Rattle.rules.specs.Lists.{member, first_empty, some?, owned, unless, free_below}
use Rattle.rules.specs.Parts.{lan91c94, lan91c96, part_named}
use Rattle.rules.specs.Chip.{Registers, Layout, paged, Chip, size, pages_at, free, powered}
use Rattle.rules.specs.Fields.{set_rx, set_completion, in_pool}
use Rattle.rules.specs.Answers.{Effect, refuse, refusal}
use Rattle.rules.specs.Mmu.{perform, allocate, reset, remove_and_release, reset_tx, lowest_number, grant, due, settle, freed, give_back}
use Rattle.rules.specs.Link.{relink, shown_ephsr}
use Rattle.rules.specs.Data.{against, if_open}
use Rattle.rules.specs.Crc.{crc_bit, crc_bits, crc_from, crc, hash, mirror, fcs_word, four_bytes, fcs}
use Rattle.rules.specs.Tests.{ascends, all_below, apart, none_owned, pages_good, laid_good, queue_good, queues_good, numbers_good, request_good, formed, fit}
use Rattle.rules.specs.Registers.{byte, word, Lanes, low, high, both, CONTROL, INTERRUPT, read, write, misplaced, register_at, lanes_at, taken, head_of, low_only, soft_reset, write_interrupt, read_register, write_register, access}
use Rattle.rules.specs.Receive.{Frame, same_bytes, bad_crc, Arrival, stored, disabled, not_accepted, too_long, bad, no_room, count_of, needed, image, after}
use Rattle.rules.specs.Send.{Send, byte_count, appends, padded, ended, on_wire, good, auto_release, tally, counted, nibble, status_word, sent_registers, no_place, send_head, if_usable, if_sendable}
use Rattle.rules.specs.Step.{driver, serve, step_of, run_of}
use Rattle.rules.specs.Bench.{Bench, part, answer, asks_for, started_as, answer_first, answer_to}

-- Where nothing waits, pages that are given back are free, and that is all.
none_waiting : (k : ℕ) (c : Chip) → c.regs.numbers.waiting ≡ 0 → give_back k c ≡ freed k c
unfolding settle due
none_waiting k c e = rw e

-- 80h is of the RX head, whatever the packet number register says and whether or not an allocation waits.
pub head_given_back : (c : Chip) (k : ℕ) (ks : List ℕ) → c.pool.rx ≡ k ∷ ks → (perform remove_and_release c).chip ≡ give_back k (in_pool (set_rx ks) c)
unfolding perform
head_given_back c k ks e = rw e

-- So, where nothing waits, 80h leaves the pages of every other packet, and gives back every page of this one.
pub head_alone : (c : Chip) (k : ℕ) (ks : List ℕ) → c.pool.rx ≡ k ∷ ks → c.regs.numbers.waiting ≡ 0 → (j : ℕ) → (j ≡ k → ⊥) → pages_at (perform remove_and_release c).chip j ≡ pages_at c j
head_alone c k ks e none j d = rw (head_given_back c k ks e, none_waiting k (in_pool (set_rx ks) c) none) (get_or-set_other c.pool.pages k j [] [] d)

pub head_released : (c : Chip) (k : ℕ) (ks : List ℕ) → c.pool.rx ≡ k ∷ ks → c.regs.numbers.waiting ≡ 0 → k < size c → pages_at (perform remove_and_release c).chip k ≡ []
head_released c k ks e none h = rw (head_given_back c k ks e, none_waiting k (in_pool (set_rx ks) c) none) (get_or-set_same c.pool.pages k [] [] h)

-- A number below the lowest unallocated one is allocated.
pub lowest : (ls : List (List ℕ)) (j : ℕ) → j < first_empty ls → some? (get_or ls j []) ≡ true
unfolding first_empty some?
lowest [] j h = absurd (omega arith)
lowest ([] ∷ ls) j h = absurd (omega arith)
lowest ((p ∷ ps) ∷ ls) zero h = refl
lowest ((p ∷ ps) ∷ ls) (suc j) h = lowest ls j (omega arith)

-- The allocation result names the packet that has the granted pages: no page number.
pub result_has : (c : Chip) (n : ℕ) → n ≤ length (free c) → first_empty c.pool.pages < size c
    → pages_at (perform (allocate n) c).chip (perform (allocate n) c).chip.regs.numbers.result ≡ take n (free c)
unfolding perform
result_has c n h k = rw (le-leb n (length (free c)) h) (get_or-set_same c.pool.pages (first_empty c.pool.pages) (take n (free c)) [] k)

-- A grant clears nothing, whatever the layout: what stands in a page or in a strip stays.
pub grant_clears_nothing : (n : ℕ) (c : Chip) → (grant n c).memory ≡ c.memory
grant_clears_nothing n c = refl

-- An allocation that waits for as many pages as are free is granted: its packet is the lowest unallocated number and has the lowest of them, all that it waited for; and nothing waits any more.
-- c is the chip once pages are free, d the chip after it.
abbrev Granted : Chip → Chip → Type 0
Granted c d = (d.regs.numbers.result ≡ lowest_number c) × (d.regs.numbers.waiting ≡ 0) × (pages_at d (lowest_number c) ≡ take c.regs.numbers.waiting (free c))

settles : (c : Chip) → due c ≡ true → lowest_number c < size c → Granted c (settle c)
unfolding settle
settles c e k = rw e (refl, refl, get_or-set_same c.pool.pages (lowest_number c) (take c.regs.numbers.waiting (free c)) [] k)

-- That is so in the step that gives pages back, and of these too.
pub granted_at_once : (k : ℕ) (c : Chip) → due (freed k c) ≡ true → lowest_number (freed k c) < size (freed k c) → Granted (freed k c) (give_back k c)
granted_at_once k c = settles (freed k c)

-- Frames and E0h leave it; 40h and a soft reset drop it.
pub frames_leave_it : (v : Arrival) (f : Frame) (c : Chip) → (after v f c).regs.numbers ≡ c.regs.numbers
unfolding after
frames_leave_it stored f c = refl
frames_leave_it disabled f c = refl
frames_leave_it not_accepted f c = refl
frames_leave_it too_long f c = refl
frames_leave_it bad f c = refl
frames_leave_it no_room f c = refl

pub e0h_leaves_it : (c : Chip) → (perform reset_tx c).chip.regs ≡ c.regs
unfolding perform
e0h_leaves_it c = refl

pub resets_drop_it : (c : Chip) → ((perform reset c).chip.regs.numbers.waiting ≡ 0) × ((soft_reset c).regs.numbers.waiting ≡ 0)
unfolding perform
resets_drop_it c = (refl, refl)

-- A stored frame's packet has the lowest free pages, as many as it needs.
pub stored_in_free : (f : Frame) (c : Chip) → first_empty c.pool.pages < size c → pages_at (after stored f c) (first_empty c.pool.pages) ≡ take (needed c.regs (length f.bytes)) (free c)
unfolding after
stored_in_free f c k = get_or-set_same c.pool.pages (first_empty c.pool.pages) (take (needed c.regs (length f.bytes)) (free c)) [] k

-- A sent packet leaves TX, released or not.
pub sent_leaves_tx : (s : Send) (k : ℕ) (rest : List ℕ) (c : Chip) (out : List ℕ) → (send_head s k rest c out).chip.pool.tx ≡ rest
unfolding send_head settle
sent_leaves_tx s k rest c out = either (auto_release (good c.regs.sending.tcr s.outcome) c.regs) _ _ (settled _ refl) refl
  where
    either : (b : Bool) (x y : Chip) → x.pool.tx ≡ rest → y.pool.tx ≡ rest → (cond b x y).pool.tx ≡ rest
    either true x y p q = p
    either false x y p q = q

    settled : (x : Chip) → x.pool.tx ≡ rest → (settle x).pool.tx ≡ rest
    settled x p = either (due x) _ x p p

-- The link (document 02, W8). The same state again is no change.
again : (a b : Bool) → a || xor b b ≡ a
unfolding xor
again true b = refl
again false true = refl
again false false = refl

pub same_state_no_change : (r : Registers) → (relink r.link.up r).link ≡ r.link
same_state_no_change r = λ i. record { up = r.link.up; changed = again r.link.changed r.link.up i }

-- A change is forgotten by a write to either control byte, and by none to interrupt status and mask; a soft reset keeps the link too.
pub control_forgets : (p : Lanes) (v : ℕ) (c : Chip) → (write_register CONTROL p v c).chip.regs.link ≡ record { up = c.regs.link.up; changed = false }
unfolding write_register
control_forgets p v c = refl

pub mask_leaves_it : (p : Lanes) (v : ℕ) (c : Chip) → (write_register INTERRUPT p v c).chip.regs.link ≡ c.regs.link
unfolding write_register write_interrupt
mask_leaves_it low v c = refl
mask_leaves_it high v c = refl
mask_leaves_it both v c = refl

pub reset_keeps_link : (c : Chip) → (soft_reset c).regs.link ≡ record { up = c.regs.link.up; changed = false }
reset_keeps_link c = refl

-- The status word of a send is EPHSR as it is shown then: sends leave the link, good ones too.
pub sends_leave_link : (is_good : Bool) (s : Send) (address : List ℕ) (emptied : Bool) (r : Registers) → status_word is_good s address r ≡ shown_ephsr (sent_registers is_good s address emptied r)
sends_leave_link is_good s address emptied r = refl

-- A word is made again of its low byte and its high byte.
pub word_again : (x : ℕ) → x < 65536 → word_of (low_byte x) (high_byte x) ≡ x
unfolding word_of low_byte high_byte
word_again x h = omega arith

-- The byte count stands at addresses 2 and 3 of a stored frame.
pub count_stored : (f : Frame) (n : ℕ) → count_of n < 65536 → word_at 2 (image f n) ≡ count_of n
unfolding image word_at
count_stored f n h = word_again (count_of n) h

-- The hash of the third example of data sheet 003, 100 111: no bit of it is turned round.
pub hash_in_order : hash (0x01 ∷ 0 ∷ 0 ∷ 0 ∷ 0 ∷ 0 ∷ []) ≡ 0b100111
unfolding hash crc crc_from crc_bits crc_bit
hash_in_order = refl

-- The frame check sequence of document 02's W4. The standard's check value, of "123456789": the complement of the remainder, its bit 31 first on the wire.
pub check_value : fcs (0x31 ∷ 0x32 ∷ 0x33 ∷ 0x34 ∷ 0x35 ∷ 0x36 ∷ 0x37 ∷ 0x38 ∷ 0x39 ∷ []) ≡ 0x26 ∷ 0x39 ∷ 0xf4 ∷ 0xcb ∷ []
unfolding four_bytes fcs_word mirror crc crc_from crc_bits crc_bit
check_value = refl

-- On arrival it is that of the bytes before it: of none it is four zeros.
pub last_four_apart : bad_crc (0 ∷ 0 ∷ 0 ∷ 0 ∷ []) ≡ false
unfolding bad_crc same_bytes four_bytes fcs_word mirror crc crc_from crc_bits crc_bit
last_four_apart = refl

-- It is appended without NOCRC; and with it where bit 4 of the control byte asks for it.
pub asked_for_by_packet : (appends 0x0000 0x00 ≡ true) × (appends 0x0100 0x10 ≡ true) × (appends 0x0100 0x00 ≡ false)
unfolding appends bit
asked_for_by_packet = (refl, refl, refl)

-- It is that of the padded data.
pub over_the_padding : (tcr control : ℕ) (bytes : List ℕ) → appends tcr control ≡ true → on_wire tcr control bytes ≡ padded true tcr bytes ++ fcs (padded true tcr bytes)
unfolding on_wire ended
over_the_padding tcr control bytes e = rw e refl

-- The shortest frame, padded, has 64 bytes with its FCS, and 64 without one.
pub padded_to_64 : (x : ℕ) → (length (on_wire 0x0080 0 (x ∷ [])) ≡ 64) × (length (on_wire 0x0180 0 (x ∷ [])) ≡ 64)
unfolding on_wire ended padded appends bit four_bytes
padded_to_64 x = (refl, refl)

-- A failed send after one collision and with no deferral counts in no nibble.
pub failed_single : (s : Send) (ecr : ℕ) → s.collisions ≡ 1 → s.deferral ≡ 0 → tally false s ecr ≡ nibble 0 ecr ∷ nibble 1 ecr ∷ nibble 2 ecr ∷ nibble 3 ecr ∷ []
unfolding tally counted
failed_single s ecr a b = rw (a, b)

-- The first value is not 0, and each answer is that of the chip after the inputs before it: the bank is read, then bank 2 is selected and its queue heads are read.
pub answers_go_on : (run_of lan91c96 (driver (read word 14) ∷ driver (write byte 14 2) ∷ driver (read word 4) ∷ []) (powered paged lan91c96)).replies
    ≡ record { number = 0; value = 0x3300 } ∷ record { number = 0; value = 0 } ∷ record { number = 0; value = 0x8080 } ∷ []
unfolding run_of step_of fit formed pages_good laid_good ascends all_below none_owned numbers_good queues_good queue_good request_good apart serve access misplaced bit register_at lanes_at read_register write_register taken low_only word_of head_of
answers_go_on = refl

-- Refusal 8 comes before 9 and 10.
pub eight_first : (isRead : Bool) (width : ℕ) (pages : List ℕ) (c : Chip) (e : Effect) → against isRead c.regs.pointer ≡ true → if_open isRead width pages c e ≡ refuse 8 c
unfolding if_open
eight_first isRead width pages c e h = rw h

-- The byte count of the packet k at the head of TX, by its fault and with itself as the value: an odd one is 13 before all else, one under 12 is 18, one past the pages 19, and these come before 14.
module _ (s : Send) (k : ℕ) (rest : List ℕ) (c : Chip) (out : List ℕ) where
  abbrev count : ℕ
  count = byte_count (pages_at c k) c.memory

  pub odd_is_13 : bit 0 count ≡ true → (if_sendable s k rest c out).reply ≡ record { number = 13; value = count }
  unfolding if_sendable if_usable
  odd_is_13 o = rw o refl

  pub short_is_18 : bit 0 count ≡ false → count < 12 → (if_sendable s k rest c out).reply ≡ record { number = 18; value = count }
  unfolding if_sendable if_usable
  short_is_18 e l = rw (e, lt-ltb count 12 l) refl

  pub past_is_19 : bit 0 count ≡ false → 12 ≤ count → 256 * length (pages_at c k) < count → (if_sendable s k rest c out).reply ≡ record { number = 19; value = count }
  unfolding if_sendable if_usable
  past_is_19 e l m = rw (e, le-ltb count 12 l, lt-ltb (256 * length (pages_at c k)) count m) refl

-- Document 02, W9. "MIR 1212h after reset", and by the same rule document 01's 1818h.
pub mir_by_the_part : ((run_of lan91c94 (driver (read word 8) ∷ []) (powered paged lan91c94)).replies ≡ record { number = 0; value = 0x1212 } ∷ [])
    × ((run_of lan91c96 (driver (read word 8) ∷ []) (powered paged lan91c96)).replies ≡ record { number = 0; value = 0x1818 } ∷ [])
unfolding run_of step_of fit formed pages_good laid_good ascends all_below none_owned numbers_good queues_good queue_good request_good apart serve access misplaced bit register_at lanes_at read_register write_register taken low_only word_of head_of free_below unless owned member
mir_by_the_part = (refl, refl)

-- A part of n packets has n of them and no more: so none from n on is allocated.
pub packets_of_the_part : (l : Layout) (n : ℕ) → (size (powered l n) ≡ n) × (size (perform reset (powered l n)).chip ≡ n) × (size (soft_reset (powered l n)) ≡ n)
unfolding perform
packets_of_the_part l n =
    let e = length-replicate {A = List ℕ} n [] in
    (e, length-replicate {A = List ℕ} (size (powered l n)) [] ∙ e, length-replicate {A = List ℕ} (size (powered l n)) [] ∙ e)

-- "the completion FIFO holds 18": where a failed send's number would be the 19th entry there is no place for it, and as the 18th there is.
abbrev completions : ℕ → Chip
completions k = in_pool (set_completion (replicate k 0)) (powered paged lan91c94)

abbrev collided : Send
collided = record { outcome = 1; collisions = 0; deferral = 0 }

pub full_at_18 : (no_place collided (completions 18) ≡ true) × (no_place collided (completions 17) ≡ false)
unfolding good auto_release bit
full_at_18 = (refl, refl)

-- A record of kind 9 starts the part that it names where it is the first; "kind 9 later on, or with another byte, gets 11".
module _ (b : Bench) where
  pub part_first : ((answer_to 1 (part 0x94) b).after ≡ started_as 18 b) × ((answer_to 1 (part 0x96) b).after ≡ started_as 24 b)
  unfolding answer_to answer_first asks_for part_named
  part_first = (refl, refl)

  pub part_second : answer_to 2 (part 0x94) b ≡ record { reply = refusal 11; after = b }
  unfolding answer_to answer
  part_second = refl

  pub part_later : (k x : ℕ) → 1 < k → answer_to k (part x) b ≡ record { reply = refusal 11; after = b }
  unfolding answer_to answer
  part_later k x h = rw (ne_eqb k 1 (λ e. omega (arith, h, e)))

  pub part_unnamed : (x : ℕ) → part_named x ≡ 0 → answer_to 1 (part x) b ≡ record { reply = refusal 11; after = b }
  unfolding answer_to answer_first asks_for answer
  part_unnamed x e = rw e
