-- W3's promise is about something: a driver allocates, loads and sends, and receives and drains, on the chip of document 01, and the send reads only written bytes. Computed, by a test of `OnlyWritten`.
use Rattle.std.specs.Prelude.{◌≡◌, refl, Bool, true, false, ◌&&◌, List, [], ◌∷◌, ◌++◌, map, ℕ, zero, suc, ◌+◌, ◌-◌, ◌≤◌, ◌<◌, get_or, replicate}
use Rattle.std.proofs.Common.{ap, ◌∙◌, arith}
use Rattle.std.proofs.Math.Decide.{ℕ_discrete}
use Rattle.rules.specs.Bits.{bit, set_bit, clear_bit, flag, low_byte, high_byte, word_of, word_at}
use Rattle.rules.specs.Lists.{member, some?, owned, unless, free_below, first_empty}
use Rattle.rules.specs.Parts.{lan91c96}
use Rattle.rules.specs.Chip.{paged, Chip, powered}
use Rattle.rules.specs.Answers.{Reply, Turn, done}
use Rattle.rules.specs.Tests.{above, ascends, all_below, apart, none_owned, pages_good, laid_good, queue_good, queues_good, numbers_good, request_good, formed, fit}
use Rattle.rules.specs.Packet.{place, get_bytes, put_bytes}
use Rattle.rules.specs.Mmu.{decode, perform, due, settle}
use Rattle.rules.specs.Data.{address, advance, next, if_packet, against, odd_fixed, past, if_open, value_of, read_data, write_data}
use Rattle.rules.specs.Registers.{Access, read, write, byte, word, register_at, misplaced, lanes_at, taken, merged, width, bytes_of, head_of, new_rcr, write_rcr, forgotten, write_tcr, low_only, read_register, write_register, access}
use Rattle.rules.specs.Crc.{crc_bit, crc_bits, crc_from, crc, hash, mirror, fcs_word, four_bytes}
use Rattle.rules.specs.Receive.{same_bytes, bad_crc, broadcast, group, in_table, accepted, data_length, count_of, pages_for, needed, value_for, dropped, judge, group_bits, frame_status, trailer, image, after, arrive}
use Rattle.rules.specs.Send.{in_limits, byte_count, send_length, appends, padded, ended, on_wire, control_byte, put_out, good, failure_bit, collision_bits, outcome_bits, address_bits, nibble, counted, tally, nibbles, any_at15, new_ecr, new_ephsr, auto_release, send_head, if_usable, if_sendable, finish}
use Rattle.rules.specs.Step.{Input, driver, frame, sent, link, serve, step_of, run_of}
use Rattle.lists.specs.Facts.{◌and◌, is_true}
use Rattle.wellformed.specs.Fit.{below_decides}
use Rattle.laws.specs.Broadcast.{broadcasting}
use Rattle.laws.specs.Head.{head_count, head_control}
use Rattle.strip_laws.specs.Written.{Marks, unwritten, marked, anew, command_marks, write_marks, access_marks, frame_marks, send_marks, input_marks, written, written_by, ReadsWritten, Minds, OnlyWritten}
use Rattle.strip_laws.specs.StripsAlike.{StripsBeside}
use Rattle.strip_laws.proofs.StripsAlike.{strips_beside}
use Rattle.strip_laws.specs.StripsUsed.{all_marked, reads_marked, minded, all_minded, loads, drains, used}

all_marked_lem : (w a k : ℕ) (m : Marks) → all_marked w a k m ≡ true → (x : ℕ) → a ≤ x → x < a + w → m k x ≡ true
unfolding all_marked
all_marked_lem zero a k m t x h i = absurd (omega arith)
all_marked_lem (suc w) a k m t x h i =
    let p = (is_true (m k a) and is_true (all_marked w (suc a) k m)).sound t in
    go p.0 (all_marked_lem w (suc a) k m p.1 x) (ℕ_discrete x a)
  where
    go : m k a ≡ true → (suc a ≤ x → x < suc a + w → m k x ≡ true) → Dec (x ≡ a) → m k x ≡ true
    go first later (yes e) = ap (m k) e ∙ first
    go first later (no d) = later (omega arith) (omega arith)

reads_marked_lem : (c : Chip) (m : Marks) (t : Turn) → reads_marked c m ≡ true → ReadsWritten c m t
unfolding reads_marked
reads_marked_lem c m t e =
    let k = get_or c.pool.tx 0 0 in
    let long = send_length (head_count c) (head_control c) in
    let p = (is_true (m k 2) and is_true (m k 3) and is_true (m k (head_count c - 1)) and is_true (all_marked long 4 k m)).sound e in
    record { low = p.0.0.0; high = p.0.0.1; control = λ d. p.0.1; bytes = λ d. all_marked_lem long 4 k m p.1 }

minded_sound : (n : ℕ) (i : Input) (c : Chip) (m : Marks) → minded i c m ≡ true → Minds n i c m
unfolding minded
minded_sound n (driver a) c m e = tt
minded_sound n (frame f) c m e = (below_decides 256 f.bytes).sound e
minded_sound n (sent s out) c m e = λ r. reads_marked_lem c m (step_of n (sent s out) c) e
minded_sound n (link x) c m e = tt

all_minded_lem : (n : ℕ) (inputs : List Input) (c : Chip) (m : Marks) → all_minded n inputs c m ≡ true → OnlyWritten n inputs c m
unfolding all_minded
all_minded_lem n [] c m e = tt
all_minded_lem n (i ∷ is) c m e =
    let p = (is_true (minded i c m) and is_true (all_minded n is (step_of n i c).chip (written n i c m))).sound e in
    (minded_sound n i c m p.0, all_minded_lem n is (step_of n i c).chip (written n i c m) p.1)

used_test : all_minded lan91c96 used (powered paged lan91c96) unwritten ≡ true
unfolding bit set_bit clear_bit flag low_byte high_byte word_of word_at member some? owned unless free_below first_empty above ascends all_below apart none_owned pages_good laid_good queue_good queues_good numbers_good request_good formed fit place get_bytes put_bytes decode perform due settle address advance next if_packet against odd_fixed past if_open value_of read_data write_data register_at misplaced lanes_at taken merged width bytes_of head_of new_rcr write_rcr forgotten write_tcr low_only read_register write_register access crc_bit crc_bits crc_from crc hash mirror fcs_word four_bytes same_bytes bad_crc broadcast group in_table accepted data_length count_of pages_for needed value_for dropped judge group_bits frame_status trailer image after arrive in_limits byte_count send_length appends padded ended on_wire control_byte put_out good failure_bit collision_bits outcome_bits address_bits nibble counted tally nibbles any_at15 new_ecr new_ephsr auto_release send_head if_usable if_sendable finish serve step_of all_marked reads_marked minded all_minded marked anew command_marks write_marks access_marks frame_marks send_marks input_marks written
used_test = refl

-- Its send reads only written bytes,
pub used_minds : OnlyWritten lan91c96 used (powered paged lan91c96) unwritten
used_minds = all_minded_lem lan91c96 used (powered paged lan91c96) unwritten used_test

-- and so the chip of strips does the same.
pub used_alike : StripsBeside lan91c96 used
used_alike = strips_beside lan91c96 used used_minds
