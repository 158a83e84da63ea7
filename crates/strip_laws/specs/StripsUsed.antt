-- W3's promise is about something: a driver allocates, loads and sends, and receives and drains, on the chip of document 01, and the send reads only written bytes. Computed, by a test of `OnlyWritten`.
use Rattle.std.specs.Prelude.{◌≡◌, refl, Bool, true, false, ◌&&◌, List, [], ◌∷◌, ◌++◌, map, ℕ, zero, suc, ◌+◌, ◌-◌, ◌≤◌, ◌<◌, get_or, replicate}
use Rattle.std.proofs.Common.{ap, ◌∙◌, arith}
use Rattle.std.proofs.Math.Decide.{ℕ_discrete}
use Rattle.rules.specs.Bits.{bit, set_bit, clear_bit, flag, low_byte, high_byte, word_of, word_at}
use Rattle.rules.specs.Lists.{member, some?, owned, unless, free_below, first_empty}
use Rattle.rules.specs.Parts.{lan91c96}
use Rattle.rules.specs.Chip.{paged, Chip, powered}
use Rattle.rules.specs.Answers.{Reply, Turn, done}
use Rattle.rules.specs.Tests.{above, ascends, all_below, apart, none_owned, pages_good, laid_good, queue_good, queues_good, numbers_good, request_good, formed, fit}
use Rattle.rules.specs.Packet.{place, get_bytes, put_bytes}
use Rattle.rules.specs.Mmu.{decode, perform, due, settle}
use Rattle.rules.specs.Data.{address, advance, next, if_packet, against, odd_fixed, past, if_open, value_of, read_data, write_data}
use Rattle.rules.specs.Registers.{Access, read, write, byte, word, register_at, misplaced, lanes_at, taken, merged, width, bytes_of, head_of, new_rcr, write_rcr, forgotten, write_tcr, low_only, read_register, write_register, access}
use Rattle.rules.specs.Crc.{crc_bit, crc_bits, crc_from, crc, hash, mirror, fcs_word, four_bytes}
use Rattle.rules.specs.Receive.{same_bytes, bad_crc, broadcast, group, in_table, accepted, data_length, count_of, pages_for, needed, value_for, dropped, judge, group_bits, frame_status, trailer, image, after, arrive}
use Rattle.rules.specs.Send.{in_limits, byte_count, send_length, appends, padded, ended, on_wire, control_byte, put_out, good, failure_bit, collision_bits, outcome_bits, address_bits, nibble, counted, tally, nibbles, any_at15, new_ecr, new_ephsr, auto_release, send_head, if_usable, if_sendable, finish}
use Rattle.rules.specs.Step.{Input, driver, frame, sent, link, serve, step_of, run_of}
use Rattle.lists.specs.Facts.{◌and◌, is_true}
use Rattle.wellformed.specs.Fit.{below_decides}
use Rattle.laws.specs.Broadcast.{broadcasting}
use Rattle.laws.specs.Head.{head_count, head_control}
use Rattle.strip_laws.specs.Written.{Marks, unwritten, marked, anew, command_marks, write_marks, access_marks, frame_marks, send_marks, input_marks, written, written_by, ReadsWritten, Minds, OnlyWritten}
use Rattle.strip_laws.specs.StripsAlike.{StripsBeside}

-- are w bytes of packet k, from address a on, written
unfoldable pub all_marked : ℕ → ℕ → ℕ → Marks → Bool
all_marked zero a k m = true
all_marked (suc w) a k m = m k a && all_marked w (suc a) k m

-- is all that a send may read of the head of TX written: the count, the control byte and the data
unfoldable pub reads_marked : Chip → Marks → Bool
reads_marked c m =
    let k = get_or c.pool.tx 0 0 in
    m k 2 && m k 3 && m k (head_count c - 1) && all_marked (send_length (head_count c) (head_control c)) 4 k m

unfoldable pub minded : Input → Chip → Marks → Bool
minded (driver a) c m = true
minded (frame f) c m = all_below 256 f.bytes
minded (sent s out) c m = reads_marked c m
minded (link x) c m = true

unfoldable pub all_minded : ℕ → List Input → Chip → Marks → Bool
all_minded n [] c m = true
all_minded n (i ∷ is) c m = minded i c m && all_minded n is (step_of n i c).chip (written n i c m)

-- auto release, TXENA and RXEN
abbrev starts : List Access
starts = write byte 0xe 1 ∷ write word 0xc 0x0800 ∷ write byte 0xe 0 ∷ write byte 0 1 ∷ write word 4 0x0100 ∷ []

-- a page is allocated; packet 0 gets the count 12, six bytes of data and a control word, and joins TX
abbrev pub loads : List Access
loads =
    write byte 0xe 2 ∷ write byte 0 0x20 ∷ write byte 2 0 ∷ write word 6 0x4002 ∷ write word 8 12 ∷ write word 8 0x1111 ∷ write word 8 0x2222 ∷ write word 8 0x3333 ∷ write word 8 0
    ∷ write byte 0 0xc0 ∷ []

-- status, count and the first two bytes of the RX head are read, and it is removed and released
abbrev pub drains : List Access
drains = write word 6 0xe000 ∷ read word 8 ∷ read word 8 ∷ read word 8 ∷ write byte 0 0x80 ∷ []

-- up to the send, to its end, and to the frame
abbrev pub to_send : List Input
to_send = map driver (starts ++ loads)

abbrev pub to_sent : List Input
to_sent = to_send ++ (sent (record { outcome = 0; collisions = 0; deferral = 0 }) (replicate 2052 0) ∷ [])

abbrev pub to_frame : List Input
to_frame = to_sent ++ (frame broadcasting ∷ [])

abbrev pub used : List Input
used = to_frame ++ map driver drains

unfoldable pub used_replies : List Reply
unfolding bit set_bit clear_bit flag low_byte high_byte word_of word_at member some? owned unless free_below first_empty above ascends all_below apart none_owned pages_good laid_good queue_good queues_good numbers_good request_good formed fit place get_bytes put_bytes decode perform due settle address advance next if_packet against odd_fixed past if_open value_of read_data write_data register_at misplaced lanes_at taken merged width bytes_of head_of new_rcr write_rcr forgotten write_tcr low_only read_register write_register access crc_bit crc_bits crc_from crc hash mirror fcs_word four_bytes same_bytes bad_crc broadcast group in_table accepted data_length count_of pages_for needed value_for dropped judge group_bits frame_status trailer image after arrive in_limits byte_count send_length appends padded ended on_wire control_byte put_out good failure_bit collision_bits outcome_bits address_bits nibble counted tally nibbles any_at15 new_ecr new_ephsr auto_release send_head if_usable if_sendable finish serve step_of run_of
used_replies = (run_of lan91c96 used (powered paged lan91c96)).replies

-- what is written of packet 0 after these inputs, from address 0 on
abbrev pub written_up_to : ℕ → List Input → Bool
written_up_to w inputs = all_marked w 0 0 (written_by lan91c96 inputs (powered paged lan91c96) unwritten)

-- A send writes its status word, at addresses 0 and 1, which no data write had reached (its packet is given back behind it, which forgets nothing); a stored frame writes all 70 bytes that its count counts, and no more.
pub used_written : (written_up_to 1 to_send ≡ false) × (written_up_to 2 to_sent ≡ true) × (written_up_to 70 to_frame ≡ true) × (written_up_to 71 to_frame ≡ false)
unfolding bit set_bit clear_bit flag low_byte high_byte word_of word_at member some? owned unless free_below first_empty above ascends all_below apart none_owned pages_good laid_good queue_good queues_good numbers_good request_good formed fit place get_bytes put_bytes decode perform due settle address advance next if_packet against odd_fixed past if_open value_of read_data write_data register_at misplaced lanes_at taken merged width bytes_of head_of new_rcr write_rcr forgotten write_tcr low_only read_register write_register access crc_bit crc_bits crc_from crc hash mirror fcs_word four_bytes same_bytes bad_crc broadcast group in_table accepted data_length count_of pages_for needed value_for dropped judge group_bits frame_status trailer image after arrive in_limits byte_count send_length appends padded ended on_wire control_byte put_out good failure_bit collision_bits outcome_bits address_bits nibble counted tally nibbles any_at15 new_ecr new_ephsr auto_release send_head if_usable if_sendable finish serve step_of all_marked reads_marked minded all_minded marked anew command_marks write_marks access_marks frame_marks send_marks input_marks written
used_written = (refl, refl, refl, refl)

abbrev answer : ℕ → Reply
answer v = record { number = 0; value = v }

-- all is done: the send puts out 6 bytes and their FCS, the frame is stored (value 0), and what is drained is its status 4000h, its count 70 and its first word FFFFh;
pub used_done : used_replies ≡ replicate 15 done ++ (answer 10 ∷ done ∷ done ∷ answer 0x4000 ∷ answer 70 ∷ answer 0xffff ∷ done ∷ [])
unfolding used_replies
used_done = refl
