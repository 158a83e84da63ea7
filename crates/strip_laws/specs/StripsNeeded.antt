-- Why W3's promise asks that each send reads only written bytes, and says that a data read of another byte may return another value: on two chips of n packets, one of pages and one of strips. Computed, the two main ones at the LAN91C96.
use Rattle.std.specs.Prelude.{◌≡◌, refl, List, [], ◌∷◌, ◌++◌, map, Bool, true, false, ◌&&◌, ℕ, ◌-◌, length, get_or, take, replicate}
use Rattle.rules.specs.Bits.{bit, set_bit, clear_bit, flag, low_byte, high_byte, word_of, word_at}
use Rattle.rules.specs.Lists.{member, some?, owned, unless, free_below, total, up_from, first_empty}
use Rattle.rules.specs.Parts.{lan91c96}
use Rattle.rules.specs.Chip.{Layout, paged, strips, Chip, powered}
use Rattle.rules.specs.Answers.{Reply, done, refusal_with}
use Rattle.rules.specs.Tests.{above, ascends, all_below, apart, none_owned, pages_good, goes_up, own_good, laid_good, queue_good, queues_good, numbers_good, request_good, formed, fit}
use Rattle.rules.specs.Packet.{place, get_bytes, put_bytes}
use Rattle.rules.specs.Mmu.{decode, perform, due, settle}
use Rattle.rules.specs.Data.{address, advance, next, if_packet, against, odd_fixed, past, if_open, value_of, read_data, write_data}
use Rattle.rules.specs.Registers.{Access, read, write, byte, word, register_at, misplaced, lanes_at, taken, merged, width, bytes_of, head_of, new_rcr, write_rcr, forgotten, write_tcr, low_only, read_register, write_register, access}
use Rattle.rules.specs.Crc.{crc_bit, crc_bits, crc_from, crc, mirror, fcs_word, four_bytes}
use Rattle.rules.specs.Receive.{Frame, same_bytes, bad_crc, broadcast, group, accepted, data_length, count_of, pages_for, needed, value_for, dropped, judge, group_bits, frame_status, trailer, image, after, arrive}
use Rattle.rules.specs.Send.{in_limits, byte_count, send_length, appends, padded, ended, on_wire, control_byte, put_out, good, failure_bit, collision_bits, outcome_bits, address_bits, nibble, counted, tally, nibbles, any_at15, new_ecr, new_ephsr, auto_release, send_head, if_usable, if_sendable, finish}
use Rattle.rules.specs.Step.{Input, driver, frame, sent, serve, step_of, run_of}
use Rattle.strip_laws.specs.Written.{Marks, unwritten, marked, anew, command_marks, write_marks, access_marks, input_marks, written, OnlyWritten, written_by}

-- what is seen of the last input: its reply, and the first bytes of its output buffer
pub record Last : Type 0 where
  pub reply : Reply
  pub output : List ℕ

unfoldable pub last_of : ℕ → Layout → List Input → Last
unfolding bit set_bit clear_bit flag low_byte high_byte word_of word_at member some? owned unless free_below total up_from first_empty above ascends all_below apart none_owned pages_good goes_up own_good laid_good queue_good queues_good numbers_good request_good formed fit place get_bytes put_bytes decode perform due settle address advance next if_packet against odd_fixed past if_open value_of read_data write_data register_at misplaced lanes_at taken merged width bytes_of head_of crc_bit crc_bits crc_from crc mirror fcs_word four_bytes forgotten write_tcr low_only read_register write_register access same_bytes bad_crc broadcast group accepted data_length count_of pages_for needed value_for dropped judge group_bits frame_status trailer image after arrive new_rcr write_rcr in_limits byte_count send_length appends padded ended on_wire control_byte put_out good failure_bit collision_bits outcome_bits address_bits nibble counted tally nibbles any_at15 new_ecr new_ephsr auto_release send_head if_usable if_sendable finish serve step_of run_of
last_of n l inputs =
    let x = run_of n inputs (powered l n) in
    let i = length inputs - 1 in
    record { reply = get_or x.replies i done; output = take 12 (get_or x.outputs i []) }

-- of n packets: x is seen on the paged chip, and y on the chip of strips
abbrev Seen : ℕ → List Input → Last → Last → Type 0
Seen n inputs x y = (last_of n paged inputs ≡ x) × (last_of n strips inputs ≡ y)

-- a send that is done, with this value and these bytes in front of its buffer
abbrev sends : ℕ → List ℕ → Last
sends v bytes = record { reply = record { number = 0; value = v }; output = bytes }

-- an access that is done, with this value
abbrev gives : ℕ → Last
gives v = record { reply = record { number = 0; value = v }; output = [] }

-- Packet 0 has pages 0 and 1, and a driver writes into its second what would be a packet of count 12 with seven bytes of data: 11h, 11h, 22h, 22h, 33h, 33h, 44h, control byte 20h.
-- It is released, and packets 0 and 1 get a page each: packet 1 has that page, or a strip of its own, of which nothing is written.
abbrev left : List Access
left =
    write byte 0xe 2 ∷ write byte 0 0x21 ∷ write word 6 0x4102 ∷ write word 8 12 ∷ write word 8 0x1111 ∷ write word 8 0x2222 ∷ write word 8 0x3333 ∷ write word 8 0x2044
    ∷ write byte 0 0xa0 ∷ write byte 0 0x20 ∷ write byte 0 0x20 ∷ write byte 2 1 ∷ []

-- after these accesses the packet joins TX, transmission is enabled, and a send finishes
abbrev sent_after : List Access → List Input
sent_after accesses =
    map driver (accesses ++ (write byte 0 0xc0 ∷ write byte 0xe 0 ∷ write byte 0 1 ∷ [])) ++ (sent (record { outcome = 0; collisions = 0; deferral = 0 }) (replicate 2052 0) ∷ [])

-- The count is not written: one chip sends, and the other answers 18.
pub count_unwritten : Seen lan91c96 (sent_after left)
    (sends 11 (0x11 ∷ 0x11 ∷ 0x22 ∷ 0x22 ∷ 0x33 ∷ 0x33 ∷ 0x44 ∷ 0x9b ∷ 0x39 ∷ 0x82 ∷ 0x86 ∷ 0 ∷ [])) (record { reply = refusal_with 18 0; output = replicate 12 0 })
unfolding last_of
count_unwritten = (refl, refl)

-- The count and the data are, and the control byte is not: one chip puts out a byte more.
pub control_unwritten : Seen 2 (sent_after (left ++ (write word 6 0x4002 ∷ write word 8 12 ∷ write word 8 0x5555 ∷ write word 8 0x6666 ∷ write word 8 0x7777 ∷ write byte 8 0x88 ∷ [])))
    (sends 11 (0x55 ∷ 0x55 ∷ 0x66 ∷ 0x66 ∷ 0x77 ∷ 0x77 ∷ 0x88 ∷ 0xee ∷ 0x30 ∷ 0x5e ∷ 0x6a ∷ 0 ∷ [])) (sends 10 (0x55 ∷ 0x55 ∷ 0x66 ∷ 0x66 ∷ 0x77 ∷ 0x77 ∷ 0xbf ∷ 0x6c ∷ 0x7a ∷ 0xe1 ∷ 0 ∷ 0 ∷ []))
unfolding last_of
control_unwritten = (refl, refl)

-- The count and the control byte are, and the data is not: the same answer, and other bytes put out.
pub data_unwritten : Seen 2 (sent_after (left ++ (write word 6 0x4002 ∷ write word 8 12 ∷ write word 6 0x400a ∷ write word 8 0 ∷ [])))
    (sends 10 (0x11 ∷ 0x11 ∷ 0x22 ∷ 0x22 ∷ 0x33 ∷ 0x33 ∷ 0xb2 ∷ 0x3f ∷ 0x81 ∷ 0x5e ∷ 0 ∷ 0 ∷ [])) (sends 10 (0 ∷ 0 ∷ 0 ∷ 0 ∷ 0 ∷ 0 ∷ 0xa3 ∷ 0xa1 ∷ 0xc2 ∷ 0xb1 ∷ 0 ∷ 0 ∷ []))
unfolding last_of
data_unwritten = (refl, refl)

-- Packets 0 and 1 have a page each, and packet 1 is loaded so. Both are released, packet 0 takes both pages, and packet 1 another: the paged chip has a page there that nobody wrote, and the strip keeps its bytes.
abbrev loaded : List Access
loaded =
    write byte 0xe 2 ∷ write byte 0 0x20 ∷ write byte 0 0x20 ∷ write byte 2 1 ∷ write word 6 0x4002 ∷ write word 8 12 ∷ write word 8 0x1111 ∷ write word 8 0x2222 ∷ write word 8 0x3333 ∷ write word 8 0x2044
    ∷ []

abbrev granted_anew : List Access
granted_anew = loaded ++ (write byte 0 0xa0 ∷ write byte 2 0 ∷ write byte 0 0xa0 ∷ write byte 0 0x21 ∷ write byte 0 0x20 ∷ write byte 2 1 ∷ [])

pub written_before_the_grant : Seen 3 (sent_after granted_anew) (record { reply = refusal_with 18 0; output = replicate 12 0 }) (sends 11 (0x11 ∷ 0x11 ∷ 0x22 ∷ 0x22 ∷ 0x33 ∷ 0x33 ∷ 0x44 ∷ 0x9b ∷ 0x39 ∷ 0x82 ∷ 0x86 ∷ 0 ∷ []))
unfolding last_of
written_before_the_grant = (refl, refl)

-- So what is written "starts anew at each grant": the count of packet 1 is written when it is loaded, and not after the grant.
unfoldable pub count_written : List Access → Bool
unfolding bit low_byte high_byte word_of member some? owned unless free_below first_empty above ascends all_below apart none_owned pages_good laid_good queue_good queues_good numbers_good request_good formed fit place get_bytes put_bytes decode perform due settle address advance next if_packet against odd_fixed past if_open write_data register_at misplaced lanes_at merged width bytes_of low_only write_register access serve step_of marked anew command_marks write_marks access_marks input_marks written
count_written accesses = let m = written_by 3 (map driver accesses) (powered paged 3) unwritten in m 1 2 && m 1 3

pub starts_anew : (count_written loaded ≡ true) × (count_written granted_anew ≡ false)
unfolding count_written
starts_anew = (refl, refl)

-- A driver's accesses alone are within the promise,
pub accesses_mind : (n : ℕ) (accesses : List Access) (c : Chip) (m : Marks) → OnlyWritten n (map driver accesses) c m
accesses_mind n [] c m = tt
accesses_mind n (a ∷ more) c m = (tt, accesses_mind n more (step_of n (driver a) c).chip _)

-- and a data read of a byte that is not written returns another value; of a word the written half is the same.
pub read_unwritten : Seen lan91c96 (map driver (left ++ (write word 6 0x2004 ∷ read word 8 ∷ []))) (gives 0x1111) (gives 0)
unfolding last_of
read_unwritten = (refl, refl)

pub read_half_written : Seen 2 (map driver (left ++ (write word 6 4 ∷ write byte 8 0x77 ∷ write word 6 0x2004 ∷ read word 8 ∷ []))) (gives 0x1177) (gives 0x77)
unfolding last_of
read_half_written = (refl, refl)

-- Why a frame is to be of bytes. Packet 0 has a page, and a frame of numbers 300, with their FCS, is stored in the other; both are released, packet 0 has both, and byte 261 of it is written: 77h is the high byte of the word at 260, but not of what the paged chip returns, which is 300 + 256 * 77h.
abbrev numbers : Frame
numbers = record { bytes = replicate 60 300 ++ (0x25 ∷ 0x5c ∷ 0x33 ∷ 0xbe ∷ []); alignment = false }

pub frame_of_numbers : Seen 2
    (map driver (write byte 4 2 ∷ write byte 5 1 ∷ write byte 0xe 2 ∷ write byte 0 0x20 ∷ [])
    ++ (frame numbers ∷ map driver (write byte 0 0x80 ∷ write byte 0 0xa0 ∷ write byte 0 0x21 ∷ write word 6 0x4105 ∷ write byte 8 0x77 ∷ write word 6 0x2104 ∷ read word 8 ∷ [])))
    (gives 0x782c) (gives 0x7700)
unfolding last_of
frame_of_numbers = (refl, refl)
