-- A history that W10's promise is about: a frame is received, taken from RX and sent on as it is, and its payload is another in the other run. Of one run alone it is shown that its send looks at no private byte; the promise is then of both.
use Rattle.std.specs.Prelude.{◌≡◌, refl, Bool, false, List, ◌++◌, ℕ, zero, suc, ◌≤◌}
use Rattle.std.proofs.Common.{arith}
use Rattle.rules.specs.Bits.{bit, set_bit, clear_bit, flag, low_byte, high_byte, word_of, word_at}
use Rattle.rules.specs.Lists.{member, some?, owned, unless, free_below, first_empty}
use Rattle.rules.specs.Chip.{paged, powered}
use Rattle.rules.specs.Tests.{above, ascends, all_below, apart, none_owned, pages_good, laid_good, queue_good, queues_good, numbers_good, request_good, formed, fit}
use Rattle.rules.specs.Packet.{place, get_bytes, put_bytes}
use Rattle.rules.specs.Mmu.{decode, perform, due, settle}
use Rattle.rules.specs.Link.{shown}
use Rattle.rules.specs.Data.{address, advance, next, if_packet, against, odd_fixed, past, if_open, value_of, read_data, write_data}
use Rattle.rules.specs.Registers.{register_at, misplaced, lanes_at, taken, merged, width, bytes_of, new_rcr, write_rcr, forgotten, write_tcr, low_only, read_register, write_register, access}
use Rattle.rules.specs.Crc.{crc_bit, crc_bits, crc_from, crc, hash, mirror, fcs_word, four_bytes}
use Rattle.rules.specs.Receive.{same_bytes, bad_crc, broadcast, group, in_table, accepted, data_length, count_of, pages_for, needed, value_for, dropped, judge, group_bits, frame_status, trailer, image, after, arrive}
use Rattle.rules.specs.Send.{in_limits, byte_count, send_length, appends, padded, ended, on_wire, control_byte, put_out, good, failure_bit, collision_bits, outcome_bits, address_bits, nibble, counted, tally, nibbles, any_at15, new_ecr, new_ephsr, auto_release, send_head, if_usable, if_sendable, finish}
use Rattle.rules.specs.Step.{Input, serve, step_of, run_of}
use Rattle.blind_laws.specs.Alike as alike
use Rattle.blind_laws.specs.Alike.{FrameAlike, InputsAlike, accessed, arrived, none, RunsAlike}
use Rattle.blind_laws.proofs.Blindness.{blind}
use Rattle.blind_laws.specs.Private.{none_private, noted_all, private_after, SendsOpen}
use Rattle.blind_laws.proofs.PrivateKept.{open_alike}
use Rattle.blind_needed.specs.BlindNeeded.{plain, marked, sent_on, finished}

-- the one run, and the other
abbrev mine : List Input
mine = sent_on plain ++ finished

abbrev yours : List Input
yours = sent_on marked ++ finished

payloads : FrameAlike plain marked
unfolding same_bytes bad_crc crc_bit crc_bits crc_from crc mirror fcs_word four_bytes
payloads = record { as_long = refl; first_six = refl; crc = refl; alignment = refl }

pub used_alike : InputsAlike mine yours
used_alike =
    alike.next (accessed _)
    (alike.next (accessed _)
    (alike.next (arrived payloads) (alike.next (accessed _) (alike.next (accessed _) (alike.next (accessed _) (alike.next (alike.finished _ refl) none))))))

-- What holds of 2 to 9 one by one.
one_by_one : (q : ℕ → Bool) → q 2 ≡ false → q 3 ≡ false → q 4 ≡ false → q 5 ≡ false → q 6 ≡ false → q 7 ≡ false → q 8 ≡ false → q 9 ≡ false → (a : ℕ) → 2 ≤ a → a ≤ 9 → q a ≡ false
one_by_one q b c d e f g h i zero l m = absurd (omega arith)
one_by_one q b c d e f g h i (suc zero) l m = absurd (omega arith)
one_by_one q b c d e f g h i (suc (suc zero)) l m = b
one_by_one q b c d e f g h i (suc (suc (suc zero))) l m = c
one_by_one q b c d e f g h i (suc (suc (suc (suc zero)))) l m = d
one_by_one q b c d e f g h i (suc (suc (suc (suc (suc zero))))) l m = e
one_by_one q b c d e f g h i (suc (suc (suc (suc (suc (suc zero)))))) l m = f
one_by_one q b c d e f g h i (suc (suc (suc (suc (suc (suc (suc zero))))))) l m = g
one_by_one q b c d e f g h i (suc (suc (suc (suc (suc (suc (suc (suc zero)))))))) l m = h
one_by_one q b c d e f g h i (suc (suc (suc (suc (suc (suc (suc (suc (suc zero))))))))) l m = i
one_by_one q b c d e f g h i (suc (suc (suc (suc (suc (suc (suc (suc (suc (suc k)))))))))) l m = absurd (omega arith)

-- Count, first six bytes and trailer of the frame are what the send looks at.
pub used_open : SendsOpen 1 mine (powered paged 1) none_private
unfolding bit set_bit clear_bit flag low_byte high_byte word_of word_at member some? owned unless free_below first_empty above ascends all_below apart none_owned pages_good laid_good queue_good queues_good numbers_good request_good formed fit place get_bytes put_bytes decode perform due settle address advance next if_packet against odd_fixed past if_open value_of read_data write_data register_at misplaced lanes_at taken merged width bytes_of forgotten write_tcr new_rcr write_rcr low_only read_register write_register access shown crc_bit crc_bits crc_from crc mirror hash fcs_word four_bytes same_bytes bad_crc broadcast group in_table accepted data_length count_of pages_for needed value_for dropped judge group_bits frame_status trailer image after arrive in_limits byte_count send_length appends padded ended on_wire control_byte put_out good failure_bit collision_bits outcome_bits address_bits nibble counted tally nibbles any_at15 new_ecr new_ephsr auto_release send_head if_usable if_sendable finish serve step_of run_of noted_all private_after
used_open = (tt, (tt, (tt, (tt, (tt, (tt, (λ r. record { bytes = one_by_one _ refl refl refl refl refl refl refl refl; control = λ u. refl }, tt)))))))

pub used : RunsAlike 1 mine yours (powered paged 1) (powered paged 1)
used = blind 1 paged used_alike (open_alike 1 paged used_alike used_open).sends
