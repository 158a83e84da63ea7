-- What is private, of runs that were seen to go apart and of runs that cannot, computed: so that the premise which is told from one run alone shuts out what it should, and no more.
use Rattle.std.specs.Prelude.{◌≡◌, refl, List, [], ◌∷◌, ◌++◌, map, Bool, true, false, ℕ, ◌-◌, replicate}
use Rattle.rules.specs.Bits.{bit, set_bit, clear_bit, flag, low_byte, high_byte, word_of, word_at}
use Rattle.rules.specs.Lists.{up_from, member, some?, owned, unless, free_below, first_empty}
use Rattle.rules.specs.Chip.{paged, powered}
use Rattle.rules.specs.Tests.{above, ascends, all_below, apart, none_owned, pages_good, laid_good, queue_good, queues_good, numbers_good, request_good, formed, fit}
use Rattle.rules.specs.Packet.{place, get_bytes, put_bytes}
use Rattle.rules.specs.Mmu.{decode, perform, due, settle}
use Rattle.rules.specs.Link.{shown}
use Rattle.rules.specs.Data.{address, advance, next, if_packet, against, odd_fixed, past, if_open, value_of, read_data, write_data}
use Rattle.rules.specs.Registers.{write, byte, word, register_at, misplaced, lanes_at, taken, merged, width, bytes_of, new_rcr, write_rcr, forgotten, write_tcr, low_only, read_register, write_register, access}
use Rattle.rules.specs.Crc.{crc_bit, crc_bits, crc_from, crc, hash, mirror, fcs_word, four_bytes}
use Rattle.rules.specs.Receive.{Frame, same_bytes, bad_crc, broadcast, group, in_table, accepted, data_length, count_of, pages_for, needed, value_for, dropped, judge, group_bits, frame_status, trailer, image, after, arrive}
use Rattle.rules.specs.Send.{in_limits, byte_count, send_length, appends, padded, ended, on_wire, control_byte, put_out, good, failure_bit, collision_bits, outcome_bits, address_bits, nibble, counted, tally, nibbles, any_at15, new_ecr, new_ephsr, auto_release, send_head, if_usable, if_sendable, finish}
use Rattle.rules.specs.Step.{Input, driver, frame, serve, step_of, run_of}
use Rattle.laws.specs.Head.{head_pages, head_count}
use Rattle.blind_laws.specs.Private.{Private, none_private, noted_all, private_after, private_by}
use Rattle.blind_needed.specs.BlindNeeded.{ran_from, plain, counted12, shortened, sent_on, queued}

-- what is private after these inputs
unfoldable pub private_in : ℕ → List Input → Private
unfolding bit set_bit clear_bit flag low_byte high_byte word_of word_at member some? owned unless free_below first_empty above ascends all_below apart none_owned pages_good laid_good queue_good queues_good numbers_good request_good formed fit place get_bytes put_bytes decode perform due settle address advance next if_packet against odd_fixed past if_open value_of read_data write_data register_at misplaced lanes_at taken merged width bytes_of forgotten write_tcr new_rcr write_rcr low_only read_register write_register access shown crc_bit crc_bits crc_from crc mirror hash fcs_word four_bytes same_bytes bad_crc broadcast group in_table accepted data_length count_of pages_for needed value_for dropped judge group_bits frame_status trailer image after arrive in_limits byte_count send_length appends padded ended on_wire control_byte put_out good failure_bit collision_bits outcome_bits address_bits nibble counted tally nibbles any_at15 new_ecr new_ephsr auto_release send_head if_usable if_sendable finish serve step_of run_of noted_all private_after
private_in n inputs = private_by n inputs (powered paged n) none_private

-- of the TX head after them, which of bytes 2 to 9 are, and whether its control byte is
abbrev pub head_private : ℕ → List Input → List Bool
head_private n inputs = let c = (ran_from n inputs).chip in map (λ a. private_in n inputs (place (head_pages c) a)) (up_from 2 8 ++ ((head_count c - 1) ∷ []))

-- A received packet may be sent on as it is.
pub sent_on_open : head_private 1 (sent_on plain) ≡ replicate 9 false
unfolding ran_from private_in place up_from
sent_on_open = refl

-- With a smaller count its control byte is the frame's; the count is the driver's.
pub shortened_private : head_private 1 (shortened plain) ≡ replicate 8 false ++ (true ∷ [])
unfolding ran_from private_in place up_from
shortened_private = refl

-- A frame's second page, granted as a packet's first and not written, is the frame's;
pub second_page_private : head_private 2 (queued counted12) ≡ replicate 9 true
unfolding ran_from private_in place up_from
second_page_private = refl

-- and loaded by the driver it is not: a count of 12, six bytes of address, a filler and a control byte.
abbrev loaded : Frame → List Input
loaded f =
    map driver (write word 4 0x100 ∷ []) ++ (frame f ∷ [])
    ++ map driver (write byte 0xe 2 ∷ write byte 0 0x80 ∷ write byte 0 0x20 ∷ write byte 0 0x20 ∷ write byte 2 1 ∷ write word 6 0x4002 ∷ [])
    ++ map driver (write word 8 12 ∷ write word 8 0xffff ∷ write word 8 0xffff ∷ write word 8 0xffff ∷ write word 8 0 ∷ write byte 0 0xc0 ∷ [])

pub loaded_open : head_private 2 (loaded counted12) ≡ replicate 9 false
unfolding ran_from private_in place up_from
loaded_open = refl

-- Bytes that nobody wrote since power-up are not private: a packet that is sent as it was granted, whose count is 0, is told from one run.
pub unwritten_open : head_private 1 (map driver (write byte 0xe 2 ∷ write byte 0 0x20 ∷ write byte 2 0 ∷ write byte 0 0xc0 ∷ [])) ≡ replicate 9 false
unfolding ran_from private_in place up_from
unwritten_open = refl
