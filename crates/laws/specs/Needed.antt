-- Why `Loads` asks what it asks: without any one of its three conditions an access is answered by its order with a frame. Computed on the LAN91C96. (`Meanwhile` has loads that meet them.)
use Rattle.std.specs.Prelude.{◌≡◌, refl, List, [], ◌∷◌, ℕ}
use Rattle.rules.specs.Bits.{bit, set_bit, clear_bit, flag, low_byte, high_byte, word_of}
use Rattle.rules.specs.Lists.{member, some?, owned, unless, free_below, first_empty}
use Rattle.rules.specs.Parts.{lan91c96}
use Rattle.rules.specs.Chip.{paged, Chip, powered}
use Rattle.rules.specs.Fields.{set_rcr, set_pointer, set_bank, in_registers}
use Rattle.rules.specs.Answers.{Reply, done, refusal}
use Rattle.rules.specs.Tests.{above, ascends, all_below, apart, none_owned, pages_good, laid_good, queue_good, queues_good, numbers_good, request_good, formed, fit}
use Rattle.rules.specs.Packet.{place, get_bytes, put_bytes}
use Rattle.rules.specs.Crc.{crc_bit, crc_bits, crc_from, crc, hash, mirror, fcs_word, four_bytes}
use Rattle.rules.specs.Receive.{same_bytes, bad_crc, broadcast, group, in_table, accepted, data_length, count_of, pages_for, needed, value_for, dropped, judge, group_bits, frame_status, trailer, image, after, arrive}
use Rattle.rules.specs.Data.{address, advance, next, if_packet, against, odd_fixed, past, if_open, value_of, read_data}
use Rattle.rules.specs.Registers.{Access, read, word, register_at, misplaced, lanes_at, taken, width, head_of, read_register, access}
use Rattle.rules.specs.Step.{Input, driver, frame, serve, step_of, run_of}
use Rattle.laws.specs.Broadcast.{broadcasting}

-- a chip that receives, with bank 2 selected and this pointer
abbrev listening : ℕ → Chip
listening p = in_registers (λ r. set_rcr 0x0100 (set_bank 2 (set_pointer p r))) (powered paged lan91c96)

-- the answers of a run on that chip
unfoldable pub answers : ℕ → List Input → List Reply
unfolding bit set_bit clear_bit flag low_byte high_byte word_of member some? owned unless free_below first_empty above ascends all_below apart none_owned pages_good laid_good queue_good queues_good numbers_good request_good formed fit place get_bytes put_bytes crc_bit crc_bits crc_from crc hash mirror fcs_word four_bytes same_bytes bad_crc broadcast group in_table accepted data_length count_of pages_for needed value_for dropped judge group_bits frame_status trailer image after arrive address advance next if_packet against odd_fixed past if_open value_of read_data register_at misplaced lanes_at taken width head_of read_register access serve step_of run_of
answers p inputs = (run_of lan91c96 inputs (listening p)).replies

-- x answers the access where it comes before the frame, y where it comes after; the frame is stored and answered by 0 both times
abbrev ByOrder : ℕ → Access → Reply → Reply → Type 0
ByOrder p a x y = (answers p (driver a ∷ frame broadcasting ∷ []) ≡ x ∷ done ∷ []) × (answers p (frame broadcasting ∷ driver a ∷ []) ≡ done ∷ y ∷ [])

-- With the receive bit set a data access is on the head of RX, and that is the frame: first 7, later its status word, 4000h.
pub receive_bit_set : ByOrder 0xa000 (read word 8) (refusal 7) record { number = 0; value = 0x4000 }
unfolding answers
receive_bit_set = (refl, refl)

-- A packet that is not allocated before the run may be the one that the frame takes: first 5, later its status word, 4000h.
pub packet_not_allocated : ByOrder 0x2000 (read word 8) (refusal 5) record { number = 0; value = 0x4000 }
unfolding answers
packet_not_allocated = (refl, refl)

-- Other registers show what arrived: the heads of completion and RX read 8080h first, later 0080h.
pub another_register : ByOrder 0 (read word 4) record { number = 0; value = 0x8080 } record { number = 0; value = 0x0080 }
unfolding answers
another_register = (refl, refl)
