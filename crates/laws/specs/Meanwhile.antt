-- Demand 3 is about something: a driver fills a packet, and two frames are stored meanwhile, on a chip that is well formed. Computed.
use Rattle.std.specs.Prelude.{◌≡◌, refl, List, [], ◌∷◌, map, ℕ, get_or, replicate}
use Rattle.std.proofs.lemmas.List.{length-replicate}
use Rattle.rules.specs.Bits.{bit, set_bit, clear_bit, flag, low_byte, high_byte, word_of}
use Rattle.rules.specs.Lists.{member, some?, owned, unless, free_below, first_empty}
use Rattle.rules.specs.Parts.{lan91c96}
use Rattle.rules.specs.Chip.{paged, Chip, powered}
use Rattle.rules.specs.Fields.{set_rcr, set_pages, in_registers, in_pool}
use Rattle.rules.specs.Answers.{Reply, done}
use Rattle.rules.specs.Tests.{above, ascends, all_below, apart, none_owned, pages_good, laid_good, queue_good, queues_good, numbers_good, request_good, formed, fit}
use Rattle.rules.specs.Packet.{place, get_bytes, put_bytes}
use Rattle.rules.specs.Crc.{crc_bit, crc_bits, crc_from, crc, hash, mirror, fcs_word, four_bytes}
use Rattle.rules.specs.Receive.{Frame, same_bytes, bad_crc, broadcast, group, in_table, accepted, data_length, count_of, pages_for, needed, value_for, dropped, judge, group_bits, frame_status, trailer, image, after, arrive}
use Rattle.rules.specs.Data.{address, advance, next, if_packet, against, odd_fixed, past, if_open, write_data}
use Rattle.rules.specs.Registers.{Access, write, byte, word, register_at, misplaced, lanes_at, merged, bytes_of, low_only, write_register, access}
use Rattle.rules.specs.Step.{Input, driver, frame, serve, step_of, run_of}
use Rattle.wellformed.specs.Fit.{formed_decides}
use Rattle.laws.specs.Broadcast.{broadcasting}
use Rattle.laws.specs.Loading.{to_bank, to_packet, to_pointer, to_data}
use Rattle.laws.specs.Loads.{Loads}
use Rattle.laws.specs.Merge.{Merge, none, left, right}
use Rattle.laws.specs.Theorems.{Whole}

-- a chip that receives, on which packet 0 has page 0
abbrev pub listening : Chip
listening = in_pool (set_pages ((0 ∷ []) ∷ replicate 23 [])) (in_registers (set_rcr 0x0100) (powered paged lan91c96))

-- bank 2 is selected, packet 0 named, its address 0 pointed to with AUTO INCR, and a word written
abbrev pub filling : List Access
filling = write byte 0xe 2 ∷ write byte 2 0 ∷ write word 6 0x4000 ∷ write word 8 0x1234 ∷ []

-- two broadcasts
abbrev pub arriving : List Frame
arriving = broadcasting ∷ broadcasting ∷ []

-- one arrives after the bank is selected, one before the word is written
abbrev pub mixed : List Input
mixed = driver (write byte 0xe 2) ∷ frame broadcasting ∷ driver (write byte 2 0) ∷ driver (write word 6 0x4000) ∷ frame broadcasting ∷ driver (write word 8 0x1234) ∷ []

pub mixed_merges : Merge (map driver filling) (map frame arriving) mixed
mixed_merges = left (right (left (left (right (left none)))))

pub listening_whole : Whole lan91c96 listening
unfolding bit member some? owned above ascends all_below apart none_owned pages_good laid_good queue_good queues_good numbers_good request_good formed
listening_whole = ((formed_decides lan91c96 listening).sound refl, length-replicate {A = ℕ} 6144 0)

pub filling_loads : Loads listening listening filling
unfolding bit low_byte high_byte word_of member some? place put_bytes address advance next if_packet against odd_fixed past if_open write_data register_at misplaced lanes_at merged bytes_of low_only write_register access
filling_loads = (to_bank refl, (to_packet refl, (to_pointer refl, (to_data refl refl refl, tt))))

-- what is seen of the run: all is done, and both frames are stored (value 0); they are packets 1 and 2 of RX; the word stands in packet 0, and the second frame's first byte in page 2
pub record Seen : Type 0 where
  pub replies : List Reply
  pub rx : List ℕ
  pub word : List ℕ
  pub stored : ℕ

unfoldable pub seen : Seen
unfolding bit set_bit clear_bit flag low_byte high_byte word_of member some? owned unless free_below first_empty above ascends all_below apart none_owned pages_good laid_good queue_good queues_good numbers_good request_good formed fit place get_bytes put_bytes crc_bit crc_bits crc_from crc hash mirror fcs_word four_bytes same_bytes bad_crc broadcast group in_table accepted data_length count_of pages_for needed value_for dropped judge group_bits frame_status trailer image after arrive address advance next if_packet against odd_fixed past if_open write_data register_at misplaced lanes_at merged bytes_of low_only write_register access serve step_of run_of
seen =
    let x = run_of lan91c96 mixed listening in
    let c = x.chip in
    record { replies = x.replies; rx = c.pool.rx; word = get_bytes 2 0 (get_or c.pool.pages 0 []) c.memory; stored = get_or c.memory 516 0 }

pub stored_meanwhile : seen ≡ record { replies = replicate 6 done; rx = 1 ∷ 2 ∷ []; word = 0x34 ∷ 0x12 ∷ []; stored = 0xff }
unfolding seen
stored_meanwhile = refl
