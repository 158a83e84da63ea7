-- The worked example of document 01: its ten records from power-up give its ten lines.
use Rattle.std.specs.Prelude.{◌≡◌, refl, Bool, true, false, List, [], ◌∷◌, ◌++◌, ℕ, ◌-◌, replicate, length}
use Rattle.rules.specs.Bits.{bit, clear_bit, flag, share, low_byte, high_byte, word_of, word_at}
use Rattle.rules.specs.Lists.{member, some?, owned, unless, free_below, first_empty}
use Rattle.rules.specs.Parts.{part_of}
use Rattle.rules.specs.Tests.{above, ascends, all_below, apart, none_owned, pages_good, laid_good, queue_good, queues_good, numbers_good, request_good, formed, fit}
use Rattle.rules.specs.Mmu.{decode, perform, due, settle}
use Rattle.rules.specs.Interrupts.{failed, eph, status, line_up}
use Rattle.rules.specs.Packet.{place, get_bytes, put_bytes}
use Rattle.rules.specs.Data.{address, next, against, odd_fixed, past, if_packet, if_open, write_data}
use Rattle.rules.specs.Registers.{register_at, misplaced, lanes_at, taken, merged, bytes_of, head_of, forgotten, write_tcr, low_only, read_register, write_interrupt, write_register, access}
use Rattle.rules.specs.Send.{in_limits, byte_count, if_usable, if_sendable, finish}
use Rattle.rules.specs.Step.{serve, step_of}
use Rattle.rules.specs.Bench.{event_of, answer, asks_for, answer_first, answer_to, decimal_in, hex_digit, hex4, line, printed, bench}
use Rattle.rules.specs.Watch.{is_send, hex_bytes, put_out, watch_line, watch}

-- a record of 8 bytes, "trailing zeros not shown"
abbrev pub record8 : List ℕ → List ℕ
record8 bytes = bytes ++ replicate (8 - length bytes) 0

abbrev input : List ℕ
input =
    record8 (0x02 ∷ 0x0e ∷ []) ++ record8 (0x02 ∷ 0x08 ∷ []) ++ record8 (0x03 ∷ 0x0e ∷ 0x02 ∷ []) ++ record8 (0x03 ∷ 0x00 ∷ 0x25 ∷ []) ++ record8 (0x01 ∷ 0x03 ∷ [])
    ++ record8 (0x01 ∷ 0x0c ∷ []) ++ record8 (0x03 ∷ 0x00 ∷ 0xa0 ∷ []) ++ record8 (0x03 ∷ 0x00 ∷ 0xa0 ∷ []) ++ record8 (0x02 ∷ 0x09 ∷ []) ++ record8 (0x02 ∷ 0x04 ∷ [])

-- the line "k number value"
abbrev pub says : ℕ → ℕ → ℕ → List ℕ
says k number value = line k (record { number = number; value = value })

pub worked :
    bench input
    ≡ says 1 0 0x3300 ++ says 2 0 0x1818 ++ says 3 0 0x0000 ++ says 4 0 0x0000 ++ says 5 0 0x0000
    ++ says 6 0 0x000c ++ says 7 0 0x0000 ++ says 8 5 0x0000 ++ says 9 1 0x0000 ++ says 10 0 0x8080
unfolding bit flag low_byte high_byte word_of member some? owned unless free_below first_empty above ascends all_below apart none_owned pages_good laid_good queue_good queues_good numbers_good request_good formed fit decode perform due settle failed eph status register_at misplaced lanes_at taken merged head_of low_only read_register write_register access serve part_of step_of event_of answer asks_for answer_first answer_to decimal_in hex_digit hex4 line printed
worked = refl

-- Document 01's last run case, "24 pages taken, another allocation reads 80h", and document 02's W1: "after a release of enough pages the result reads the granted number".
-- Bank 2, eight pages three times, one page: the result reads 80h. Packet 1 is released: it reads 1.
pub waited :
    bench
    (record8 (0x03 ∷ 0x0e ∷ 0x02 ∷ []) ++ record8 (0x03 ∷ 0x00 ∷ 0x27 ∷ []) ++ record8 (0x03 ∷ 0x00 ∷ 0x27 ∷ []) ++ record8 (0x03 ∷ 0x00 ∷ 0x27 ∷ []) ++ record8 (0x03 ∷ 0x00 ∷ 0x20 ∷ [])
    ++ record8 (0x01 ∷ 0x03 ∷ []) ++ record8 (0x03 ∷ 0x02 ∷ 0x01 ∷ []) ++ record8 (0x03 ∷ 0x00 ∷ 0xa0 ∷ []) ++ record8 (0x01 ∷ 0x03 ∷ []))
    ≡ says 1 0 0x0000 ++ says 2 0 0x0000 ++ says 3 0 0x0000 ++ says 4 0 0x0000 ++ says 5 0 0x0000 ++ says 6 0 0x0080 ++ says 7 0 0x0000 ++ says 8 0 0x0000 ++ says 9 0 0x0001
unfolding bit flag low_byte high_byte word_of member some? owned unless free_below first_empty above ascends all_below apart none_owned pages_good laid_good queue_good queues_good numbers_good request_good formed fit decode perform due settle failed eph status register_at misplaced lanes_at taken merged head_of low_only read_register write_register access serve part_of step_of event_of answer asks_for answer_first answer_to decimal_in hex_digit hex4 line printed
waited = refl

-- Document 02's W2: a packet of one page is in TX, and its count is never written, 11, 10, 258 and 257. "13 odd, 18 under 12, 19 past the pages; in that order", with "the offending count" as the value.
pub counts_told :
    bench
    (record8 (0x03 ∷ 0x00 ∷ 0x01 ∷ []) ++ record8 (0x03 ∷ 0x0e ∷ 0x02 ∷ []) ++ record8 (0x03 ∷ 0x00 ∷ 0x20 ∷ []) ++ record8 (0x03 ∷ 0x00 ∷ 0xc0 ∷ []) ++ record8 (0x04 ∷ 0x06 ∷ 0x02 ∷ [])
    ++ record8 (0x07 ∷ []) ++ record8 (0x04 ∷ 0x08 ∷ 0x0b ∷ []) ++ record8 (0x07 ∷ []) ++ record8 (0x04 ∷ 0x08 ∷ 0x0a ∷ []) ++ record8 (0x07 ∷ [])
    ++ record8 (0x04 ∷ 0x08 ∷ 0x02 ∷ 0x01 ∷ []) ++ record8 (0x07 ∷ []) ++ record8 (0x04 ∷ 0x08 ∷ 0x01 ∷ 0x01 ∷ []) ++ record8 (0x07 ∷ []))
    ≡ says 1 0 0x0000 ++ says 2 0 0x0000 ++ says 3 0 0x0000 ++ says 4 0 0x0000 ++ says 5 0 0x0000 ++ says 6 18 0x0000 ++ says 7 0 0x0000 ++ says 8 13 0x000b ++ says 9 0 0x0000 ++ says 10 18 0x000a
    ++ says 11 0 0x0000 ++ says 12 19 0x0102 ++ says 13 0 0x0000 ++ says 14 13 0x0101
unfolding bit flag low_byte high_byte word_of word_at member some? owned unless free_below first_empty above ascends all_below apart none_owned pages_good laid_good queue_good queues_good numbers_good request_good formed fit place get_bytes put_bytes decode perform due settle address next if_packet against odd_fixed past if_open write_data register_at misplaced lanes_at merged bytes_of low_only clear_bit forgotten write_tcr write_register access in_limits byte_count if_usable if_sendable finish serve part_of step_of event_of answer asks_for answer_first answer_to decimal_in hex_digit hex4 line printed
counts_told = refl

-- the characters of a line: "10 5 8c0f" and a newline
pub line_spelt : says 10 5 0x8c0f ≡ 0x31 ∷ 0x30 ∷ 0x20 ∷ 0x35 ∷ 0x20 ∷ 0x38 ∷ 0x63 ∷ 0x30 ∷ 0x66 ∷ 0x0a ∷ []
unfolding decimal_in hex_digit hex4 line
line_spelt = refl

-- The same by `watch`: the mask is 0, so the line is down.
abbrev shows : ℕ → ℕ → ℕ → Bool → List ℕ
shows k number value up = watch_line k (record { number = number; value = value }) up false []

pub watched_example :
    watch input
    ≡ shows 1 0 0x3300 false ++ shows 2 0 0x1818 false ++ shows 3 0 0x0000 false ++ shows 4 0 0x0000 false ++ shows 5 0 0x0000 false
    ++ shows 6 0 0x000c false ++ shows 7 0 0x0000 false ++ shows 8 5 0x0000 false ++ shows 9 1 0x0000 false ++ shows 10 0 0x8080 false
unfolding bit flag share low_byte high_byte word_of member some? owned unless free_below first_empty above ascends all_below apart none_owned pages_good laid_good queue_good queues_good numbers_good request_good formed fit decode perform due settle failed eph status line_up register_at misplaced lanes_at taken merged head_of low_only read_register write_register access serve part_of step_of event_of answer asks_for answer_first answer_to decimal_in hex_digit hex4 line printed is_send hex_bytes put_out watch_line
watched_example = refl

-- TX EMPTY is set at power-up: a mask of 04h raises the line, a record of unknown kind leaves it up, and a tail of five bytes where it is.
pub line_follows :
    watch (record8 (0x03 ∷ 0x0e ∷ 0x02 ∷ []) ++ record8 (0x03 ∷ 0x0d ∷ 0x04 ∷ []) ++ record8 (0xff ∷ []) ++ (0x03 ∷ 0x0d ∷ 0x00 ∷ 0x00 ∷ 0x00 ∷ []))
    ≡ shows 1 0 0x0000 false ++ shows 2 0 0x0000 true ++ shows 3 17 0x0000 true ++ shows 4 17 0x0000 true
unfolding bit flag share low_byte high_byte word_of member some? owned unless free_below first_empty above ascends all_below apart none_owned pages_good laid_good queue_good queues_good numbers_good request_good formed fit decode perform failed eph status line_up register_at misplaced lanes_at taken merged head_of low_only read_register write_register access serve part_of step_of event_of write_interrupt answer asks_for answer_first answer_to decimal_in hex_digit hex4 line printed is_send hex_bytes put_out watch_line
line_follows = refl

-- the characters of a line: "7 0 0003 1 ff0a5c" and a newline, of a send that is done; "7 13 0003 0" of one that is refused, which puts out nothing, whatever its value
pub watch_spelt : watch_line 7 (record { number = 0; value = 3 }) true true (0xff ∷ 0x0a ∷ 0x5c ∷ 0x77 ∷ [])
    ≡ 0x37 ∷ 0x20 ∷ 0x30 ∷ 0x20 ∷ 0x30 ∷ 0x30 ∷ 0x30 ∷ 0x33 ∷ 0x20 ∷ 0x31 ∷ 0x20 ∷ 0x66 ∷ 0x66 ∷ 0x30 ∷ 0x61 ∷ 0x35 ∷ 0x63 ∷ 0x0a ∷ []
unfolding flag decimal_in hex_digit hex4 hex_bytes put_out watch_line
watch_spelt = refl

pub refusal_spelt : watch_line 7 (record { number = 13; value = 3 }) false true (0xff ∷ 0x0a ∷ 0x5c ∷ 0x77 ∷ [])
    ≡ 0x37 ∷ 0x20 ∷ 0x31 ∷ 0x33 ∷ 0x20 ∷ 0x30 ∷ 0x30 ∷ 0x30 ∷ 0x33 ∷ 0x20 ∷ 0x30 ∷ 0x0a ∷ []
unfolding flag decimal_in hex_digit hex4 hex_bytes put_out watch_line
refusal_spelt = refl
