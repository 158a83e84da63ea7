-- Document 02, W9, the LAN91C94, computed: what a driver reads on a chip of 18 pages and packets, and how the bench is asked for a part. (The laws are over any n, so this part has them too.)
use Rattle.std.specs.Prelude.{◌≡◌, refl, List, [], ◌∷◌, ◌++◌, map, ℕ}
use Rattle.rules.specs.Bits.{bit, low_byte, high_byte, word_of}
use Rattle.rules.specs.Lists.{member, some?, owned, unless, free_below, total, up_from, first_empty}
use Rattle.rules.specs.Parts.{lan91c94, part_of, part_named}
use Rattle.rules.specs.Chip.{paged, powered}
use Rattle.rules.specs.Answers.{Reply, done, refusal}
use Rattle.rules.specs.Tests.{above, ascends, all_below, apart, none_owned, pages_good, goes_up, own_good, laid_good, queue_good, queues_good, numbers_good, request_good, formed, fit}
use Rattle.rules.specs.Mmu.{decode, perform, due, settle}
use Rattle.rules.specs.Registers.{Access, read, write, byte, word, register_at, misplaced, lanes_at, taken, low_only, read_register, write_register, access}
use Rattle.rules.specs.Step.{driver, serve, step_of, run_of}
use Rattle.rules.specs.Bench.{event_of, answer, asks_for, answer_first, answer_to, decimal_in, hex4, line, printed, bench, strip_bench}
use Rattle.laws.specs.Example.{record8, says}

-- an access, and its reply
pub record Row : Type 0 where
  pub asked : Access
  pub reply : Reply

-- it is done, with the value 0 or another
abbrev does : Access → Row
does a = record { asked = a; reply = done }

abbrev reads : Access → ℕ → Row
reads a v = record { asked = a; reply = record { number = 0; value = v } }

abbrev refuses : Access → ℕ → Row
refuses a k = record { asked = a; reply = refusal k }

-- "MIR 1212h after reset"
abbrev pub at_first : List Row
at_first = reads (read word 8) 0x1212 ∷ []

-- 8, 8 and 2 pages are allocated: none of 18 is free
abbrev pub all_taken : List Row
all_taken = does (write byte 14 2) ∷ does (write byte 0 0x27) ∷ does (write byte 0 0x27) ∷ does (write byte 0 0x21) ∷ does (write byte 14 0) ∷ reads (read word 8) 0x0012 ∷ []

-- another allocation reads 80h, and once packet 0 is released, its number: 0
abbrev pub awaited : List Row
awaited = does (write byte 14 2) ∷ does (write byte 0 0x20) ∷ reads (read byte 3) 0x80 ∷ does (write byte 2 0) ∷ does (write byte 0 0xa0) ∷ reads (read byte 3) 0 ∷ []

-- "packets 0 to 17": 18 is refused with 5
abbrev pub past_the_last : List Row
past_the_last = does (write byte 2 18) ∷ refuses (write byte 0 0xa0) 5 ∷ []

-- after 40h all 18 are free
abbrev pub reset_again : List Row
reset_again = does (write byte 0 0x40) ∷ does (write byte 14 0) ∷ reads (read word 8) 0x1212 ∷ []

abbrev pub rows : List Row
rows = at_first ++ all_taken ++ awaited ++ past_the_last ++ reset_again

pub of_eighteen : (run_of lan91c94 (map (λ (r : Row). driver r.asked) rows) (powered paged lan91c94)).replies ≡ map (λ (r : Row). r.reply) rows
unfolding bit low_byte high_byte word_of member some? owned unless free_below first_empty above ascends all_below apart none_owned pages_good laid_good queue_good queues_good numbers_good request_good formed fit decode perform due settle register_at misplaced lanes_at taken low_only read_register write_register access serve step_of run_of
of_eighteen = refl

-- a record that reads MIR's word, in bank 0
abbrev mir : List ℕ
mir = record8 (0x02 ∷ 0x08 ∷ [])

-- "The bench asks for the part by a first record of kind 9, byte 1 being 94h or 96h"; that of strips too, and its chip is of strips still
pub asked_for :
    (bench (record8 (0x09 ∷ 0x94 ∷ []) ++ mir) ≡ says 1 0 0x0000 ++ says 2 0 0x1212)
    × (bench (record8 (0x09 ∷ 0x96 ∷ []) ++ mir) ≡ says 1 0 0x0000 ++ says 2 0 0x1818)
    × (strip_bench (record8 (0x09 ∷ 0x94 ∷ []) ++ mir) ≡ says 1 0 0x0000 ++ says 2 0 0x1212)
unfolding bit word_of member owned unless free_below total up_from ascends all_below apart none_owned pages_good goes_up own_good laid_good queue_good queues_good numbers_good request_good formed fit register_at misplaced lanes_at taken read_register access serve part_of part_named step_of event_of answer asks_for answer_first answer_to decimal_in hex4 line printed
asked_for = (refl, refl, refl)

-- "kind 9 later on, or with another byte, gets 11", and the part stays: "without it, the LAN91C96"
pub not_asked_for :
    (bench (record8 (0x09 ∷ 0x95 ∷ []) ++ mir) ≡ says 1 11 0x0000 ++ says 2 0 0x1818)
    × (bench (mir ++ record8 (0x09 ∷ 0x94 ∷ []) ++ mir) ≡ says 1 0 0x1818 ++ says 2 11 0x0000 ++ says 3 0 0x1818)
unfolding bit word_of member owned unless free_below ascends all_below apart none_owned pages_good laid_good queue_good queues_good numbers_good request_good formed fit register_at misplaced lanes_at taken read_register access serve part_of part_named step_of event_of answer asks_for answer_first answer_to decimal_in hex4 line printed
not_asked_for = (refl, refl)
