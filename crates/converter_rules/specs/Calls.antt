-- Document 02, W11: the driver's calls. Each is told by the accesses that it makes, in order; what it decides, it decides by the values that these answer.
use Rattle.std.specs.Prelude.{Bool, true, false, cond, not, ◌&&◌, List, [], ◌∷◌, ◌++◌, ℕ, zero, suc, ◌-◌, eqb, leb, ltb, length}
use Rattle.rules.specs.Bits.{bit, low_byte, high_byte, word_of}
use Rattle.rules.specs.Chip.{Chip}
use Rattle.rules.specs.Answers.{Reply, done, refusal, over}
use Rattle.rules.specs.Registers.{Access}
use Rattle.rules.specs.Receive.{count_of}
use Rattle.converter_rules.specs.Accesses.{select, set_tcr, set_rcr, set_control, command, choose, point, acknowledge, read_result, read_completion, read_rx, read_byte, read_word, write_byte, write_word, gives, leaves, after}

-- "It sets auto release, TXENA and RXEN", and nothing else but the bank
abbrev pub start : List Access
start = select 1 ∷ set_control 0x0800 ∷ select 0 ∷ set_tcr 0x0001 ∷ set_rcr 0x0100 ∷ []

-- what a call does
pub record Called : Type 0 where
  -- the accesses that it makes
  pub made : List Access
  -- "Refusals, the driver's own": 1 to 4, with value 0; 0 where it is done, and then the value of a drain is n
  pub reply : Reply
  -- afterwards: was a request asked for that is not yet used
  pub asked : Bool
  -- the caller's bytes afterwards: of an offer the frame, of a drain the buffer
  pub buffer : List ℕ

-- a refusal: "each leaves the caller's buffer untouched"
abbrev pub refuses : ℕ → List Access → Bool → List ℕ → Called
refuses number made asked buffer = record { made = made; reply = refusal number; asked = asked; buffer = buffer }

-- OFFER. "1 length not 14 to 1,514"
unfoldable pub offerable : ℕ → Bool
offerable n = leb 14 n && leb n 1514

-- "it always asks for six pages" (25h), unless it asked already and has not used the grant: it never asks twice. Then it reads the result.
abbrev pub asking : Bool → List Access
asking asked = select 2 ∷ cond asked [] (command 0x25 ∷ [])

abbrev pub granted : Bool → Chip → ℕ
granted asked c = gives read_result (after (asking asked) c)

-- the packet of a frame: status 0, the byte count ("c − 5 bytes if bit 5 of the byte at c − 1 is set, else c − 6" are data), the frame, and behind an even length a zero and control byte 00h, behind an odd one 20h
unfoldable pub ending : ℕ → List ℕ
ending n = cond (bit 0 n) (0x20 ∷ []) (0 ∷ 0 ∷ [])

unfoldable pub packet_of : List ℕ → List ℕ
packet_of f = 0 ∷ 0 ∷ low_byte (count_of (length f)) ∷ high_byte (count_of (length f)) ∷ (f ++ ending (length f))

-- bytes written by words, "lower first" (a packet has an even number of them)
unfoldable pub words_of : List ℕ → List Access
words_of [] = []
words_of (x ∷ []) = write_byte x ∷ []
words_of (x ∷ y ∷ ys) = write_word (word_of x y) ∷ words_of ys

-- it "fills the packet and enqueues it": its number, the pointer (AUTO INCR, to write, from address 0), the bytes, C0h
abbrev pub load : ℕ → List ℕ → List Access
load k f = choose k ∷ point 0x4000 ∷ (words_of (packet_of f) ++ (command 0xc0 ∷ []))

-- "2 no grant held and fewer than six pages free": the result reads 80h, and the request waits: "a grant that was waiting serves the next frame offered"
unfoldable pub offer : Bool → List ℕ → Chip → Called
offer asked f c =
    cond (not (offerable (length f))) (refuses 1 [] asked f)
    (cond (eqb (granted asked c) 0x80) (refuses 2 (asking asked ++ (read_result ∷ [])) true f)
    (record { made = asking asked ++ (read_result ∷ load (granted asked c) f); reply = done; asked = false; buffer = f }))

-- DRAIN. "3 nothing received": the head of RX reads 80h
abbrev pub looking : List Access
looking = select 2 ∷ read_rx ∷ []

abbrev pub rx_head : Chip → ℕ
rx_head c = gives read_rx (after (select 2 ∷ []) c)

-- the pointer (RCV, AUTO INCR, READ, from address 0); then the status word and the byte count are read
abbrev pub pointing : List Access
pointing = select 2 ∷ read_rx ∷ point 0xe000 ∷ []

abbrev pub opening : List Access
opening = select 2 ∷ read_rx ∷ point 0xe000 ∷ read_word ∷ read_word ∷ []

abbrev pub rx_status : Chip → ℕ
rx_status c = gives read_word (after pointing c)

abbrev pub rx_count : Chip → ℕ
rx_count c = gives read_word (leaves read_word (after pointing c))

-- "the RX head's n data bytes": "The count is n + 6 (even) or n + 5 (odd).", and status bit 12 says "odd n"
unfoldable pub received : ℕ → ℕ → ℕ
received status count = cond (bit 12 status) (count - 5) (count - 6)

abbrev pub rx_length : Chip → ℕ
rx_length c = received (rx_status c) (rx_count c)

-- n bytes read by words, and an odd one by itself; and what these reads answer
unfoldable pub draws : ℕ → List Access
draws zero = []
draws (suc zero) = read_byte ∷ []
draws (suc (suc n)) = read_word ∷ draws n

unfoldable pub drawn : ℕ → Chip → List ℕ
drawn zero c = []
drawn (suc zero) c = low_byte (gives read_byte c) ∷ []
drawn (suc (suc n)) c = low_byte (gives read_word c) ∷ high_byte (gives read_word c) ∷ drawn n (leaves read_word c)

-- "4 caller's buffer shorter than n"; else "it copies out the RX head's n data bytes, then removes and releases it" (80h)
unfoldable pub drain : Bool → List ℕ → Chip → Called
drain asked buffer c =
    let n = rx_length c in
    cond (eqb (rx_head c) 0x80) (refuses 3 looking asked buffer)
    (cond (ltb (length buffer) n) (refuses 4 opening asked buffer)
    (record { made = opening ++ (draws n ++ (command 0x80 ∷ [])); reply = record { number = 0; value = n }; asked = asked; buffer = over (drawn n (after opening c)) buffer }))

-- TOLD "of a failed send": it reads the completion head
abbrev pub asks_which : List Access
asks_which = select 2 ∷ read_completion ∷ []

abbrev pub failed_packet : Chip → ℕ
failed_packet c = gives read_completion (after (select 2 ∷ []) c)

-- "it releases that packet, acknowledges it and sets TXENA again", in that order
abbrev pub clearing : ℕ → List Access
clearing k = choose k ∷ command 0xa0 ∷ acknowledge 0x02 ∷ select 0 ∷ set_tcr 0x0001 ∷ []

unfoldable pub tell : Bool → Chip → Called
tell asked c =
    cond (eqb (failed_packet c) 0x80) (record { made = asks_which; reply = done; asked = asked; buffer = [] })
    (record { made = asks_which ++ clearing (failed_packet c); reply = done; asked = asked; buffer = [] })
