-- Document 01, "A send finishes"; document 02, W2: which fault in the byte count, and W4: the frame check sequence.
use Rattle.std.specs.Prelude.{Bool, true, false, cond, not, ◌&&◌, ◌||◌, List, [], ◌∷◌, ◌++◌, ℕ, ◌+◌, ◌-◌, ◌*◌, ◌/◌, ◌%◌, ◌^◌, min, eqb, leb, ltb, length, get_or, replicate}
use Rattle.rules.specs.Bits.{bit, clear_bit, flag, low_byte, high_byte, word_at}
use Rattle.rules.specs.Lists.{some?}
use Rattle.rules.specs.Chip.{Registers, Chip, size, pages_at}
use Rattle.rules.specs.Fields.{set_tx, set_completion, in_sending, in_registers, in_pool, in_memory}
use Rattle.rules.specs.Answers.{Turn, refused, refused_with, over}
use Rattle.rules.specs.Packet.{get_bytes, put_bytes}
use Rattle.rules.specs.Mmu.{give_back}
use Rattle.rules.specs.Link.{shown}
use Rattle.rules.specs.Crc.{fcs}
use Rattle.rules.specs.Receive.{broadcast, group}

-- "outcome (0 good, 1 sixteen collisions, 2 late collision, 3 lost carrier, 4 SQE missing, 5 underrun)", "deferral (0, 1 deferred, 2 excessive)"
pub record Send : Type 0 where
  pub outcome : ℕ
  pub collisions : ℕ
  pub deferral : ℕ

-- what is outside is refusal 11; "collisions (16 with outcome 1, else 0 to 15)"
unfoldable pub in_limits : Send → Bool
in_limits s = leb s.outcome 5 && cond (eqb s.outcome 1) (eqb s.collisions 16) (leb s.collisions 15) && leb s.deferral 2

-- "Count c at addresses 2 and 3, low byte first"
unfoldable pub byte_count : List ℕ → List ℕ → ℕ
byte_count pages memory = word_at 0 (get_bytes 2 2 pages memory)

-- "Data: from 4, c − 5 bytes if bit 5 of the byte at c − 1 is set, else c − 6."
unfoldable pub send_length : ℕ → ℕ → ℕ
send_length count last = cond (bit 5 last) (count - 5) (count - 6)

-- W4: "A send appends four FCS bytes unless TCR bit 8 (NOCRC) is set and bit 4 of the packet's control byte is clear"
unfoldable pub appends : ℕ → ℕ → Bool
appends tcr control = not (bit 8 tcr && not (bit 4 control))

-- "With TCR bit 7 shorter data is padded by zeros": "to 60 before an FCS, or to 64 without one"
unfoldable pub padded : Bool → ℕ → List ℕ → List ℕ
padded with_fcs tcr bytes = cond (bit 7 tcr) (bytes ++ replicate (cond with_fcs 60 64 - length bytes) 0) bytes

-- the FCS is that of the padded data
unfoldable pub ended : Bool → List ℕ → List ℕ
ended with_fcs bytes = cond with_fcs (bytes ++ fcs bytes) bytes

-- a packet's data as it goes out: padded, and its FCS behind it
unfoldable pub on_wire : ℕ → ℕ → List ℕ → List ℕ
on_wire tcr control bytes = ended (appends tcr control) (padded (appends tcr control) tcr bytes)

-- the byte at c − 1 (the sheet's control byte, not the control register)
unfoldable pub control_byte : ℕ → List ℕ → List ℕ → ℕ
control_byte count pages memory = get_or (get_bytes 1 (count - 1) pages memory) 0 0

-- "The value is the length put out", which "counts the FCS"; "all other output bytes stay, and failed sends put out the same bytes."
unfoldable pub put_out : ℕ → ℕ → List ℕ → List ℕ → List ℕ
put_out tcr count pages memory =
    let control = control_byte count pages memory in
    on_wire tcr control (get_bytes (send_length count control) 4 pages memory)

-- "Outcome 3 is good unless TCR bit 10 is set and bit 15 clear; 4 is good .. unless TCR bit 12 is set."
unfoldable pub good : ℕ → ℕ → Bool
good tcr outcome = eqb outcome 0 || (eqb outcome 3 && not (bit 10 tcr && not (bit 15 tcr))) || (eqb outcome 4 && not (bit 12 tcr))

-- "failed 1 to 5, bit 4, 9, 10, 5, 15" (place 0 is for no outcome)
unfoldable pub failure_bit : ℕ → ℕ
failure_bit outcome = get_or (0 ∷ 4 ∷ 9 ∷ 10 ∷ 5 ∷ 15 ∷ []) outcome 0

-- "on failure bit 1 for one collision, 2 for more"
unfoldable pub collision_bits : ℕ → ℕ
collision_bits collisions = cond (eqb collisions 1) (2 ^ 1) (cond (ltb 1 collisions) (2 ^ 2) 0)

-- "good, bit 0" (4 "with EPHSR bit 5 also set"); "failed 1 to 5, .."
unfoldable pub outcome_bits : Bool → Send → ℕ
outcome_bits true s = 1 + 2 ^ 5 * flag (eqb s.outcome 4)
outcome_bits false s = 2 ^ failure_bit s.outcome + collision_bits s.collisions

-- "bit 6 broadcast, else 3 group address"
unfoldable pub address_bits : List ℕ → ℕ
address_bits a = cond (broadcast a) (2 ^ 6) (2 ^ 3 * flag (group a))

-- "ECR nibbles, lowest first"; "They stop at 15"
unfoldable pub nibble : ℕ → ℕ → ℕ
nibble k ecr = ecr / 16 ^ k % 16

unfoldable pub counted : Bool → ℕ → ℕ
counted true x = min 15 (x + 1)
counted false x = x

-- "good after one collision; two or more, failed or good; deferral 1; deferral 2"
unfoldable pub tally : Bool → Send → ℕ → List ℕ
tally is_good s ecr =
    counted (is_good && eqb s.collisions 1) (nibble 0 ecr)
    ∷ counted (leb 2 s.collisions) (nibble 1 ecr)
    ∷ counted (eqb s.deferral 1) (nibble 2 ecr)
    ∷ counted (eqb s.deferral 2) (nibble 3 ecr)
    ∷ []

unfoldable pub nibbles : List ℕ → ℕ
nibbles [] = 0
nibbles (x ∷ xs) = x + 16 * nibbles xs

-- "any then at 15"
unfoldable pub any_at15 : List ℕ → Bool
any_at15 [] = false
any_at15 (x ∷ xs) = eqb x 15 || any_at15 xs

unfoldable pub new_ecr : Bool → Send → ℕ → ℕ
new_ecr is_good s ecr = nibbles (tally is_good s ecr)

-- "EPHSR bits other than 12 become .."; "any then at 15 sets EPHSR bit 12". What is shown at bit 14 is the link: "sends leave it" (W8).
unfoldable pub new_ephsr : Bool → Send → List ℕ → Registers → ℕ
new_ephsr is_good s address r =
    outcome_bits is_good s + address_bits address + 2 ^ 12 * flag (bit 12 r.sending.ephsr || any_at15 (tally is_good s r.sending.ecr))

-- the registers after it: EPHSR and ECR are new; "A failure clears TXENA."; "TX EMPTY is set if TX is now empty."
abbrev pub sent_registers : Bool → Send → List ℕ → Bool → Registers → Registers
sent_registers is_good s address emptied r =
    in_sending (λ x. record {
      tcr = cond is_good x.tcr (clear_bit 0 x.tcr);
      ephsr = new_ephsr is_good s address r;
      ecr = new_ecr is_good s x.ecr;
      tx_empty = x.tx_empty || emptied;
    }) r

-- "Good with control bit 11: the packet is released."
unfoldable pub auto_release : Bool → Registers → Bool
auto_release is_good r = is_good && bit 11 r.control

-- "Else its number joins completion"
abbrev pub retire : Bool → ℕ → Chip → Chip
retire released k c = cond released (give_back k c) (in_pool (set_completion (c.pool.completion ++ (k ∷ []))) c)

-- EPHSR after it, as it is shown
abbrev pub status_word : Bool → Send → List ℕ → Registers → ℕ
status_word is_good s address r = shown r.link.up (new_ephsr is_good s address r)

-- "EPHSR is written to addresses 0 and 1."
abbrev pub status_written : List ℕ → ℕ → Chip → Chip
status_written pages e c = in_memory (put_bytes (low_byte e ∷ high_byte e ∷ []) 0 pages) c

-- the head k of TX, with rest behind it, is sent
unfoldable pub send_head : Send → ℕ → List ℕ → Chip → List ℕ → Turn
send_head s k rest c out =
    let pages = pages_at c k in
    let is_good = good c.regs.sending.tcr s.outcome in
    let bytes = put_out c.regs.sending.tcr (byte_count pages c.memory) pages c.memory in
    let address = get_bytes 6 4 pages c.memory in
    record {
      reply = record { number = 0; value = length bytes };
      chip =
          retire (auto_release is_good c.regs) k
          (status_written pages (status_word is_good s address c.regs)
          (in_pool (set_tx rest) (in_registers (sent_registers is_good s address (not (some? rest))) c)));
      output = over bytes out;
    }

-- "Else its number joins completion (refusal 14 if full)."
abbrev pub no_place : Send → Chip → Bool
no_place s c = not (auto_release (good c.regs.sending.tcr s.outcome) c.regs) && leb (size c) (length c.pool.completion)

-- The count "must be even, at least 12, within the pages". "Refusals: 13 odd, 18 under 12, 19 past the pages; in that order, where 13 stood", with "the offending count as the answer's value in all three".
unfoldable pub if_usable : ℕ → ℕ → Chip → List ℕ → Turn → Turn
if_usable count pageCount c out t =
    let fault : ℕ → Turn = λ n. refused_with n count c out in
    cond (bit 0 count) (fault 13) (cond (ltb count 12) (fault 18) (cond (ltb (256 * pageCount) count) (fault 19) t))

-- these three, then 14
unfoldable pub if_sendable : Send → ℕ → List ℕ → Chip → List ℕ → Turn
if_sendable s k rest c out =
    let pages = pages_at c k in
    if_usable (byte_count pages c.memory) (length pages) c out (cond (no_place s c) (refused 14 c out) (send_head s k rest c out))

-- "The TX head is sent": refusal 12 where TX is empty
abbrev pub by_tx_head : Send → List ℕ → Chip → List ℕ → Turn
by_tx_head s [] c out = refused 12 c out
by_tx_head s (k ∷ ks) c out = if_sendable s k ks c out

-- refusals 15, 11, 12, 13, 18, 19, 14, in this order
unfoldable pub finish : Send → Chip → List ℕ → Turn
finish s c out =
    cond (ltb (length out) 2052) (refused 15 c out)
    (cond (not (in_limits s)) (refused 11 c out)
    (cond (not (bit 0 c.regs.sending.tcr)) (refused 12 c out)
    (by_tx_head s c.pool.tx c out)))
