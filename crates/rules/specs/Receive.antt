-- Document 01, "A frame arrives"; document 02, W4: the frame's own FCS tells whether its CRC is bad.
use Rattle.std.specs.Prelude.{Bool, true, false, cond, not, ◌&&◌, ◌||◌, List, [], ◌∷◌, ◌++◌, ℕ, ◌+◌, ◌-◌, ◌*◌, ◌/◌, ◌%◌, ◌^◌, eqb, ltb, length, get_or, take, drop}
use Rattle.rules.specs.Bits.{bit, set_bit, flag, low_byte, high_byte}
use Rattle.rules.specs.Chip.{Registers, Chip, free}
use Rattle.rules.specs.Fields.{set_rcr, set_overrun, set_rx, in_registers, in_pool, in_memory}
use Rattle.rules.specs.Answers.{Effect, done_with, refuse}
use Rattle.rules.specs.Packet.{put_bytes}
use Rattle.rules.specs.Mmu.{lowest_number, allot}
use Rattle.rules.specs.Crc.{hash, fcs}

-- "Input: bytes with FCS, and" a flag, alignment; "the bad CRC flag is no longer given but found from the frame" (W4)
pub record Frame : Type 0 where
  pub bytes : List ℕ
  pub alignment : Bool

abbrev pub destination : Frame → List ℕ
destination f = take 6 f.bytes

-- are two lists of bytes the same
unfoldable pub same_bytes : List ℕ → List ℕ → Bool
same_bytes [] [] = true
same_bytes [] (y ∷ ys) = false
same_bytes (x ∷ xs) [] = false
same_bytes (x ∷ xs) (y ∷ ys) = eqb x y && same_bytes xs ys

-- bad CRC: the last four bytes are not the FCS of the rest
unfoldable pub bad_crc : List ℕ → Bool
bad_crc bytes = let n = length bytes - 4 in not (same_bytes (drop n bytes) (fcs (take n bytes)))

-- broadcast is six bytes FFh; a group address has its first wire bit set
unfoldable pub broadcast : List ℕ → Bool
broadcast a = same_bytes a (0xff ∷ 0xff ∷ 0xff ∷ 0xff ∷ 0xff ∷ 0xff ∷ [])

unfoldable pub group : List ℕ → Bool
group a = bit 0 (get_or a 0 0)

-- "The upper three choose the table byte, the lower three the bit."
unfoldable pub in_table : List ℕ → ℕ → Bool
in_table table h = bit (h % 8) (get_or table (h / 8) 0)

-- "Accepted: RCR bit 1 (all); broadcast; group address with RCR bit 2, or with its table bit set; the station address."
unfoldable pub accepted : Registers → List ℕ → Bool
accepted r a =
    let x = r.receiving in
    bit 1 x.rcr || broadcast a || (group a && (bit 2 x.rcr || in_table x.table (hash a))) || same_bytes a x.station

-- "n is the length, less 4 when RCR bit 9 is set."
unfoldable pub data_length : Registers → ℕ → ℕ
data_length r len = cond (bit 9 r.receiving.rcr) (len - 4) len

-- "The count is n + 6 (even) or n + 5 (odd)."
unfoldable pub count_of : ℕ → ℕ
count_of n = cond (bit 0 n) (n + 5) (n + 6)

-- how many pages of 256 bytes hold the count
unfoldable pub pages_for : ℕ → ℕ
pages_for count = (count + 255) / 256

unfoldable pub needed : Registers → ℕ → ℕ
needed r len = pages_for (count_of (data_length r len))

-- the answer's values
pub data Arrival : Type 0 where
  stored : Arrival
  disabled : Arrival
  not_accepted : Arrival
  too_long : Arrival
  bad : Arrival
  no_room : Arrival

unfoldable pub value_for : Arrival → ℕ
value_for stored = 0
value_for disabled = 1
value_for not_accepted = 2
value_for too_long = 3
value_for bad = 4
value_for no_room = 5

-- "flagged or under 64 bytes with control bit 14 clear"
unfoldable pub dropped : Registers → Frame → Bool
dropped r f = (bad_crc f.bytes || f.alignment || ltb (length f.bytes) 64) && not (bit 14 r.control)

-- "The answer's value is the first that holds"; free_pages is how many are free
unfoldable pub judge : Registers → ℕ → Frame → Arrival
judge r free_pages f =
    cond (not (bit 8 r.receiving.rcr)) disabled
    (cond (not (accepted r (destination f))) not_accepted
    (cond (ltb 1532 (length f.bytes)) too_long
    (cond (dropped r f) bad
    (cond (ltb free_pages (needed r (length f.bytes) + r.receiving.reserved)) no_room stored))))

-- "Status: 15 alignment, 14 broadcast, 13 bad CRC, 12 odd n, 11 frame with FCS over 1,518 bytes, 10 under 64; group but not broadcast: bit 0, hash in 6 to 1."
unfoldable pub group_bits : List ℕ → ℕ
group_bits a = cond (group a && not (broadcast a)) (2 * hash a + 1) 0

unfoldable pub frame_status : Frame → ℕ → ℕ
frame_status f n =
    2 ^ 15 * flag f.alignment + 2 ^ 14 * flag (broadcast (destination f)) + 2 ^ 13 * flag (bad_crc f.bytes) + 2 ^ 12 * flag (bit 0 n)
    + 2 ^ 11 * flag (ltb 1518 (length f.bytes)) + 2 ^ 10 * flag (ltb (length f.bytes) 64) + group_bits (destination f)

-- "then for even n a zero and 40h, for odd n 60h"
unfoldable pub trailer : ℕ → List ℕ
trailer n = cond (bit 0 n) (0x60 ∷ []) (0 ∷ 0x40 ∷ [])

-- "Stored from packet address 0: status, byte count, n bytes, then .."
unfoldable pub image : Frame → ℕ → List ℕ
image f n =
    low_byte (frame_status f n) ∷ high_byte (frame_status f n) ∷ low_byte (count_of n) ∷ high_byte (count_of n) ∷ (take n f.bytes ++ trailer n)

-- "A stored frame takes the lowest unallocated number and the lowest free pages; the allocation result stays. The number goes to the end of RX."
-- "Page k (k at least 1) holds the frame from byte 256k − 4 on": four bytes stand before it. "Later bytes of the last page stay."
abbrev pub stow : Frame → Chip → Chip
stow f c =
    let pageCount = needed c.regs (length f.bytes) in
    in_memory (put_bytes (image f (data_length c.regs (length f.bytes))) 0 (take pageCount (free c)))
    (in_pool (set_rx (c.pool.rx ++ (lowest_number c ∷ []))) (allot pageCount c))

-- RX_ABORT set
abbrev pub abort : Registers → Registers
abort r = set_rcr (set_bit 0 r.receiving.rcr) r

-- 3: "RX_ABORT set", and it "does not set RX_OVRN"; 5: "RX_ABORT and RX_OVRN set"
unfoldable pub after : Arrival → Frame → Chip → Chip
after stored f c = stow f c
after disabled f c = c
after not_accepted f c = c
after too_long f c = in_registers abort c
after bad f c = c
after no_room f c = in_registers (λ r. set_overrun true (abort r)) c

abbrev pub verdict : Frame → Chip → Arrival
verdict f c = judge c.regs (length (free c)) f

-- "Under 18 bytes: refusal 11."
unfoldable pub arrive : Frame → Chip → Effect
arrive f c = cond (ltb (length f.bytes) 18) (refuse 11 c) (done_with (value_for (verdict f c)) (after (verdict f c) f c))
