-- Document 01: "the CRC of IEEE 802.3 run over the .. bytes in wire bit order, preset to ones, not complemented, shifted left"; document 02, W4: the frame check sequence.
use Rattle.std.specs.Prelude.{cond, List, [], ◌∷◌, ℕ, zero, suc, ◌+◌, ◌-◌, ◌*◌, ◌/◌, ◌%◌, ◌^◌, eqb}
use Rattle.std.specs.Int.Bits.{bit_xor}

-- one wire bit b shifted into the remainder r of 32 bits: where b differs from the bit that goes out, the polynomial is added
unfoldable pub crc_bit : ℕ → ℕ → ℕ
crc_bit b r = cond (eqb (r / 2 ^ 31) b) (r % 2 ^ 31 * 2) (bit_xor 0x04c11db7 (r % 2 ^ 31 * 2))

-- the n lowest bits of a byte, the lowest first: the wire's bit order
unfoldable pub crc_bits : ℕ → ℕ → ℕ → ℕ
crc_bits zero x r = r
crc_bits (suc n) x r = crc_bits n (x / 2) (crc_bit (x % 2) r)

unfoldable pub crc_from : ℕ → List ℕ → ℕ
crc_from r [] = r
crc_from r (b ∷ bs) = crc_from (crc_bits 8 b r) bs

-- the remainder over a list of bytes, preset to ones
unfoldable pub crc : List ℕ → ℕ
crc bytes = crc_from 0xffffffff bytes

-- "its top six bits"
unfoldable pub hash : List ℕ → ℕ
hash address = crc address / 2 ^ 26

-- the n lowest bits of a number in the other order
unfoldable pub mirror : ℕ → ℕ → ℕ
mirror zero x = 0
mirror (suc n) x = x % 2 * 2 ^ n + mirror n (x / 2)

-- The frame check sequence of a list of bytes is the remainder, complemented; "its bit 31 first on the wire, that is as bit 0 of the first FCS byte". As one number ..
unfoldable pub fcs_word : List ℕ → ℕ
fcs_word bytes = mirror 32 (0xffffffff - crc bytes)

-- .. and as its four bytes, the lowest first on the wire: "123456789" gives 26h 39h F4h CBh
unfoldable pub four_bytes : ℕ → List ℕ
four_bytes x = x % 256 ∷ x / 2 ^ 8 % 256 ∷ x / 2 ^ 16 % 256 ∷ x / 2 ^ 24 % 256 ∷ []

abbrev pub fcs : List ℕ → List ℕ
fcs bytes = four_bytes (fcs_word bytes)
