-- Document 01, "Either side of a number", and the hash examples of data sheet 003: each a single table under a single statement.
use Rattle.std.specs.Prelude.{◌≡◌, refl, Bool, true, false, List, [], ◌∷◌, map, ℕ, ◌+◌, ◌-◌, ◌%◌, ◌^◌, replicate, set}
use Rattle.std.proofs.Common.{arith}
use Rattle.rules.specs.Bits.{bit}
use Rattle.rules.specs.Crc.{crc_bit, crc_bits, crc_from, crc, hash}
use Rattle.rules.specs.Data.{auto_incr, address, advance, next}
use Rattle.rules.specs.Receive.{in_table, count_of, pages_for}
use Rattle.rules.specs.Registers.{Width, byte, word, lanes_at, width}

pub data Row : Type 0 where
  -- n, to the count and the pages
  stored : ℕ → ℕ → ℕ → Row
  -- auto-increment by a width, from an address to an address
  grows : Width → ℕ → ℕ → Row

-- a pointer with AUTO INCR set
abbrev pub pointer_at : ℕ → ℕ
pointer_at a = 2 ^ 14 + a

-- the row with what the rules make of its n, and of its width and first address
abbrev pub by_rules : Row → Row
by_rules (stored n count pages) = stored n (count_of n) (pages_for (count_of n))
by_rules (grows w from to) = grows w from (address (next (width (lanes_at w 8)) (pointer_at from)))

abbrev pub rows : List Row
rows =
    stored 64 70 1
    ∷ stored 65 70 1
    ∷ stored 250 256 1
    ∷ stored 251 256 1
    ∷ stored 252 258 2
    ∷ stored 1530 1536 6
    ∷ stored 1531 1536 6
    ∷ stored 1532 1538 7
    ∷ grows word 2046 0
    ∷ grows byte 2047 0
    ∷ []

pub either_side : map by_rules rows ≡ rows
unfolding bit count_of pages_for lanes_at width address advance next
either_side = refl

-- The same at every pointer with AUTO INCR set, whatever its other bits are.
pub address_grows : (w p : ℕ) → auto_incr p ≡ true → address (next w p) ≡ (address p + w) % 2048
unfolding address advance next
address_grows w p h = rw h (omega arith)

-- An address of this first byte and five zeros, its hash, and the byte and bit of the multicast table that it selects:
-- it is in the table where this bit is set alone, and not in the table where all others are.
pub record Example : Type 0 where
  pub first : ℕ
  pub value : ℕ
  pub table_byte : ℕ
  pub table_bit : ℕ
  pub in_alone : Bool
  pub in_others : Bool

abbrev pub selects : ℕ → ℕ → ℕ → ℕ → Example
selects first value k b = record { first = first; value = value; table_byte = k; table_bit = b; in_alone = true; in_others = false }

-- the example with what the rules make of its address and of the two tables
abbrev pub hashed : Example → Example
hashed x =
    let h = hash (x.first ∷ replicate 5 0) in
    record {
      first = x.first;
      value = h;
      table_byte = x.table_byte;
      table_bit = x.table_bit;
      in_alone = in_table (set (replicate 8 0) x.table_byte (2 ^ x.table_bit)) h;
      in_others = in_table (set (replicate 8 0xff) x.table_byte (0xff - 2 ^ x.table_bit)) h;
    }

abbrev pub examples : List Example
examples =
    selects 0xed 0b000000 0 0
    ∷ selects 0x0d 0b010000 2 0
    ∷ selects 0x01 0b100111 4 7
    ∷ selects 0x2f 0b111111 7 7
    ∷ []

pub hash_examples : map hashed examples ≡ examples
unfolding bit crc_bit crc_bits crc_from crc hash in_table
hash_examples = refl
