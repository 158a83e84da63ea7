-- What the lent state stands for: 32 words of registers, for each packet of the part a number which says its pages, and 72 bytes of queues, RX, TX and completion with 24 places each.
-- A packet's number is the set of its pages; on the chip of strips (document 02, W3) it is how many pages the packet has. There are as many as the part has packets, 24 or 18 (W9).
use Rattle.std.specs.Prelude.{◌≡◌, List, [], ◌∷◌, map, ℕ, suc, ◌+◌, ◌*◌, ◌/◌, ◌%◌, ◌<◌, length, get_or, take}
use Rattle.rules.specs.Bits.{bit, flag, word_of}
use Rattle.rules.specs.Lists.{up_from}
use Rattle.rules.specs.Chip.{Registers, Layout, paged, strips, Pool, Chip}
use Rattle.sets.specs.Views.{pages_of}
use Rattle.queues.specs.Parts.{slots}

abbrev pub word : List ℕ → ℕ → ℕ
word w i = get_or w i 0

-- the bytes of a word, lower first, and of some words
abbrev pub bytes : ℕ → List ℕ → List ℕ
bytes x rest = x % 256 ∷ x / 256 ∷ rest

abbrev pub registers_in : List ℕ → Registers
registers_in w = record {
  sending = record { tcr = word w 0; ephsr = word w 1; ecr = word w 3; tx_empty = bit 2 (word w 13) };
  receiving = record {
    rcr = word w 2;
    reserved = word w 5 % 256;
    station = bytes (word w 10) (bytes (word w 11) (bytes (word w 12) []));
    table = bytes (word w 24) (bytes (word w 25) (bytes (word w 26) (bytes (word w 27) [])));
    overrun = bit 4 (word w 13);
  };
  numbers = record { bank = word w 7 % 256; packet = word w 17 % 256; result = word w 17 / 256; waiting = word w 23 };
  pointer = word w 19;
  control = word w 14;
  mask = word w 22 / 256;
  link = record { up = bit 0 (word w 15); changed = bit 1 (word w 15) };
}

-- The figures that the words keep beside the registers: how many entries RX, TX and completion have; MIR, which counts the free pages; and which packets are in
-- RX and in TX, packet k at bit k, the lower 16 bits in a word before the others.
abbrev pub figures : List ℕ → List ℕ
figures w = word w 6 ∷ word w 8 ∷ word w 9 ∷ word w 4 ∷ word w 28 ∷ word w 29 ∷ word w 30 ∷ word w 31 ∷ []

-- The packets in RX, and those in TX, as one number: bit k for packet k.
abbrev pub rx_bits : List ℕ → ℕ
rx_bits w = word w 28 + word w 29 * 65536

abbrev pub tx_bits : List ℕ → ℕ
tx_bits w = word w 30 + word w 31 * 65536

-- The figures c with others of RX, of TX, or of completion, and with another MIR.
abbrev pub with_rx : ℕ → ℕ → ℕ → List ℕ → List ℕ
with_rx n low high c = n ∷ word c 1 ∷ word c 2 ∷ word c 3 ∷ low ∷ high ∷ word c 6 ∷ word c 7 ∷ []

abbrev pub with_tx : ℕ → ℕ → ℕ → List ℕ → List ℕ
with_tx n low high c = word c 0 ∷ n ∷ word c 2 ∷ word c 3 ∷ word c 4 ∷ word c 5 ∷ low ∷ high ∷ []

abbrev pub with_completion : ℕ → List ℕ → List ℕ
with_completion n c = word c 0 ∷ word c 1 ∷ n ∷ word c 3 ∷ word c 4 ∷ word c 5 ∷ word c 6 ∷ word c 7 ∷ []

abbrev pub with_mir : ℕ → List ℕ → List ℕ
with_mir x c = word c 0 ∷ word c 1 ∷ word c 2 ∷ x ∷ word c 4 ∷ word c 5 ∷ word c 6 ∷ word c 7 ∷ []

-- The figures where no packet has pages and no queue has entries, of the part with n packets: 1818h of document 01's, "MIR 1212h after reset" of the other (W9).
abbrev pub no_figures : ℕ → List ℕ
no_figures n = 0 ∷ 0 ∷ 0 ∷ word_of n n ∷ 0 ∷ 0 ∷ 0 ∷ 0 ∷ []

-- the entries of queue k: the first `count` of its 24 bytes
abbrev pub queue_in : ℕ → ℕ → List ℕ → List ℕ
queue_in k count q = take count (slots k q)

-- from packet k on: so many pages of its own eight
abbrev pub strips_from : ℕ → List ℕ → List (List ℕ)
strips_from k [] = []
strips_from k (m ∷ ms) = up_from (8 * k) m ∷ strips_from (suc k) ms

-- the page lists that the packets' numbers s say
abbrev pub lists_of : Layout → List ℕ → List (List ℕ)
lists_of paged s = map pages_of s
lists_of strips s = strips_from 0 s

-- by the figures c, the packets' numbers s and the queues' bytes q
abbrev pub pool_of : Layout → List ℕ → List ℕ → List ℕ → Pool
pool_of l c s q = record { layout = l; pages = lists_of l s; rx = queue_in 0 (word c 0) q; tx = queue_in 1 (word c 1) q; completion = queue_in 2 (word c 2) q }

-- words, packets' numbers, queues and memory
abbrev pub view_of : Layout → List ℕ → List ℕ → List ℕ → List ℕ → Chip
view_of l w s q mem = record { regs = registers_in w; pool = pool_of l (figures w) s q; memory = mem }

-- with page sets
abbrev pub pool_in : List ℕ → List ℕ → List ℕ → Pool
pool_in = pool_of paged

abbrev pub view : List ℕ → List ℕ → List ℕ → List ℕ → Chip
view = view_of paged

-- TX EMPTY and RX_OVRN stand at their bits of interrupt status, and no other bit is set
abbrev pub Latches : ℕ → Type 0
Latches x = x ≡ 4 * flag (bit 2 x) + 16 * flag (bit 4 x)

-- the bits and bytes of a register's word that are fixed: over the words and not over the file, so that a store elsewhere leaves it as it stands
pub record Fixed (bank reserved latches link mask : ℕ) : Type 0 where
  -- 33h, and a bank of 0 to 7
  pub bank_high : bank / 8 ≡ 0x660
  -- 33h
  pub reserved_high : reserved / 256 ≡ 0x33
  pub latched : Latches latches
  -- the link and its change, and no other bit
  pub link_bits : link < 4
  pub mask_low : mask % 256 ≡ 0

abbrev pub FixedIn : List ℕ → Type 0
FixedIn w = Fixed (word w 7) (word w 5) (word w 13) (word w 15) (word w 22)

-- and the words that hold nothing: those of command, heads and data, which a read finds
pub record Blank (w16 w18 w20 w21 : ℕ) : Type 0 where
  pub none16 : w16 ≡ 0
  pub none18 : w18 ≡ 0
  pub none20 : w20 ≡ 0
  pub none21 : w21 ≡ 0

abbrev pub BlankIn : List ℕ → Type 0
BlankIn w = Blank (word w 16) (word w 18) (word w 20) (word w 21)

-- 32 words, with the fixed bytes as they must be
pub record Kept (w : List ℕ) : Type 0 where
  pub whole : length w ≡ 32
  pub fixed : FixedIn w
  pub blank : BlankIn w
