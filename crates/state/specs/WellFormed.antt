-- Document 01's "A chip state is well formed exactly when ..", and document 02's W1, said of the record itself: 32 words w, 24 page sets s (bit p for page p) and 72 bytes of queues q.
-- A field for each clause, and for what the record has beside the chip. `Restated.restated`: this is what the public entries ask (`Holds`).
-- n is the number of packets of the part that the record names (document 02, W9), and `at i` the set of packet i.
use Rattle.std.specs.Prelude.{◌≡◌, true, ◌⊎◌, List, [], ◌∷◌, ℕ, ◌+◌, ◌/◌, ◌%◌, ◌^◌, ◌≤◌, ◌<◌, length, get_or}
use Rattle.std.specs.Int.Count.{ones}
use Rattle.rules.specs.Bits.{bit}
use Rattle.rules.specs.Lists.{member}
use Rattle.rules.specs.Parts.{IsPart}
use Rattle.state.specs.View.{word, rx_bits, tx_bits, queue_in, BlankIn}
use Rattle.state.specs.Entry.{size_in}

-- A packet's pages are its set. ("page lists ascend" says nothing of a set: it has no order.)
pub record SetsFormed (n : ℕ) (at : ℕ → ℕ) : Type 0 where
  -- "no page is in two packets"
  pub once : (i j p : ℕ) → bit p (at i) ≡ true → bit p (at j) ≡ true → i ≡ j
  -- "pages are 0 to 23": bits n to 31 are clear
  pub within : (i : ℕ) → at i < 2 ^ n
  -- "an allocated packet has 1 to 8 and any other none": it is allocated where its set is not 0
  pub at_most : (i : ℕ) → ones (at i) ≤ 8

-- The byte at place i of the queue that begins at byte `at`: RX at 0, TX at 24, completion at 48.
abbrev pub slot_at : ℕ → List ℕ → ℕ → ℕ
slot_at at q i = get_or q (at + i) 0

-- The queues with so many entries, beside the page sets.
pub record QueuesFormed (n rx tx completion : ℕ) (at : ℕ → ℕ) (q : List ℕ) : Type 0 where
  pub long : length q ≡ 72
  pub rx_fits : rx ≤ 24
  pub tx_fits : tx ≤ 24
  -- "RX and TX entries are allocated and distinct"
  pub rx_allocated : (i : ℕ) → i < rx → 0 < at (slot_at 0 q i)
  pub tx_allocated : (i : ℕ) → i < tx → 0 < at (slot_at 24 q i)
  pub rx_distinct : (i j : ℕ) → i < rx → j < rx → slot_at 0 q i ≡ slot_at 0 q j → i ≡ j
  pub tx_distinct : (i j : ℕ) → i < tx → j < tx → slot_at 24 q i ≡ slot_at 24 q j → i ≡ j
  -- "no packet is in both"
  pub not_both : (i j : ℕ) → i < rx → j < tx → slot_at 0 q i ≡ slot_at 24 q j → ⊥
  -- "completion has at most 24 entries, each 0 to 23"; "the completion FIFO holds 18 (ours)"
  pub completion_few : completion ≤ n
  pub completion_numbers : (i : ℕ) → i < completion → slot_at 48 q i < n
  -- a place behind a queue's end is 0
  pub rx_blank : (i : ℕ) → rx ≤ i → i < 24 → slot_at 0 q i ≡ 0
  pub tx_blank : (i : ℕ) → tx ≤ i → i < 24 → slot_at 24 q i ≡ 0
  pub completion_blank : (i : ℕ) → completion ≤ i → i < 24 → slot_at 48 q i ≡ 0

-- The words that a clause of document 01 bounds.
pub record NumbersFormed (n bank packet : ℕ) : Type 0 where
  -- "the bank is 0 to 7"
  pub bank_small : bank % 256 < 8
  -- "the packet number register 0 to 63"
  pub packet_small : packet % 256 < 64
  -- "the allocation result 0 to 23 or 80h"
  pub result_good : (packet / 256 < n) ⊎ (packet / 256 ≡ 0x80)

-- "A state with a waiting request is well formed only if it is for 1 to 8 pages, more than are free, with the result at 80h" (W1): none waits, or one that may.
abbrev pub RequestFormed : ℕ → ℕ → ℕ → Type 0
RequestFormed mir packet waiting = (waiting ≡ 0) ⊎ ((waiting ≤ 8) × (mir / 256 < waiting) × (packet / 256 ≡ 0x80))

-- What no register has is fixed.
pub record FixedBytes (w : List ℕ) : Type 0 where
  pub whole : length w ≡ 32
  -- "F reads 33h and is read-only, in every bank", and "B reads 33h, read-only"
  pub bank_high : word w 7 / 256 ≡ 0x33
  pub reserved_high : word w 5 / 256 ≡ 0x33
  -- "2 TX EMPTY, latched" and "4 RX_OVRN, latched": no other bit is set
  pub latched : (k : ℕ) → bit k (word w 13) ≡ true → (k ≡ 2) ⊎ (k ≡ 4)
  -- the link and its change (W8): bits 0 and 1, and no other bit
  pub link_bits : word w 15 < 4
  -- the mask is a high byte
  pub mask_low : word w 22 % 256 ≡ 0
  -- the words that hold nothing are 0: those of command, heads and data, which a read finds
  pub blank : BlankIn w

-- how many pages the sets have, each for itself
abbrev pub pages_in : List ℕ → ℕ
pages_in [] = 0
pages_in (x ∷ xs) = ones x + pages_in xs

-- The kept figures are those that a full count gives (W7).
pub record FiguresFormed (n : ℕ) (w s q : List ℕ) : Type 0 where
  -- MIR: in the high byte the pages that no packet has
  pub free : word w 4 / 256 + pages_in s ≡ n
  -- "in RX" and "in TX": bit k is set exactly where packet k is an entry
  pub in_rx : (k : ℕ) → bit k (rx_bits w) ≡ member k (queue_in 0 (word w 6) q)
  pub in_tx : (k : ℕ) → bit k (tx_bits w) ≡ member k (queue_in 1 (word w 8) q)

-- all of it: the words say how many entries a queue has
pub record RecordFormed (w s q : List ℕ) : Type 0 where
  -- MIR's low byte is the number of packets of a part
  pub part : IsPart (size_in w)
  pub fixed : FixedBytes w
  pub numbers : NumbersFormed (size_in w) (word w 7) (word w 17)
  -- "Packets are numbered 0 to 23": a place for each, and empty those of no packet of the part
  pub places : length s ≡ 24
  pub empty : (i : ℕ) → size_in w ≤ i → get_or s i 0 ≡ 0
  pub sets : SetsFormed (size_in w) (λ i. get_or s i 0)
  pub queues : QueuesFormed (size_in w) (word w 6) (word w 8) (word w 9) (λ i. get_or s i 0) q
  pub figures : FiguresFormed (size_in w) w s q
  pub request : RequestFormed (word w 4) (word w 17) (word w 23)
