-- Document 01, "What the model holds": the chip as numbers and lists, and its state at power-up. Document 02, W3: a chip of strips.
use Rattle.std.specs.Prelude.{Bool, true, false, List, [], ℕ, ◌-◌, ◌*◌, length, get_or, replicate}
use Rattle.rules.specs.Lists.{some?, free_below, total, up_from, first_empty}

-- what a send reads and writes
pub record Sending : Type 0 where
  -- bank 0, offsets 0, 2 and 6
  pub tcr : ℕ
  pub ephsr : ℕ
  pub ecr : ℕ
  -- TX EMPTY, latched
  pub tx_empty : Bool

-- what decides of an arriving frame, and RX_OVRN, which it may set
pub record Receiving : Type 0 where
  -- bank 0, offsets 4 and A: RCR, and the pages reserved for transmit
  pub rcr : ℕ
  pub reserved : ℕ
  -- bank 1, offsets 4 to 9: the station address, first wire byte first
  pub station : List ℕ
  -- bank 3: the multicast table, eight bytes
  pub table : List ℕ
  -- RX_OVRN, latched
  pub overrun : Bool

-- numbers of a bank and of packets: the registers that well-formedness bounds
pub record Numbers : Type 0 where
  -- offset E of every bank
  pub bank : ℕ
  -- bank 2, offsets 2 and 3: the packet number register, the allocation result
  pub packet : ℕ
  pub result : ℕ
  -- of no bank: how many pages an allocation waits for, 0 where none waits (document 02, W1)
  pub waiting : ℕ

-- the cable, of no bank (document 02, W8)
pub record Link : Type 0 where
  -- is the link up
  pub up : Bool
  -- a change of it was seen, and no write to a control byte came since
  pub changed : Bool

pub record Registers : Type 0 where
  pub sending : Sending
  pub receiving : Receiving
  pub numbers : Numbers
  -- bank 2, offset 6
  pub pointer : ℕ
  -- bank 1, offset C
  pub control : ℕ
  -- bank 2, offset D
  pub mask : ℕ
  pub link : Link

-- Where the bytes of packets lie: in pages of 256 bytes, which packets take and give back; or "each packet in its own strip of 2,048 bytes", which is eight pages
-- of its own (W3). Packet k of strips has the first of pages 8k to 8k + 7, so that its byte a lies at 2048k + a.
pub data Layout : Type 0 where
  paged : Layout
  strips : Layout

-- who has which page, and the three FIFOs of packet numbers, head first
pub record Pool : Type 0 where
  -- no step changes it
  pub layout : Layout
  -- for each packet number its pages, [] where it is not allocated
  pub pages : List (List ℕ)
  pub rx : List ℕ
  pub tx : List ℕ
  pub completion : List ℕ

pub record Chip : Type 0 where
  pub regs : Registers
  pub pool : Pool
  -- the bytes of all pages
  pub memory : List ℕ

-- pages are numbered below it on a chip of n packets: n pages, or n strips
abbrev pub page_numbers : Layout → ℕ → ℕ
page_numbers paged n = n
page_numbers strips n = 8 * n

-- how many packets the chip has, and how many pages in all they may have: 24, or 18 (W9). No step changes it.
abbrev pub size : Chip → ℕ
size c = length c.pool.pages

-- the pages of a packet number
abbrev pub pages_at : Chip → ℕ → List ℕ
pages_at c k = get_or c.pool.pages k []

-- the pages that are there for the next packet, in the order in which it takes them: as many as are free
abbrev pub free_for : Layout → List (List ℕ) → List ℕ
-- those that no packet has, in ascending order
free_for paged ls = free_below (length ls) ls
-- "of pages only how many are free and how many each packet has, 24 in sum" (on the other part 18): so many, from the first of the strip on whose number comes next (a packet takes at most eight)
free_for strips ls = up_from (8 * first_empty ls) (length ls - total ls)

abbrev pub free : Chip → List ℕ
free c = free_for c.pool.layout c.pool.pages

-- a packet is allocated where it has pages
abbrev pub allocated : ℕ → Chip → Bool
allocated k c = some? (pages_at c k)

-- "Reset values: .. all 0 but allocation result 80h and TX EMPTY set." A soft reset keeps the station address. No allocation waits: "40h and a soft reset drop it".
-- "a soft reset keeps the link and forgets the change" (W8)
abbrev pub reset_registers : List ℕ → Bool → Registers
reset_registers station up = record {
  sending = record { tcr = 0; ephsr = 0; ecr = 0; tx_empty = true };
  receiving = record { rcr = 0; reserved = 0; station = station; table = replicate 8 0; overrun = false };
  numbers = record { bank = 0; packet = 0; result = 0x80; waiting = 0 };
  pointer = 0;
  control = 0;
  mask = 0;
  link = record { up = up; changed = false };
}

-- "no packets, FIFOs empty"
abbrev pub empty_pool : Layout → ℕ → Pool
empty_pool l n = record { layout = l; pages = replicate n []; rx = []; tx = []; completion = [] }

-- power-up of the part with n packets: "the memory is 6,144 zero bytes", or 256 for each of n pages, and eight times as many of strips; "the link is down with no change seen" (W8)
abbrev pub powered : Layout → ℕ → Chip
powered l n = record { regs = reset_registers (replicate 6 0) false; pool = empty_pool l n; memory = replicate (256 * page_numbers l n) 0 }
