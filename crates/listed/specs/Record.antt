-- What the record of page lists stands for, as the code had it: the chip of `rules`. A canonical record is as its view has it made, so it is known from its view.
-- It has 24 rows of pages and 24 slots for each queue, of either part (document 02, W9): which one it is, its number of packets says.
use Rattle.std.specs.Prelude.{◌≡◌, cond, List, [], ◌∷◌, ◌++◌, map, ℕ, ◌-◌, ◌≤◌, eqb, length, replicate, take, drop}
use Rattle.std.proofs.Common.{ap, ap₂, sym, ◌∙◌, take-append-drop}
use Rattle.rules.specs.Parts.{IsPart}
use Rattle.rules.specs.Chip as rules
use Rattle.rules.specs.Chip.{paged, Chip, Pool, size}
use Rattle.rules.specs.WellFormed.{FormedAt}
use Rattle.sets.specs.declared.Page.{Page}
use Rattle.sets.specs.declared.Packet.{Packet}
use Rattle.listed.specs.declared.Queue.{Queue}
use Rattle.listed.specs.declared.Registers.{Registers}

abbrev pub page : ℕ → Page
page p = record { 0 = p }

abbrev pub packet : ℕ → Packet
packet k = record { 0 = k }

-- a row's pages: those before the first 255
unfoldable pub used : List Page → List ℕ
used [] = []
used (p ∷ ps) = cond (eqb p.0 255) [] (p.0 ∷ used ps)

-- n places: those of the list, and z in each that is left
abbrev pub padded : {A : Type 0} → (ℕ → A) → ℕ → A → List ℕ → List A
padded f n z l = map f l ++ replicate (n - length l) z

-- the row of a page list: 255 in each place that is left
abbrev pub row_of : List ℕ → List Page
row_of = padded page 8 (page 255)

-- the page lists of a map, and the map of page lists
abbrev pub pages_of : List (List Page) → List (List ℕ)
pages_of m = map used m

abbrev pub map_of : List (List ℕ) → List (List Page)
map_of ls = map row_of ls

abbrev pub SoundMap : List (List Page) → Type 0
SoundMap m = m ≡ map_of (pages_of m)

-- the packet numbers of a queue, head first, and the queue of packet numbers
abbrev pub number : Packet → ℕ
number p = p.0

abbrev pub entries : Queue → List ℕ
entries q = map number (take q.count q.slots)

abbrev pub slots_of : List ℕ → List Packet
slots_of = padded packet 24 (packet 0)

abbrev pub queue_of : List ℕ → Queue
queue_of l = record { slots = slots_of l; count = length l }

pub record SoundQueue (q : Queue) : Type 0 where
  pub fits : q.count ≤ 24
  pub same : q ≡ queue_of (entries q)

-- the queues are as their entries have them made
pub record SoundQueues (a b c : Queue) : Type 0 where
  pub rx : SoundQueue a
  pub tx : SoundQueue b
  pub done : SoundQueue c

abbrev pub registers_of : Registers → rules.Registers
registers_of r = record {
  sending = record { tcr = r.tcr; ephsr = r.ephsr; ecr = r.ecr; tx_empty = r.txempty };
  receiving = record { rcr = r.rcr; reserved = r.reserved; station = r.station; table = r.table; overrun = r.overrun };
  numbers = record { bank = r.bank; packet = r.packet; result = r.result; waiting = r.waiting };
  pointer = r.pointer;
  control = r.control;
  mask = r.mask;
  link = record { up = r.up; changed = r.changed };
}

-- the rows of the part's packets
abbrev pub of_part : Registers → List (List Page) → List (List Page)
of_part r m = take r.packets m

abbrev pub pool_of : Registers → List (List Page) → Pool
pool_of r m = record { layout = paged; pages = pages_of (of_part r m); rx = entries r.rx; tx = entries r.tx; completion = entries r.done }

-- registers, page map and memory
abbrev pub view : Registers → List (List Page) → List ℕ → Chip
view r m mem = record { regs = registers_of r; pool = pool_of r m; memory = mem }

-- a canonical record of a well-formed chip of its part (of which the memory's bytes are no part); the rows of no packet are empty
pub record Ready (r : Registers) (m : List (List Page)) : Type 0 where
  pub part : IsPart r.packets
  pub queues : SoundQueues r.rx r.tx r.done
  pub map : SoundMap (of_part r m)
  pub rest : drop r.packets m ≡ replicate (24 - r.packets) (row_of [])
  pub well : FormedAt r.packets (view r m [])

-- all its rows: the part's, and empty ones behind them
pub rows_cut : {r : Registers} {m : List (List Page)} → Ready r m → m ≡ of_part r m ++ replicate (24 - r.packets) (row_of [])
rows_cut {r} {m} x = sym (take-append-drop r.packets m) ∙ ap (λ (t : List (List Page)). of_part r m ++ t) x.rest

-- Queues, by their entries; maps, by their page lists; the part, by how many these are; and so the record.
same_queue : (q r : Queue) → SoundQueue q → SoundQueue r → entries q ≡ entries r → q ≡ r
same_queue q r s t e = s.same ∙ ap queue_of e ∙ sym t.same

module _ {r s : Registers} {m n : List (List Page)} {a b : List ℕ} (x : Ready r m) (y : Ready s n) (e : view r m a ≡ view s n b) where
  of : {A : Type 0} (f : Chip → A) → f (view r m a) ≡ f (view s n b)
  of f = ap f e

  same_part : r.packets ≡ s.packets
  same_part = sym x.well.count ∙ of size ∙ y.well.count

  same_rows : of_part r m ≡ of_part s n
  same_rows = x.map ∙ ap map_of (of (λ c. c.pool.pages)) ∙ sym y.map

  same_registers : r ≡ s
  same_registers =
      let rx = same_queue r.rx s.rx x.queues.rx y.queues.rx (of (λ c. c.pool.rx)) in
      let tx = same_queue r.tx s.tx x.queues.tx y.queues.tx (of (λ c. c.pool.tx)) in
      let done = same_queue r.done s.done x.queues.done y.queues.done (of (λ c. c.pool.completion)) in
      λ i. record {
        packets = same_part i;
        tcr = of (λ c. c.regs.sending.tcr) i;
        ephsr = of (λ c. c.regs.sending.ephsr) i;
        rcr = of (λ c. c.regs.receiving.rcr) i;
        ecr = of (λ c. c.regs.sending.ecr) i;
        reserved = of (λ c. c.regs.receiving.reserved) i;
        station = of (λ c. c.regs.receiving.station) i;
        control = of (λ c. c.regs.control) i;
        packet = of (λ c. c.regs.numbers.packet) i;
        result = of (λ c. c.regs.numbers.result) i;
        waiting = of (λ c. c.regs.numbers.waiting) i;
        pointer = of (λ c. c.regs.pointer) i;
        mask = of (λ c. c.regs.mask) i;
        table = of (λ c. c.regs.receiving.table) i;
        bank = of (λ c. c.regs.numbers.bank) i;
        txempty = of (λ c. c.regs.sending.tx_empty) i;
        overrun = of (λ c. c.regs.receiving.overrun) i;
        up = of (λ c. c.regs.link.up) i;
        changed = of (λ c. c.regs.link.changed) i;
        rx = rx i;
        tx = tx i;
        done = done i;
      }

  pub one_record : (r ≡ s) × (m ≡ n) × (a ≡ b)
  one_record = (
    same_registers,
    rows_cut x ∙ ap₂ (λ (k : ℕ) (t : List (List Page)). t ++ replicate (24 - k) (row_of [])) same_part same_rows ∙ sym (rows_cut y),
    of (λ c. c.memory),
  )
