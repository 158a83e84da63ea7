-- Document 01: "A chip state is well formed exactly when ..", a field for each clause; and document 02, W1 and W3. Stated for the part with n packets, and as many pages: document 01's has 24, the other 18 (W9).
use Rattle.std.specs.Prelude.{true, false, ◌≡◌, ◌⊎◌, List, [], ◌∷◌, ℕ, ◌*◌, ◌<◌, ◌≤◌, length, get_or}
use Rattle.rules.specs.Lists.{member, some?, total, up_from}
use Rattle.rules.specs.Chip.{Numbers, Registers, Layout, paged, strips, Pool, Chip, page_numbers, free_for}

-- each number is above the one before it, and the first above x
abbrev pub Above : ℕ → List ℕ → Type 0
Above x [] = Unit {0}
Above x (y ∷ ys) = (x < y) × Above y ys

abbrev pub Ascending : List ℕ → Type 0
Ascending [] = Unit {0}
Ascending (x ∷ xs) = Above x xs

-- no number stands in the list twice
abbrev pub Distinct : List ℕ → Type 0
Distinct [] = Unit {0}
Distinct (x ∷ xs) = (member x xs ≡ false) × Distinct xs

-- what holds of the page lists, of pages below n
pub record GoodPages (n : ℕ) (ls : List (List ℕ)) : Type 0 where
  -- "no page is in two packets"
  pub once : (i j p : ℕ) → member p (get_or ls i []) ≡ true → member p (get_or ls j []) ≡ true → i ≡ j
  -- "page lists ascend"
  pub ascend : (i : ℕ) → Ascending (get_or ls i [])
  -- "pages are 0 to 23"
  pub within : (i p : ℕ) → member p (get_or ls i []) ≡ true → p < n
  -- "an allocated packet has 1 to 8 and any other none": it is allocated where it has some
  pub at_most : (i : ℕ) → length (get_or ls i []) ≤ 8

-- what holds of strips beside it, and "these numbers for page lists" (W3)
pub record GoodStrips (n : ℕ) (ls : List (List ℕ)) : Type 0 where
  -- "each packet in its own strip": its pages are the first of its own eight
  pub own : (k : ℕ) → get_or ls k [] ≡ up_from (8 * k) (length (get_or ls k []))
  -- "how many are free and how many each packet has, 24 in sum": packets have no more
  pub sum : total ls ≤ n

-- what the layout asks of the page lists
abbrev pub Laid : Layout → ℕ → List (List ℕ) → Type 0
Laid paged n ls = Unit {0}
Laid strips n ls = GoodStrips n ls

-- what holds of the queues, beside the page lists
pub record GoodQueues (n : ℕ) (ls : List (List ℕ)) (rx tx completion : List ℕ) : Type 0 where
  -- "RX and TX entries are allocated and distinct"
  pub rx_allocated : (k : ℕ) → member k rx ≡ true → some? (get_or ls k []) ≡ true
  pub tx_allocated : (k : ℕ) → member k tx ≡ true → some? (get_or ls k []) ≡ true
  pub rx_distinct : Distinct rx
  pub tx_distinct : Distinct tx
  -- "no packet is in both"
  pub not_both : (k : ℕ) → member k rx ≡ true → member k tx ≡ false
  -- "completion has at most 24 entries, each 0 to 23"; "Completion entries may name freed packets"
  pub completion_few : length completion ≤ n
  pub completion_numbers : (k : ℕ) → member k completion ≡ true → k < n

-- what holds of the registers' numbers
pub record GoodNumbers (n : ℕ) (r : Numbers) : Type 0 where
  -- "the bank is 0 to 7"
  pub bank_small : r.bank < 8
  -- "the packet number register 0 to 63"
  pub packet_small : r.packet < 64
  -- "the allocation result 0 to 23 or 80h"
  pub result_good : (r.result < n) ⊎ (r.result ≡ 0x80)

-- an allocation that waits: "for 1 to 8 pages, more than are free, with the result at 80h" (so at least 1)
pub record Waits (free_pages waiting result : ℕ) : Type 0 where
  pub few : waiting ≤ 8
  pub short : free_pages < waiting
  pub unanswered : result ≡ 0x80

-- none waits, or one that may
abbrev pub GoodRequest : ℕ → Numbers → Type 0
GoodRequest free_pages r = (r.waiting ≡ 0) ⊎ Waits free_pages r.waiting r.result

-- all clauses, over what they speak of: a step that leaves these leaves the chip well formed
pub record Clauses (n : ℕ) (r : Numbers) (q : Pool) : Type 0 where
  -- "Packets are numbered 0 to 23": a page list for each
  pub count : length q.pages ≡ n
  pub pages : GoodPages (page_numbers q.layout n) q.pages
  pub laid : Laid q.layout n q.pages
  pub numbers : GoodNumbers n r
  pub queues : GoodQueues n q.pages q.rx q.tx q.completion
  -- "A state with a waiting request is well formed only if .."
  pub request : GoodRequest (length (free_for q.layout q.pages)) r

-- the clauses of registers and pool; of a chip with n packets
abbrev pub Formed : ℕ → Registers → Pool → Type 0
Formed n r q = Clauses n r.numbers q

abbrev pub FormedAt : ℕ → Chip → Type 0
FormedAt n c = Formed n c.regs c.pool
