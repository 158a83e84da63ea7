-- The packet at the head of TX, which a send sends, and its bytes one by one: what a driver wrote there, and not how the rules read it.
use Rattle.std.specs.Prelude.{◌≡◌, List, ℕ, ◌+◌, ◌-◌, ◌*◌, ◌/◌, ◌%◌, get_or}
use Rattle.std.proofs.Common.{arith}
use Rattle.rules.specs.Bits.{word_of, word_at}
use Rattle.rules.specs.Chip.{Chip, pages_at}
use Rattle.rules.specs.Packet.{place, get_bytes}
use Rattle.rules.specs.Send.{byte_count}

-- the byte at packet address a: it lies at a mod 256 of page a / 256 of the packet's list
abbrev pub byte_at : List ℕ → List ℕ → ℕ → ℕ
byte_at pages memory a = get_or memory (get_or pages (a / 256) 0 * 256 + a % 256) 0

-- "Count c at addresses 2 and 3, low byte first"
abbrev pub count_at : List ℕ → List ℕ → ℕ
count_at pages memory = byte_at pages memory 2 + 256 * byte_at pages memory 3

-- "the byte at c − 1", the control byte
abbrev pub control_at : List ℕ → List ℕ → ℕ
control_at pages memory = byte_at pages memory (count_at pages memory - 1)

-- the pages of the packet at the head of TX, its count and its control byte
abbrev pub head_pages : Chip → List ℕ
head_pages c = pages_at c (get_or c.pool.tx 0 0)

abbrev pub head_count : Chip → ℕ
head_count c = count_at (head_pages c) c.memory

abbrev pub head_control : Chip → ℕ
head_control c = control_at (head_pages c) c.memory

-- The count as the rules name it.
pub count_is : (pages memory : List ℕ) → byte_count pages memory ≡ count_at pages memory
unfolding byte_count word_at word_of get_bytes place
count_is pages memory = omega arith
