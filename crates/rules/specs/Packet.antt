-- A packet's bytes in memory. Packet address a lies in page a / 256 of the packet's list, so two adjacent addresses may lie in pages that are not adjacent.
use Rattle.std.specs.Prelude.{List, [], ◌∷◌, ℕ, zero, suc, ◌+◌, ◌*◌, ◌/◌, ◌%◌, get_or, set}

-- where in memory a packet address lies (one past the pages is refused by 10 or 19 before it comes here)
unfoldable pub place : List ℕ → ℕ → ℕ
place pages a = get_or pages (a / 256) 0 * 256 + a % 256

-- n bytes of the packet from address a on
unfoldable pub get_bytes : ℕ → ℕ → List ℕ → List ℕ → List ℕ
get_bytes zero a pages memory = []
get_bytes (suc n) a pages memory = get_or memory (place pages a) 0 ∷ get_bytes n (suc a) pages memory

-- bytes written into the packet from address a on; all other bytes stay
unfoldable pub put_bytes : List ℕ → ℕ → List ℕ → List ℕ → List ℕ
put_bytes [] a pages memory = memory
put_bytes (b ∷ bs) a pages memory = put_bytes bs (suc a) pages (set memory (place pages a) b)
