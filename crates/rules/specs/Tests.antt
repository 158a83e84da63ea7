-- The clauses of `WellFormed` once more, as tests that compute: what refusal 16 asks. A reader may skip this file, for `wellformed/specs/Fit` proves
-- each test true exactly where its clause holds.
use Rattle.std.specs.Prelude.{Bool, true, not, ◌&&◌, ◌||◌, List, [], ◌∷◌, ℕ, suc, ◌*◌, eqb, leb, ltb, length, get_or}
use Rattle.rules.specs.Lists.{member, some?, owned, total}
use Rattle.rules.specs.Chip.{Numbers, Layout, paged, strips, Pool, Chip, page_numbers, free_for}

unfoldable pub above : ℕ → List ℕ → Bool
above x [] = true
above x (y ∷ ys) = ltb x y && above y ys

unfoldable pub ascends : List ℕ → Bool
ascends [] = true
ascends (x ∷ xs) = above x xs

unfoldable pub all_below : ℕ → List ℕ → Bool
all_below n [] = true
all_below n (x ∷ xs) = ltb x n && all_below n xs

-- is no number of the first list in the second
unfoldable pub apart : List ℕ → List ℕ → Bool
apart [] other = true
apart (x ∷ xs) other = not (member x other) && apart xs other

-- has no list a page of the first
unfoldable pub none_owned : List ℕ → List (List ℕ) → Bool
none_owned [] ls = true
none_owned (p ∷ ps) ls = not (owned p ls) && none_owned ps ls

unfoldable pub pages_good : ℕ → List (List ℕ) → Bool
pages_good n [] = true
pages_good n (l ∷ ls) = ascends l && all_below n l && leb (length l) 8 && none_owned l ls && pages_good n ls

-- are these the numbers from x on
unfoldable pub goes_up : ℕ → List ℕ → Bool
goes_up x [] = true
goes_up x (y ∷ ys) = eqb y x && goes_up (suc x) ys

-- from packet k on: are the pages of each the first of its own eight
unfoldable pub own_good : ℕ → List (List ℕ) → Bool
own_good k [] = true
own_good k (l ∷ ls) = goes_up (8 * k) l && own_good (suc k) ls

unfoldable pub laid_good : Layout → ℕ → List (List ℕ) → Bool
laid_good paged n ls = true
laid_good strips n ls = own_good 0 ls && leb (total ls) n

-- are the entries allocated and distinct
unfoldable pub queue_good : List ℕ → List (List ℕ) → Bool
queue_good [] ls = true
queue_good (k ∷ ks) ls = some? (get_or ls k []) && not (member k ks) && queue_good ks ls

unfoldable pub queues_good : ℕ → Pool → Bool
queues_good n q =
    queue_good q.rx q.pages && queue_good q.tx q.pages && apart q.rx q.tx && leb (length q.completion) n && all_below n q.completion

unfoldable pub numbers_good : ℕ → Numbers → Bool
numbers_good n r = ltb r.bank 8 && ltb r.packet 64 && (ltb r.result n || eqb r.result 0x80)

unfoldable pub request_good : ℕ → Numbers → Bool
request_good free_pages r = eqb r.waiting 0 || (leb r.waiting 8 && ltb free_pages r.waiting && eqb r.result 0x80)

unfoldable pub formed : ℕ → Chip → Bool
formed n c =
    eqb (length c.pool.pages) n && pages_good (page_numbers c.pool.layout n) c.pool.pages && laid_good c.pool.layout n c.pool.pages
    && numbers_good n c.regs.numbers && queues_good n c.pool && request_good (length (free_for c.pool.layout c.pool.pages)) c.regs.numbers

-- refusal 16: the memory's length, and a state that is well formed
unfoldable pub fit : ℕ → Chip → Bool
fit n c = eqb (length c.memory) (256 * page_numbers c.pool.layout n) && formed n c
