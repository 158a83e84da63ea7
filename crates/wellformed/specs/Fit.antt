-- The test that refusal 16 makes is true exactly when the memory has its length and the chip is well formed: clause by clause.
use Rattle.std.specs.Prelude.{◌≡◌, refl, true, false, ◌&&◌, List, [], ◌∷◌, ℕ, zero, suc, ◌+◌, ◌*◌, ◌≤◌, ◌<◌, leb, length, get_or, drop}
use Rattle.std.proofs.Common.{ap, ap₂, sym, ◌∙◌, true≢false, arith}
use Rattle.rules.specs.Lists.{member, some?, owned, total, up_from}
use Rattle.rules.specs.Chip.{Numbers, Layout, paged, strips, Pool, Chip, page_numbers, free_for}
use Rattle.rules.specs.Answers.{refused}
use Rattle.rules.specs.Step.{Input, lent, serve, step_of}
use Rattle.rules.specs.WellFormed.{Above, Ascending, Distinct, GoodPages, Laid, GoodQueues, GoodNumbers, GoodRequest, FormedAt}
use Rattle.rules.specs.Tests.{above, ascends, all_below, apart, none_owned, pages_good, goes_up, own_good, laid_good, queue_good, queues_good, numbers_good, request_good, formed, fit}
use Rattle.lists.specs.Facts.{if_not, Decides, agrees, always, is_true, is_false, ◌and◌, ◌or◌, lt_decides, le_decides, eq_decides, nobody}
use Rattle.lists.specs.Each.{Each, each_member, member_each, members}
use Rattle.lists.specs.Owned.{owned_none, owned_in}
use Rattle.wellformed.specs.Count.{good_rest}

pub below_decides : (n : ℕ) (l : List ℕ) → Decides (all_below n l) (Each (λ k. k < n) l)
unfolding all_below
below_decides n [] = always tt
below_decides n (x ∷ xs) = lt_decides x n and below_decides n xs

apart_decides : (l other : List ℕ) → Decides (apart l other) (Each (λ k. member k other ≡ false) l)
unfolding apart
apart_decides [] other = always tt
apart_decides (x ∷ xs) other = is_false (member x other) and apart_decides xs other

none_decides : (l : List ℕ) (ls : List (List ℕ)) → Decides (none_owned l ls) (Each (λ p. owned p ls ≡ false) l)
unfolding none_owned
none_decides [] ls = always tt
none_decides (x ∷ xs) ls = is_false (owned x ls) and none_decides xs ls

-- Page lists.
above_decides : (x : ℕ) (l : List ℕ) → Decides (above x l) (Above x l)
unfolding above
above_decides x [] = always tt
above_decides x (y ∷ ys) = lt_decides x y and above_decides y ys

ascends_decides : (l : List ℕ) → Decides (ascends l) (Ascending l)
unfolding ascends
ascends_decides [] = always tt
ascends_decides (x ∷ xs) = above_decides x xs

-- a page list beside those behind it
record GoodList (n : ℕ) (l : List ℕ) (ls : List (List ℕ)) : Type 0 where
  ascend : Ascending l
  within : (p : ℕ) → member p l ≡ true → p < n
  at_most : length l ≤ 8
  -- no later list has a page of it
  alone : (p : ℕ) → member p l ≡ true → owned p ls ≡ false

list_decides : (n : ℕ) (l : List ℕ) (ls : List (List ℕ)) → Decides (ascends l && all_below n l && leb (length l) 8 && none_owned l ls) (GoodList n l ls)
list_decides n l ls =
    agrees
    (ascends_decides l and members (λ p. p < n) l (below_decides n l) and le_decides (length l) 8 and members (λ p. owned p ls ≡ false) l (none_decides l ls))
    (λ w. record { ascend = w.0.0.0; within = w.0.0.1; at_most = w.0.1; alone = w.1 })
    (λ g. (((g.ascend, g.within), g.at_most), g.alone))

-- Page lists are good where the first is, and those behind it.
good_none : (n : ℕ) → GoodPages n []
good_none n = record {
  once = λ i j p x y. nobody p x;
  ascend = λ i. tt;
  within = λ i p x. nobody p x;
  at_most = λ i. omega arith;
}

module _ (n : ℕ) (l : List ℕ) (ls : List (List ℕ)) where
  good_more : GoodList n l ls → GoodPages n ls → GoodPages n (l ∷ ls)
  good_more f g = record {
    once = once;
    ascend = by_list Ascending f.ascend g.ascend;
    within = by_list (λ x. (p : ℕ) → member p x ≡ true → p < n) f.within g.within;
    at_most = by_list (λ x. length x ≤ 8) f.at_most g.at_most;
  }
    where
      by_list : (P : List ℕ → Type 0) → P l → ((i : ℕ) → P (get_or ls i [])) → (i : ℕ) → P (get_or (l ∷ ls) i [])
      by_list P h t zero = h
      by_list P h t (suc i) = t i

      later : (j p : ℕ) → member p l ≡ true → member p (get_or ls j []) ≡ true → ⊥
      later j p x y = true≢false (sym (owned_in p ls j y) ∙ f.alone p x)

      once : (i j p : ℕ) → member p (get_or (l ∷ ls) i []) ≡ true → member p (get_or (l ∷ ls) j []) ≡ true → i ≡ j
      once zero zero p x y = refl
      once zero (suc j) p x y = absurd (later j p x y)
      once (suc i) zero p x y = absurd (later i p y x)
      once (suc i) (suc j) p x y = ap suc (g.once i j p x y)

  good_first : GoodPages n (l ∷ ls) → GoodList n l ls
  good_first g = record {
    ascend = g.ascend 0;
    within = g.within 0;
    at_most = g.at_most 0;
    alone = λ p m. owned_none p ls (λ i k. let e = g.once 0 (suc i) p m k in omega (arith, e));
  }

pub pages_decides : (n : ℕ) (ls : List (List ℕ)) → Decides (pages_good n ls) (GoodPages n ls)
unfolding pages_good
pages_decides n [] = always (good_none n)
pages_decides n (l ∷ ls) =
    agrees (list_decides n l ls and pages_decides n ls) (λ w. good_more n l ls w.0 w.1) (λ g. (good_first n l ls g, good_rest g))

-- Strips: a list that goes up by one from its first page on; each packet's from the first page of its own strip on.
up_decides : (x : ℕ) (l : List ℕ) → Decides (goes_up x l) (l ≡ up_from x (length l))
unfolding goes_up up_from
up_decides x [] = always refl
up_decides x (y ∷ ys) =
    agrees (eq_decides y x and up_decides (suc x) ys) (λ w. ap₂ ◌∷◌ w.0 w.1) (λ e. (ap (λ (l : List ℕ). get_or l 0 0) e, ap (drop 1) e))

-- from packet k on
abbrev Own : ℕ → List (List ℕ) → Type 0
Own k ls = (i : ℕ) → get_or ls i [] ≡ up_from (8 * (k + i)) (length (get_or ls i []))

own_decides : (k : ℕ) (ls : List (List ℕ)) → Decides (own_good k ls) (Own k ls)
unfolding own_good up_from
own_decides k [] = always (λ i. refl)
own_decides k (l ∷ ls) = agrees (up_decides (8 * k) l and own_decides (suc k) ls) both split
  where
    here : l ≡ up_from (8 * k) (length l) → l ≡ up_from (8 * (k + 0)) (length l)
    here e = e ∙ ap (λ (x : ℕ). up_from (8 * x) (length l)) (omega arith)

    both : (l ≡ up_from (8 * k) (length l)) × Own (suc k) ls → Own k (l ∷ ls)
    both w zero = here w.0
    both w (suc i) = w.1 i ∙ ap (λ (x : ℕ). up_from (8 * x) (length (get_or ls i []))) (omega arith)

    split : Own k (l ∷ ls) → (l ≡ up_from (8 * k) (length l)) × Own (suc k) ls
    split h = (
      h 0 ∙ ap (λ (x : ℕ). up_from (8 * x) (length l)) (omega arith),
      λ i. h (suc i) ∙ ap (λ (x : ℕ). up_from (8 * x) (length (get_or ls i []))) (omega arith),
    )

laid_decides : (l : Layout) (n : ℕ) (ls : List (List ℕ)) → Decides (laid_good l n ls) (Laid l n ls)
unfolding laid_good
laid_decides paged n ls = always tt
laid_decides strips n ls =
    agrees (own_decides 0 ls and le_decides (total ls) n)
    (λ w. record { own = λ k. w.0 k ∙ ap (λ (x : ℕ). up_from (8 * x) (length (get_or ls k []))) (omega arith); sum = w.1 })
    (λ g. (λ k. g.own k ∙ ap (λ (x : ℕ). up_from (8 * x) (length (get_or ls k []))) (omega arith), g.sum))

-- Queues.
abbrev Has : List (List ℕ) → ℕ → Type 0
Has ls k = some? (get_or ls k []) ≡ true

queue_decides : (l : List ℕ) (ls : List (List ℕ)) → Decides (queue_good l ls) (Each (Has ls) l × Distinct l)
unfolding queue_good
queue_decides [] ls = always (tt, tt)
queue_decides (x ∷ xs) ls =
    agrees (is_true (some? (get_or ls x [])) and is_false (member x xs) and queue_decides xs ls)
    (λ w. ((w.0.0, w.1.0), (w.0.1, w.1.1))) (λ q. ((q.0.0, q.1.0), (q.0.1, q.1.1)))

entries_decide : (l : List ℕ) (ls : List (List ℕ)) → Decides (queue_good l ls) (((k : ℕ) → member k l ≡ true → Has ls k) × Distinct l)
entries_decide l ls = agrees (queue_decides l ls) (λ w. (each_member (Has ls) l w.0, w.1)) (λ w. (member_each (Has ls) l w.0, w.1))

pub queues_decides : (n : ℕ) (q : Pool) → Decides (queues_good n q) (GoodQueues n q.pages q.rx q.tx q.completion)
unfolding queues_good
queues_decides n q =
    agrees
    (entries_decide q.rx q.pages and entries_decide q.tx q.pages and members (λ k. member k q.tx ≡ false) q.rx (apart_decides q.rx q.tx)
    and le_decides (length q.completion) n and members (λ k. k < n) q.completion (below_decides n q.completion))
    (λ w. record {
      rx_allocated = w.0.0.0.0.0;
      rx_distinct = w.0.0.0.0.1;
      tx_allocated = w.0.0.0.1.0;
      tx_distinct = w.0.0.0.1.1;
      not_both = w.0.0.1;
      completion_few = w.0.1;
      completion_numbers = w.1;
    })
    (λ g. (((((g.rx_allocated, g.rx_distinct), (g.tx_allocated, g.tx_distinct)), g.not_both), g.completion_few), g.completion_numbers))

-- The registers' numbers, and all clauses.
pub numbers_decides : (n : ℕ) (r : Numbers) → Decides (numbers_good n r) (GoodNumbers n r)
unfolding numbers_good
numbers_decides n r =
    agrees (lt_decides r.bank 8 and lt_decides r.packet 64 and (lt_decides r.result n or eq_decides r.result 0x80))
    (λ w. record { bank_small = w.0.0; packet_small = w.0.1; result_good = w.1 }) (λ g. ((g.bank_small, g.packet_small), g.result_good))

pub request_decides : (free_pages : ℕ) (r : Numbers) → Decides (request_good free_pages r) (GoodRequest free_pages r)
unfolding request_good
request_decides free_pages r =
    eq_decides r.waiting 0
    or agrees (le_decides r.waiting 8 and lt_decides free_pages r.waiting and eq_decides r.result 0x80)
    (λ w. record { few = w.0.0; short = w.0.1; unanswered = w.1 }) (λ g. ((g.few, g.short), g.unanswered))

pub formed_decides : (n : ℕ) (c : Chip) → Decides (formed n c) (FormedAt n c)
unfolding formed
formed_decides n c =
    agrees
    (eq_decides (length c.pool.pages) n and pages_decides (page_numbers c.pool.layout n) c.pool.pages and laid_decides c.pool.layout n c.pool.pages
    and numbers_decides n c.regs.numbers and queues_decides n c.pool and request_decides (length (free_for c.pool.layout c.pool.pages)) c.regs.numbers)
    (λ w. record { count = w.0.0.0.0.0; pages = w.0.0.0.0.1; laid = w.0.0.0.1; numbers = w.0.0.1; queues = w.0.1; request = w.1 })
    (λ f. (((((f.count, f.pages), f.laid), f.numbers), f.queues), f.request))

-- what refusal 16 asks of a chip with n packets
abbrev pub Fits : ℕ → Chip → Type 0
Fits n c = FormedAt n c × (length c.memory ≡ 256 * page_numbers c.pool.layout n)
