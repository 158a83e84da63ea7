-- What keeps the pool well formed: pages given and given back, entries that join and leave a queue. For any size n.
use Rattle.std.specs.Prelude.{◌≡◌, refl, true, false, ◌⊎◌, List, [], ◌∷◌, ◌++◌, ℕ, zero, suc, ◌≤◌, ◌<◌, eqb, length, get_or, set, take, drop}
use Rattle.std.proofs.Math.Path.{ap}
use Rattle.std.proofs.Common.{sym, subst, ◌∙◌, true≢false, inl, inr, ⊎_elim, arith, eq-eqb, length-append, length-drop, get_or-set_other}
use Rattle.rules.specs.Lists.{member, some?, first_empty}
use Rattle.rules.specs.Chip.{Numbers, Layout, Pool, reset_registers, free_for, empty_pool}
use Rattle.rules.specs.Fields.{set_pages, set_rx, set_tx, set_completion}
use Rattle.rules.specs.WellFormed.{Distinct, GoodQueues, GoodNumbers, GoodRequest, Clauses}
use Rattle.lists.specs.Facts.{if_not, or_left, or_right, nobody, member_cases, member_later, member_append}
use Rattle.wellformed.specs.Pages.{first_empty_lem}
use Rattle.wellformed.specs.Layouts.{GoodLists, unallocated, granted_lists, back_lists, free_set, none_lists}

-- An allocated number is in range.
pub has_small : (ls : List (List ℕ)) (i : ℕ) → some? (get_or ls i []) ≡ true → i < length ls
unfolding some?
has_small [] i f = absurd (true≢false (sym f))
has_small (l ∷ ls) zero f = omega arith
has_small (l ∷ ls) (suc i) f = omega (arith, has_small ls i f)

-- A number that is not allocated is in no queue whose entries are.
absent : (l : List ℕ) (ls : List (List ℕ)) (k : ℕ) → ((j : ℕ) → member j l ≡ true → some? (get_or ls j []) ≡ true) → some? (get_or ls k []) ≡ false → member k l ≡ true → ⊥
absent l ls k h e m = true≢false (sym (h k m) ∙ e)

-- A member of one entry is that entry.
only : (P : ℕ → Type 0) (j k : ℕ) → P k → member j (k ∷ []) ≡ true → P j
only P j k p m = ⊎_elim (λ e. subst P (sym e) p) (nobody j) (member_cases j k [] m)

-- What is in range, one by one.
module _ (n : ℕ) (l : List ℕ) (h : (k : ℕ) → member k l ≡ true → k < n) where
  joined_small : (k : ℕ) → k < n → (j : ℕ) → member j (l ++ (k ∷ [])) ≡ true → j < n
  joined_small k b j m = ⊎_elim (h j) (only (λ i. i < n) j k b) (member_append j l (k ∷ []) m)

member_drop : (l : List ℕ) (j : ℕ) → member j (drop 1 l) ≡ true → member j l ≡ true
member_drop [] j m = m
member_drop (k ∷ ks) j m = member_later j k ks m

distinct_snoc : (l : List ℕ) (x : ℕ) → Distinct l → member x l ≡ false → Distinct (l ++ (x ∷ []))
unfolding member
distinct_snoc [] x d m = (refl, tt)
distinct_snoc (y ∷ ys) x d m = (
  if_not (member y (ys ++ (x ∷ [])))
      (λ e. ⊎_elim (λ a. true≢false (sym a ∙ d.0))
      (λ a. ⊎_elim (λ b. true≢false (sym (eq-eqb x y (sym b)) ∙ or_left (eqb x y) (member x ys) m)) (nobody y) (member_cases y x [] a)) (member_append y ys (x ∷ []) e)),
  distinct_snoc ys x d.1 (or_right (eqb x y) (member x ys) m),
)

-- The queues beside page lists.
module _ (n : ℕ) (ls : List (List ℕ)) (rx tx completion : List ℕ) (q : GoodQueues n ls rx tx completion) where
  -- RX and TX may change places.
  turned : GoodQueues n ls tx rx completion
  turned = record {
    rx_allocated = q.tx_allocated;
    tx_allocated = q.rx_allocated;
    rx_distinct = q.tx_distinct;
    tx_distinct = q.rx_distinct;
    not_both = λ k m. if_not (member k rx) (λ e. true≢false (sym m ∙ q.not_both k e));
    completion_few = q.completion_few;
    completion_numbers = q.completion_numbers;
  }

  -- The pages of a packet that is in neither change.
  touched : (k : ℕ) (l : List ℕ) → (member k rx ≡ true → ⊥) → (member k tx ≡ true → ⊥) → GoodQueues n (set ls k l) rx tx completion
  touched k l r t = record {
    rx_allocated = λ j m. ap some? (get_or-set_other ls k j l [] (λ e. r (sym (ap (λ (i : ℕ). member i rx) e) ∙ m))) ∙ q.rx_allocated j m;
    tx_allocated = λ j m. ap some? (get_or-set_other ls k j l [] (λ e. t (sym (ap (λ (i : ℕ). member i tx) e) ∙ m))) ∙ q.tx_allocated j m;
    rx_distinct = q.rx_distinct;
    tx_distinct = q.tx_distinct;
    not_both = q.not_both;
    completion_few = q.completion_few;
    completion_numbers = q.completion_numbers;
  }

  -- The head of RX leaves.
  popped : (k : ℕ) (ks : List ℕ) → rx ≡ k ∷ ks → GoodQueues n ls ks tx completion
  popped k ks e =
      let d : Distinct (k ∷ ks) = rw e at q.rx_distinct in
      record {
        rx_allocated = λ j m. q.rx_allocated j (rw e (member_later j k ks m));
        tx_allocated = q.tx_allocated;
        rx_distinct = d.1;
        tx_distinct = q.tx_distinct;
        not_both = λ j m. q.not_both j (rw e (member_later j k ks m));
        completion_few = q.completion_few;
        completion_numbers = q.completion_numbers;
      }

  -- An allocated packet that is in neither joins RX.
  joined : (k : ℕ) → some? (get_or ls k []) ≡ true → member k rx ≡ false → member k tx ≡ false → GoodQueues n ls (rx ++ (k ∷ [])) tx completion
  joined k a r t = record {
    rx_allocated = λ j m. ⊎_elim (q.rx_allocated j) (λ e. only (λ i. some? (get_or ls i []) ≡ true) j k a e) (member_append j rx (k ∷ []) m);
    tx_allocated = q.tx_allocated;
    rx_distinct = distinct_snoc rx k q.rx_distinct r;
    tx_distinct = q.tx_distinct;
    not_both = λ j m. ⊎_elim (q.not_both j) (only (λ i. member i tx ≡ false) j k t) (member_append j rx (k ∷ []) m);
    completion_few = q.completion_few;
    completion_numbers = q.completion_numbers;
  }

  -- Completion is another list in range.
  completed : (l : List ℕ) → length l ≤ n → ((k : ℕ) → member k l ≡ true → k < n) → GoodQueues n ls rx tx l
  completed l a b = record {
    rx_allocated = q.rx_allocated;
    tx_allocated = q.tx_allocated;
    rx_distinct = q.rx_distinct;
    tx_distinct = q.tx_distinct;
    not_both = q.not_both;
    completion_few = a;
    completion_numbers = b;
  }

  -- TX is emptied.
  unsent : GoodQueues n ls rx [] completion
  unfolding member
  unsent = record {
    rx_allocated = q.rx_allocated;
    tx_allocated = λ j m. nobody j m;
    rx_distinct = q.rx_distinct;
    tx_distinct = tt;
    not_both = λ j m. refl;
    completion_few = q.completion_few;
    completion_numbers = q.completion_numbers;
  }

-- What waits for more than are free waits on where fewer are.
pub still_waits : {free_pages : ℕ} (fewer : ℕ) (r : Numbers) → fewer ≤ free_pages → GoodRequest free_pages r → GoodRequest fewer r
still_waits fewer r h g = ⊎_elim (λ e. inl e) (λ p. inr (record { few = p.few; short = omega (arith, h, p.short); unanswered = p.unanswered })) g

module _ {n : ℕ} {r : Numbers} {q : Pool} (w : Clauses n r q) where
  -- Another pool beside the same registers.
  abbrev Good : Pool → Type 0
  Good x = Clauses n r x

  -- The queues are others.
  requeued : (rx tx completion : List ℕ) → GoodQueues n q.pages rx tx completion → Good (record { layout = q.layout; pages = q.pages; rx = rx; tx = tx; completion = completion })
  requeued rx tx completion g = record { count = w.count; pages = w.pages; laid = w.laid; numbers = w.numbers; queues = g; request = w.request }

  -- its page lists
  pub good_lists : GoodLists q.layout n q.pages
  good_lists = record { count = w.count; pages = w.pages; laid = w.laid }

  -- A packet in neither queue gets other pages, with which the page lists are good.
  repaged : (k : ℕ) (l : List ℕ) → (member k q.rx ≡ true → ⊥) → (member k q.tx ≡ true → ⊥) → GoodLists q.layout n (set q.pages k l)
      → GoodRequest (length (free_for q.layout (set q.pages k l))) r → Good (set_pages (set q.pages k l) q)
  repaged k l x t g asked = record {
    count = g.count;
    pages = g.pages;
    laid = g.laid;
    numbers = w.numbers;
    queues = touched n q.pages q.rx q.tx q.completion w.queues k l x t;
    request = asked;
  }

  -- Pages are free, while nothing waits.
  pub made_free : r.waiting ≡ 0 → (k : ℕ) → k < n → (member k q.rx ≡ true → ⊥) → (member k q.tx ≡ true → ⊥) → Good (set_pages (set q.pages k []) q)
  made_free none k h x t = repaged k [] x t (back_lists n q.pages k h q.layout good_lists) (inl none)

  -- The lowest unallocated number, where a page is free.
  pub number_free : 0 < length (free_for q.layout q.pages) → first_empty q.pages < n
  number_free h = unallocated q.layout n q.pages good_lists h

  number_idle : some? (get_or q.pages (first_empty q.pages) []) ≡ false
  unfolding some?
  number_idle = ap some? (first_empty_lem q.pages)

  pub number_not_rx : member (first_empty q.pages) q.rx ≡ true → ⊥
  number_not_rx = absent q.rx q.pages (first_empty q.pages) w.queues.rx_allocated number_idle

  pub number_not_tx : member (first_empty q.pages) q.tx ≡ true → ⊥
  number_not_tx = absent q.tx q.pages (first_empty q.pages) w.queues.tx_allocated number_idle

  pub given : (m : ℕ) → 1 ≤ m → m ≤ 8 → m ≤ length (free_for q.layout q.pages)
      → Good (set_pages (set q.pages (first_empty q.pages) (take m (free_for q.layout q.pages))) q)
  given m a b h =
      let ls = q.pages in
      let k = first_empty ls in
      let u = number_free (omega (arith, a, h)) in
      let after = granted_lists n ls m b q.layout good_lists h u in
      let fewer = free_set q.layout n ls k _ u good_lists after in
      repaged k _ number_not_rx number_not_tx after (still_waits _ r (omega (arith, fewer, ap length (first_empty_lem ls))) w.request)

  pub rx_popped : (k : ℕ) (ks : List ℕ) → q.rx ≡ k ∷ ks → Good (set_rx ks q)
  rx_popped k ks e = requeued ks q.tx q.completion (popped n q.pages q.rx q.tx q.completion w.queues k ks e)

  pub rx_joined : (k : ℕ) → some? (get_or q.pages k []) ≡ true → member k q.rx ≡ false → member k q.tx ≡ false → Good (set_rx (q.rx ++ (k ∷ [])) q)
  rx_joined k a r t = requeued (q.rx ++ (k ∷ [])) q.tx q.completion (joined n q.pages q.rx q.tx q.completion w.queues k a r t)

  other_way : GoodQueues n q.pages q.tx q.rx q.completion
  other_way = turned n q.pages q.rx q.tx q.completion w.queues

  pub tx_popped : (k : ℕ) (ks : List ℕ) → q.tx ≡ k ∷ ks → Good (set_tx ks q)
  tx_popped k ks e =
      requeued q.rx ks q.completion (turned n q.pages ks q.rx q.completion (popped n q.pages q.tx q.rx q.completion other_way k ks e))

  pub tx_joined : (k : ℕ) → some? (get_or q.pages k []) ≡ true → member k q.rx ≡ false → member k q.tx ≡ false → Good (set_tx (q.tx ++ (k ∷ [])) q)
  tx_joined k a r t =
      requeued q.rx (q.tx ++ (k ∷ [])) q.completion (turned n q.pages (q.tx ++ (k ∷ [])) q.rx q.completion (joined n q.pages q.tx q.rx q.completion other_way k a t r))

  pub completion_joined : (k : ℕ) → k < n → length q.completion < n → Good (set_completion (q.completion ++ (k ∷ [])) q)
  completion_joined k h f =
      requeued q.rx q.tx (q.completion ++ (k ∷ []))
      (completed n q.pages q.rx q.tx q.completion w.queues (q.completion ++ (k ∷ [])) (simp length-append (omega (arith, f))) (joined_small n q.completion w.queues.completion_numbers k h))

  pub completion_popped : Good (set_completion (drop 1 q.completion) q)
  completion_popped =
      requeued q.rx q.tx (drop 1 q.completion)
      (completed n q.pages q.rx q.tx q.completion w.queues (drop 1 q.completion) (simp length-drop (omega (arith, w.queues.completion_few))) (λ j m. w.queues.completion_numbers j (member_drop q.completion j m)))

  pub tx_and_completion_emptied : Good (set_completion [] (set_tx [] q))
  tx_and_completion_emptied =
      requeued q.rx [] []
      (completed n q.pages q.rx [] q.completion (unsent n q.pages q.rx q.tx q.completion w.queues) [] (omega arith) (λ j m. nobody j m))

-- The registers' numbers: one of them is another, or all are reset.
module _ {n : ℕ} {r : Numbers} (g : GoodNumbers n r) where
  pub with_bank : (x : ℕ) → x < 8 → GoodNumbers n (record { bank = x; packet = r.packet; result = r.result; waiting = r.waiting })
  with_bank x h = record { bank_small = h; packet_small = g.packet_small; result_good = g.result_good }

  pub with_packet : (x : ℕ) → x < 64 → GoodNumbers n (record { bank = r.bank; packet = x; result = r.result; waiting = r.waiting })
  with_packet x h = record { bank_small = g.bank_small; packet_small = h; result_good = g.result_good }

  pub with_result : (x : ℕ) → (x < n) ⊎ (x ≡ 0x80) → (waiting : ℕ) → GoodNumbers n (record { bank = r.bank; packet = r.packet; result = x; waiting = waiting })
  with_result x h waiting = record { bank_small = g.bank_small; packet_small = g.packet_small; result_good = h }

pub reset_numbers : (n : ℕ) → GoodNumbers n (reset_registers [] false).numbers
reset_numbers n = record { bank_small = omega arith; packet_small = omega arith; result_good = inr refl }

-- Other registers beside the same pool.
pub beside : {n : ℕ} {r s : Numbers} {q : Pool} → Clauses n r q → GoodNumbers n s → GoodRequest (length (free_for q.layout q.pages)) s → Clauses n s q
beside w g asked = record { count = w.count; pages = w.pages; laid = w.laid; numbers = g; queues = w.queues; request = asked }

-- No packet has pages, and no queue has entries.
pub emptied : (l : Layout) (n : ℕ) {r : Numbers} → GoodNumbers n r → r.waiting ≡ 0 → Clauses n r (empty_pool l n)
unfolding member
emptied l n g none = record {
  count = (none_lists l n).count;
  pages = (none_lists l n).pages;
  laid = (none_lists l n).laid;
  numbers = g;
  queues = record {
    rx_allocated = λ j m. nobody j m;
    tx_allocated = λ j m. nobody j m;
    rx_distinct = tt;
    tx_distinct = tt;
    not_both = λ j m. refl;
    completion_few = omega arith;
    completion_numbers = λ j m. nobody j m;
  };
  request = inl none;
}
