-- The restated definition says of the record's numbers what document 01 says of the lists: `RecordFormed` holds exactly where `Holds` does. By its parts: a set and its
-- page list (`sets_restated`), a queue's bytes and its entries (`queues_as_lists`, `queues_as_bytes`), the words (`words_restated`).
use Rattle.std.specs.Prelude.{◌≡◌, refl, true, false, ◌⊎◌, ◌↔◌, List, [], ◌∷◌, ◌++◌, map, ℕ, zero, suc, ◌+◌, ◌-◌, ◌*◌, ◌/◌, ◌%◌, ◌^◌, ◌≤◌, ◌<◌, eqb, length, take, drop, get_or, replicate}
use Rattle.std.proofs.Common.{ap, ap₂, sym, ◌∙◌, subst, true≢false, inl, inr, ⊎_elim, arith, mod-lt, div-one, pow-suc, eqb-true, eq-eqb, length-drop, take-append-drop, pow_mono, shr-shr, length-take-le, get_or-take, get_or-drop, get_or-append-add, ext_get_or}
use Rattle.std.proofs.Math.Nat.{div-eq_of_lt}
use Rattle.std.specs.Int.Count.{ones}
use Rattle.std.proofs.lemmas.List.{length-replicate, get_or-replicate}
use Rattle.rules.specs.Bits.{bit, flag, word_of}
use Rattle.rules.specs.Lists.{member, some?, total}
use Rattle.rules.specs.Parts.{IsPart}
use Rattle.rules.specs.Chip.{paged, free_for}
use Rattle.rules.specs.WellFormed.{Distinct, GoodPages, GoodQueues, GoodNumbers, GoodRequest}
use Rattle.lists.specs.Facts.{if_not, member_at}
use Rattle.lists.specs.Each.{Each, each_member, member_each}
use Rattle.wellformed.specs.Parts.{part_few}
use Rattle.wellformed.specs.Layouts.{free_total}
use Rattle.wellformed.specs.Pool.{has_small}
use Rattle.sets.specs.Views.{pages_of}
use Rattle.sets.specs.Bits.{bits_bound, bits_same}
use Rattle.sets.specs.Pages.{pages_count}
use Rattle.sets.specs.Lists.{lists_length, none_at, some_at}
use Rattle.sets.specs.Good.{as_lists, as_sets}
use Rattle.sets.specs.Members.{set_of, set_members, set_small}
use Rattle.queues.specs.Slots.{Slots}
use Rattle.queues.specs.Parts.{slots, part_long}
use Rattle.state.specs.View.{word, registers_in, queue_in, Latches, Kept}
use Rattle.state.specs.Promise.{Halves, Small}
use Rattle.state.specs.Counted.{whole, halves}
use Rattle.state.specs.Entry.{size_in, of_part, Holds}
use Rattle.state.specs.Places.{places_told, record_long, record_cut, zeros_at, padded_at}
use Rattle.state.specs.WellFormed.{SetsFormed, QueuesFormed, NumbersFormed, RequestFormed, FixedBytes, FiguresFormed, RecordFormed, slot_at, pages_in}
use Rattle.state.specs.Restated.{request_restated}

-- The latches: no bit but 2 and 4.
power_above : (n : ℕ) → n < 2 ^ n
power_above zero = omega arith
power_above (suc n) = omega (arith, pow-suc 2 n, power_above n)

flag_digit : (k x : ℕ) → flag (bit k x) ≡ x / 2 ^ k % 2
unfolding bit flag
flag_digit k x = go (x / 2 ^ k % 2) (mod-lt (x / 2 ^ k) (omega arith))
  where
    go : (d : ℕ) → d < 2 → flag (eqb d 1) ≡ d
    go zero h = refl
    go (suc zero) h = refl
    go (suc (suc d)) h = absurd (omega arith)

digits : (x : ℕ) → x ≡ x % 2 + 2 * (x / 2 % 2) + 4 * (x / 4 % 2) + 8 * (x / 8 % 2) + 16 * (x / 16 % 2) + 32 * (x / 32)
digits x = omega (arith, shr-shr x 1 1, shr-shr x 2 1, shr-shr x 3 1, shr-shr x 4 1)

digit_set : (k x : ℕ) → x / 2 ^ k % 2 ≡ 1 → bit k x ≡ true
unfolding bit
digit_set k x e = eq-eqb _ _ e

latches : (x : ℕ) → ((k : ℕ) → bit k x ≡ true → (k ≡ 2) ⊎ (k ≡ 4)) → Latches x
latches x h =
    let small : x < 2 ^ 5 = bits_bound x 5 x (power_above x) (λ k b. ⊎_elim (λ e. omega arith) (λ e. omega arith) (h k b)) in
    let clear : (k : ℕ) → (k ≡ 2 → ⊥) → (k ≡ 4 → ⊥) → x / 2 ^ k % 2 ≡ 1 → ⊥ = λ k a b e. ⊎_elim a b (h k (digit_set k x e)) in
    let c0 : x % 2 ≡ 1 → ⊥ = λ e. clear 0 (λ f. omega arith) (λ f. omega arith) (ap (λ (y : ℕ). y % 2) (div-one x) ∙ e) in
    let c1 : x / 2 % 2 ≡ 1 → ⊥ = clear 1 (λ e. omega arith) (λ e. omega arith) in
    let c3 : x / 8 % 2 ≡ 1 → ⊥ = clear 3 (λ e. omega arith) (λ e. omega arith) in
    omega (arith, digits x, flag_digit 2 x, flag_digit 4 x)

latched : (x : ℕ) → Latches x → (k : ℕ) → bit k x ≡ true → (k ≡ 2) ⊎ (k ≡ 4)
unfolding bit
latched x l k b = go k (eqb-true _ _ b)
  where
    two : x ≡ 4 * (x / 4 % 2) + 16 * (x / 16 % 2)
    two = omega (arith, l, flag_digit 2 x, flag_digit 4 x)

    past : (n : ℕ) → 5 ≤ n → x / 2 ^ n % 2 ≡ 1 → ⊥
    past n h e =
        let above : 2 ^ 5 ≤ 2 ^ n = pow_mono {i = 5} {j = n} h in
        let none : x / 2 ^ n ≡ 0 = div-eq_of_lt (omega (arith, two)) in
        omega arith

    go : (k : ℕ) → x / 2 ^ k % 2 ≡ 1 → (k ≡ 2) ⊎ (k ≡ 4)
    go zero e = absurd (omega (arith, two, digits x, sym (ap (λ (y : ℕ). y % 2) (div-one x)) ∙ e))
    go (suc zero) e = absurd (omega (arith, two, digits x))
    go (suc (suc zero)) e = inl refl
    go (suc (suc (suc zero))) e = absurd (omega (arith, two, digits x))
    go (suc (suc (suc (suc zero)))) e = inr refl
    go (suc (suc (suc (suc (suc k))))) e = absurd (past (suc (suc (suc (suc (suc k))))) (omega arith) e)

-- A list by its places.
each_place : (P : ℕ → Type 0) (l : List ℕ) → ((i : ℕ) → i < length l → P (get_or l i 0)) → Each P l
each_place P [] h = tt
each_place P (x ∷ xs) h = (h 0 (omega arith), each_place P xs (λ i g. h (suc i) (omega arith)))

distinct_places : (l : List ℕ) → Distinct l → (i j : ℕ) → i < length l → j < length l → get_or l i 0 ≡ get_or l j 0 → i ≡ j
distinct_places [] d i j h g e = absurd (omega arith)
distinct_places (x ∷ xs) d zero zero h g e = refl
distinct_places (x ∷ xs) d zero (suc j) h g e = absurd (true≢false (sym (ap (λ (y : ℕ). member y xs) e ∙ member_at xs j (omega arith)) ∙ d.0))
distinct_places (x ∷ xs) d (suc i) zero h g e = absurd (true≢false (sym (ap (λ (y : ℕ). member y xs) (sym e) ∙ member_at xs i (omega arith)) ∙ d.0))
distinct_places (x ∷ xs) d (suc i) (suc j) h g e = ap suc (distinct_places xs d.1 i j (omega arith) (omega arith) e)

places_distinct : (l : List ℕ) → ((i j : ℕ) → i < length l → j < length l → get_or l i 0 ≡ get_or l j 0 → i ≡ j) → Distinct l
places_distinct [] h = tt
places_distinct (x ∷ xs) h = (
  if_not (member x xs) (λ m. each_member (λ k. x ≡ k → ⊥) xs (each_place (λ k. x ≡ k → ⊥) xs (λ j g e. let f = h 0 (suc j) (omega arith) (omega arith) e in omega (arith, f))) x m refl),
  places_distinct xs (λ i j a b e. let f = h (suc i) (suc j) (omega arith) (omega arith) e in omega (arith, f)),
)

-- The slots of a queue: 0 in each place behind the entries.
pub blank_slots : (p : List ℕ) (c : ℕ) → c ≤ length p → Slots p c (take c p) ↔ ((i : ℕ) → c ≤ i → i < length p → get_or p i 0 ≡ 0)
blank_slots p c fits = (blank, λ b. record { many = sym (length-take-le c p fits); fits = fits; same = sym (ap (λ (l : List ℕ). take c p ++ l) (sym (rest b)) ∙ take-append-drop c p) })
  where
    blank : Slots p c (take c p) → (i : ℕ) → c ≤ i → i < length p → get_or p i 0 ≡ 0
    blank s i g h =
        let e : i ≡ length (take c p) + (i - c) = omega (arith, length-take-le c p fits) in
        ap₂ (λ (l : List ℕ) (n : ℕ). get_or l n 0) s.same e
        ∙ get_or-append-add (take c p) (replicate (length p - c) 0) (i - c) 0
        ∙ get_or-replicate (length p - c) (i - c) 0 0 (omega arith)

    rest : ((i : ℕ) → c ≤ i → i < length p → get_or p i 0 ≡ 0) → drop c p ≡ replicate (length p - c) 0
    rest b =
        ext_get_or 0 (drop c p) (replicate (length p - c) 0) (length-drop c p ∙ sym (length-replicate (length p - c) 0))
        (λ i h. let g : i < length p - c = omega (arith, length-drop c p) in get_or-drop c p i 0 ∙ b (c + i) (omega arith) (omega arith) ∙ sym (get_or-replicate (length p - c) i 0 0 g))

-- The entries of queue k, c of them, by their places in the 72 bytes.
module _ (k c : ℕ) (q : List ℕ) (long : length q ≡ 72) (small : k < 3) (fits : c ≤ 24) where
  slot : (i : ℕ) → i < 24 → get_or (slots k q) i 0 ≡ slot_at (24 * k) q i
  slot i h = get_or-take 24 (drop (24 * k) q) i 0 h ∙ get_or-drop (24 * k) q i 0

  slots_long : length (slots k q) ≡ 24
  slots_long = part_long k q long small

  many : length (queue_in k c q) ≡ c
  many = length-take-le c (slots k q) (omega (arith, slots_long))

  entry : (i : ℕ) → i < c → get_or (queue_in k c q) i 0 ≡ slot_at (24 * k) q i
  entry i h = get_or-take c (slots k q) i 0 h ∙ slot i (omega arith)

  there : (i : ℕ) → i < c → member (slot_at (24 * k) q i) (queue_in k c q) ≡ true
  there i h = ap (λ (x : ℕ). member x (queue_in k c q)) (sym (entry i h)) ∙ member_at (queue_in k c q) i (omega (arith, many))

  -- what holds of every entry
  all_entries : (P : ℕ → Type 0) → ((i : ℕ) → i < c → P (slot_at (24 * k) q i)) → (x : ℕ) → member x (queue_in k c q) ≡ true → P x
  all_entries P h = each_member P (queue_in k c q) (each_place P (queue_in k c q) (λ i (g : i < length (queue_in k c q)). let l : i < c = omega (arith, many) in subst P (sym (entry i l)) (h i l)))

  -- no entry stands twice
  apart : Distinct (queue_in k c q) ↔ ((i j : ℕ) → i < c → j < c → slot_at (24 * k) q i ≡ slot_at (24 * k) q j → i ≡ j)
  apart = (
    λ d i j h g e. distinct_places (queue_in k c q) d i j (omega (arith, many)) (omega (arith, many)) (entry i h ∙ e ∙ sym (entry j g)),
    λ f. places_distinct (queue_in k c q) (λ i j (h : i < length (queue_in k c q)) (g : j < length (queue_in k c q)) e. let a : i < c = omega (arith, many) in let b : j < c = omega (arith, many) in f i j a b (sym (entry i a) ∙ e ∙ entry j b)),
  )

  -- nothing stands behind them
  blank : Slots (slots k q) c (queue_in k c q) ↔ ((i : ℕ) → c ≤ i → i < 24 → slot_at (24 * k) q i ≡ 0)
  blank =
      let both = blank_slots (slots k q) c (omega (arith, slots_long)) in (
        λ s i g h. sym (slot i h) ∙ both.0 s i g (omega (arith, slots_long)),
        λ b. both.1 (λ i g h. let l : i < 24 = omega (arith, slots_long) in slot i l ∙ b i g l),
      )

-- The same, where the slots tell that the entries fit.
slots_fit : (k c : ℕ) (q : List ℕ) → length q ≡ 72 → k < 3 → Slots (slots k q) c (queue_in k c q) → c ≤ 24
slots_fit k c q long small s = omega (arith, s.fits, part_long k q long small)

-- Queues in 72 bytes, with so many entries.
record SlotsIn (a b c : ℕ) (q : List ℕ) : Type 0 where
  long : length q ≡ 72
  rx : Slots (slots 0 q) a (queue_in 0 a q)
  tx : Slots (slots 1 q) b (queue_in 1 b q)
  completion : Slots (slots 2 q) c (queue_in 2 c q)

-- the set of packet i
abbrev at : List ℕ → ℕ → ℕ
at s i = get_or s i 0

pub sets_restated : (n : ℕ) (s : List ℕ) → n ≤ 24 → SetsFormed n (at s) ↔ (Small s × GoodPages n (map pages_of s))
sets_restated n s few = (
  λ f. let fits : Small s = λ i. let m : 2 ^ n ≤ 2 ^ 24 = pow_mono few in omega (arith, f.within i, m) in (fits, as_lists n s fits (record { within = f.within; at_most = f.at_most; once = f.once })),
  λ g. let h = as_sets n s g.0 g.1 in record { once = h.once; within = h.within; at_most = h.at_most },
)

module _ (n : ℕ) (few : n ≤ 24) (s : List ℕ) (fits : Small s) where
  -- allocated: the set is not 0
  has : (k : ℕ) → 0 < get_or s k 0 → some? (get_or (map pages_of s) k []) ≡ true
  has k h = some_at s k (fits k) h

  not_none : (k : ℕ) → some? (get_or (map pages_of s) k []) ≡ true → 0 < get_or s k 0
  not_none k e = go (get_or s k 0) refl
    where
      go : (x : ℕ) → get_or s k 0 ≡ x → 0 < get_or s k 0
      go zero z = absurd (true≢false (sym e ∙ none_at s k z))
      go (suc x) z = omega arith

  module _ (rx tx completion : ℕ) (q : List ℕ) where
    abbrev Queues : Type 0
    Queues = SlotsIn rx tx completion q × GoodQueues n (map pages_of s) (queue_in 0 rx q) (queue_in 1 tx q) (queue_in 2 completion q)

    queues_as_lists : QueuesFormed n rx tx completion (at s) q → Queues
    queues_as_lists f = (
      record {
        long = f.long;
        rx = (blank 0 rx q f.long (omega arith) f.rx_fits).1 f.rx_blank;
        tx = (blank 1 tx q f.long (omega arith) f.tx_fits).1 f.tx_blank;
        completion = (blank 2 completion q f.long (omega arith) fits24).1 f.completion_blank;
      },
      record {
        rx_allocated = in_rx (λ k. some? (get_or (map pages_of s) k []) ≡ true) (λ i h. has _ (f.rx_allocated i h));
        tx_allocated = in_tx (λ k. some? (get_or (map pages_of s) k []) ≡ true) (λ i h. has _ (f.tx_allocated i h));
        rx_distinct = (apart 0 rx q f.long (omega arith) f.rx_fits).1 f.rx_distinct;
        tx_distinct = (apart 1 tx q f.long (omega arith) f.tx_fits).1 f.tx_distinct;
        not_both = in_rx (λ k. member k (queue_in 1 tx q) ≡ false)
            (λ i h. if_not (member (slot_at 0 q i) (queue_in 1 tx q)) (λ m. in_tx (λ k. slot_at 0 q i ≡ k → ⊥) (λ j g. f.not_both i j h g) (slot_at 0 q i) m refl));
        completion_few = omega (arith, many 2 completion q f.long (omega arith) fits24, f.completion_few);
        completion_numbers = all_entries 2 completion q f.long (omega arith) fits24 (λ k. k < n) f.completion_numbers;
      },
    )
      where
        fits24 : completion ≤ 24
        fits24 = omega (arith, f.completion_few)

        in_rx : (P : ℕ → Type 0) → ((i : ℕ) → i < rx → P (slot_at 0 q i)) → (k : ℕ) → member k (queue_in 0 rx q) ≡ true → P k
        in_rx = all_entries 0 rx q f.long (omega arith) f.rx_fits

        in_tx : (P : ℕ → Type 0) → ((i : ℕ) → i < tx → P (slot_at 24 q i)) → (k : ℕ) → member k (queue_in 1 tx q) ≡ true → P k
        in_tx = all_entries 1 tx q f.long (omega arith) f.tx_fits

    queues_as_bytes : Queues → QueuesFormed n rx tx completion (at s) q
    queues_as_bytes (o, g) = record {
      long = o.long;
      rx_fits = a;
      tx_fits = b;
      rx_allocated = λ i h. not_none _ (g.rx_allocated _ (in_rx i h));
      tx_allocated = λ i h. not_none _ (g.tx_allocated _ (in_tx i h));
      rx_distinct = (apart 0 rx q o.long (omega arith) a).0 g.rx_distinct;
      tx_distinct = (apart 1 tx q o.long (omega arith) b).0 g.tx_distinct;
      not_both = λ i j h l e. true≢false (sym (in_tx j l) ∙ ap (λ (k : ℕ). member k (queue_in 1 tx q)) (sym e) ∙ g.not_both _ (in_rx i h));
      completion_few = omega (arith, many 2 completion q o.long (omega arith) c, g.completion_few);
      completion_numbers = λ i h. g.completion_numbers _ (there 2 completion q o.long (omega arith) c i h);
      rx_blank = (blank 0 rx q o.long (omega arith) a).0 o.rx;
      tx_blank = (blank 1 tx q o.long (omega arith) b).0 o.tx;
      completion_blank = (blank 2 completion q o.long (omega arith) c).0 o.completion;
    }
      where
        a : rx ≤ 24
        a = slots_fit 0 rx q o.long (omega arith) o.rx

        b : tx ≤ 24
        b = slots_fit 1 tx q o.long (omega arith) o.tx

        c : completion ≤ 24
        c = slots_fit 2 completion q o.long (omega arith) o.completion

        in_rx : (i : ℕ) → i < rx → member (slot_at 0 q i) (queue_in 0 rx q) ≡ true
        in_rx = there 0 rx q o.long (omega arith) a

        in_tx : (i : ℕ) → i < tx → member (slot_at 24 q i) (queue_in 1 tx q) ≡ true
        in_tx = there 1 tx q o.long (omega arith) b

-- The figures. A sum of 2 ^ k is the number whose bits are the entries, where each is a packet that stands there once.
module _ (low high : ℕ) (l : List ℕ) (distinct : Distinct l) where
  bits_as_set : low < 65536 → high < 65536 → ((k : ℕ) → member k l ≡ true → k < 24) → ((k : ℕ) → bit k (low + high * 65536) ≡ member k l) → Halves low high (set_of l)
  bits_as_set a b small h =
      let below = set_small 24 l distinct (member_each (λ k. k < 24) l small) in
      let same = bits_same 32 (low + high * 65536) (set_of l) (omega (arith, a, b)) (omega (arith, below)) (λ k. h k ∙ sym (set_members l distinct k)) in
      halves low high (set_of l) a same

  set_as_bits : Halves low high (set_of l) → (k : ℕ) → bit k (low + high * 65536) ≡ member k l
  set_as_bits h k = ap (bit k) (whole h) ∙ set_members l distinct k

-- Pages counted set by set are those that the packets have.
pages_counted : (s : List ℕ) → Small s → pages_in s ≡ total (map pages_of s)
unfolding total
pages_counted [] fits = refl
pages_counted (x ∷ xs) fits = omega (arith, pages_count x (fits 0), pages_counted xs (λ i. fits (suc i)))

-- An allocated packet has a set, so its number is below the part's.
small_entries : (s : List ℕ) (l : List ℕ) → length s ≤ 24 → ((k : ℕ) → member k l ≡ true → some? (get_or (map pages_of s) k []) ≡ true) → (k : ℕ) → member k l ≡ true → k < 24
small_entries s l long h k m = omega (arith, has_small (map pages_of s) k (h k m), lists_length s, long)

-- The figures of the part with the sets s, as many as it has packets.
module _ (w s q : List ℕ) (typed : (i : ℕ) → word w i < 65536) (fits : Small s) (few : length s ≤ 24) (size : size_in w ≡ length s) (pages : GoodPages (length s) (map pages_of s))
    (queues : GoodQueues (length s) (map pages_of s) (queue_in 0 (word w 6) q) (queue_in 1 (word w 8) q) (queue_in 2 (word w 9) q)) where
  free_counted : length (free_for paged (map pages_of s)) + pages_in s ≡ length s
  free_counted = omega (arith, free_total paged (length s) (map pages_of s) (record { count = lists_length s; pages = pages; laid = tt }), pages_counted s fits)

  -- the free count, and both queues' bits
  figures_as_count : FiguresFormed (length s) w s q
      → (word w 4 ≡ word_of (length s) (length (free_for paged (map pages_of s)))) × Halves (word w 28) (word w 29) (set_of (queue_in 0 (word w 6) q)) × Halves (word w 30) (word w 31) (set_of (queue_in 1 (word w 8) q))
  unfolding word_of
  figures_as_count f = (
    omega (arith, size, f.free, free_counted),
    bits_as_set _ _ _ queues.rx_distinct (typed 28) (typed 29) (small_entries s _ few queues.rx_allocated) f.in_rx,
    bits_as_set _ _ _ queues.tx_distinct (typed 30) (typed 31) (small_entries s _ few queues.tx_allocated) f.in_tx,
  )

  count_as_figures : word w 4 ≡ word_of (length s) (length (free_for paged (map pages_of s))) → Halves (word w 28) (word w 29) (set_of (queue_in 0 (word w 6) q)) → Halves (word w 30) (word w 31) (set_of (queue_in 1 (word w 8) q))
      → FiguresFormed (length s) w s q
  unfolding word_of
  count_as_figures e rx tx = record {
    free = omega (arith, e, free_counted, few);
    in_rx = set_as_bits _ _ _ queues.rx_distinct rx;
    in_tx = set_as_bits _ _ _ queues.tx_distinct tx;
  }

-- The words.
pub words_restated : (n : ℕ) (w : List ℕ) → (FixedBytes w × NumbersFormed n (word w 7) (word w 17)) ↔ (Kept w × GoodNumbers n (registers_in w).numbers)
words_restated n w = (
  λ f. (
    record { whole = f.0.whole; fixed = record { bank_high = omega (arith, f.0.bank_high, f.1.bank_small); reserved_high = f.0.reserved_high; latched = latches (word w 13) f.0.latched; link_bits = f.0.link_bits; mask_low = f.0.mask_low }; blank = f.0.blank },
    record { bank_small = f.1.bank_small; packet_small = f.1.packet_small; result_good = f.1.result_good },
  ),
  λ g. (
    record { whole = g.0.whole; bank_high = omega (arith, g.0.fixed.bank_high); reserved_high = g.0.fixed.reserved_high; latched = latched (word w 13) g.0.fixed.latched; link_bits = g.0.fixed.link_bits; mask_low = g.0.fixed.mask_low; blank = g.0.blank },
    record { bank_small = g.1.bank_small; packet_small = g.1.packet_small; result_good = g.1.result_good },
  ),
)

-- The places of no packet are empty.
rest_empty : (s : List ℕ) (n : ℕ) → length s ≡ 24 → ((i : ℕ) → n ≤ i → get_or s i 0 ≡ 0) → drop n s ≡ replicate (24 - n) 0
rest_empty s n long h =
    ext_get_or 0 (drop n s) (replicate (24 - n) 0) (length-drop n s ∙ ap (λ (m : ℕ). m - n) long ∙ sym (length-replicate (24 - n) 0))
    (λ i l. let g : i < 24 - n = omega (arith, l, length-drop n s, long) in get_or-drop n s i 0 ∙ h (n + i) (omega arith) ∙ sym (get_or-replicate (24 - n) i 0 0 g))

empty_rest : (s : List ℕ) (n : ℕ) → drop n s ≡ replicate (24 - n) 0 → (i : ℕ) → n ≤ i → get_or s i 0 ≡ 0
empty_rest s n e i h =
    let f : n + (i - n) ≡ i = omega arith in
    ap (λ (k : ℕ). get_or s k 0) (sym f) ∙ sym (get_or-drop n s (i - n) 0) ∙ ap (λ (r : List ℕ). get_or r (i - n) 0) e ∙ zeros_at (24 - n) (i - n)

-- Empty places have no pages.
none_in : (m : ℕ) → pages_in (replicate m 0) ≡ 0
unfolding ones
none_in zero = refl
none_in (suc m) = let z : ones 0 ≡ 0 = refl in omega (arith, z, none_in m)

padded_pages : (s : List ℕ) (m : ℕ) → pages_in (s ++ replicate m 0) ≡ pages_in s
padded_pages [] m = none_in m
padded_pages (x ∷ s) m = ap (λ (y : ℕ). ones x + y) (padded_pages s m)

-- So the record is as it says here exactly where the public entries take it for one of a well-formed chip: of words that are u16 numbers.
pub restated : (w s q : List ℕ) → ((i : ℕ) → word w i < 65536) → RecordFormed w s q ↔ Holds w s q
restated w s q typed = (formed_holds, holds_formed)
  where
    formed_holds : RecordFormed w s q → Holds w s q
    formed_holds f =
        let n = size_in w in
        let u = of_part w s in
        let rest = rest_empty s n f.places f.empty in
        let many : length u ≡ n = length-take-le n s (omega (arith, f.places, part_few f.part)) in
        let cut : s ≡ u ++ replicate (24 - n) 0 = sym (take-append-drop n s) ∙ ap (λ (r : List ℕ). u ++ r) rest in
        let same : at s ≡ at u = λ j i. (ap (λ (l : List ℕ). get_or l i 0) cut ∙ padded_at u (24 - n) i) j in
        let few : length u ≤ 24 = omega (arith, many, part_few f.part) in
        let onPart : (P : ℕ → Type 0) → P n → P (length u) = λ P. subst P (sym many) in
        let words = (words_restated n w).0 (f.fixed, f.numbers) in
        let pages = (sets_restated n u (part_few f.part)).0 (subst (SetsFormed n) same f.sets) in
        let queues = queues_as_lists n (part_few f.part) u pages.0 (word w 6) (word w 8) (word w 9) q (subst (λ (a : ℕ → ℕ). QueuesFormed n (word w 6) (word w 8) (word w 9) a q) same f.queues) in
        let good = onPart (λ m. GoodPages m (map pages_of u)) pages.1 in
        let queued = onPart (λ m. GoodQueues m (map pages_of u) (queue_in 0 (word w 6) q) (queue_in 1 (word w 8) q) (queue_in 2 (word w 9) q)) queues.1 in
        let kept : FiguresFormed n w u q = record { free = ap (λ (x : ℕ). word w 4 / 256 + x) (sym (ap pages_in cut ∙ padded_pages u (24 - n))) ∙ f.figures.free; in_rx = f.figures.in_rx; in_tx = f.figures.in_tx } in
        let figures = figures_as_count w u q typed pages.0 few (sym many) good queued (onPart (λ m. FiguresFormed m w u q) kept) in
        record {
          ready = record {
            sound = record {
              kept = words.0;
              queues = record { long = queues.0.long; rx = queues.0.rx; tx = queues.0.tx; completion = queues.0.completion; in_rx = figures.1; in_tx = figures.2 };
              sets = record { part = onPart IsPart f.part; free = figures.0; small = pages.0 };
            };
            well = record {
              count = lists_length u;
              pages = good;
              laid = tt;
              numbers = onPart (λ m. GoodNumbers m (registers_in w).numbers) words.1;
              queues = queued;
              request = (request_restated w (length u) _ few figures.0).0 f.request;
            };
          };
          rest = rest;
        }

    holds_formed : Holds w s q → RecordFormed w s q
    holds_formed h =
        let n = size_in w in
        let u = of_part w s in
        let r = h.ready in
        let sets = r.sound.sets in
        let many = places_told h in
        let few : length u ≤ 24 = part_few sets.part in
        let same : at u ≡ at s = λ j i. sym (ap (λ (l : List ℕ). get_or l i 0) (record_cut h) ∙ padded_at u (24 - n) i) j in
        let onPart : (P : ℕ → Type 0) → P (length u) → P n = λ P. subst P many in
        let words = (words_restated (length u) w).1 (r.sound.kept, r.well.numbers) in
        let bytes : SlotsIn (word w 6) (word w 8) (word w 9) q = record { long = r.sound.queues.long; rx = r.sound.queues.rx; tx = r.sound.queues.tx; completion = r.sound.queues.completion } in
        let figures = count_as_figures w u q typed sets.small few (sym many) r.well.pages r.well.queues sets.free r.sound.queues.in_rx r.sound.queues.in_tx in
        record {
          part = onPart IsPart sets.part;
          fixed = words.0;
          numbers = onPart (λ m. NumbersFormed m (word w 7) (word w 17)) words.1;
          places = record_long h;
          empty = empty_rest s n h.rest;
          sets = onPart (λ m. SetsFormed m (at s)) (subst (SetsFormed (length u)) same ((sets_restated (length u) u few).1 (sets.small, r.well.pages)));
          queues = onPart (λ m. QueuesFormed m (word w 6) (word w 8) (word w 9) (at s) q)
              (subst (λ (a : ℕ → ℕ). QueuesFormed (length u) (word w 6) (word w 8) (word w 9) a q) same (queues_as_bytes (length u) few u sets.small (word w 6) (word w 8) (word w 9) q (bytes, r.well.queues)));
          figures = onPart (λ m. FiguresFormed m w s q) (record { free = ap (λ (x : ℕ). word w 4 / 256 + x) (ap pages_in (record_cut h) ∙ padded_pages u (24 - n)) ∙ figures.free; in_rx = figures.in_rx; in_tx = figures.in_tx });
          request = (request_restated w (length u) _ few sets.free).1 r.well.request;
        }
