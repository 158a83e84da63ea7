-- One pass over the entries of RX, and on over those of TX: what it decides of both queues. The packets seen are bits of a number, so an entry is new
-- where its bit is clear; after RX the bits are RX's members (`gathered_bit`), and what TX has beside them is in TX alone and once.
use Rattle.std.specs.Prelude.{◌≡◌, refl, Bool, true, false, not, ◌&&◌, ◌||◌, List, [], ◌∷◌, map, ℕ, zero, suc, ◌+◌, ◌^◌, ◌≤◌, ◌<◌, eqb, ltb, length, drop, get_or}
use Rattle.std.proofs.Math.Path.{ap}
use Rattle.std.proofs.Common.{ap₂, sym, ◌∙◌, true≢false, ⊎_elim, add-one, arith, eqb-true, eq-eqb, drop-cons}
use Rattle.std.specs.Int.Bits.{bit_or}
use Rattle.std.proofs.lemmas.Nat.{or_comm, or_disjoint, or_lt}
use Rattle.std.proofs.Math.Pow.{pow-lt}
use Rattle.rules.specs.Bits.{bit}
use Rattle.rules.specs.Lists.{member, some?}
use Rattle.rules.specs.Tests.{all_below}
use Rattle.rules.specs.WellFormed.{Distinct, GoodQueues}
use Rattle.lists.specs.Facts.{Decides, agrees, always, is_true, is_false, ◌and◌, if_not, or_left, or_right, nobody, member_cases, member_first, member_later}
use Rattle.lists.specs.Each.{members}
use Rattle.wellformed.specs.Fit.{below_decides}
use Rattle.sets.specs.Bits.{bit_or_lem, bit_zero}
use Rattle.sets.specs.Good.{and_none}
use Rattle.sets.specs.Members.{set_of, bit_power}
use Rattle.sets.specs.Views.{pages_of}
use Rattle.sets.specs.Lists.{lists_length}
use Rattle.sets.specs.Pages.{or_false, or_assoc}

-- is each entry allocated, and neither among those seen nor earlier in the list
unfoldable pub passes : List (List ℕ) → ℕ → List ℕ → Bool
passes ls seen [] = true
passes ls seen (x ∷ xs) = some? (get_or ls x []) && not (bit x seen) && passes ls (bit_or seen (2 ^ x)) xs

-- those seen, with the entries
unfoldable pub gathered : ℕ → List ℕ → ℕ
gathered seen [] = seen
gathered seen (x ∷ xs) = gathered (bit_or seen (2 ^ x)) xs

-- Packet x more is seen.
bit_joined : (k x seen : ℕ) → bit k (bit_or seen (2 ^ x)) ≡ bit k seen || eqb k x
bit_joined k x seen = bit_or_lem k seen (2 ^ x) ∙ ap (◌||◌ (bit k seen)) (bit_power k x)

gathered_bit : (k seen : ℕ) (l : List ℕ) → bit k (gathered seen l) ≡ bit k seen || member k l
unfolding gathered member
gathered_bit k seen [] = sym (or_false (bit k seen))
gathered_bit k seen (x ∷ xs) =
    gathered_bit k (bit_or seen (2 ^ x)) xs ∙ ap (λ (b : Bool). b || member k xs) (bit_joined k x seen) ∙ or_assoc (bit k seen) (eqb k x) (member k xs)

-- What the pass asks of a queue.
record Fresh (ls : List (List ℕ)) (seen : ℕ) (l : List ℕ) : Type 0 where
  allocated : (k : ℕ) → member k l ≡ true → some? (get_or ls k []) ≡ true
  unseen : (k : ℕ) → member k l ≡ true → bit k seen ≡ false
  distinct : Distinct l

module _ (ls : List (List ℕ)) (seen x : ℕ) (xs : List ℕ) where
  fresh_more : some? (get_or ls x []) ≡ true → bit x seen ≡ false → Fresh ls (bit_or seen (2 ^ x)) xs → Fresh ls seen (x ∷ xs)
  fresh_more a b f = record {
    allocated = λ k m. ⊎_elim (λ e. ap (λ (y : ℕ). some? (get_or ls y [])) e ∙ a) (f.allocated k) (member_cases k x xs m);
    unseen = λ k m. ⊎_elim (λ e. ap (λ (y : ℕ). bit y seen) e ∙ b) (λ n. or_left (bit k seen) (eqb k x) (later k n)) (member_cases k x xs m);
    distinct = (if_not (member x xs) (λ m. true≢false (sym (eq-eqb x x refl) ∙ or_right (bit x seen) (eqb x x) (later x m))), f.distinct);
  }
    where
      later : (k : ℕ) → member k xs ≡ true → bit k seen || eqb k x ≡ false
      later k m = sym (bit_joined k x seen) ∙ f.unseen k m

  fresh_rest : Fresh ls seen (x ∷ xs) → Fresh ls (bit_or seen (2 ^ x)) xs
  fresh_rest f = record {
    allocated = λ k m. f.allocated k (member_later k x xs m);
    unseen = λ k m. bit_joined k x seen
        ∙ ap₂ ◌||◌ (f.unseen k (member_later k x xs m)) (if_not (eqb k x) (λ e. true≢false (sym m ∙ ap (λ (y : ℕ). member y xs) (eqb-true k x e) ∙ f.distinct.0)));
    distinct = f.distinct.1;
  }

pass_decides : (ls : List (List ℕ)) (seen : ℕ) (l : List ℕ) → Decides (passes ls seen l) (Fresh ls seen l)
unfolding passes
pass_decides ls seen [] = always (record { allocated = λ k m. nobody k m; unseen = λ k m. nobody k m; distinct = tt })
pass_decides ls seen (x ∷ xs) =
    agrees (is_true (some? (get_or ls x [])) and is_false (bit x seen) and pass_decides ls (bit_or seen (2 ^ x)) xs)
    (λ w. fresh_more ls seen x xs w.0.0 w.0.1 w.1)
    (λ f. ((f.allocated x (member_first x xs), f.unseen x (member_first x xs)), fresh_rest ls seen x xs f))

-- Those seen, as a sum: a packet that was not seen has no bit in common with them.
pub joined_sum : (seen x : ℕ) → bit x seen ≡ false → bit_or seen (2 ^ x) ≡ seen + 2 ^ x
joined_sum seen x new =
    or_comm seen (2 ^ x) ∙ or_disjoint (2 ^ x) seen (and_none (suc x) (2 ^ x) seen (pow-lt (omega arith)) (λ k b. ap (λ (y : ℕ). bit y seen) (eqb-true k x (sym (bit_power k x) ∙ b)) ∙ new)) ∙ omega arith

-- They fit, as each does.
pub joined_fits : (seen x : ℕ) → bit x seen ≡ false → seen < 2 ^ 32 → x < 32 → seen + 2 ^ x < 2 ^ 32
joined_fits seen x new few h = omega (arith, joined_sum seen x new, or_lt 32 seen (2 ^ x) few (pow-lt h))

pub gathered_set : (ls : List (List ℕ)) (seen : ℕ) (l : List ℕ) → passes ls seen l ≡ true → gathered seen l ≡ seen + set_of l
unfolding gathered set_of
gathered_set ls seen [] p = omega arith
gathered_set ls seen (x ∷ xs) p =
    let f = (pass_decides ls seen (x ∷ xs)).sound p in
    let rest = (pass_decides ls (bit_or seen (2 ^ x)) xs).complete (fresh_rest ls seen x xs f) in
    omega (arith, gathered_set ls (bit_or seen (2 ^ x)) xs rest, joined_sum seen x (f.unseen x (member_first x xs)))

-- So of RX and then of TX, beside completion, on the part with n packets.
module _ (n : ℕ) (ls : List (List ℕ)) (rx tx completion : List ℕ) where
  pub rx_passes : GoodQueues n ls rx tx completion → passes ls 0 rx ≡ true
  rx_passes g = (pass_decides ls 0 rx).complete (record { allocated = g.rx_allocated; unseen = λ k m. bit_zero k; distinct = g.rx_distinct })

  seen_rx_lem : (k : ℕ) → bit k (gathered 0 rx) ≡ member k rx
  seen_rx_lem k = gathered_bit k 0 rx ∙ ap (λ (b : Bool). b || member k rx) (bit_zero k)

  pub tx_passes : GoodQueues n ls rx tx completion → passes ls (gathered 0 rx) tx ≡ true
  tx_passes g =
      (pass_decides ls (gathered 0 rx) tx).complete
      (record { allocated = g.tx_allocated; unseen = λ k m. seen_rx_lem k ∙ if_not (member k rx) (λ r. true≢false (sym m ∙ g.not_both k r)); distinct = g.tx_distinct })

  pub entries_good : passes ls 0 rx ≡ true → passes ls (gathered 0 rx) tx ≡ true → all_below n completion ≡ true → length completion ≤ n → GoodQueues n ls rx tx completion
  entries_good a b below few =
      let r = (pass_decides ls 0 rx).sound a in
      let t = (pass_decides ls (gathered 0 rx) tx).sound b in
      record {
        rx_allocated = r.allocated;
        tx_allocated = t.allocated;
        rx_distinct = r.distinct;
        tx_distinct = t.distinct;
        not_both = λ k m. if_not (member k tx) (λ x. true≢false (sym m ∙ sym (seen_rx_lem k) ∙ t.unseen k x));
        completion_few = few;
        completion_numbers = (members (λ k. k < n) completion (below_decides n completion)).sound below;
      }

-- An allocated packet has one of the page lists.
pub some_below : (ls : List (List ℕ)) (k : ℕ) → some? (get_or ls k []) ≡ true → k < length ls
unfolding some?
some_below [] k e = absurd (true≢false (sym e))
some_below (l ∷ ls) zero e = omega arith
some_below (l ∷ ls) (suc k) e = omega (arith, some_below ls k e)

-- So it is one of 24, where there are so many page sets.
pub allocated_below : (s : List ℕ) (k : ℕ) → some? (get_or (map pages_of s) k []) ≡ true → k < length s
allocated_below s k e = omega (arith, some_below (map pages_of s) k e, lists_length s)

-- Going down a list, from an entry to those behind it.
module _ (l : List ℕ) (i : ℕ) (h : i < length l) where
  entry_left : drop i l ≡ get_or l i 0 ∷ drop (i + 1) l
  entry_left = drop-cons l i 0 h ∙ ap (λ (n : ℕ). get_or l i 0 ∷ drop n l) (sym (add-one i))

  pub below_here : (n : ℕ) → all_below n (drop i l) ≡ ltb (get_or l i 0) n && all_below n (drop (i + 1) l)
  unfolding all_below
  below_here n = ap (all_below n) entry_left

  pub pass_here : (ls : List (List ℕ)) (seen : ℕ)
      → passes ls seen (drop i l) ≡ some? (get_or ls (get_or l i 0) []) && not (bit (get_or l i 0) seen) && passes ls (bit_or seen (2 ^ get_or l i 0)) (drop (i + 1) l)
  unfolding passes
  pass_here ls seen = ap (passes ls seen) entry_left

  pub gather_here : (seen : ℕ) → gathered seen (drop i l) ≡ gathered (bit_or seen (2 ^ get_or l i 0)) (drop (i + 1) l)
  unfolding gathered
  gather_here seen = ap (gathered seen) entry_left
