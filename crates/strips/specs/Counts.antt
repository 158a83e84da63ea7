-- What refusal 16 asks of the counts, in numbers; and that it is what the rules ask of the page lists which the counts say.
use Rattle.std.specs.Prelude.{◌≡◌, refl, true, ◌↔◌, List, [], ◌∷◌, map, ℕ, zero, suc, ◌+◌, ◌*◌, ◌≤◌, ◌<◌, length, get_or}
use Rattle.std.proofs.Common.{ap, sym, true≢false, ◌∙◌, arith}
use Rattle.std.proofs.Math.Decide.{dec_le}
use Rattle.std.proofs.Math.ListN.{get_or-eq_default}
use Rattle.rules.specs.Lists.{member, some?, up_from, first_empty}
use Rattle.rules.specs.Chip.{strips, free_for}
use Rattle.lists.specs.UpFrom.{member_up, ascending_up}
use Rattle.wellformed.specs.Layouts.{GoodLists, free_total}
use Rattle.sets.specs.Views.{pages_of}
use Rattle.state.specs.View.{strips_from}
use Rattle.state.specs.Pages.{says_none, sum, strips_length, strip_at, strip_count, strips_total}
use Rattle.state.specs.Promise.{Small}

-- "how many are free and how many each packet has, 24 in sum", of the other part n: so many are free, and the packets have the counts s, each at most its own eight
pub record GoodCounts (n free : ℕ) (s : List ℕ) : Type 0 where
  pub few : (k : ℕ) → get_or s k 0 ≤ 8
  pub all : free + sum s ≡ n

-- Counts that are added one after another to the free pages.
pub counts_end : (n m : ℕ) → GoodCounts n m [] ↔ (m ≡ n)
counts_end n m = (λ g. omega (arith, g.all), λ e. record { few = λ k. omega arith; all = omega (arith, e) })

pub counts_on : (n free m : ℕ) (s : List ℕ) → m ≤ 8 → GoodCounts n free (m ∷ s) ↔ GoodCounts n (free + m) s
counts_on n free m s h = (
  λ g. record { few = λ k. g.few (suc k); all = omega (arith, g.all) },
  λ g. record { few = first g; all = omega (arith, g.all) },
)
  where
    first : GoodCounts n (free + m) s → (k : ℕ) → get_or (m ∷ s) k 0 ≤ 8
    first g zero = h
    first g (suc k) = g.few k

-- The page lists of the counts.
module _ (s : List ℕ) where
  abbrev ls : List (List ℕ)
  ls = strips_from 0 s

  -- a packet's page is in its own strip
  own_page : (k p : ℕ) → member p (get_or ls k []) ≡ true → (8 * k ≤ p) × (p < 8 * k + get_or s k 0)
  own_page k p m = member_up (8 * k) (get_or s k 0) p (sym (ap (member p) (strip_at s k)) ∙ m)

  -- a packet that has pages is one of theirs
  number : (k : ℕ) → 0 < get_or s k 0 → k < length s
  number k h = go (dec_le (length s) k)
    where
      go : Dec (length s ≤ k) → k < length s
      go (yes past) = absurd (omega (arith, h, get_or-eq_default s 0 past))
      go (no d) = omega arith

  pub counts_lists : {free : ℕ} → GoodCounts (length s) free s → GoodLists strips (length s) ls
  counts_lists g = record {
    count = strips_length 0 s;
    pages = record {
      once = λ i j p a b. let x = own_page i p a in let y = own_page j p b in omega (arith, x.0, x.1, y.0, y.1, g.few i, g.few j);
      ascend = λ i. rw (strip_at s i) (ascending_up (8 * i) (get_or s i 0));
      within = λ i p m. let x = own_page i p m in omega (arith, x.0, x.1, g.few i, number i (omega (arith, x.0, x.1)));
      at_most = λ i. omega (arith, strip_count s i, g.few i);
    };
    laid = record {
      own = λ i. strip_at s i ∙ ap (up_from (8 * i)) (sym (strip_count s i));
      sum = omega (arith, strips_total 0 s, g.all);
    };
  }

  -- as many are free as the counts leave of all
  left : GoodLists strips (length s) ls → length (free_for strips ls) + sum s ≡ length s
  left good = omega (arith, free_total strips (length s) ls good, strips_total 0 s)

  pub counts_free : {free : ℕ} → GoodCounts (length s) free s → length (free_for strips ls) ≡ free
  counts_free g = omega (arith, left (counts_lists g), g.all)

  pub lists_counts : GoodLists strips (length s) ls → GoodCounts (length s) (length (free_for strips ls)) s
  lists_counts good = record { few = λ k. omega (arith, strip_count s k, good.pages.at_most k); all = left good }

-- Counts whose page lists are good are small.
pub counts_small : (s : List ℕ) {n : ℕ} {ls : List (List ℕ)} → strips_from 0 s ≡ ls → GoodLists strips n ls → Small s
counts_small s e good i = let few : length (get_or (strips_from 0 s) i []) ≤ 8 = rw e (good.pages.at_most i) in omega (arith, few, strip_count s i)

-- Where the same lists have entries, the same is the first that has none.
first_same : (ls ms : List (List ℕ)) → ((k : ℕ) → some? (get_or ls k []) ≡ some? (get_or ms k [])) → first_empty ls ≡ first_empty ms
unfolding first_empty some?
first_same [] [] h = refl
first_same [] ([] ∷ ms) h = refl
first_same [] ((y ∷ ys) ∷ ms) h = absurd (true≢false (sym (h 0)))
first_same ([] ∷ ls) [] h = refl
first_same ((x ∷ xs) ∷ ls) [] h = absurd (true≢false (h 0))
first_same ([] ∷ ls) ([] ∷ ms) h = refl
first_same ([] ∷ ls) ((y ∷ ys) ∷ ms) h = absurd (true≢false (sym (h 0)))
first_same ((x ∷ xs) ∷ ls) ([] ∷ ms) h = absurd (true≢false (h 0))
first_same ((x ∷ xs) ∷ ls) ((y ∷ ys) ∷ ms) h = ap suc (first_same ls ms (λ k. h (suc k)))

-- So counts taken for page sets have the lowest unallocated packet that they have as counts.
pub lowest_counted : (s : List ℕ) → Small s → first_empty (map pages_of s) ≡ first_empty (strips_from 0 s)
lowest_counted s small = first_same (map pages_of s) (strips_from 0 s) (says_none s small)

-- It is a packet's, or as many as there are packets.
pub lowest_few : (ls : List (List ℕ)) → first_empty ls ≤ length ls
unfolding first_empty
lowest_few [] = omega arith
lowest_few ([] ∷ ls) = omega arith
lowest_few ((x ∷ xs) ∷ ls) = omega (arith, lowest_few ls)
