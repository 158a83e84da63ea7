-- Refusal 16 by its tests: what a record with 24 counts is asked on the part with n packets. A record that names n is asked all of it exactly where it holds (`asked_holds`, `holds_asked`).
use Rattle.std.specs.Prelude.{◌≡◌, refl, Bool, List, [], ◌∷◌, ◌++◌, map, ℕ, zero, suc, ◌+◌, ◌-◌, ◌*◌, ◌/◌, length, take, drop, get_or, replicate}
use Rattle.std.proofs.Common.{ap, sym, subst, ◌∙◌, arith, take-append-drop, length-take-le}
use Rattle.rules.specs.Bits.{word_of}
use Rattle.rules.specs.Lists.{some?, up_from}
use Rattle.rules.specs.Parts.{IsPart}
use Rattle.rules.specs.Chip.{strips, free_for}
use Rattle.rules.specs.WellFormed.{GoodQueues, GoodNumbers}
use Rattle.lists.specs.Facts.{Decides, agrees}
use Rattle.wellformed.specs.Parts.{part_few}
use Rattle.wellformed.specs.Layouts.{GoodLists}
use Rattle.sets.specs.Views.{pages_of}
use Rattle.state.specs.View.{word, registers_in, figures, queue_in, strips_from, Kept}
use Rattle.state.specs.Pages.{sum, strip_at, says_none}
use Rattle.state.specs.Promise.{Small, QueuesIn}
use Rattle.state.specs.Entry.{size_in, of_part, HoldsOf}
use Rattle.state.specs.Places.{places_told, names_part}
use Rattle.state.specs.WellFormed.{RequestFormed}
use Rattle.state.specs.Restated.{request_restated}
use Rattle.pages.specs.Pages.{free_told}
use Rattle.guard.specs.Parts.{queues_alike, part_at}
use Rattle.strips.specs.Counts.{GoodCounts, counts_lists, counts_free, lists_counts}

pub record Asked (n : ℕ) (w s q : List ℕ) : Type 0 where
  pub part : IsPart n
  pub words : Kept w × GoodNumbers n (registers_in w).numbers
  pub rest : drop n s ≡ replicate (24 - n) 0
  pub counts : GoodCounts n (word w 4 / 256) s
  pub request : RequestFormed (word w 4) (word w 17) (word w 23)
  pub queues : QueuesIn (figures w) q × GoodQueues n (map pages_of s) (queue_in 0 (word w 6) q) (queue_in 1 (word w 8) q) (queue_in 2 (word w 9) q)

-- Empty places have no pages.
none_in : (m : ℕ) → sum (replicate m 0) ≡ 0
none_in zero = refl
none_in (suc m) = omega (arith, none_in m)

padded_sum : (s : List ℕ) (m : ℕ) → sum (s ++ replicate m 0) ≡ sum s
padded_sum [] m = none_in m
padded_sum (x ∷ s) m = ap (λ (y : ℕ). x + y) (padded_sum s m)

-- What the record's counts say, the part's say too, where the places from n on are empty.
module _ (s : List ℕ) (n : ℕ) (rest : drop n s ≡ replicate (24 - n) 0) where
  part_sum : sum s ≡ sum (take n s)
  part_sum = ap sum (sym (take-append-drop n s) ∙ ap (λ (r : List ℕ). take n s ++ r) rest) ∙ padded_sum (take n s) (24 - n)

  counts_cut : {m free : ℕ} → GoodCounts m free s → GoodCounts m free (take n s)
  counts_cut g = record { few = λ k. omega (arith, g.few k, part_at s n rest k); all = omega (arith, g.all, part_sum) }

  counts_placed : {m free : ℕ} → GoodCounts m free (take n s) → GoodCounts m free s
  counts_placed g = record { few = λ k. omega (arith, g.few k, part_at s n rest k); all = omega (arith, g.all, part_sum) }

  -- Taken for page sets the record's counts say that a packet has pages where the part's strips do.
  says_part : Small s → (k : ℕ) → some? (get_or (map pages_of s) k []) ≡ some? (get_or (strips_from 0 (take n s)) k [])
  says_part small k = says_none s small k ∙ ap some? (strip_at s k ∙ ap (up_from (8 * k)) (part_at s n rest k) ∙ sym (strip_at (take n s) k))

module _ (w s q : List ℕ) (small : Small s) where
  abbrev n : ℕ
  n = size_in w

  abbrev u : List ℕ
  u = of_part w s

  abbrev Queued : ℕ → List (List ℕ) → Type 0
  Queued m ls = GoodQueues m ls (queue_in 0 (word w 6) q) (queue_in 1 (word w 8) q) (queue_in 2 (word w 9) q)

  pub holds_asked : HoldsOf strips w s q → Asked n w s q
  holds_asked h =
      let r = h.ready in
      let onPart : (P : ℕ → Type 0) → P (length u) → P n = λ P. subst P (places_told h) in
      let lists : GoodLists strips (length u) (strips_from 0 u) = record { count = r.well.count; pages = r.well.pages; laid = r.well.laid } in
      let counts = subst (λ (m : ℕ). GoodCounts (length u) m u) (sym (free_told w u r.sound.sets)) (lists_counts u lists) in
      record {
        part = names_part h;
        words = (r.sound.kept, onPart (λ m. GoodNumbers m (registers_in w).numbers) r.well.numbers);
        rest = h.rest;
        counts = counts_placed s n h.rest (onPart (λ m. GoodCounts m (word w 4 / 256) u) counts);
        request = (request_restated w (length u) _ (part_few r.sound.sets.part) r.sound.sets.free).1 r.well.request;
        queues = (r.sound.queues, queues_alike (λ k. sym (says_part s n h.rest small k)) (onPart (λ m. Queued m (strips_from 0 u)) r.well.queues));
      }

  -- MIR by its bytes
  mir : length u ≡ n → length (free_for strips (strips_from 0 u)) ≡ word w 4 / 256 → word w 4 ≡ word_of (length u) (length (free_for strips (strips_from 0 u)))
  unfolding word_of
  mir e f = omega (arith, e, f)

  pub asked_holds : length s ≡ 24 → Asked n w s q → HoldsOf strips w s q
  asked_holds long a =
      let many : length u ≡ n = length-take-le n s (omega (arith, long, part_few a.part)) in
      let onPart : (P : ℕ → Type 0) → P n → P (length u) = λ P. subst P (sym many) in
      let counts = onPart (λ m. GoodCounts m (word w 4 / 256) u) (counts_cut s n a.rest a.counts) in
      let lists = counts_lists u counts in
      let free = mir many (counts_free u counts) in
      let part = onPart IsPart a.part in
      record {
        ready = record {
          sound = record { kept = a.words.0; queues = a.queues.0; sets = record { part = part; free = free; small = λ i. omega (arith, small i, part_at s n a.rest i) } };
          well = record {
            count = lists.count;
            pages = lists.pages;
            laid = lists.laid;
            numbers = onPart (λ m. GoodNumbers m (registers_in w).numbers) a.words.1;
            queues = onPart (λ m. Queued m (strips_from 0 u)) (queues_alike (says_part s n a.rest small) a.queues.1);
            request = (request_restated w (length u) _ (part_few part) free).0 a.request;
          };
        };
        rest = a.rest;
      }

-- So what decides all that is asked on the part that a record names decides whether it holds.
module _ {b : Bool} {n : ℕ} {w s q : List ℕ} (named : n ≡ size_in w) (long : length s ≡ 24) (small : Small s) where
  pub asked_decides : Decides b (Asked n w s q) → Decides b (HoldsOf strips w s q)
  asked_decides d =
      agrees d
      (λ a. asked_holds w s q small long (subst (λ (m : ℕ). Asked m w s q) named a))
      (λ h. subst (λ (m : ℕ). Asked m w s q) (sym named) (holds_asked w s q small h))
