-- Refusal 16 by its tests: what is asked of a record with 24 places, for the part with n packets. Of the part that it names all of it is so exactly where the record holds (`holds_asked`, `asked_holds`).
use Rattle.std.specs.Prelude.{◌≡◌, Bool, List, map, ℕ, ◌-◌, length, drop, replicate}
use Rattle.std.proofs.Common.{ap, sym, subst, ◌∙◌, arith, length-take-le}
use Rattle.rules.specs.Bits.{word_of}
use Rattle.rules.specs.Lists.{free_below}
use Rattle.rules.specs.Parts.{IsPart}
use Rattle.rules.specs.WellFormed.{GoodPages, GoodQueues, GoodNumbers}
use Rattle.lists.specs.Facts.{Decides, agrees}
use Rattle.wellformed.specs.Parts.{part_few}
use Rattle.sets.specs.Views.{pages_of}
use Rattle.sets.specs.Lists.{lists_length}
use Rattle.state.specs.View.{word, registers_in, figures, queue_in, Kept}
use Rattle.state.specs.Pages.{free_sets, sets_free}
use Rattle.state.specs.Promise.{Small, QueuesIn}
use Rattle.state.specs.Entry.{size_in, of_part, Holds}
use Rattle.state.specs.Places.{places_told, names_part}
use Rattle.state.specs.WellFormed.{RequestFormed}
use Rattle.state.specs.Restated.{request_restated}
use Rattle.guard.specs.Parts.{pages_same, queues_same, part_at, part_pages, part_free}

pub record Asked (n : ℕ) (w s q : List ℕ) : Type 0 where
  pub part : IsPart n
  pub words : Kept w × GoodNumbers n (registers_in w).numbers
  pub rest : drop n s ≡ replicate (24 - n) 0
  pub pages : GoodPages n (map pages_of s)
  pub free : word w 4 ≡ word_of n (length (free_below n (map pages_of s)))
  pub request : RequestFormed (word w 4) (word w 17) (word w 23)
  pub queues : QueuesIn (figures w) q × GoodQueues n (map pages_of s) (queue_in 0 (word w 6) q) (queue_in 1 (word w 8) q) (queue_in 2 (word w 9) q)

module _ {w s q : List ℕ} where
  pub holds_asked : Holds w s q → Asked (size_in w) w s q
  holds_asked h =
      let n = size_in w in
      let u = of_part w s in
      let r = h.ready in
      let onPart : (P : ℕ → Type 0) → P (length u) → P n = λ P. subst P (places_told h) in
      record {
        part = names_part h;
        words = (r.sound.kept, onPart (λ m. GoodNumbers m (registers_in w).numbers) r.well.numbers);
        rest = h.rest;
        pages = pages_same (λ i. sym (part_pages s n h.rest i)) (onPart (λ m. GoodPages m (map pages_of u)) r.well.pages);
        free = onPart (λ m. word w 4 ≡ word_of m (length (free_below m (map pages_of u)))) (sets_free r.sound.sets) ∙ ap (λ (l : List ℕ). word_of n (length l)) (sym (part_free s n h.rest n));
        request = (request_restated w (length u) _ (part_few r.sound.sets.part) r.sound.sets.free).1 r.well.request;
        queues = (r.sound.queues, queues_same (λ i. sym (part_pages s n h.rest i)) (onPart (λ m. GoodQueues m (map pages_of u) (queue_in 0 (word w 6) q) (queue_in 1 (word w 8) q) (queue_in 2 (word w 9) q)) r.well.queues));
      }

  pub asked_holds : length s ≡ 24 → Small s → Asked (size_in w) w s q → Holds w s q
  asked_holds long small a =
      let n = size_in w in
      let u = of_part w s in
      let many : length u ≡ n = length-take-le n s (omega (arith, long, part_few a.part)) in
      let onPart : (P : ℕ → Type 0) → P n → P (length u) = λ P. subst P (sym many) in
      let same = part_pages s n a.rest in
      let counted = onPart (λ m. word w 4 ≡ word_of m (length (free_below m (map pages_of u)))) (a.free ∙ ap (λ (l : List ℕ). word_of n (length l)) (part_free s n a.rest n)) in
      let free = counted ∙ ap (λ (l : List ℕ). word_of (length u) (length l)) (sym (free_sets u)) in
      let part = onPart IsPart a.part in
      record {
        ready = record {
          sound = record { kept = a.words.0; queues = a.queues.0; sets = record { part = part; free = free; small = λ i. omega (arith, small i, part_at s n a.rest i) } };
          well = record {
            count = lists_length u;
            pages = onPart (λ m. GoodPages m (map pages_of u)) (pages_same same a.pages);
            laid = tt;
            numbers = onPart (λ m. GoodNumbers m (registers_in w).numbers) a.words.1;
            queues = onPart (λ m. GoodQueues m (map pages_of u) (queue_in 0 (word w 6) q) (queue_in 1 (word w 8) q) (queue_in 2 (word w 9) q)) (queues_same same a.queues.1);
            request = (request_restated w (length u) _ (part_few part) free).0 a.request;
          };
        };
        rest = a.rest;
      }

-- So what decides all that is asked on the part that a record names decides whether it holds.
module _ {b : Bool} {n : ℕ} {w s q : List ℕ} (named : n ≡ size_in w) (long : length s ≡ 24) (small : Small s) where
  pub asked_decides : Decides b (Asked n w s q) → Decides b (Holds w s q)
  asked_decides d =
      agrees d
      (λ a. asked_holds long small (subst (λ (m : ℕ). Asked m w s q) named a))
      (λ h. subst (λ (m : ℕ). Asked m w s q) (sym named) (holds_asked h))
