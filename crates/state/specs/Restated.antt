-- The restated definition says of the record's numbers what document 01 says of the lists: `RecordFormed` holds exactly where `Holds` does. By its parts: a set and its
-- page list (`sets_restated`), a queue's bytes and its entries (`queues_as_lists`, `queues_as_bytes`), the words (`words_restated`).
use Rattle.std.specs.Prelude.{◌≡◌, refl, true, false, ◌⊎◌, ◌↔◌, List, [], ◌∷◌, ◌++◌, map, ℕ, zero, suc, ◌+◌, ◌-◌, ◌*◌, ◌/◌, ◌%◌, ◌^◌, ◌≤◌, ◌<◌, eqb, length, take, drop, get_or, replicate}
use Rattle.std.proofs.Common.{ap, ap₂, sym, ◌∙◌, subst, true≢false, inl, inr, ⊎_elim, arith, mod-lt, div-one, pow-suc, eqb-true, eq-eqb, length-drop, take-append-drop, pow_mono, shr-shr, length-take-le, get_or-take, get_or-drop, get_or-append-add, ext_get_or}
use Rattle.std.proofs.Math.Nat.{div-eq_of_lt}
use Rattle.std.specs.Int.Count.{ones}
use Rattle.std.proofs.lemmas.List.{length-replicate, get_or-replicate}
use Rattle.rules.specs.Bits.{bit, flag, word_of}
use Rattle.rules.specs.Lists.{member, some?, total}
use Rattle.rules.specs.Parts.{IsPart}
use Rattle.rules.specs.Chip.{paged, free_for}
use Rattle.rules.specs.WellFormed.{Distinct, GoodPages, GoodQueues, GoodNumbers, GoodRequest}
use Rattle.lists.specs.Facts.{if_not, member_at}
use Rattle.lists.specs.Each.{Each, each_member, member_each}
use Rattle.wellformed.specs.Parts.{part_few}
use Rattle.wellformed.specs.Layouts.{free_total}
use Rattle.wellformed.specs.Pool.{has_small}
use Rattle.sets.specs.Views.{pages_of}
use Rattle.sets.specs.Bits.{bits_bound, bits_same}
use Rattle.sets.specs.Pages.{pages_count}
use Rattle.sets.specs.Lists.{lists_length, none_at, some_at}
use Rattle.sets.specs.Good.{as_lists, as_sets}
use Rattle.sets.specs.Members.{set_of, set_members, set_small}
use Rattle.queues.specs.Slots.{Slots}
use Rattle.queues.specs.Parts.{slots, part_long}
use Rattle.state.specs.View.{word, registers_in, queue_in, Latches, Kept}
use Rattle.state.specs.Promise.{Halves, Small}
use Rattle.state.specs.Counted.{whole, halves}
use Rattle.state.specs.Entry.{size_in, of_part, Holds}
use Rattle.state.specs.Places.{places_told, record_long, record_cut, zeros_at, padded_at}
use Rattle.state.specs.WellFormed.{SetsFormed, QueuesFormed, NumbersFormed, RequestFormed, FixedBytes, FiguresFormed, RecordFormed, slot_at, pages_in}

-- The request, beside a MIR that counts the free pages.
pub request_restated : (w : List ℕ) (n m : ℕ) → n ≤ 24 → word w 4 ≡ word_of n m → RequestFormed (word w 4) (word w 17) (word w 23) ↔ GoodRequest m (registers_in w).numbers
unfolding word_of
request_restated w n m few e = (
  λ f. ⊎_elim (λ none. inl none) (λ p. inr (record { few = p.0; short = omega (arith, e, p.1); unanswered = p.2 })) f,
  λ g. ⊎_elim (λ none. inl none) (λ p. inr (p.few, omega (arith, e, p.short), p.unanswered)) g,
)
