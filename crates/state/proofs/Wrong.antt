-- Records with one wrong figure, with a third bit in the link's word, and with an allocation that may not wait, computed: none is in order, so every entry that promises `Answers` gives 16.
-- RX has packet 0 with pages 0 and 1, TX packet 17 with page 2.
use Rattle.std.specs.Prelude.{Err}
use mathlib.Core.Path.{◌≡◌, refl, ap, sym, ◌∙◌}
use mathlib.Core.Bool.{true, false, true≢false}
use mathlib.Core.Logic.{inr, ⊎_elim}
use mathlib.Core.List.{List, [], ◌∷◌, ◌++◌}
use Prim.Native.Nat.{ℕ, ◌^◌, ◌<◌}
use native.Mathlib.Omega.{arith}
use lib.ListN.{length, get_or, set, replicate}
use Rattle.rules.specs.Bits.{bit, flag, word_of}
use Rattle.rules.specs.Lists.{member, some?, owned, unless, free_below}
use Rattle.rules.specs.Parts.{IsPart}
use Rattle.rules.specs.Chip.{paged}
use Rattle.rules.specs.Tests.{above, ascends, all_below, apart, none_owned, pages_good, laid_good, queue_good, queues_good, numbers_good, request_good, formed}
use Rattle.rules.specs.Step.{Input}
use Rattle.lists.specs.Each.{each_at}
use Rattle.wellformed.specs.Fit.{below_decides, formed_decides}
use Rattle.sets.specs.Views.{pages_of, bits_below}
use Rattle.sets.specs.Members.{set_of}
use Rattle.state.specs.declared.Refusal.TheVariants.{Damaged}
use Rattle.state.specs.declared.Returned.{Returned}
use Rattle.state.specs.View.{figures, pool_in, view}
use Rattle.state.specs.Promise.{Small, Ready}
use Rattle.state.specs.Entry.{of_part, record_view, Answers}
use Rattle.state.specs.Counted.{FullCount}

abbrev words : List ℕ
words =
    0 ∷ 0 ∷ 0 ∷ 0 ∷ 0x1518 ∷ 0x3300 ∷ 1 ∷ 0x3300 ∷ 1 ∷ 0 ∷ 0 ∷ 0 ∷ 0 ∷ 4 ∷ 0 ∷ 0
    ∷ 0 ∷ 0x8000 ∷ 0 ∷ 0 ∷ 0 ∷ 0 ∷ 0 ∷ 0 ∷ 0 ∷ 0 ∷ 0 ∷ 0 ∷ 1 ∷ 0 ∷ 0 ∷ 2 ∷ []

abbrev sets : List ℕ
sets = 3 ∷ (replicate 16 0 ++ (4 ∷ replicate 6 0))

abbrev queues : List ℕ
queues = (0 ∷ replicate 23 0) ++ ((17 ∷ replicate 23 0) ++ replicate 24 0)

-- its figures are those of a full count
pub right : FullCount (figures words) (pool_in (figures words) sets queues)
unfolding pages_of bits_below bit free_below owned member unless word_of set_of
right = record {
  rx = refl;
  tx = refl;
  completion = refl;
  mir = refl;
  in_rx = record { lower = refl; upper = refl };
  in_tx = record { lower = refl; upper = refl };
}

-- its sets are numbers of 32 bits
small : Small sets
unfolding all_below
small i = each_at (λ x. x < 2 ^ 32) sets i 0 ((below_decides (2 ^ 32) sets).sound refl) (omega arith)

-- and it is in order
pub ready : Ready words sets queues
unfolding formed pages_good laid_good ascends above all_below none_owned queues_good queue_good apart numbers_good request_good some? flag pages_of bits_below bit free_below owned member unless word_of set_of
ready = record {
  sound = record {
    kept = record {
      whole = refl;
      fixed = record { bank_high = refl; reserved_high = refl; latched = refl; link_bits = omega arith; mask_low = refl };
      blank = record { none16 = refl; none18 = refl; none20 = refl; none21 = refl };
    };
    queues = record {
      long = refl;
      rx = record { many = refl; fits = omega arith; same = refl };
      tx = record { many = refl; fits = omega arith; same = refl };
      completion = record { many = refl; fits = omega arith; same = refl };
      in_rx = right.in_rx;
      in_tx = right.in_tx;
    };
    sets = record { part = inr refl; free = right.mir; small = small };
  };
  well = (formed_decides 24 (view words sets queues [])).sound refl;
}

-- A record gets 16, whatever the input and whatever the memory.
abbrev Refused : List ℕ → List ℕ → List ℕ → Type 0
Refused w s q =
    (i : Input) (mem : List ℕ) (y : Returned) (mem' out' : List ℕ)
    → Answers i (record { words = w }) (record { sets = s }) (record { slots = q }) mem y mem' out' → y.answer ≡ Err Damaged

gets_16 : (w s q : List ℕ) → (Ready w (of_part w s) q → ⊥) → Refused w s q
gets_16 w s q n i mem y mem' out' a = (a.broken (λ o. n o.holds.ready)).answer

-- So does the record with word `at` another one.
abbrev Gets16 : ℕ → ℕ → Type 0
Gets16 at x = Refused (set words at x) sets queues

refused : (at x : ℕ) → (Ready (set words at x) (of_part (set words at x) sets) queues → ⊥) → Gets16 at x
refused at x n = gets_16 (set words at x) sets queues n

-- one page less is free, and one more; or MIR does not say that there are 24
pub one_free_less : Gets16 4 0x1418
unfolding pages_of bits_below bit free_below owned member unless word_of
one_free_less = refused 4 0x1418 (λ o. let e : 0x1418 ≡ 0x1518 = o.sound.sets.free in omega (arith, e))

pub one_free_more : Gets16 4 0x1618
unfolding pages_of bits_below bit free_below owned member unless word_of
one_free_more = refused 4 0x1618 (λ o. let e : 0x1618 ≡ 0x1518 = o.sound.sets.free in omega (arith, e))

-- 23 packets has no part
pub another_size : Gets16 4 0x1517
another_size = refused 4 0x1517 (λ o. let p : IsPart 23 = o.sound.sets.part in ⊎_elim (λ e. omega (arith, e)) (λ e. omega (arith, e)) p)

-- packet 0 is in RX and its bit is clear; packet 1 is not, and its bit is set
pub rx_bit_clear : Gets16 28 0
unfolding set_of
rx_bit_clear = refused 28 0 (λ o. let e : ◌≡◌ {A = ℕ} 0 1 = o.sound.queues.in_rx.lower in omega (arith, e))

pub rx_bit_set : Gets16 28 3
unfolding set_of
rx_bit_set = refused 28 3 (λ o. let e : ◌≡◌ {A = ℕ} 3 1 = o.sound.queues.in_rx.lower in omega (arith, e))

-- a bit of no packet is set
pub rx_bit_30 : Gets16 29 0x4000
unfolding set_of
rx_bit_30 = refused 29 0x4000 (λ o. let e : ◌≡◌ {A = ℕ} 0x4000 0 = o.sound.queues.in_rx.upper in omega (arith, e))

-- the same of packet 17 in TX, and of packet 0, which is not
pub tx_bit_clear : Gets16 31 0
unfolding set_of
tx_bit_clear = refused 31 0 (λ o. let e : ◌≡◌ {A = ℕ} 0 2 = o.sound.queues.in_tx.upper in omega (arith, e))

pub tx_bit_set : Gets16 30 1
unfolding set_of
tx_bit_set = refused 30 1 (λ o. let e : ◌≡◌ {A = ℕ} 1 0 = o.sound.queues.in_tx.lower in omega (arith, e))

-- the link's word has a third bit
pub third_bit_of_the_link : Gets16 15 4
third_bit_of_the_link = refused 15 4 (λ o. let h : 4 < 4 = o.sound.kept.fixed.link_bits in omega (arith, h))

-- What the tests of the rules refute is not in order.
not_formed : (w s q : List ℕ) → formed (length s) (view w s q []) ≡ false → Ready w s q → ⊥
not_formed w s q e o = true≢false (sym ((formed_decides (length s) (view w s q [])).complete o.well) ∙ e)

-- an allocation waits for 8 pages although 21 are free; for 22, more than are free but also more than any command asks for
pub waits_in_vain : Gets16 23 8
unfolding formed pages_good laid_good ascends above all_below none_owned queues_good queue_good apart numbers_good request_good some? flag pages_of bits_below bit free_below owned member unless word_of set_of
waits_in_vain = refused 23 8 (not_formed (set words 23 8) sets queues refl)

pub waits_for_22 : Gets16 23 22
unfolding formed pages_good laid_good ascends above all_below none_owned queues_good queue_good apart numbers_good request_good some? flag pages_of bits_below bit free_below owned member unless word_of set_of
waits_for_22 = refused 23 22 (not_formed (set words 23 22) sets queues refl)

-- Packets 0, 1 and 2 have all pages, and an allocation waits for one: with the result at 80h that may be, and with another it may not.
abbrev full_words : ℕ → List ℕ
full_words packet =
    0 ∷ 0 ∷ 0 ∷ 0 ∷ 0x0018 ∷ 0x3300 ∷ 0 ∷ 0x3300 ∷ 0 ∷ 0 ∷ 0 ∷ 0 ∷ 0 ∷ 4 ∷ 0 ∷ 0
    ∷ 0 ∷ packet ∷ 0 ∷ 0 ∷ 0 ∷ 0 ∷ 0 ∷ 1 ∷ 0 ∷ 0 ∷ 0 ∷ 0 ∷ 0 ∷ 0 ∷ 0 ∷ 0 ∷ []

abbrev full_sets : List ℕ
full_sets = 0xff ∷ 0xff00 ∷ 0xff0000 ∷ replicate 21 0

pub may_wait : formed 24 (view (full_words 0x8000) full_sets (replicate 72 0) []) ≡ true
unfolding formed pages_good laid_good ascends above all_below none_owned queues_good queue_good apart numbers_good request_good some? flag pages_of bits_below bit free_below owned member unless word_of set_of
may_wait = refl

pub waits_with_a_result : Refused (full_words 0x0200) full_sets (replicate 72 0)
unfolding formed pages_good laid_good ascends above all_below none_owned queues_good queue_good apart numbers_good request_good some? flag pages_of bits_below bit free_below owned member unless word_of set_of
waits_with_a_result = gets_16 (full_words 0x0200) full_sets (replicate 72 0) (not_formed (full_words 0x0200) full_sets (replicate 72 0) refl)

-- Document 02, W9: with 12h for 18h and fifteen pages free it is the LAN91C94's, which has packet 17. Places of its packets, and behind them none.
abbrev other_words : ℕ → List ℕ
other_words packet = set (set words 4 0x0f12) 17 packet

pub of_the_other_part : formed 18 (record_view paged (other_words 0x8000) sets queues []) ≡ true
unfolding formed pages_good laid_good ascends above all_below none_owned queues_good queue_good apart numbers_good request_good some? flag pages_of bits_below bit free_below owned member unless word_of set_of
of_the_other_part = refl

-- a result of 18 is no packet's of that part; a page in place 18, or page 18 in place 0, neither
pub result_past_the_size : Refused (other_words 0x1200) sets queues
unfolding formed pages_good laid_good ascends above all_below none_owned queues_good queue_good apart numbers_good request_good some? flag pages_of bits_below bit free_below owned member unless word_of set_of
result_past_the_size = gets_16 (other_words 0x1200) sets queues (not_formed (other_words 0x1200) (of_part (other_words 0x1200) sets) queues refl)

pub page_past_the_size : Refused (other_words 0x8000) (set sets 0 0x40001) queues
unfolding formed pages_good laid_good ascends above all_below none_owned queues_good queue_good apart numbers_good request_good some? flag pages_of bits_below bit free_below owned member unless word_of set_of
page_past_the_size =
    gets_16 (other_words 0x8000) (set sets 0 0x40001) queues (not_formed (other_words 0x8000) (of_part (other_words 0x8000) (set sets 0 0x40001)) queues refl)

pub packet_past_the_size : Refused (other_words 0x8000) (set sets 18 8) queues
packet_past_the_size i mem y mem' out' a =
    (a.broken (λ o. let e : 8 ∷ replicate 5 0 ≡ replicate 6 0 = o.holds.rest in let f : ◌≡◌ {A = ℕ} 8 0 = ap (λ (l : List ℕ). get_or l 0 0) e in omega (arith, f))).answer
