-- What the tests of the queues decide, beside the words w and the page sets s, on the part with n packets.
use Rattle.std.specs.Prelude.{◌≡◌, true, List, map, ℕ, ◌+◌, ◌-◌, ◌≤◌, ◌<◌, length, sum}
use Rattle.std.proofs.Common.{sym, ◌∙◌, arith, length-take-le}
use Rattle.rules.specs.Tests.{all_below}
use Rattle.rules.specs.WellFormed.{GoodQueues}
use Rattle.lists.specs.Each.{members}
use Rattle.wellformed.specs.Fit.{below_decides}
use Rattle.sets.specs.Views.{pages_of}
use Rattle.sets.specs.Members.{set_of}
use Rattle.queues.specs.Slots.{Slots}
use Rattle.queues.specs.Parts.{slots, part_long}
use Rattle.state.specs.View.{word, figures, rx_bits, tx_bits, queue_in}
use Rattle.state.specs.Promise.{QueuesIn}
use Rattle.state.specs.Counted.{whole, halves}
use Rattle.guard.specs.Pass.{passes, gathered, gathered_set, rx_passes, tx_passes, entries_good}
use Rattle.guard.specs.Sums.{queues_sum, rx_slots, tx_slots, completion_slots}

module _ (n : ℕ) (w s q : List ℕ) (long : length q ≡ 72) where
  abbrev ls : List (List ℕ)
  ls = map pages_of s

  abbrev pub rx : List ℕ
  rx = queue_in 0 (word w 6) q

  abbrev pub tx : List ℕ
  tx = queue_in 1 (word w 8) q

  abbrev pub done : List ℕ
  done = queue_in 2 (word w 9) q

  abbrev pub Good : Type 0
  Good = QueuesIn (figures w) q × GoodQueues n ls rx tx done

  abbrev pub Fit : Type 0
  Fit = (word w 6 ≤ 24) × (word w 8 ≤ 24) × (word w 9 ≤ n)

  -- the packets seen, RX's and then TX's beside them
  abbrev pub seen_rx : ℕ
  seen_rx = gathered 0 rx

  abbrev pub seen : ℕ
  seen = gathered seen_rx tx

  abbrev pub Marks : Type 0
  Marks = (rx_bits w ≡ seen_rx) × (tx_bits w ≡ seen - seen_rx)

  -- Each test holds of queues that are good.
  pub good_fit : Good → Fit
  good_fit g = (fit 0 _ (omega arith) g.0.rx, fit 1 _ (omega arith) g.0.tx, omega (arith, g.0.completion.many, g.1.completion_few))
    where
      fit : (k c : ℕ) → k < 3 → Slots (slots k q) c (queue_in k c q) → c ≤ 24
      fit k c h x = omega (arith, x.fits, part_long k q long h)

  pub good_rx : Good → passes ls 0 rx ≡ true
  good_rx g = rx_passes n ls rx tx done g.1

  pub good_tx : Good → passes ls seen_rx tx ≡ true
  good_tx g = tx_passes n ls rx tx done g.1

  pub good_numbers : Good → all_below n done ≡ true
  good_numbers g = (members (λ k. k < n) done (below_decides n done)).complete g.1.completion_numbers

  pub good_sum : Good → sum q ≡ sum rx + sum tx + sum done
  good_sum g = queues_sum q (word w 6) (word w 8) (word w 9) long g.0.rx g.0.tx g.0.completion

  module _ (a : passes ls 0 rx ≡ true) (b : passes ls seen_rx tx ≡ true) where
    rx_set : seen_rx ≡ set_of rx
    rx_set = omega (arith, gathered_set ls 0 rx a)

    tx_set : seen ≡ seen_rx + set_of tx
    tx_set = gathered_set ls seen_rx tx b

    pub seen_more : seen_rx ≤ seen
    seen_more = omega (arith, tx_set)

    pub good_marks : Good → Marks
    good_marks g = (whole g.0.in_rx ∙ sym rx_set, omega (arith, whole g.0.in_tx, tx_set))

    -- and together they tell that they are.
    pub queues_good_lem : n ≤ 24 → ((i : ℕ) → word w i < 65536) → Fit → Marks → all_below n done ≡ true → sum q ≡ sum rx + sum tx + sum done → Good
    queues_good_lem few typed f m below e = (
      record {
        long = long;
        rx = rx_slots q (word w 6) (word w 8) (word w 9) long e f.0;
        tx = tx_slots q (word w 6) (word w 8) (word w 9) long e f.1;
        completion = completion_slots q (word w 6) (word w 8) (word w 9) long e (omega (arith, f.2, few));
        in_rx = halves (word w 28) (word w 29) (set_of rx) (typed 28) (m.0 ∙ rx_set);
        in_tx = halves (word w 30) (word w 31) (set_of tx) (typed 30) (omega (arith, m.1, tx_set));
      },
      entries_good n ls rx tx done a b below (omega (arith, f.2, length-take-le (word w 9) (slots 2 q) (omega (arith, f.2, few, part_long 2 q long (omega arith))))),
    )
