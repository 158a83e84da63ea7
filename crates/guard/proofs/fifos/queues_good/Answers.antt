-- One test after another: each holds of queues that are good, and together they tell that they are (`queues_good_lem`).
use Rattle.std.proofs.Common.{◌≡◌, Bool, List, ℕ, ◌+◌, ◌-◌, ◌<◌, ◌≤◌, length, sum, ap, ap₂, sym, ◌∙◌, arith}
use Rattle.lists.specs.Facts.{refutes, agrees, eq_decides}
use Rattle.sets.specs.Good.{never}
use Rattle.state.specs.View.{word, queue_in}
use Rattle.guard.specs.declared.fifos.Seen.{Seen}
use Rattle.guard.specs.Pass.{passes, gathered}
use Rattle.guard.specs.Sums.{entries_sum}
use Rattle.guard.specs.Queues as queues
use Rattle.guard.proofs.fifos.queues_good.Goals as goal

-- the fields of what a queue's entries give
packets-of : {x y : Seen} → x ≡ y → x.packets ≡ y.packets
packets-of e = ap (λ (s : Seen). s.packets) e

sum-of : {x y : Seen} → x ≡ y → x.sum ≡ y.sum
sum-of e = ap (λ (s : Seen). s.sum) e

-- TX beside the packets that are seen
module _ (tx : List ℕ) {r seen : ℕ} (e : r ≡ seen) where
  beside : (ls : List (List ℕ)) {b : Bool} → passes ls r tx ≡ b → passes ls seen tx ≡ b
  beside ls h = sym (ap (λ (n : ℕ). passes ls n tx) e) ∙ h

  more : {t : ℕ} → t ≡ gathered r tx → t ≡ gathered seen tx
  more f = f ∙ ap (λ (n : ℕ). gathered n tx) e

-- The entries add up to no more than the bytes.
within : (w q : List ℕ) {x y z : ℕ} → length q ≡ 72 → x ≡ sum (queue_in 0 (word w 6) q) → y ≡ sum (queue_in 1 (word w 8) q) → z ≡ sum (queue_in 2 (word w 9) q) → x + y + z ≤ sum q
within w q long e f g = omega (arith, e, f, g, entries_sum q (word w 6) (word w 8) (word w 9) long)

pub returns-then-not-counts_fit : goal.returns-then-not-counts_fit
returns-then-not-counts_fit c = refutes c.counts_fit.ensures (queues.good_fit c.args.size c.args.words.now c.args.sets.now c.args.queues.now c.requires.2) c.if-not-counts_fit.true

pub returns-in_default : goal.returns-in_default
returns-in_default c = never (λ g. c.in_default.ensures (queues.good_rx c.args.size c.args.words.now c.args.sets.now c.args.queues.now c.requires.2 g))

pub returns-in_default-fresh : goal.returns-in_default-fresh
returns-in_default-fresh c =
    never (λ g. c.in_default-fresh.ensures (beside _ (sym (packets-of c.in-Some.ensures.1)) _ (queues.good_tx c.args.size c.args.words.now c.args.sets.now c.args.queues.now c.requires.2 g)))

pub overflow_sub-tx : goal.overflow_sub-tx
overflow_sub-tx c =
    let grown = queues.seen_more c.args.size c.args.words.now c.args.sets.now c.args.queues.now c.requires.2 c.in-Some.ensures.0 (beside _ (packets-of c.in-Some.ensures.1) _ c.in-Some-fresh.ensures.0) in
    omega (arith, packets-of c.in-Some.ensures.1, more _ (packets-of c.in-Some.ensures.1) (packets-of c.in-Some-fresh.ensures.1))

pub returns-then-not-marks_good : goal.returns-then-not-marks_good
returns-then-not-marks_good c =
    let rx = packets-of c.in-Some.ensures.1 in
    let tx = more _ rx (packets-of c.in-Some-fresh.ensures.1) in
    refutes c.marks_good.ensures
    (λ g. let m = queues.good_marks c.args.size c.args.words.now c.args.sets.now c.args.queues.now c.requires.2 c.in-Some.ensures.0 (beside _ rx _ c.in-Some-fresh.ensures.0) g in (m.0 ∙ sym rx, m.1 ∙ sym (ap₂ ◌-◌ tx rx)))
    c.if-not-marks_good.true

pub returns-in_default-completion : goal.returns-in_default-completion
returns-in_default-completion c = never (λ g. c.in_default-completion.ensures (queues.good_numbers c.args.size c.args.words.now c.args.sets.now c.args.queues.now c.requires.2 g))

pub overflow_add-result : goal.overflow_add-result
overflow_add-result c = omega (arith, within c.args.words.now c.args.queues.now c.requires.2 (sum-of c.in-Some.ensures.1) (sum-of c.in-Some-fresh.ensures.1) c.in-Some-completion.ensures.1)

pub overflow_add-result-2 : goal.overflow_add-result-2
overflow_add-result-2 c = omega (arith, within c.args.words.now c.args.queues.now c.requires.2 (sum-of c.in-Some.ensures.1) (sum-of c.in-Some-fresh.ensures.1) c.in-Some-completion.ensures.1)

pub overflow_cast-result : goal.overflow_cast-result
overflow_cast-result c = omega (arith, within c.args.words.now c.args.queues.now c.requires.2 (sum-of c.in-Some.ensures.1) (sum-of c.in-Some-fresh.ensures.1) c.in-Some-completion.ensures.1, c.total.ensures)

pub returns : goal.returns
returns c =
    let sums = ap₂ ◌+◌ (ap₂ ◌+◌ (sum-of c.in-Some.ensures.1) (sum-of c.in-Some-fresh.ensures.1)) c.in-Some-completion.ensures.1 in
    let rx = packets-of c.in-Some.ensures.1 in
    let tx = more _ rx (packets-of c.in-Some-fresh.ensures.1) in
    let m = c.marks_good.ensures.sound c.if-not-marks_good.false in
    let fit = c.counts_fit.ensures.sound c.if-not-counts_fit.false in
    let typed : (i : ℕ) → word c.args.words.now i < 65536 = λ i. omega (arith, c.type_inv.words i) in
    let good = queues.queues_good_lem c.args.size c.args.words.now c.args.sets.now c.args.queues.now c.requires.2 c.in-Some.ensures.0 (beside _ rx _ c.in-Some-fresh.ensures.0) c.requires.3 typed fit (m.0 ∙ rx, m.1 ∙ ap₂ ◌-◌ tx rx) c.in-Some-completion.ensures.0 in
    agrees (eq_decides _ _) (λ e. good (sym c.total.ensures ∙ e ∙ sums))
    (λ g. c.total.ensures ∙ queues.good_sum c.args.size c.args.words.now c.args.sets.now c.args.queues.now c.requires.2 g ∙ sym sums)
