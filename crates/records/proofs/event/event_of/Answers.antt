-- By the kind of the record, its first byte.
use Rattle.std.proofs.Common.{arith, ◌≡◌, ne_eqb}
use Rattle.rules.specs.Bench.{at, event_of}
use Rattle.records.proofs.event.event_of.Goals as goal

pub returns-in-1 : goal.returns-in-1
unfolding event_of
returns-in-1 c = let e : at c.args.bytes.now 0 ≡ 1 = c.in-1.is in rw e

pub returns-in-2 : goal.returns-in-2
unfolding event_of
returns-in-2 c = let e : at c.args.bytes.now 0 ≡ 2 = c.in-2.is in rw e

pub returns-in-3 : goal.returns-in-3
unfolding event_of
returns-in-3 c = let e : at c.args.bytes.now 0 ≡ 3 = c.in-3.is in rw (e, c.word.ensures)

pub returns-in-4 : goal.returns-in-4
unfolding event_of
returns-in-4 c = let e : at c.args.bytes.now 0 ≡ 4 = c.in-4.is in rw (e, c.word-in-4.ensures)

pub returns-in-5 : goal.returns-in-5
unfolding event_of
returns-in-5 c = let e : at c.args.bytes.now 0 ≡ 5 = c.in-5.is in rw e

pub returns-in-6 : goal.returns-in-6
unfolding event_of
returns-in-6 c = let e : at c.args.bytes.now 0 ≡ 6 = c.in-6.is in rw (e, c.byte_is_set.ensures)

pub returns-in-7 : goal.returns-in-7
unfolding event_of
returns-in-7 c = let e : at c.args.bytes.now 0 ≡ 7 = c.in-7.is in rw e

pub returns-in-8 : goal.returns-in-8
unfolding event_of
returns-in-8 c = let e : at c.args.bytes.now 0 ≡ 8 = c.in-8.is in rw e

pub returns-in-9 : goal.returns-in-9
unfolding event_of
returns-in-9 c = let e : at c.args.bytes.now 0 ≡ 9 = c.in-9.is in rw e

pub returns-in_default : goal.returns-in_default
unfolding event_of
returns-in_default c =
    let k = at c.args.bytes.now 0 in
    rw (
      ne_eqb k 1 (λ e. omega (arith, e)),
      ne_eqb k 2 (λ e. omega (arith, e)),
      ne_eqb k 3 (λ e. omega (arith, e)),
      ne_eqb k 4 (λ e. omega (arith, e)),
      ne_eqb k 5 (λ e. omega (arith, e)),
      ne_eqb k 6 (λ e. omega (arith, e)),
      ne_eqb k 7 (λ e. omega (arith, e)),
      ne_eqb k 8 (λ e. omega (arith, e)),
      ne_eqb k 9 (λ e. omega (arith, e)),
    )
