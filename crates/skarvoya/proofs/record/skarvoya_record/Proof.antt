-- By what the two checks say, then as `serve` says.
use mathlib.Core.Bool.{not}
use mathlib.Core.Path.{ap, refl}
use native.Mathlib.Omega.{arith}
use Rattle.chip.specs.Rights.{not_in, is_in}
use Rattle.skarvoya.specs.Recorded.{refuses_record}
use borrow.Author.Rules.{rules}
use Rattle.skarvoya.proofs.record.skarvoya_record.Statement.{statement}
use Rattle.skarvoya.proofs.record.skarvoya_record.Tie as tie

returns : tie.Need-returns-then-not-bench_in_order
returns c = let no = not_in c.bench_in_order.ensures (ap not c.if-not-bench_in_order.true) in
    record { done = λ o. absurd (no o); short = λ o. absurd (no o); broken = λ n. refuses_record c.told.ensures }

returns-2 : tie.Need-returns-then-not-roomy
returns-2 c = record {
  done = λ o r. absurd (not_in c.roomy.ensures (ap not c.if-not-roomy.true) r);
  short = λ o n. refuses_record c.told-then-not-roomy.ensures;
  broken = λ n. absurd (n (is_in c.bench_in_order.ensures (ap not c.if-not-bench_in_order.false)));
}

add-count : tie.Need-overflow_add-count
add-count c = let o = is_in c.bench_in_order.ensures (ap not c.if-not-bench_in_order.false) in omega (arith, o.next)

serve-requires : tie.Need-serve-requires
serve-requires c κs = ((is_in c.bench_in_order.ensures (ap not c.if-not-bench_in_order.false)).held, (is_in c.roomy.ensures (ap not c.if-not-roomy.false)).1)

returns-3 : tie.Need-returns
returns-3 c = let s = c in
    record {
      done = λ o r. record { given = _; serves = s.serve.ensures; returned = c.told-2.ensures; counted = refl };
      short = λ o n. absurd (n (is_in s.roomy.ensures (ap not s.if-not-roomy.false)));
      broken = λ n. absurd (n (is_in s.bench_in_order.ensures (ap not s.if-not-bench_in_order.false)));
    }

pub skarvoya_record_spec : {M : Type 1} → statement M
skarvoya_record_spec =
    tie.close
    (tie.spec
    (λ c κs. search rules)
    (λ c κs. search rules)
    (λ c. search rules)
    (λ c. search rules)
    (λ c. search rules)
    (λ c. search rules)
    (λ c. search rules)
    returns
    (λ c κs. search rules)
    (λ c κs. search rules)
    (λ c. search rules)
    (λ c. search rules)
    (λ c. search rules)
    (λ c. search rules)
    (λ c. search rules)
    (λ c. search rules)
    (λ c. search rules)
    returns-2
    add-count
    serve-requires
    (λ c κs. search rules)
    (λ c. search rules)
    (λ c. search rules)
    (λ c. search rules)
    (λ c. search rules)
    (λ c. search rules)
    (λ c. search rules)
    (λ c. search rules)
    returns-3)
