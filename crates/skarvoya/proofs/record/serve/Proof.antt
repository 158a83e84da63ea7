-- The answer is the rules', and its line stands at the front of the buffer.
use mathlib.Core.Path.{ap, ◌∙◌}
use Prim.Native.Nat.{ℕ}
use native.Mathlib.Omega.{arith}
use Rattle.rules.specs.Bench.{line}
use Rattle.lines.specs.Counting.{counter_number, counter_counts}
use Rattle.lines.specs.Parts.{taken}
use Rattle.skarvoya.specs.Recorded.{rest_stays}
use borrow.Author.Rules.{rules}
use Rattle.skarvoya.proofs.record.serve.Statement.{statement}
use Rattle.skarvoya.proofs.record.serve.Tie as tie

line-at-requires : tie.Need-line_at-requires
line-at-requires c κs = (counter_counts c.counter_of-counter.ensures, c.requires.1)

returns : tie.Need-returns
returns c = let e = c in
    let p = c in
    let n = c in
    let a = c in
    let s = c in
    let text = e.line_at.ensures.0 in
    record {
      turns = a.turn-given.ensures;
      text = taken (omega arith) text ∙ ap (λ (k : ℕ). line k (record { number = p.from.result.0; value = p.from.result.1 })) (counter_number n.counter_of-counter.ensures) ∙ ap (line s.args.number) ((λ i. record { number = p.from.ensures.0 i; value = p.from.ensures.1 i }) ∙ a.turn-given.ensures.reply);
      fits = omega (arith, e.line_at.ensures.1, c.line-1.given, s.requires.1);
      behind = rest_stays text;
    }

pub serve_spec : {M : Type 1} → statement M
serve_spec =
    tie.close
    (tie.spec
    (λ c κs. c.requires.0)
    (λ c κs. search rules)
    (λ c κs. search rules)
    line-at-requires
    (λ c. search rules)
    (λ c. search rules)
    (λ c. search rules)
    (λ c. search rules)
    (λ c. search rules)
    (λ c. search rules)
    (λ c. search rules)
    returns)
