-- The answer is the rules', and its line stands alone at the front of the buffer.
use Rattle.std.proofs.Common.{◌∙◌, arith}
use Rattle.rules.specs.Bench.{line}
use Rattle.lines.specs.Parts.{taken}
use Rattle.strip_serving.specs.First.{served_as}
use Rattle.strip_serving.proofs.serve.serve_record.Goals as goal

pub returns : goal.returns
returns c =
    let n = c.args.counter.number in
    let p = c.from.ensures in
    let e = c.line_at.ensures in
    let r = c.requires.bytes_len_bound in
    served_as
    (c.turn-given.ensures n r.3)
    (taken (omega arith) e.0 ∙ (λ i. line n (record { number = p.0 i; value = p.1 i })))
    (omega (arith, e.1, c.line_at.auto.lines, r.2))
