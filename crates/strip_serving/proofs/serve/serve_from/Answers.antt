use Rattle.std.proofs.Common.{arith, length-take-le}
use Rattle.strip_serving.proofs.serve.serve_from.Goals as goal

pub serve_record-end-requires-clause-bytes_len_bound : goal.serve_record-end-requires-clause-bytes_len_bound
serve_record-end-requires-clause-bytes_len_bound g c =
    let v = c.loop-counter.invariant in
    (omega (arith, length-take-le c.loop-counter.filled c.loop-counter.bytes (omega (arith, v.filled, v.bytes)), v.filled), v.counts, v.line, v.opens)
