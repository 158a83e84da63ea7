-- Fewer than eight bytes are cut short; else the first eight are answered, on the places and the bytes of the part.
use Rattle.std.specs.Prelude.{ℕ, ◌≤◌, length, take}
use Rattle.std.proofs.Common.{sym, arith}
use Rattle.std.proofs.Math.Seq.{length-take-le}
use Rattle.turns.specs.Steps.{turns_as}
use Rattle.skarvoya.specs.Recorded.{cut_short, whole, cut_turns, places_fit, places_count, bytes_fit, bytes_count, lent_bench, leaves_bench}
use Rattle.skarvoya.proofs.record.answer.Goals as goal

pub returns-then-bytes-lt8 : goal.returns-then-bytes-lt8
returns-then-bytes-lt8 c = cut_turns c.requires c.args.output.now (cut_short c.args.bytes.now (omega (arith, c.if-bytes-lt8.true)))

pub slice_bounds-answer-end : goal.slice_bounds-answer-end
slice_bounds-answer-end c = places_fit c.requires c.size_in-n.ensures

pub slice_bounds-answer-end-2 : goal.slice_bounds-answer-end-2
slice_bounds-answer-end-2 c = places_count c.requires c.size_in-n.ensures

pub slice_bounds-answer-end-3 : goal.slice_bounds-answer-end-3
slice_bounds-answer-end-3 c = bytes_fit c.requires c.size_in-n.ensures

pub slice_bounds-answer-end-4 : goal.slice_bounds-answer-end-4
slice_bounds-answer-end-4 c = bytes_count c.requires c.size_in-n.ensures

pub answer-requires : goal.answer-requires
answer-requires c = (lent_bench c.requires c.size_in-n.ensures, length-take-le 8 c.args.bytes.now (omega (arith, c.if-bytes-lt8.false)))

pub returns : goal.returns
returns c =
    leaves_bench c.requires c.size_in-n.ensures _ c.args.output.now _ _ (omega (arith, c.sets-1.given, places_count c.requires c.size_in-n.ensures))
    (turns_as _ (whole c.args.bytes.now (omega (arith, c.if-bytes-lt8.false))) c.answer.ensures)
