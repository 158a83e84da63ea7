-- Each turn of the loop answers one record more, and there is room for its line.
use Rattle.std.proofs.Common.{arith, ◌≡◌, ◌∷◌, [], ◌++◌, ◌+◌, ◌∙◌, length, ap}
use Rattle.std.proofs.lemmas.List.{length-append}
use Rattle.std.specs.Slice.Iter.{chunks_exact_rest, chunks_exact_size}
use Rattle.lines.specs.Counting.{counter_number, counter_counts}
use Rattle.batches.specs.Batch.{room_for}
use Rattle.batches.specs.Rooms.{room_none, room_more, room_within}
use Rattle.batches.proofs.Runs.{front_record, behind_record, record_within, records_end, none_yet, one_more}
use Rattle.batches.proofs.batch.answer_all.Goals as goal

pub loop-bytes-init : goal.loop-bytes-init
loop-bytes-init c = (
  omega arith,
  omega (arith, room_none c.args.watching),
  none_yet c.args.input.now _ _ _ _ _ _ _ _ (counter_number c.counter_of-counter.ensures) c.requires.held.0,
  counter_counts c.counter_of-counter.ensures,
  ap chunks_exact_size c.into_iter-bytes-iterator.ensures.into_iter_gives ∙ c.chunks_exact-bytes-items.ensures.size,
  ap chunks_exact_rest c.into_iter-bytes-iterator.ensures.into_iter_gives ∙ c.chunks_exact-bytes-items.ensures.rest,
)

pub print-requires : goal.print-requires
print-requires c =
    let v = c.loop-bytes.invariant in
    let k = length c.loop-bytes.yielded in
    let x = c.in-Some.ensures.steps.1 in
    let w = record_within k c.args.input.now _ _ v.5 x.0 (x.1 ∙ v.4) in (
      v.3,
      omega (arith, c.answer-given.auto.out, c.loop-bytes.auto.out, c.requires.held.1),
      omega (arith, v.1, c.loop-bytes.auto.lines, room_more c.args.watching k, room_within c.args.watching {k = k + 1} (omega (arith, w)) c.requires.input_len_bound.1),
    )

pub loop-bytes-preserved : goal.loop-bytes-preserved
loop-bytes-preserved c =
    let v = c.loop-bytes.invariant in
    let k = length c.loop-bytes.yielded in
    let x = c.in-Some.ensures.steps.1 in
    let w = record_within k c.args.input.now _ _ v.5 x.0 (x.1 ∙ v.4) in
    let e : length (c.loop-bytes.yielded ++ (c.in-Some.bytes ∷ [])) ≡ k + 1 = omega (arith, length-append c.loop-bytes.yielded (c.in-Some.bytes ∷ [])) in (
      omega (arith, e, w),
      omega (arith, v.1, c.print.ensures.1, room_more c.args.watching k, ap (room_for c.args.watching) e),
      one_more c.args.watching k _ _ c.args.input.now _ _ (omega (arith, e)) (front_record k c.args.input.now _ _ v.5 x.0 (x.1 ∙ v.4)) (omega (arith, v.1, c.loop-bytes.auto.lines, room_within c.args.watching v.0 c.requires.input_len_bound.1)) v.2
          c.answer-given.ensures c.print.ensures.0 c.line_up-up.ensures c.is_send-sent.ensures (counter_number c.next-counter.ensures),
      counter_counts c.next-counter.ensures,
      c.in-Some.ensures.steps.0 ∙ v.4,
      behind_record k c.args.input.now _ _ v.5 x.0 (x.1 ∙ v.4) (omega (arith, e)),
    )

pub returns-clause-answered : goal.returns-clause-answered
returns-clause-answered c =
    let v = c.loop-bytes.invariant in
    let e = records_end (length c.loop-bytes.yielded) c.args.input.now v.5 (omega (arith, c.in-None.ensures.steps.1.0, v.4)) v.0 in
    rw e v.2
