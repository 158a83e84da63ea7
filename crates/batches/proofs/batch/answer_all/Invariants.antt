-- So many records are answered, their lines stand before `end`, and there is room for those to come.
use Rattle.std.proofs.Common.{◌≡◌, ◌+◌, ◌*◌, ◌/◌, ◌≤◌, length, take, drop}
use Rattle.std.specs.Slice.Iter.{chunks_exact_rest, chunks_exact_size}
use Rattle.state.specs.View.{view}
use Rattle.records.specs.Gathers.{holding}
use Rattle.lines.specs.Counting.{Counts}
use Rattle.batches.specs.Batch.{Answered, form_of, room_for}
use Rattle.batches.proofs.batch.answer_all.Given as goal

abbrev pub invariant-loop-bytes : goal.invariant-loop-bytes
invariant-loop-bytes l =
    let n = length l.yielded in
    (n ≤ length l.input / 8) × (l.end + 10 ≤ room_for l.watching n)
    × Answered (form_of l.watching) n l.fn.number l.input (holding (view l.fn.words l.fn.sets l.fn.queues l.fn.memory) (take l.fn.have l.fn.wire) l.fn.out) l.words l.sets l.queues l.memory l.wire l.have l.out l.lines l.end l.counter.number
    × Counts l.counter
    × (chunks_exact_size l.bytes-iterator ≡ 8) × (chunks_exact_rest l.bytes-iterator ≡ drop (8 * n) l.input)
