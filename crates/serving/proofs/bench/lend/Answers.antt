-- What was lent stands at the front again.
use Rattle.std.proofs.Common.{◌*◌, drop, arith, length-take-le, take_at}
use Rattle.serving.proofs.bench.lend.Goals as goal

pub returns-clause-held : goal.returns-clause-held
returns-clause-held c =
    let n = c.args.size in
    let a = c.answer_all in
    let s = c.args.sets.now in
    let m = c.args.memory.now in
    let b = c.requires.in_bounds in
    rw (take_at a.new.sets (drop n s) n (omega (arith, a.auto.sets, length-take-le n s b.0)), take_at a.new.memory (drop (256 * n) m) (256 * n) (omega (arith, a.auto.memory, length-take-le (256 * n) m b.1))) a.ensures.answered.held
