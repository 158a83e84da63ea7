-- What the gate says, and behind it what the write of a byte or of a word promises.
use Rattle.std.specs.Prelude.{Bool, true, false, ℕ, ◌<◌, length}
use Rattle.std.proofs.Common.{arith}
use Rattle.std.proofs.lemmas.Result.{err_from_is_err_and}
use Rattle.rules.specs.Data.{write_data}
use Rattle.data.specs.Access.{bytes_for}
use Rattle.data.specs.Gates.{room, stopped, passed}
use Rattle.data.proofs.layout.PagedData.write_data.Goals as goal

some_bytes : (wide : Bool) (v : ℕ) → 0 < length (bytes_for wide v)
some_bytes true v = omega arith
some_bytes false v = omega arith

pub returns-in_err-at : goal.returns-in_err-at
unfolding write_data
returns-in_err-at c =
    let p = err_from_is_err_and c.from_residual.result c.from_residual.ensures.1 in
    rw (p.1, p.2) (stopped c.requires.0 c.args.memory.now false _ _ _ c.in_err-at.ensures (some_bytes c.args.wide c.args.value))

pub write_word-requires : goal.write_word-requires
write_word-requires c = room c.requires.0 c.args.memory.now c.requires.1 c.in_ok-at.ensures.0

-- the width is told
pub returns-then-wide : goal.returns-then-wide
unfolding write_data
returns-then-wide c =
    let h = c.in_ok-at.ensures in
    rw c.if-wide.true (passed c.requires.0 c.args.memory.now false 2 _ h (c.write_word.ensures.writes _ _ _ h.0 c.requires.0.sound))

pub write_byte-requires : goal.write_byte-requires
write_byte-requires c = room c.requires.0 c.args.memory.now c.requires.1 c.in_ok-at.ensures.0

pub returns : goal.returns
unfolding write_data
returns c =
    let h = c.in_ok-at.ensures in
    rw c.if-wide.false (passed c.requires.0 c.args.memory.now false 1 _ h (c.write_byte.ensures.writes _ _ _ h.0 c.requires.0.sound))
