-- What the gate says, and behind it what the read of a byte or of a word promises.
use Rattle.std.specs.Prelude.{Bool, true, false, ℕ, ◌<◌}
use Rattle.std.proofs.Common.{arith}
use Rattle.std.proofs.lemmas.Result.{err_from_is_err_and}
use Rattle.rules.specs.Data.{read_data}
use Rattle.data.specs.Access.{width_of}
use Rattle.data.specs.Gates.{room, stopped, passed}
use Rattle.data.proofs.layout.PagedData.read_data.Goals as goal

some-width : (wide : Bool) → 0 < width_of wide
some-width true = omega arith
some-width false = omega arith

pub returns-in_err-at : goal.returns-in_err-at
unfolding read_data
returns-in_err-at c =
    let p = err_from_is_err_and c.from_residual.result c.from_residual.ensures.1 in
    rw (p.1, p.2) (stopped c.requires.0 c.args.memory.now true (width_of c.args.wide) _ _ c.in_err-at.ensures (some-width c.args.wide))

pub read_byte-requires : goal.read_byte-requires
read_byte-requires c = room c.requires.0 c.args.memory.now c.requires.1 c.in_ok-at.ensures.0

-- the width is told
pub returns-then-not-wide : goal.returns-then-not-wide
unfolding read_data
returns-then-not-wide c =
    let h = c.in_ok-at.ensures in
    rw c.if-not-wide.true (passed c.requires.0 c.args.memory.now true 1 _ h (c.read_byte.ensures.reads _ _ _ h.0 c.requires.0.sound))

pub read_word-requires : goal.read_word-requires
read_word-requires c = room c.requires.0 c.args.memory.now c.requires.1 c.in_ok-at.ensures.0

pub returns : goal.returns
unfolding read_data
returns c =
    let h = c.in_ok-at.ensures in
    rw c.if-not-wide.false (passed c.requires.0 c.args.memory.now true 2 _ h (c.read_word.ensures.reads _ _ _ h.0 c.requires.0.sound))
