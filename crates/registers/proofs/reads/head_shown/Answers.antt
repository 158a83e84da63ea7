-- By the count.
use Rattle.std.proofs.Common.{◌∙◌, arith}
use Rattle.pool.specs.Queues.{head_told}
use Rattle.registers.proofs.Queues.{shows_none, shows_head}
use Rattle.registers.proofs.reads.head_shown.Goals as goal

pub returns-then-words-COUNT-eq0 : goal.returns-then-words-COUNT-eq0
returns-then-words-COUNT-eq0 g c = shows_none _ _ (g.Q.Fifo.laws.in_slots _ _ c.requires.1).many (rw c.COUNT.ensures at c.if-words-COUNT-eq0.true)

pub returns : goal.returns
returns g c =
    let f = g.Q.Fifo in
    let h = f.laws.in_slots _ _ c.requires.1 in
    let some = rw c.COUNT.ensures at c.if-words-COUNT-eq0.false in
    c.head.ensures ∙ head_told f.place _ c.args.queues.now h (omega (arith, some)) ∙ shows_head _ _ h.many some
