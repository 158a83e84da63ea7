-- A record that is cut short is of unknown kind; else it is the event of its eight bytes.
use Rattle.std.specs.Prelude.{length}
use Rattle.std.proofs.Common.{sym, ◌∙◌, arith}
use borrow.Author.Tests.{ltb-true, ltb-false}
use Rattle.turns.specs.Steps.{turns_as, unknown_turns}
use Rattle.turns.specs.Served.{asked_short, asked_whole}
use Rattle.turns.proofs.turn.answer_cut.Goals as goal

pub returns-then-is_cut : goal.returns-then-is_cut
returns-then-is_cut g c = turns_as _ (asked_short c.args.bytes.now (ltb-true _ _ (sym c.is_cut.ensures ∙ c.if-is_cut.true))) (unknown_turns _ c.requires.0)

pub answer-requires : goal.answer-requires
answer-requires g c = (c.requires.0, omega (arith, c.requires.1, ltb-false _ _ (sym c.is_cut.ensures ∙ c.if-is_cut.false)))

pub returns : goal.returns
returns g c = turns_as _ (asked_whole c.args.bytes.now (ltb-false _ _ (sym c.is_cut.ensures ∙ c.if-is_cut.false))) c.answer.ensures
