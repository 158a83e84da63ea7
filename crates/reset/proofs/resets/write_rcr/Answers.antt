-- By bit 15 of what is left.
use Rattle.std.specs.Prelude.{refl}
use Rattle.std.proofs.Common.{sym, ◌∙◌}
use Rattle.state.specs.Promise.{does_makes}
use Rattle.state.specs.Writes.{writes_rcr}
use Rattle.reset.specs.Power.{rcr_resets}
use Rattle.reset.proofs.resets.write_rcr.Goals as goal

pub returns-then-is_set-clause-done : goal.returns-then-is_set-clause-done
returns-then-is_set-clause-done c = λ l mem o. rcr_resets _ _ _ (sym c.is_set.ensures ∙ c.if-is_set.true) c.args.words.now c.args.sets.now c.args.queues.now _ _ _ c.new_rcr-rcr.ensures (c.soft_reset.ensures l o) mem

pub returns-clause-done : goal.returns-clause-done
returns-clause-done c = λ l mem o.
    does_makes (writes_rcr _ _ _ (sym c.is_set.ensures ∙ c.if-is_set.false) c.args.words.now o.kept c.new_rcr-rcr.ensures) o mem
