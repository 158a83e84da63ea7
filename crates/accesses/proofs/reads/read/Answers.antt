-- Refusal 1; data and ECR by their own functions; any other register by the table.
use Rattle.std.specs.Prelude.{◌≡◌, ◌/◌}
use Rattle.std.proofs.Common.{ap, sym, ◌∙◌, arith}
use Rattle.rules.specs.Registers.{Register, lanes_at, read_register}
use Rattle.state.specs.Meaning.{width_of}
use Rattle.state.specs.View.{view_of}
use Rattle.state.specs.Laws.{register_in}
use Rattle.accesses.specs.Reach.{read_nowhere, read_there, makes_as, reads_data}
use Rattle.accesses.specs.Places.{at_data}
use Rattle.accesses.proofs.reads.read.Goals as goal
use Rattle.accesses.proofs.reads.read.Goals.{in-20, in-21}

pub returns-then-misplaced : goal.returns-then-misplaced
returns-then-misplaced g c = read_nowhere _ _ c.requires.0.sound (sym c.misplaced.ensures ∙ c.if-misplaced.true)

-- ECR
pub returns-in-3 : goal.returns-in-3
returns-in-3 g c = c.read_ecr-answer.ensures.done g.L.Layout.layout c.args.sets.now c.args.memory.now c.requires.0.sound.sets

pub returns-in_default : goal.returns-in_default
returns-in_default g c = c.read_register-answer.ensures g.L.Layout.layout c.args.sets.now c.args.memory.now c.requires.0.sound.sets

-- data
pub returns : goal.returns
returns g c =
    let a = c.place-at.result in
    let here : a / 2 ≡ 10 = elim c.match-at.branch [ in-20 w ↦ omega (arith, w.in-20.is) | in-21 w ↦ omega (arith, w.in-21.is) ] in
    let v = view_of g.L.Layout.layout c.args.words.now c.args.sets.now c.args.queues.now c.args.memory.now in
    read_there _ _ c.args.words.now c.args.sets.now c.args.queues.now c.args.memory.now c.requires.0.sound.kept (sym c.misplaced.ensures ∙ c.if-misplaced.false)
    (makes_as (ap (λ (x : Register). read_register x (lanes_at (width_of c.args.width) c.args.offset) v) (sym (ap register_in c.place-at.ensures) ∙ at_data a here) ∙ reads_data c.args.width c.args.offset v) (rw c.is_wide.ensures at c.read_data-answer.ensures))
