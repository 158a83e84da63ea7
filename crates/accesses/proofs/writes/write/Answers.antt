-- Refusal 1; data, RCR and commands by their own functions; any other register by the table.
use Rattle.std.specs.Prelude.{◌≡◌, false, List, ℕ, ◌/◌}
use Rattle.std.proofs.Common.{ap, sym, subst, ◌∙◌, arith}
use Rattle.rules.specs.Chip.{Layout}
use Rattle.rules.specs.Registers as rules
use Rattle.rules.specs.Registers.{Register, misplaced, DATA, RCR, COMMAND, lanes_at, register_at, write_register, access}
use Rattle.state.specs.declared.Width.{Width}
use Rattle.state.specs.Meaning.{Answer}
use Rattle.state.specs.Meaning.{width_of}
use Rattle.state.specs.View.{view_of}
use Rattle.state.specs.Promise.{ReadyOf, MakesOf}
use Rattle.state.specs.Laws.{register_in}
use Rattle.accesses.specs.Reach.{place_of, write_nowhere, write_there, makes_as, writes_data}
use Rattle.accesses.specs.Places.{at_data}
use Rattle.accesses.proofs.writes.write.Goals as goal
use Rattle.accesses.proofs.writes.write.Goals.{in-20, in-21}

-- what is promised of a register is promised of the access, where it stands there
there : (l : Layout) (x : Width) (offset v : ℕ) {w s q : List ℕ} (mem : List ℕ) (r : Register) {a : Answer} {w' s' q' mem' : List ℕ} → ReadyOf l w s q → misplaced (width_of x) offset ≡ false
    → register_in (place_of w offset) ≡ r → MakesOf l (write_register r (lanes_at (width_of x) offset) v (view_of l w s q mem)) a w' s' q' mem'
    → MakesOf l (access (rules.write (width_of x) offset v) (view_of l w s q mem)) a w' s' q' mem'
there l x offset v {w} {s} {q} mem r {a} {w'} {s'} {q'} {mem'} o placed e p =
    write_there _ _ w s q mem o.sound.kept _ placed
    (subst (λ (y : Register). MakesOf l (write_register y (lanes_at (width_of x) offset) v (view_of l w s q mem)) a w' s' q' mem') (sym e) p)

pub returns-then-misplaced : goal.returns-then-misplaced
returns-then-misplaced g c = write_nowhere _ _ _ c.requires.0.sound (sym c.misplaced.ensures ∙ c.if-misplaced.true)

-- RCR, and commands
pub returns-in-2 : goal.returns-in-2
unfolding register_in register_at
returns-in-2 g c =
    there g.L.Layout.layout c.args.width c.args.offset c.args.value c.args.memory.now RCR c.requires.0 (sym c.misplaced.ensures ∙ c.if-misplaced.false)
    (sym (ap register_in c.place-at.ensures) ∙ ap register_in c.in-2.is) (c.write_rcr.ensures.done g.L.Layout.layout c.args.memory.now c.requires.0.sound)

pub returns-in-16 : goal.returns-in-16
unfolding register_in register_at
returns-in-16 g c =
    there g.L.Layout.layout c.args.width c.args.offset c.args.value c.args.memory.now COMMAND c.requires.0 (sym c.misplaced.ensures ∙ c.if-misplaced.false)
    (sym (ap register_in c.place-at.ensures) ∙ ap register_in c.in-16.is) (c.write_command.ensures c.args.memory.now)

pub returns-in_default : goal.returns-in_default
returns-in_default g c = c.write_register.ensures.done g.L.Layout.layout c.args.sets.now c.args.memory.now c.requires.0.sound.sets

-- data
pub returns : goal.returns
returns g c =
    let a = c.place-at.result in
    let here : a / 2 ≡ 10 = elim c.match-at.branch [ in-20 w ↦ omega (arith, w.in-20.is) | in-21 w ↦ omega (arith, w.in-21.is) ] in
    there g.L.Layout.layout c.args.width c.args.offset c.args.value c.args.memory.now DATA c.requires.0 (sym c.misplaced.ensures ∙ c.if-misplaced.false)
    (sym (ap register_in c.place-at.ensures) ∙ at_data a here)
    (makes_as (writes_data c.args.width c.args.offset c.args.value _) (rw c.is_wide.ensures at c.write_data.ensures))
