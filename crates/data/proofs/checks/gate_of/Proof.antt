-- The set that is looked up is that of the packet that is meant.
use borrow.Author.Rules.{rules}
use mathlib.Core.Path.{ap, subst, ◌∙◌}
use mathlib.Core.List.{List, [], map}
use Prim.Native.Nat.{ℕ}
use lib.ListN.{get_or}
use Rattle.sets.specs.Views.{pages_of}
use Rattle.state.specs.View.{word}
use Rattle.data.specs.Access.{Guards}
use Rattle.data.proofs.checks.gate_of.Statement.{statement}
use Rattle.data.proofs.checks.gate_of.Tie as tie

returns : tie.Need-returns
returns c =
    let f = c in
    let m = c in
    let s = c in
    subst (λ (l : List ℕ). Guards s.args.reading (word s.args.words.now 19) l c.checked.result)
    (f.set_of-set.ensures ∙ ap (λ (k : ℕ). get_or (map pages_of s.args.sets.now) k []) m.meant.ensures)
    c.checked.ensures

pub gate_of_spec : {M : Type 1} → statement M
gate_of_spec = tie.close (tie.spec (λ c κs. search rules) (λ c κs. search rules) (λ c. search rules) (λ c κs. search rules) returns)
