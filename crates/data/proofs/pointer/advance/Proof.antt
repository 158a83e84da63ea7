-- A store into the word of the pointer.
use borrow.Author.Rules.{rules}
use mathlib.Core.Path.{ap}
use Prim.Native.Nat.{ℕ}
use Rattle.rules.specs.Fields.{set_pointer}
use Rattle.state.specs.View.{registers_in}
use Rattle.state.specs.Promise.{sets_as}
use Rattle.state.specs.Stores.{store_pointer}
use Rattle.data.proofs.pointer.advance.Statement.{statement}
use Rattle.data.proofs.pointer.advance.Tie as tie

returns : tie.Need-returns
returns c =
    let s = c in
    let w = s.args.words.now in
    sets_as (store_pointer _ w s.requires.0) (ap (λ (y : ℕ). set_pointer y (registers_in w)) c.next_pointer.ensures)

pub advance_spec : {M : Type 1} → statement M
advance_spec = tie.close (tie.spec (λ c. search rules) (λ c κs. search rules) (λ c. search rules) (λ c. search rules) returns)
