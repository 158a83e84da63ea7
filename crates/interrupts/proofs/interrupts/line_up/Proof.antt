-- The status byte and the mask.
use mathlib.Core.Path.{ap, ◌∙◌}
use Prim.Native.Nat.{ℕ, ◌/◌}
use native.Mathlib.Omega.{arith}
use Rattle.rules.specs.Interrupts.{line_up}
use Rattle.rules.specs.Bits.{share}
use Rattle.state.specs.View.{word}
use Rattle.interrupts.proofs.Share.{shared}
use borrow.Author.Rules.{rules}
use Rattle.interrupts.proofs.interrupts.line_up.Statement.{statement}
use Rattle.interrupts.proofs.interrupts.line_up.Tie as tie

returns : tie.Need-returns
unfolding line_up
returns c =
    let s = c in
    let mask = word s.args.words.now 22 / 256 in
    let e = c.status.ensures in
    λ l sets q mem h. shared c.status.result mask 8 (omega (arith, e.1)) ∙ ap (λ (x : ℕ). share 8 x mask) (e.0 l sets q mem h)

pub line_up_spec : {M : Type 1} → statement M
line_up_spec = tie.close (tie.spec (λ c κs. search rules) (λ c. search rules) returns)
