-- The bit is cleared, and the link's added in its place.
use mathlib.Core.Path.{ap, ◌∙◌}
use native.Mathlib.Omega.{arith}
use borrow.Author.Rules.{rules}
use Rattle.rules.specs.Bits.{flag, set_bit}
use Rattle.rules.specs.Link.{shown}
use Rattle.bits.specs.Laws.{set_lt}
use Rattle.state.proofs.link.shown_ephsr.Statement.{statement}
use Rattle.state.proofs.link.shown_ephsr.Tie as tie

add-result : tie.Need-overflow_add-result
unfolding set_bit
add-result c =
    let f = c in
    record { fits = omega (arith, c.with_clear.ensures, f.flag_of-up.ensures.1, set_lt 14 f.args.ephsr 16 (omega arith) (search rules)) }

returns : tie.Need-returns
unfolding shown
returns c =
    let f = c in
    omega (arith, c.with_clear.ensures, f.flag_of-up.ensures.0 ∙ ap flag f.is_set.ensures)

pub shown_ephsr_spec : {M : Type 1} → statement M
shown_ephsr_spec = tie.close (tie.spec (λ c κs. search rules) (λ c κs. search rules) (λ c κs. search rules) (λ c. search rules) add-result returns)
