-- The mask stands above a byte that is 0.
use native.Mathlib.Omega.{arith}
use Rattle.rules.specs.Bits.{word_of}
use borrow.Author.Rules.{rules}
use Rattle.interrupts.proofs.interrupts.interrupt.Statement.{statement}
use Rattle.interrupts.proofs.interrupts.interrupt.Tie as tie

add-result : tie.Need-overflow_add-result
add-result c =
    let s = c in
    omega (arith, s.requires.0.fixed.mask_low, c.status.ensures.1, c.shared_slice_known-2-1.given 22)

returns : tie.Need-returns
unfolding word_of
returns c =
    let s = c in
    let m = s.requires.0.fixed.mask_low in
    λ l sets q mem h. let e = c.status.ensures.0 l sets q mem h in omega arith

pub interrupt_spec : {M : Type 1} → statement M
interrupt_spec = tie.close (tie.spec (λ c κs. search rules) (λ c. search rules) add-result returns)
