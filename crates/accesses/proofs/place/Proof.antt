-- The numbers are small.
use borrow.Author.Rules.{rules}
use native.Mathlib.Omega.{arith}
use Rattle.accesses.proofs.place.Statement.{statement}
use Rattle.accesses.proofs.place.Tie as tie

pub place_spec : {M : Type 1} → statement M
place_spec =
    tie.close
    (tie.spec (λ c. search rules) (λ c. omega (arith, c.shared_slice_known-1.given 7)) (λ c. omega (arith, c.shared_slice_known-1.given 7)) (λ c. omega (arith, c.shared_slice_known-1.given 7)) (λ c. search rules))
