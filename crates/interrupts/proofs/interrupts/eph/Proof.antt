-- The tests as they stand.
use borrow.Author.Rules.{rules}
use Rattle.interrupts.proofs.interrupts.eph.Statement.{statement}
use Rattle.interrupts.proofs.interrupts.eph.Tie as tie

returns : tie.Need-returns
returns c = cc

pub eph_spec : {M : Type 1} → statement M
eph_spec =
    tie.close
    (tie.spec
    (λ c κs. search rules)
    (λ c κs. search rules)
    (λ c κs. search rules)
    (λ c κs. search rules)
    (λ c κs. search rules)
    (λ c κs. search rules)
    (λ c κs. search rules)
    (λ c κs. search rules)
    (λ c κs. search rules)
    (λ c κs. search rules)
    (λ c κs. search rules)
    returns)
