-- The tests as they stand.
use Rattle.rules.specs.Interrupts.{failed}
use borrow.Author.Rules.{rules}
use Rattle.interrupts.proofs.interrupts.failed.Statement.{statement}
use Rattle.interrupts.proofs.interrupts.failed.Tie as tie

returns : tie.Need-returns
unfolding failed
returns c = cc

pub failed_spec : {M : Type 1} → statement M
failed_spec =
    tie.close
    (tie.spec
    (λ c κs. search rules)
    (λ c κs. search rules)
    (λ c κs. search rules)
    (λ c κs. search rules)
    (λ c κs. search rules)
    (λ c κs. search rules)
    (λ c κs. search rules)
    (λ c κs. search rules)
    (λ c κs. search rules)
    (λ c κs. search rules)
    (λ c κs. search rules)
    returns)
