-- What `and` leaves of the two latches.
use Rattle.interrupts.proofs.Latches.{acknowledged}
use borrow.Author.Rules.{rules}
use Rattle.interrupts.proofs.words.latches_after.Statement.{statement}
use Rattle.interrupts.proofs.words.latches_after.Tie as tie

returns : tie.Need-returns
returns c = acknowledged c.args.v c.args.latches (search rules) c.requires

pub latches_after_spec : {M : Type 1} → statement M
latches_after_spec = tie.close (tie.spec (λ c. search rules) returns)
