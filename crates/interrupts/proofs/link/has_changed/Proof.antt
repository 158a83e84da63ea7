-- A word below 4 has bit 1 where it is above 1.
use Rattle.state.specs.Links.{change_bit}
use Rattle.interrupts.proofs.link.has_changed.Statement.{statement}
use Rattle.interrupts.proofs.link.has_changed.Tie as tie

returns : tie.Need-returns
returns c = change_bit _ c.requires

pub has_changed_spec : {M : Type 1} → statement M
has_changed_spec = tie.close (tie.spec returns)
