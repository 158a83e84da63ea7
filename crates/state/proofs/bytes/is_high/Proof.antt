-- By the width; a word in its place has an even offset.
use Rattle.state.proofs.Parts.{high_odd}
use Rattle.state.proofs.bytes.is_high.Statement.{statement}
use Rattle.state.proofs.bytes.is_high.Tie as tie

returns : tie.Need-returns
returns c = high_odd c.args.width c.args.offset c.requires

pub is_high_spec : {M : Type 1} → statement M
is_high_spec = tie.close (tie.spec returns)
