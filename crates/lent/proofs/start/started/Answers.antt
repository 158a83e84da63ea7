-- The record is the paged chip's.
use Rattle.std.proofs.Common.{rules}
use Rattle.rules.specs.Chip.{paged}
use Rattle.lent.proofs.start.started.Goals as goal

pub returns : goal.returns
returns c = record { state = c.powered.ensures paged; memory = search rules }
