-- What is left of the input shrinks by a vector a turn.
use Rattle.std.proofs.Common.{length}
use Rattle.crc_runs.proofs.print_all.Given as goal

abbrev pub decreases-loop-rest : goal.decreases-loop-rest
decreases-loop-rest g l = length l.rest
