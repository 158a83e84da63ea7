-- The sets of the rows before `row` are joined and added; those from it on are left.
use Rattle.std.proofs.Common.{◌*◌, drop}
use Rattle.sets.specs.Joins.{Joins}
use Rattle.sets.proofs.map.joined.Given as goal

abbrev pub invariant-loop-row : goal.invariant-loop-row
invariant-loop-row l = Joins l.sets l.a l.b l.c l.d l.sum (drop (4 * l.row) l.sets)
