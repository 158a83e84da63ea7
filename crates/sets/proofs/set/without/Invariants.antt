use Rattle.std.proofs.Common.{◌≡◌, drop}
use Rattle.sets.specs.Views.{pages_of}
use Rattle.sets.proofs.set.without.Given as goal

abbrev pub invariant-loop : goal.invariant-loop
invariant-loop l = pages_of l.rest ≡ drop l.counter (pages_of l.set)
