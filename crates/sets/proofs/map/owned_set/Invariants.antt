use Rattle.std.proofs.Common.{◌≡◌, ℕ, map}
use Rattle.rules.specs.Lists.{owned}
use Rattle.sets.specs.Views.{pages_of}
use Rattle.sets.specs.Lists.{gathered}
use Rattle.sets.proofs.map.owned_set.Given as goal

abbrev pub invariant-loop-set : goal.invariant-loop-set
invariant-loop-set l = (p : ℕ) → gathered p l.taken l.set-index l.sets ≡ owned p (map pages_of l.sets)
