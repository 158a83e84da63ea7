-- i entries have moved up, and a 0 stands behind them.
use Rattle.std.proofs.Common.{◌≡◌, ◌∷◌, ◌++◌, suc, take, drop}
use Rattle.queues.proofs.pop.Given as goal

abbrev pub invariant-loop-i : goal.invariant-loop-i
invariant-loop-i l = l.slots ≡ take l.i (drop 1 l.fn.slots) ++ (0 ∷ drop (suc l.i) l.fn.slots)
