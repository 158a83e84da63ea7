-- The front of the part up to i is the front of the bytes; the rest of it is as it was.
use Rattle.std.proofs.Common.{◌≡◌, ◌++◌, take, drop}
use Rattle.packet.proofs.fill.fill_part.Given as goal

abbrev pub invariant-loop-i : goal.invariant-loop-i
invariant-loop-i l = l.part ≡ take l.i l.bytes ++ drop l.i l.fn.part
