-- The bytes before `from` are copied, as far as there are any, and the pages from the last that they lie in on are left.
use Rattle.std.proofs.Common.{◌≡◌, ◌/◌, ◌%◌, drop, min}
use Rattle.rules.specs.Answers.{over}
use Rattle.rules.specs.Packet.{get_bytes}
use Rattle.sets.specs.Views.{pages_of}
use Rattle.packet.proofs.fill.copy_out.Given as goal

abbrev pub invariant-loop-from : goal.invariant-loop-from
invariant-loop-from l = record {
  next : l.from % 256 ≡ 252;
  left : pages_of l.rest ≡ drop (l.from / 256) (pages_of l.pages);
  done : l.out ≡ over (get_bytes (min l.len l.from) 4 (pages_of l.pages) l.memory) l.fn.out;
}
