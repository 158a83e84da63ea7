-- What is left of the frame is to be put, from its address on; the bytes before it are, and the pages from that address's on are left.
use Rattle.std.proofs.Common.{◌≡◌, ◌+◌, ◌-◌, ◌/◌, ◌%◌, ◌≤◌, length, drop, take}
use Rattle.rules.specs.Packet.{put_bytes}
use Rattle.sets.specs.Views.{pages_of}
use Rattle.packet.proofs.frame.store_data.Given as goal

abbrev pub invariant-loop-part : goal.invariant-loop-part
invariant-loop-part l = record {
  within : length l.left ≤ l.n;
  ahead : l.left ≡ drop (l.n - length l.left) (take l.n l.frame);
  place : l.at ≡ (l.n - length l.left + 4) % 256;
  pages : pages_of l.rest ≡ drop ((l.n - length l.left + 4) / 256) (pages_of l.pages);
  done : l.memory ≡ put_bytes (take (l.n - length l.left) (take l.n l.frame)) 4 (pages_of l.pages) l.fn.memory;
}

abbrev pub decreases-loop-part : goal.decreases-loop-part
decreases-loop-part l = length l.left
