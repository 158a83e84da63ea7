-- The page is the one of that number in the set.
use Rattle.std.proofs.Common.{ℕ, ◌+◌, ◌*◌, ◌%◌, ap, arith}
use Rattle.rules.specs.Packet.{place}
use Rattle.lists.specs.Bytes.{place_room}
use Rattle.sets.specs.Views.{pages_of}
use Rattle.packet.proofs.access.place_of.Goals as goal

pub returns : goal.returns
unfolding place
returns c =
    let e = ap (λ (p : ℕ). p * 256 + c.args.at.0 % 256) c.nth_page.ensures in
    (e, λ n below. omega (arith, e, place_room n (pages_of c.args.pages) c.args.at.0 below c.requires))
