-- The lowest page of a set is the first of its pages.
use Rattle.std.proofs.Common.{◌≡◌, ℕ, ◌+◌, ◌*◌, ◌/◌, ◌%◌, get_or, refl, ap, arith}
use Rattle.rules.specs.Packet.{place}
use Rattle.lists.specs.Bytes.{below_at}
use Rattle.sets.specs.Views.{pages_of}
use Rattle.sets.specs.Pages.{rest_some}
use Rattle.packet.proofs.access.place_in.Goals as goal

pub lowest_page-requires : goal.lowest_page-requires
lowest_page-requires c = rest_some c.args.rest c.args.rest 0 refl c.requires

pub returns : goal.returns
unfolding place
returns c =
    let a = c.args.at.0 in
    let f : a % 256 / 256 ≡ 0 = omega arith in
    let g : a % 256 % 256 ≡ a % 256 = omega arith in
    let e : c.lowest_page.result.0 ≡ get_or (pages_of c.args.rest) 0 0 = c.lowest_page.ensures in
    (rw (f, g) (ap (λ (p : ℕ). p * 256 + a % 256) e), λ n below. omega (arith, e, below_at n (pages_of c.args.rest) 0 below c.requires))
