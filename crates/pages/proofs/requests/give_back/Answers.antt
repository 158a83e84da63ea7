-- The pages are free, then what waits is settled.
use Rattle.std.specs.Prelude.{[], length}
use Rattle.std.proofs.Common.{ap, arith, length-set}
use Rattle.rules.specs.Chip.{Registers}
use Rattle.wellformed.specs.Layouts.{back_lists}
use Rattle.state.specs.View.{lists_of}
use Rattle.pages.specs.Pages.{repages_size, repages_alters, alters_both}
use Rattle.pages.proofs.requests.give_back.Goals as goal

pub settle-requires : goal.settle-requires
settle-requires g c =
    let free = c.make_free.ensures in
    let ls = lists_of g.L.Layout.layout c.args.sets.now in
    (free.kept, free.sets, rw (repages_size free [] (length-set ls c.args.packet.0 []), free.pages) (back_lists (length c.args.sets.now) ls c.args.packet.0 c.requires.3 g.L.Layout.layout c.requires.2), omega (arith, c.requires.4, ap (λ (r : Registers). r.numbers.waiting) free.regs))

pub returns : goal.returns
returns g c = alters_both (repages_alters c.make_free.ensures) c.settle.ensures
