-- Too few pages are free, or what waits is granted; that nothing waits the check tells by `none_waits`, so no fact of that test is named here.
use Rattle.std.specs.Prelude.{◌≡◌, refl, List, ℕ, ◌/◌, length}
use Rattle.std.proofs.Common.{sym, arith}
use Rattle.rules.specs.Chip.{Layout, free_for}
use Rattle.wellformed.specs.Settle.{settle_later, settle_now}
use Rattle.state.specs.View.{word, lists_of, view_of}
use Rattle.pages.specs.Pages.{free_told, alters_as}
use Rattle.pages.proofs.requests.settle.Goals as goal

pub returns-then-free_count-need : goal.returns-then-free_count-need
returns-then-free_count-need g c =
    let told = free_told c.args.words.now c.args.sets.now c.requires.1 in
    record {
      chip = λ q mem. sym (settle_later (view_of g.L.Layout.layout c.args.words.now c.args.sets.now q mem) (omega (arith, c.if-free_count-need.true, c.free_count.ensures, told)));
      still = refl;
      kept = c.requires.0;
      sets = c.requires.1;
    }

pub allocate-requires : goal.allocate-requires
allocate-requires g c =
    let told = free_told c.args.words.now c.args.sets.now c.requires.1 in
    (c.requires.0, c.requires.1, c.requires.2, omega arith, c.requires.3, omega (arith, c.if-free_count-need.false, c.free_count.ensures, told))

pub returns : goal.returns
returns g c =
    let told = free_told c.args.words.now c.args.sets.now c.requires.1 in
    alters_as c.allocate.ensures
    (λ q mem. sym (settle_now (view_of g.L.Layout.layout c.args.words.now c.args.sets.now q mem) (omega arith)
    (omega (arith, c.if-free_count-need.false, c.free_count.ensures, told))))
