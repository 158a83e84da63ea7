use Rattle.std.proofs.Common.{◌≡◌, slice_index, sym, ap, ◌∙◌, arith}
use Rattle.std.proofs.lemmas.Grind.{common_steps}
use Rattle.sets.specs.Views.{pages_of}
use Rattle.sets.specs.Lists.{list_at}
use Rattle.sets.proofs.map.set_of.Goals as goal

pub returns : goal.returns
returns c =
    let e : c.unwrap_or.result ≡ slice_index c.args.sets.now c.args.packet.0 = grind (arith, common_steps) in
    ap pages_of e ∙ sym (list_at c.args.sets.now c.args.packet.0)
