use Rattle.std.specs.Prelude.{ℕ, ◌*◌}
use Rattle.std.proofs.Common.{ap, sym, ◌∙◌}
use Rattle.rules.specs.Lists.{up_from}
use Rattle.state.specs.Pages.{strip_at}
use Rattle.stores.proofs.strip.StripsStore.home.Goals as goal

pub returns-clause-pages : goal.returns-clause-pages
returns-clause-pages c =
    let k = c.args.packet.0 in
    ap (λ (m : ℕ). up_from (8 * k) m) c.pages_of.ensures.count ∙ sym (strip_at c.args.counts.now k)
