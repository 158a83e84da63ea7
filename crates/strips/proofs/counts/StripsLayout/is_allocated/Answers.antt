use Rattle.std.specs.Prelude.{ℕ, ◌*◌, not, nat_eq, get_or}
use Rattle.std.proofs.Common.{ap, sym, ◌∙◌}
use Rattle.rules.specs.Lists.{some?}
use Rattle.state.specs.Pages.{strip_at, some_strip}
use Rattle.strips.proofs.counts.StripsLayout.is_allocated.Goals as goal

pub returns : goal.returns
returns c =
    let s = c.args.counts.now in
    let k = c.args.packet.0 in
    ap (λ (n : ℕ). not (nat_eq n 0)) c.pages_of.ensures.count ∙ sym (ap some? (strip_at s k) ∙ some_strip (8 * k) (get_or s k 0))
