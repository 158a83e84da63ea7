use Rattle.std.specs.Prelude.{ℕ, List, map, length}
use Rattle.std.proofs.Common.{sym, subst}
use Rattle.rules.specs.WellFormed.{GoodPages}
use Rattle.sets.specs.Views.{pages_of}
use Rattle.sets.specs.Lists.{lists_length}
use Rattle.pages.proofs.Granting.{grantable}
use Rattle.pages.proofs.layout.PagedLayout.grant.Goals as goal

pub grant-requires : goal.grant-requires
grant-requires c =
    let ls = map pages_of c.args.sets.now in
    let r = c.requires in
    (r.0, r.1, rw r.3 (grantable ls c.args.need (subst (λ (n : ℕ). GoodPages n ls) (sym r.2.count) r.2.pages) r.4 r.5 r.6))
