-- What the chain finds at each address is what the rules ask of the six bytes.
use Rattle.std.specs.Prelude.{refl, ℕ, eqb}
use Rattle.std.proofs.Common.{◌∙◌, rules}
use Rattle.std.proofs.lemmas.Iterator.{YieldsList-from_range}
use Rattle.std.proofs.lemmas.Iterator.Search.{all_from_yields_List}
use borrow.Author.Tests.{tests}
use Rattle.rules.specs.Packet.{get_bytes}
use Rattle.rules.specs.Data.{value_of}
use Rattle.sending.proofs.Addressed.{broadcast_lem}
use Rattle.sending.proofs.address.is_broadcast.Goals as goal

pub returns : goal.returns
returns g c =
    let pages = g.L.Store.pages_in c.args.home in
    let memory = c.args.memory.now in
    let found =
    all_from_yields_List (λ (at : ℕ). eqb (value_of (get_bytes 1 at pages memory)) 255) _ _ _ c.all.ensures.ran (YieldsList-from_range 4 10 6 refl refl)
    (λ x b q k. search (rules, tests))
    in
    found ∙ broadcast_lem pages memory
