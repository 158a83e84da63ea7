-- What the chain finds of each byte is what the rules ask of the six.
use Rattle.std.proofs.Common.{ℕ, sym, ◌∙◌, rules, eqb}
use Rattle.std.proofs.lemmas.Iterator.{YieldsList-from_slice}
use Rattle.std.proofs.lemmas.Iterator.Search.{all_from_yields_List}
use borrow.Author.Tests.{tests}
use Rattle.judging.proofs.Places.{broadcast_lem}
use Rattle.judging.proofs.address.is_broadcast.Goals as goal

pub returns : goal.returns
returns c =
    let found = all_from_yields_List (λ (b : ℕ). eqb b 255) _ _ _ c.all.ensures.ran (YieldsList-from_slice c.args.address.now cc) (λ x b q k. search (rules, tests)) in
    found ∙ sym (broadcast_lem c.args.address.now c.told-address)
