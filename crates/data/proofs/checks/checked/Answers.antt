-- Both tests together are that of the rules: `refuses` where one holds, `opens` where none does.
use Rattle.std.specs.Prelude.{◌≡◌, Bool, ◌||◌, ◌/◌, ◌%◌, ◌<◌, eqb, ℕ}
use Rattle.std.proofs.Common.{rules, ap, ap₂, sym, ◌∙◌, arith}
use borrow.Author.Tests.{eqb-true, eqb-false}
use Rattle.rules.specs.Answers as answers
use Rattle.rules.specs.Packet.{place}
use Rattle.rules.specs.Data.{against, odd_fixed, address}
use Rattle.lists.specs.Facts.{or_left}
use Rattle.sets.specs.Views.{pages_of}
use Rattle.sets.specs.Pages.{rest_none, rest_goes, rest_first}
use Rattle.data.specs.Access.{refusal_if}
use Rattle.data.specs.Gates.{refuses, opens}
use Rattle.data.proofs.checks.checked.Goals as goal

-- the one test that is made
tests : (rest p : ℕ) (reading : Bool) {a o e r : Bool} → a ≡ against reading p → o ≡ odd_fixed p → e ≡ a || o → r ≡ eqb rest 0 || e → r ≡ eqb rest 0 || (against reading p || odd_fixed p)
tests rest p reading a o e r = r ∙ ap (λ (b : Bool). eqb rest 0 || b) (e ∙ ap₂ ◌||◌ a o)

pub returns-then-either : goal.returns-then-either
unfolding address
returns-then-either c =
    let rest = c.without-rest.result in
    let told = tests c.without-rest.result c.args.pointer c.args.reading c.is_against.ensures c.is_odd_fixed.ensures c.either-refused.ensures c.either.ensures in
    refuses c.args.reading c.args.pointer (pages_of c.args.set) (eqb rest 0) c.refusal.result (c.refusal.ensures ∙ ap (λ (b : Bool). answers.refusal (refusal_if b c.args.reading c.args.pointer)) c.has_pages.ensures) (sym told ∙ c.if-either.true)
    (λ e. rest_none c.args.set rest _ c.without-rest.ensures (eqb-true _ _ e))

-- else there is a page
pub returns : goal.returns
unfolding address place
returns c =
    let rest = c.without-rest.result in
    let none = sym (tests c.without-rest.result c.args.pointer c.args.reading c.is_against.ensures c.is_odd_fixed.ensures c.either-refused.ensures c.either.ensures) ∙ c.if-either.false in
    let some : 0 < rest = omega (arith, eqb-false rest 0 (or_left _ _ none)) in
    let k = c.args.pointer % 2048 / 256 in
    opens c.args.reading c.args.pointer (pages_of c.args.set) (eqb rest 0) c.place_in-at.result rest none
    (record {
      lies = c.place_in-at.ensures ∙ omega (arith, rest_first c.args.set rest k c.without-rest.ensures);
      left = c.without-rest.ensures;
      reaches = omega (arith, rest_goes c.args.set rest k c.without-rest.ensures (search rules) some);
    })
