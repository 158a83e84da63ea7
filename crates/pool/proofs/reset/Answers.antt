-- Sets that have no page are 0, and so are counts.
use Rattle.std.specs.Prelude.{◌≡◌, [], ℕ, List, length, map, replicate}
use Rattle.std.proofs.Common.{ap, sym, ◌∙◌, arith}
use Rattle.rules.specs.Chip.{Layout, paged, strips}
use Rattle.sets.specs.Views.{pages_of}
use Rattle.sets.specs.Lists.{empty_sets}
use Rattle.state.specs.View.{lists_of, strips_from}
use Rattle.state.specs.Pages.{strips_none}
use Rattle.state.specs.Promise.{Small}
use Rattle.state.specs.Places.{zeros_at}
use Rattle.state.specs.Only.{numbers_known}
use Rattle.pool.specs.Figures.{emptied}
use Rattle.pool.proofs.reset.Goals as goal

none : (l : Layout) (n : ℕ) (s : List ℕ) → Small s → map pages_of s ≡ replicate n [] → lists_of l s ≡ replicate n []
none paged n s small pages = pages
none strips n s small pages = ap (strips_from 0) (numbers_known paged s (replicate n 0) small (λ i. omega (arith, zeros_at n i)) (pages ∙ sym (empty_sets n))) ∙ strips_none 0 n

pub returns : goal.returns
returns c = λ l.
    let small : Small c.cleared.new.sets = λ i. omega (arith, c.type_inv.sets i) in
    emptied (length c.args.sets.now) c.requires.1 c.store_none.ensures small (none l (length c.args.sets.now) c.cleared.new.sets small c.cleared.ensures) (c.empty.ensures ∙ ap (λ (n : ℕ). replicate n 0) c.requires.2)
