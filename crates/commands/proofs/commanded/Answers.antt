-- Each arm is the function of its order, which is the command of the value.
use Rattle.std.specs.Prelude.{◌≡◌, refl, List, ℕ, Ok, Err}
use Rattle.std.proofs.Common.{ap, sym, subst, ◌∙◌}
use Rattle.rules.specs.Chip.{Layout}
use Rattle.rules.specs.Mmu as rules
use Rattle.rules.specs.Mmu.{Command, decode, perform}
use Rattle.wellformed.specs.Keeps.{Valid, decode_valid}
use Rattle.wellformed.specs.Pool.{good_lists}
use Rattle.state.specs.Meaning.{Answer}
use Rattle.state.specs.declared.Refusal.TheVariants as refusal
use Rattle.commands.specs.declared.Order.{Order}
use Rattle.commands.specs.Orders.{command_of, PerformsOf}
use Rattle.pages.specs.Pages.{waits_few}
use Rattle.commands.specs.Returns.{unchanged}
use Rattle.commands.proofs.commanded.Goals as goal

-- the order at hand is the command of the value
as-told : (l : Layout) (w s q : List ℕ) (v : ℕ) {x o : Order} {a : Answer} {w' s' q' : List ℕ} → command_of x ≡ decode v → x ≡ o → PerformsOf l (command_of o) w s q a w' s' q' → PerformsOf l (decode v) w s q a w' s' q'
as-told l w s q v {a = a} {w' = w'} {s' = s'} {q' = q'} d e p = subst (λ (k : Command). PerformsOf l k w s q a w' s' q') (sym (ap command_of e) ∙ d) p

pub do_allocate-requires : goal.do_allocate-requires
do_allocate-requires g c =
    let v = subst Valid (sym c.decoded-order.ensures ∙ ap command_of c.in-Allocate.is) (decode_valid c.args.value) in
    let r = c.requires in
    (v.0, v.1, r.sound.kept, r.sound.sets, good_lists r.well)

pub do_release-requires : goal.do_release-requires
do_release-requires g c = let r = c.requires in (r.sound.kept, r.sound.sets, good_lists r.well, waits_few r)

pub returns-in-Nothing : goal.returns-in-Nothing
unfolding perform
returns-in-Nothing g c = as-told g.L.Layout.layout c.args.words.now c.args.sets.now c.args.queues.now c.args.value c.decoded-order.ensures c.in-Nothing.is (λ mem. unchanged rules.nothing _ _ _ mem (Ok 0) c.requires.sound refl)

pub returns-in-Allocate : goal.returns-in-Allocate
returns-in-Allocate g c = as-told g.L.Layout.layout c.args.words.now c.args.sets.now c.args.queues.now c.args.value c.decoded-order.ensures c.in-Allocate.is (c.do_allocate.ensures _ c.requires.sound.queues)

pub returns-in-Reset : goal.returns-in-Reset
returns-in-Reset g c = as-told g.L.Layout.layout c.args.words.now c.args.sets.now c.args.queues.now c.args.value c.decoded-order.ensures c.in-Reset.is (c.do_reset.ensures g.L.Layout.layout c.requires.sound)

pub returns-in-RemoveRx : goal.returns-in-RemoveRx
returns-in-RemoveRx g c = as-told g.L.Layout.layout c.args.words.now c.args.sets.now c.args.queues.now c.args.value c.decoded-order.ensures c.in-RemoveRx.is (c.do_remove.ensures g.L.Layout.layout _ c.requires.sound.sets)

pub returns-in-RemoveAndRelease : goal.returns-in-RemoveAndRelease
returns-in-RemoveAndRelease g c = as-told g.L.Layout.layout c.args.words.now c.args.sets.now c.args.queues.now c.args.value c.decoded-order.ensures c.in-RemoveAndRelease.is c.do_remove_and_release.ensures

pub returns-in-Release : goal.returns-in-Release
returns-in-Release g c = as-told g.L.Layout.layout c.args.words.now c.args.sets.now c.args.queues.now c.args.value c.decoded-order.ensures c.in-Release.is (c.do_release.ensures _ c.requires)

pub returns-in-Enqueue : goal.returns-in-Enqueue
returns-in-Enqueue g c = as-told g.L.Layout.layout c.args.words.now c.args.sets.now c.args.queues.now c.args.value c.decoded-order.ensures c.in-Enqueue.is c.do_enqueue.ensures

pub returns-in-ResetTx : goal.returns-in-ResetTx
returns-in-ResetTx g c = as-told g.L.Layout.layout c.args.words.now c.args.sets.now c.args.queues.now c.args.value c.decoded-order.ensures c.in-ResetTx.is (c.do_reset_tx.ensures g.L.Layout.layout _ c.requires.sound.sets)

pub returns-in-Unknown : goal.returns-in-Unknown
unfolding perform
returns-in-Unknown g c = as-told g.L.Layout.layout c.args.words.now c.args.sets.now c.args.queues.now c.args.value c.decoded-order.ensures c.in-Unknown.is (λ mem. unchanged rules.unknown _ _ _ mem (Err refusal.Reserved) c.requires.sound refl)
