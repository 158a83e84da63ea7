-- RX is empty, or its head leaves and its pages are given back.
use Rattle.std.specs.Prelude.{[], ℕ, ◌<◌, length, drop, get_or, Err}
use Rattle.std.proofs.Common.{ap, sym, ◌∙◌, arith}
use Rattle.rules.specs.Chip.{Registers}
use Rattle.rules.specs.Fields.{set_rx, in_pool}
use Rattle.rules.specs.Mmu as rules
use Rattle.wellformed.specs.Pool.{good_lists}
use Rattle.state.specs.declared.Refusal.TheVariants as refusal
use Rattle.state.specs.View.{word, queue_in, view_of}
use Rattle.pool.specs.Queues.{rejoins_chip, rejoins_sets}
use Rattle.pages.specs.Pages.{alters_sound, waits_few}
use Rattle.commands.specs.Steps.{releases_none, releases_head, head_small}
use Rattle.commands.specs.Returns.{performs, unchanged}
use Rattle.commands.proofs.rx.do_remove_and_release.Goals as goal

pub returns-then-words-eq0 : goal.returns-then-words-eq0
returns-then-words-eq0 g c = λ mem.
    let o = c.requires.sound in
    unchanged rules.remove_and_release _ _ _ mem (Err refusal.RxEmpty) o (releases_none _ (sym o.queues.rx.many ∙ c.if-words-eq0.true))

pub give_back-requires : goal.give_back-requires
give_back-requires g c =
    let r = c.requires in
    let left = c.leave-head.ensures in
    let some : 0 < length (queue_in 0 (word c.args.words.now 6) c.args.queues.now) = omega (arith, r.sound.queues.rx.many, c.if-words-eq0.false) in
    let small = head_small (view_of g.L.Layout.layout c.args.words.now c.args.sets.now c.args.queues.now []) r.well some in
    (left.left.kept, rejoins_sets left.left r.sound.sets, good_lists r.well, omega (arith, left.head, small), omega (arith, waits_few r, ap (λ (x : Registers). x.numbers.waiting) left.left.regs))

pub returns : goal.returns
returns g c = λ mem.
    let l = g.L.Layout.layout in
    let w = c.args.words.now in
    let s = c.args.sets.now in
    let q = c.args.queues.now in
    let v = view_of l w s q mem in
    let left = c.leave-head.ensures in
    let some : 0 < length (queue_in 0 (word w 6) q) = omega (arith, c.requires.sound.queues.rx.many, c.if-words-eq0.false) in
    performs rules.remove_and_release w s q mem (λ x. rules.give_back (get_or x.pool.rx 0 0) (in_pool (set_rx (drop 1 x.pool.rx)) x))
    (releases_head v some)
    (c.give_back.ensures.chip c.leave-head.new.queues mem ∙ ap (rules.give_back c.leave-head.result.0) (rejoins_chip left.left l s mem) ∙ ap (λ (j : ℕ). rules.give_back j (in_pool (set_rx (drop 1 (queue_in 0 (word w 6) q))) v)) left.head)
    (alters_sound c.give_back.ensures c.leave-head.new.queues left.left.queues)
