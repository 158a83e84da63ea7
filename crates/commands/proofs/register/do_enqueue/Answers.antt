-- Refusal 5, refusal 6, or the packet joins TX.
use Rattle.std.specs.Prelude.{◌≡◌, true, [], ◌∷◌, ◌++◌, ℕ, ◌<◌, get_or}
use Rattle.std.proofs.Common.{ap, sym, ◌∙◌, arith}
use Rattle.rules.specs.Lists.{member, some?}
use Rattle.rules.specs.Chip.{Chip}
use Rattle.rules.specs.Answers.{did}
use Rattle.rules.specs.Fields.{set_tx, in_pool}
use Rattle.rules.specs.Mmu as rules
use Rattle.lists.specs.Facts.{or_right}
use Rattle.wellformed.specs.Parts.{part_few}
use Rattle.state.specs.View.{word, queue_in, view_of}
use Rattle.pool.specs.Queues.{may_join_tx, rejoins_chip, rejoins_sound, queued_told}
use Rattle.commands.specs.Steps.{enqueues, packet_small_lem, tx_room}
use Rattle.commands.specs.Returns.{performs, refuses_5, refuses_6, goes_ahead}
use Rattle.commands.proofs.register.do_enqueue.Goals as goal

-- what it does where it is not refused
abbrev after : Chip → Chip
after x = in_pool (set_tx (x.pool.tx ++ (x.regs.numbers.packet ∷ []))) x

pub returns-then-not-is_allocated : goal.returns-then-not-is_allocated
returns-then-not-is_allocated g c =
    refuses_5 g.L.Layout.layout rules.enqueue (λ x. did (after x)) enqueues _ _ _ _ c.named-packet.ensures c.requires.sound (sym c.is_allocated.ensures ∙ c.if-not-is_allocated.true)

-- the packet has pages, so its number is one of the part's
pub is_queued-requires : goal.is_queued-requires
is_queued-requires g c =
    let v = view_of g.L.Layout.layout c.args.words.now c.args.sets.now c.args.queues.now [] in
    let r = c.requires in
    (r.sound.kept.whole, omega (arith, packet_small_lem v r.well _ (sym c.is_allocated.ensures ∙ c.if-not-is_allocated.false), part_few r.sound.sets.part))

pub returns-then-is_queued : goal.returns-then-is_queued
returns-then-is_queued g c =
    refuses_6 g.L.Layout.layout rules.enqueue (λ x. did (after x)) enqueues _ _ _ _ c.named-packet.ensures c.requires.sound (sym c.is_allocated.ensures ∙ c.if-not-is_allocated.false) (c.is_queued.ensures ∙ queued_told c.requires _) c.if-is_queued.true

pub join-requires : goal.join-requires
join-requires g c =
    let v = view_of g.L.Layout.layout c.args.words.now c.args.sets.now c.args.queues.now [] in
    let k = c.named-packet.result.0 in
    let r = c.requires in
    let there = sym c.is_allocated.ensures ∙ c.if-not-is_allocated.false in
    let told = c.is_queued.ensures ∙ queued_told r k in
    let room = tx_room v r.well k there told c.if-is_queued.false in
    let absent = or_right (member k v.pool.rx) (member k v.pool.tx) (sym told ∙ c.if-is_queued.false) in
    let small : k < 24 = omega (arith, packet_small_lem v r.well k there, part_few r.sound.sets.part) in
    (r.sound.kept, r.sound.queues, omega (arith, room, part_few r.sound.sets.part, r.sound.queues.tx.many), may_join_tx r k small absent)

pub returns : goal.returns
returns g c = λ mem.
    let l = g.L.Layout.layout in
    let w = c.args.words.now in
    let s = c.args.sets.now in
    let q = c.args.queues.now in
    performs rules.enqueue w s q mem after
    (goes_ahead l rules.enqueue (λ x. did (after x)) enqueues w s q _ c.named-packet.ensures (sym c.is_allocated.ensures ∙ c.if-not-is_allocated.false) (c.is_queued.ensures ∙ queued_told c.requires _) c.if-is_queued.false mem)
    (rejoins_chip c.join.ensures l s mem ∙ ap (λ (k : ℕ). in_pool (set_tx (queue_in 1 (word w 8) q ++ (k ∷ []))) (view_of l w s q mem)) c.named-packet.ensures)
    (rejoins_sound c.join.ensures c.requires.sound.sets)
