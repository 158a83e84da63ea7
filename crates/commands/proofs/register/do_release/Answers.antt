-- Refusal 5, refusal 6, or the packet's pages are given back.
use Rattle.std.specs.Prelude.{◌≡◌, true, [], ℕ, get_or}
use Rattle.std.proofs.Common.{ap, sym, ◌∙◌, arith}
use Rattle.rules.specs.Lists.{some?}
use Rattle.rules.specs.Chip.{Chip}
use Rattle.rules.specs.Answers.{did}
use Rattle.rules.specs.Mmu as rules
use Rattle.wellformed.specs.Parts.{part_few}
use Rattle.wellformed.specs.Pool.{has_small}
use Rattle.state.specs.View.{lists_of, view_of}
use Rattle.pool.specs.Queues.{queued_told}
use Rattle.pages.specs.Pages.{alters_sound}
use Rattle.commands.specs.Steps.{releases}
use Rattle.commands.specs.Returns.{performs, refuses_5, refuses_6, goes_ahead}
use Rattle.commands.proofs.register.do_release.Goals as goal

-- what it does where it is not refused
abbrev after : Chip → Chip
after x = rules.give_back x.regs.numbers.packet x

pub returns-then-not-is_allocated : goal.returns-then-not-is_allocated
returns-then-not-is_allocated g c = λ q r.
    refuses_5 g.L.Layout.layout rules.release (λ x. did (after x)) releases _ _ q _ c.named-packet.ensures r.sound (sym c.is_allocated.ensures ∙ c.if-not-is_allocated.true)

-- the packet has pages, so its number is one of the part's
pub is_queued-requires : goal.is_queued-requires
is_queued-requires g c =
    let ls = lists_of g.L.Layout.layout c.args.sets.now in
    let there : some? (get_or ls c.named-packet.result.0 []) ≡ true = sym c.is_allocated.ensures ∙ c.if-not-is_allocated.false in
    (c.requires.0.whole, omega (arith, has_small ls _ there, c.requires.2.count, part_few c.requires.1.part))

pub returns-then-is_queued : goal.returns-then-is_queued
returns-then-is_queued g c = λ q r.
    refuses_6 g.L.Layout.layout rules.release (λ x. did (after x)) releases _ _ q _ c.named-packet.ensures r.sound (sym c.is_allocated.ensures ∙ c.if-not-is_allocated.false) (c.is_queued.ensures ∙ queued_told r _) c.if-is_queued.true

pub give_back-requires : goal.give_back-requires
give_back-requires g c =
    let ls = lists_of g.L.Layout.layout c.args.sets.now in
    let there : some? (get_or ls c.named-packet.result.0 []) ≡ true = sym c.is_allocated.ensures ∙ c.if-not-is_allocated.false in
    let r = c.requires in
    (r.0, r.1, r.2, omega (arith, has_small ls _ there, r.2.count), r.3)

pub returns : goal.returns
returns g c = λ q r mem.
    let l = g.L.Layout.layout in
    let w = c.args.words.now in
    let s = c.args.sets.now in
    let back = c.give_back.ensures in
    performs rules.release w s q mem after
    (goes_ahead l rules.release (λ x. did (after x)) releases w s q _ c.named-packet.ensures (sym c.is_allocated.ensures ∙ c.if-not-is_allocated.false) (c.is_queued.ensures ∙ queued_told r _) c.if-is_queued.false mem)
    (back.chip q mem ∙ ap (λ (j : ℕ). rules.give_back j (view_of l w s q mem)) c.named-packet.ensures)
    (alters_sound back q r.sound.queues)
