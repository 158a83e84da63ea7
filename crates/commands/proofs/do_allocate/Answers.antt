-- Where enough pages are free the request is granted; else it waits, and the result is 80h.
use Rattle.std.specs.Prelude.{length}
use Rattle.std.proofs.Common.{arith}
use Rattle.rules.specs.Mmu as rules
use Rattle.state.specs.View.{view_of}
use Rattle.state.specs.Promise.{sets_chip, sets_sound}
use Rattle.pages.specs.Pages.{alters_sound, free_told}
use Rattle.commands.specs.Steps.{allocates, allocates_none}
use Rattle.commands.specs.Returns.{performs}
use Rattle.commands.proofs.do_allocate.Goals as goal

pub allocate-requires : goal.allocate-requires
allocate-requires g c =
    let r = c.requires in
    (r.2, r.3, r.4, r.0, r.1, omega (arith, c.free_count.ensures, free_told c.args.words.now c.args.sets.now r.3, c.if-need-free_count.true))

pub returns-then-need-free_count : goal.returns-then-need-free_count
returns-then-need-free_count g c = λ q h mem.
    let l = g.L.Layout.layout in
    let w = c.args.words.now in
    let s = c.args.sets.now in
    let n = c.args.need in
    let told = free_told w s c.requires.3 in
    performs (rules.allocate n) w s q mem (rules.grant n) (allocates (view_of l w s q mem) n (omega (arith, c.free_count.ensures, told, c.if-need-free_count.true))) (c.allocate.ensures.chip q mem) (alters_sound c.allocate.ensures q h)

pub overflow_cast-need : goal.overflow_cast-need
overflow_cast-need g c = record { fits = omega (arith, c.requires.1) }

pub returns : goal.returns
returns g c = λ q h mem.
    let l = g.L.Layout.layout in
    let w = c.args.words.now in
    let s = c.args.sets.now in
    let n = c.args.need in
    let r = c.requires in
    let told = free_told w s r.3 in
    let given = c.give_result.ensures in
    performs (rules.allocate n) w s q mem (rules.pend n) (allocates_none (view_of l w s q mem) n (omega (arith, c.free_count.ensures, told, c.if-need-free_count.false)))
    (sets_chip given l s q mem) (sets_sound given (record { kept = r.2; queues = h; sets = r.3 }))
