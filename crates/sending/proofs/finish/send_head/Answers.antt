-- The head's pages and its count are the rules', and so are the tests of the count and of completion.
-- With these answered the rules' turn is a refusal, or what `put_out` and `complete` have done.
use Rattle.std.specs.Prelude.{refl}
use Rattle.std.proofs.Common.{arith}
use Rattle.wellformed.specs.Pool.{good_lists}
use Rattle.state.specs.View.{view_of}
use Rattle.outcomes.specs.Numbers.{send_of}
use Rattle.sending.specs.After.{sends_as}
use Rattle.sending.specs.Laws.{sends_all}
use Rattle.sending.proofs.Head.{few, usable_told, refuses_odd, refuses_short, refuses_long, refuses_full, finishes_head, release_told, full_told, room_left}
use Rattle.sending.proofs.finish.send_head.Goals as goal

pub read_word-count-requires : goal.read_word-count-requires
read_word-count-requires g c =
    let r = c.requires.0 in
    (c.home-home.ensures.fits _ (good_lists r.well) c.requires.1, omega (arith, few r c.requires.3 c.head-packet.ensures c.home-home.ensures.pages))

pub returns-then-is_set : goal.returns-then-is_set
returns-then-is_set g c =
    refuses_odd c.requires.0 c.requires.3 c.head-packet.ensures c.home-home.ensures.pages _ _ _ c.read_word-count.ensures c.is_set.ensures c.if-is_set.true refl

pub returns-then-count-lt-LEAST_COUNT : goal.returns-then-count-lt-LEAST_COUNT
returns-then-count-lt-LEAST_COUNT g c =
    refuses_short c.requires.0 c.requires.3 c.head-packet.ensures c.home-home.ensures.pages _ _ _ c.read_word-count.ensures c.is_set.ensures c.if-is_set.false (omega arith) refl

pub returns-then-is_past : goal.returns-then-is_past
returns-then-is_past g c =
    refuses_long c.requires.0 c.requires.3 c.head-packet.ensures c.home-home.ensures.pages _ _ _ c.read_word-count.ensures c.is_set.ensures c.if-is_set.false (omega arith)
    c.page_count.ensures c.is_past.ensures c.if-is_past.true refl

pub returns-then-is_full : goal.returns-then-is_full
returns-then-is_full g c =
    let r = c.requires.0 in
    let usable = usable_told (g.L.Store.pages_in c.home-home.result) c.read_word-count.result c.page_count.ensures c.is_past.ensures c.is_set.ensures c.if-is_set.false (omega arith) c.if-is_past.false in
    let full = full_told r (send_of c.args.s) c.args.memory.now c.is_good-good.ensures c.is_released-released.ensures c.is_full.ensures in
    refuses_full r c.requires.3 c.head-packet.ensures c.home-home.ensures.pages _ _ _ c.read_word-count.ensures usable full c.if-is_full.true refl

pub put_out-value-requires : goal.put_out-value-requires
put_out-value-requires g c =
    let r = c.requires.0 in
    let usable = usable_told (g.L.Store.pages_in c.home-home.result) c.read_word-count.result c.page_count.ensures c.is_past.ensures c.is_set.ensures c.if-is_set.false (omega arith) c.if-is_past.false in
    let pages = few r c.requires.3 c.head-packet.ensures c.home-home.ensures.pages in
    (usable.least, omega (arith, usable.within, pages), c.requires.2, c.home-home.ensures.fits _ (good_lists r.well) c.requires.1, usable.within)

pub complete-requires : goal.complete-requires
complete-requires g c =
    let r = c.requires.0 in
    let usable = usable_told (g.L.Store.pages_in c.home-home.result) c.read_word-count.result c.page_count.ensures c.is_past.ensures c.is_set.ensures c.if-is_set.false (omega arith) c.if-is_past.false in
    (r, c.requires.3, c.home-home.ensures.fits _ (good_lists r.well) c.requires.1, omega (arith, usable.least, usable.within), c.requires.4, room_left r c.is_full.ensures c.if-is_full.false)

pub returns : goal.returns
returns g c =
    let r = c.requires.0 in
    let s = send_of c.args.s in
    let mem = c.args.memory.now in
    let chip = view_of g.L.Layout.layout c.args.words.now c.args.sets.now c.args.queues.now mem in
    let usable = usable_told (g.L.Store.pages_in c.home-home.result) c.read_word-count.result c.page_count.ensures c.is_past.ensures c.is_set.ensures c.if-is_set.false (omega arith) c.if-is_past.false in
    let full = full_told r s mem c.is_good-good.ensures c.is_released-released.ensures c.is_full.ensures in
    sends_as (finishes_head r c.requires.3 c.head-packet.ensures c.home-home.ensures.pages s mem c.args.out.now c.read_word-count.ensures usable full c.if-is_full.false)
    (sends_all s chip c.args.out.now c.read_word-count.result (release_told r s mem c.is_good-good.ensures c.is_released-released.ensures) c.is_good-good.ensures c.put_out-value.ensures c.complete.ensures)
