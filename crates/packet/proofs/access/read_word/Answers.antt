-- The second byte lies next to the first, or at the start of the next page.
use Rattle.std.proofs.Common.{rules, ℕ, ◌+◌, ap, ap₂, ◌∙◌, arith}
use Rattle.rules.specs.Bits.{word_of}
use Rattle.sets.specs.Views.{pages_of}
use Rattle.packet.proofs.Facts.{room_small, byte_at, word_of_lem, place_next}
use Rattle.packet.proofs.access.read_word.Goals as goal

pub overflow_add-at : goal.overflow_add-at
overflow_add-at c = omega (arith, room_small c.requires (search rules))

pub returns-then-at-eq255 : goal.returns-then-at-eq255
returns-then-at-eq255 c =
    let a = c.args.at.0 in
    let pages = pages_of c.args.pages in
    let m = c.args.memory.now in
    c.word.ensures ∙ ap₂ word_of (byte_at a c.place_of-i.result pages m c.place_of-i.ensures.0) c.read_byte.ensures ∙ word_of_lem a pages m

pub returns : goal.returns
returns c =
    let a = c.args.at.0 in
    let i = c.place_of-i.result in
    let pages = pages_of c.args.pages in
    let m = c.args.memory.now in
    c.word-2.ensures
    ∙ ap₂ word_of (byte_at a i pages m c.place_of-i.ensures.0)
    (byte_at (a + 1) (i + 1) pages m (ap (λ (j : ℕ). j + 1) c.place_of-i.ensures.0 ∙ place_next a pages c.if-at-eq255.false))
    ∙ word_of_lem a pages m
