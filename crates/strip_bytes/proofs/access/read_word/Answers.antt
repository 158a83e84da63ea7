-- The second byte lies next to the first.
use Rattle.std.proofs.Common.{◌+◌, ap₂, ◌∙◌, arith}
use Rattle.rules.specs.Bits.{word_of}
use Rattle.packet.proofs.Facts.{word_of_lem}
use Rattle.strip_bytes.specs.Strip.{strip_of}
use Rattle.strip_bytes.proofs.Facts.{strip_byte}
use Rattle.strip_bytes.proofs.access.read_word.Goals as goal

pub returns : goal.returns
returns c =
    let k = c.args.packet.0 in
    let a = c.args.at.0 in
    let i = c.place_of-i.result in
    let m = c.args.memory.now in
    c.word.ensures
    ∙ ap₂ word_of (strip_byte k a i m (omega (arith, c.requires.within)) c.place_of-i.ensures) (strip_byte k (a + 1) (i + 1) m (omega (arith, c.requires.within)) (omega (arith, c.place_of-i.ensures)))
    ∙ word_of_lem a (strip_of k) m
