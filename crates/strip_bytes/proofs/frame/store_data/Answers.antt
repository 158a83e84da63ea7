-- What the lent part is left as, put back between the bytes before and behind it, is memory with the bytes put.
use Rattle.std.proofs.Common.{◌≡◌, ℕ, ◌+◌, ◌-◌, List, ◌++◌, length, take, drop, ap, sym, ◌∙◌, arith}
use Rattle.std.proofs.Math.Seq.{length-take-le}
use Rattle.std.proofs.lemmas.List.Edits.{sets}
use Rattle.lists.specs.Bytes.{part_over}
use Rattle.strip_bytes.specs.Strip.{strip_put}
use Rattle.strip_bytes.proofs.frame.store_data.Goals as goal

pub returns : goal.returns
returns c =
    let x = c.args in
    let m = x.memory.now in
    let bytes = take x.n x.frame.now in
    let i = c.place_of-start.result in
    let k = i + x.n - i in
    let e : length bytes ≡ x.n = length-take-le x.n x.frame.now c.requires.0 in
    ap (λ (y : List ℕ). take i m ++ (y ++ drop k (drop i m))) c.fill_part.ensures
    ∙ part_over m i k bytes (omega (arith, e)) (omega (arith, c.requires.1.there, c.requires.1.within, c.place_of-start.ensures))
    ∙ ap (λ (j : ℕ). sets m j bytes) c.place_of-start.ensures
    ∙ sym (strip_put x.packet.0 8 bytes 4 m (omega (arith, e, c.requires.1.within)))
