-- The two words are four bytes of the first page.
use Rattle.std.proofs.Common.{◌≡◌, ℕ, suc, ◌+◌, List, [], ◌∷◌, ap, ap₂, sym, ◌∙◌, arith}
use Rattle.std.proofs.lemmas.List.Edits.{sets}
use Rattle.rules.specs.Bits.{low_byte, high_byte}
use Rattle.lists.specs.Bytes.{put_within}
use Rattle.sets.specs.Views.{pages_of}
use Rattle.packet.proofs.frame.write_head.Goals as goal

pub returns : goal.returns
returns c =
    let x = c.args in
    let first = low_byte x.status ∷ high_byte x.status ∷ [] in
    let second = low_byte x.count ∷ high_byte x.count ∷ [] in
    let i = c.place_in-i.result in
    let m = x.memory.now in
    let e : i + 2 ≡ suc (suc i) = omega arith in
    c.put_word-2.ensures
    ∙ ap₂ (λ (l : List ℕ) (j : ℕ). sets l j second) c.put_word.ensures e
    ∙ ap (λ (j : ℕ). sets m j (low_byte x.status ∷ high_byte x.status ∷ second)) c.place_in-i.ensures.0
    ∙ sym (put_within (pages_of x.pages) (low_byte x.status ∷ high_byte x.status ∷ second) 0 m (omega arith))
