-- The part of memory is as long as the buffer, so nothing of the buffer stays.
use Rattle.std.proofs.Common.{◌≡◌, ℕ, ◌+◌, ◌-◌, ◌%◌, ◌≤◌, length, take, drop, ap, sym, ◌∙◌, arith, length-take, length-drop}
use Rattle.lists.specs.Bytes.{get_within, over_all}
use Rattle.sets.specs.Views.{pages_of}
use Rattle.packet.proofs.Facts.{room_place}
use Rattle.packet.proofs.fill.copy_page.Goals as goal

pub returns : goal.returns
returns c =
    let m = c.args.memory.now in
    let out = c.args.out.now in
    let i = c.place_in-start.result in
    let n = length out in
    let e : i + n - i ≡ n = omega arith in
    let r : i + n ≤ length m = omega (arith, c.requires.0, room_place c.requires.1 i c.args.at.0 c.place_in-start.ensures.1) in
    let h : n ≤ length (take (i + n - i) (drop i m)) = simp (length-take, length-drop) (omega arith) in
    c.fill_part.ensures
    ∙ over_all (take (i + n - i) (drop i m)) out h
    ∙ ap (λ (k : ℕ). take k (drop i m)) e
    ∙ ap (λ (j : ℕ). take n (drop j m)) c.place_in-start.ensures.0
    ∙ sym (get_within n (c.args.at.0 % 256) (pages_of c.args.rest) m (omega (arith, c.requires.0)) (omega (arith, r, c.place_in-start.ensures.0)))
