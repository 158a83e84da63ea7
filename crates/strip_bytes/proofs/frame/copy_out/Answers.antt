-- The part of memory is the packet's data.
use Rattle.std.proofs.Common.{◌≡◌, ℕ, ◌+◌, ◌-◌, List, take, drop, ap, ap₂, sym, ◌∙◌, arith}
use Rattle.rules.specs.Answers.{over}
use Rattle.strip_bytes.specs.Strip.{strip_get}
use Rattle.strip_bytes.proofs.frame.copy_out.Goals as goal

pub returns : goal.returns
returns c =
    let x = c.args in
    let m = x.memory.now in
    let i = c.place_of-start.result in
    let e : i + x.len - i ≡ x.len = omega arith in
    c.fill_part.ensures
    ∙ ap (λ (l : List ℕ). over l x.out.now)
    (ap₂ (λ (n j : ℕ). take n (drop j m)) e c.place_of-start.ensures
    ∙ sym (strip_get x.packet.0 8 x.len 4 m (omega (arith, c.requires.1.within)) (omega (arith, c.requires.1.there, c.requires.1.within))))
