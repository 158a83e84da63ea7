use Rattle.std.proofs.Common.{◌≡◌, ◌-◌, ◌*◌, ℕ, ap, sym, ◌∙◌, arith}
use lib.Bits.{bit_xor}
use Rattle.rules.specs.Crc.{mirror}
use Rattle.crc.proofs.Nibbles.{shifted, nibble_on, nibbles_end}
use Rattle.crc.proofs.nibbles_out.Goals as goal

pub loop-k-init : goal.loop-k-init
loop-k-init g c = let e : 8 - (8 - g.row.N) ≡ g.row.N = omega arith in rw e

pub loop-k-preserved : goal.loop-k-preserved
loop-k-preserved g c = let k = c.loop-k in nibble_on k.k k.r c.nibble_out-r.result k.left c.loop-k-test.true c.nibble_out-r.ensures ∙ k.invariant

pub returns : goal.returns
returns g c =
    let k = c.loop-k in
    let e : 4 * (8 - k.k) ≡ 0 = omega arith in
    sym (nibbles_end k.r k.left) ∙ ap (λ (n : ℕ). bit_xor k.r (shifted (mirror n k.left))) (sym e) ∙ k.invariant
