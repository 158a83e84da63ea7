use borrow.Author.Rules.{rules}
use Prim.Native.Nat.{◌+◌, ◌/◌, ◌≤◌}
use native.Mathlib.Omega.{arith}
use lib.Bits.{bit_and, and_le_r}
use Rattle.lines.proofs.Hex.{nibbles, hex_word}
use Rattle.lines.proofs.line.hex_word.Statement.{statement}
use Rattle.lines.proofs.line.hex_word.Tie as tie

few : (c : tie.Start) → bit_and ((nibbles c.args.x + 0x06060606) / 16) 0x01010101 ≤ 0x01010101
few c = and_le_r ((nibbles c.args.x + 0x06060606) / 16) 0x01010101

mul-result : tie.Need-overflow_mul-result
mul-result c = record { fits = omega (arith, few c) }

add-result : tie.Need-overflow_add-result
add-result c = record { fits = omega (arith, few c) }

add-result-2 : tie.Need-overflow_add-result-2
add-result-2 c = record { fits = omega (arith, few c) }

returns : tie.Need-returns
returns c = hex_word c.args.x (search rules)

pub hex_word_spec : {M : Type 1} → statement M
hex_word_spec =
    tie.close
    (tie.spec
    (λ c. search rules)
    (λ c. search rules)
    (λ c. search rules)
    (λ c. search rules)
    (λ c. search rules)
    (λ c. search rules)
    (λ c. search rules)
    mul-result
    add-result
    add-result-2
    returns)
