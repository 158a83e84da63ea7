use borrow.Author.Rules.{rules}
use Prim.Native.Nat.{◌+◌, ◌<◌}
use mathlib.Core.Path.{◌≡◌}
use Rattle.lines.specs.declared.count.Counter.{Counter}
use Rattle.lines.specs.Counting.{Counts}
use native.Mathlib.Omega.{arith}
use Rattle.lines.proofs.Packed.{Digits, digits_fit, digits_next, digits_counted, has_digits}
use Rattle.lines.proofs.count.next.Statement.{statement}
use Rattle.lines.proofs.count.next.Tie as tie

-- The digits of the next number, where the last one is no 9.
grown : (k : Counter) → Counts k → 0 < k.length → (k.last ≡ 9 → ⊥) → Digits (k.number + 1) (k.text + k.unit) k.unit (k.last + 1) k.length
grown k counts some less = let d = has_digits k counts some in digits_next d (omega (arith, d.ends, less))

-- No fact of the second test is named by its text: another test has other facts, and these then fail.
add-t6 : tie.Need-overflow_add-result-2
add-t6 c = record { fits = omega (arith, digits_fit (grown c.args.counter c.requires.0 (omega arith) (λ e. omega (arith, e)))) }

add-t7 : tie.Need-overflow_add-result-3
add-t7 c = record { fits = omega (arith, (grown c.args.counter c.requires.0 (omega arith) (λ e. omega (arith, e))).ends) }

returns-3 : tie.Need-returns
returns-3 c = digits_counted (grown c.args.counter c.requires.0 (omega arith) (λ e. omega (arith, e)))

pub next_spec : {M : Type 1} → statement M
next_spec =
    tie.close
    (tie.spec
    (λ c. search rules)
    (λ c κs. search rules)
    (λ c. search rules)
    (λ c. search rules)
    (λ c κs. search rules)
    (λ c. search rules)
    (λ c. search rules)
    add-t6
    add-t7
    returns-3)
