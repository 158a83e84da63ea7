-- A counter without digits is written by `long_at`; one with digits in one word, of which the first `length` bytes are the number.
use borrow.Author.Rules.{rules}
use mathlib.Core.Path.{refl}
use Prim.Native.Nat.{◌≤◌}
use native.Mathlib.Omega.{arith}
use lib.ListN.{length}
use lib.Seq.{take-length}
use Rattle.rules.specs.Bench.{decimal}
use Rattle.lines.specs.Decimal.{decimal_length}
use Rattle.lines.specs.Word.{bytes8}
use Rattle.lines.proofs.Packed.{Digits, digits_few, digits_out, has_digits}
use Rattle.lines.proofs.Parts.{begins}
use Rattle.lines.proofs.line.number_at.Statement.{statement}
use Rattle.lines.proofs.line.number_at.Tie as tie

-- A record's number has at most 20 digits, and its counter has them where it has any.
few : (s : tie.Start) → length (decimal s.args.counter.number) ≤ 20
few s = decimal_length 19 s.args.counter.number (search rules)

digits : (c : tie.Else-counter-eq0) → let k = c.args.counter in Digits k.number k.text k.unit k.last k.length
digits c = let s = c in has_digits s.args.counter s.requires.0 (omega (arith, c.if-counter-eq0.false))

long-at-requires : tie.Need-long_at-requires
long-at-requires c κs = let s = c.before.before.before.before in omega (arith, s.requires.1, few s)

returns : tie.Need-returns-then-counter-eq0
returns c =
    let s = c.before.before.before.before.before.before.before in
    let w = c.long_at.ensures in
    let d = decimal s.args.counter.number in
    begins w (omega (arith, s.requires.1, few s)) (length d) (omega arith) (omega arith) (take-length d) w.place

add-result : tie.Need-overflow_add-result
add-result c = record { fits = omega (arith, c.requires.1, digits_few (digits c.before.before.before.before.before)) }

returns-2 : tie.Need-returns
unfolding bytes8
returns-2 c =
    let d = digits c.before.before.before.before.before in
    begins c.eight_at.ensures (search rules) c.args.counter.length
    (omega (arith, digits_few d)) (omega arith) (digits_out d) refl

pub number_at_spec : {M : Type 1} → statement M
number_at_spec =
    tie.close
    (tie.spec
    long-at-requires
    (λ c. search rules)
    returns
    (λ c κs. search rules)
    add-result
    (λ c. search rules)
    returns-2)
