use borrow.Author.Rules.{rules}
use mathlib.Core.Path.{ap, sym}
use native.Mathlib.Omega.{arith}
use lib.ListN.{length}
use Rattle.lists.specs.Written.{writes_on, writes_as}
use Rattle.lines.specs.Decimal.{decimal_one, decimal_two, decimal_three, decimal_four}
use Rattle.lines.proofs.line.small_at.Statement.{statement}
use Rattle.lines.proofs.line.small_at.Tie as tie

byte-at-requires : tie.Need-byte_at-requires
byte-at-requires c κs = let s = c in omega (arith, s.requires.1, ap length (decimal_one s.args.x c.if-x-lt10.true))

returns : tie.Need-returns-then-x-lt10
returns c = writes_as (sym (decimal_one _ c.if-x-lt10.true)) c.byte_at.ensures

two-at-requires : tie.Need-two_at-requires
two-at-requires c κs = let s = c in (search rules, omega (arith, s.requires.1, ap length (decimal_two s.args.x c.if-x-lt10.false c.if-x-lt100.true)))

returns-2 : tie.Need-returns-then-x-lt100
returns-2 c = writes_as (sym (decimal_two _ c.if-x-lt10.false c.if-x-lt100.true)) c.two_at.ensures

byte-at-requires-2 : tie.Need-byte_at-mid-requires
byte-at-requires-2 c κs = let s = c in omega (arith, s.requires.1, ap length (decimal_three s.args.x c.if-x-lt100.false c.if-x-lt1000.true))

two-at-requires-2 : tie.Need-two_at-requires-then-x-lt1000
two-at-requires-2 c κs =
    let s = c in
    (search rules, omega (arith, s.requires.1, ap length (decimal_three s.args.x c.if-x-lt100.false c.if-x-lt1000.true), c.byte_at-mid.ensures.place))

returns-3 : tie.Need-returns-then-x-lt1000
returns-3 c =
    writes_as (sym (decimal_three _ c.if-x-lt100.false c.if-x-lt1000.true))
    (writes_on (search rules) c.byte_at-mid.ensures c.two_at-then-x-lt1000.ensures)

four-at-requires : tie.Need-four_at-requires
four-at-requires c κs = let s = c in (search rules, omega (arith, s.requires.1, ap length (decimal_four s.args.x c.if-x-lt1000.false s.requires.0)))

returns-4 : tie.Need-returns
returns-4 c = writes_as (sym (decimal_four _ c.if-x-lt1000.false c.requires.0)) c.four_at.ensures

pub small_at_spec : {M : Type 1} → statement M
small_at_spec =
    tie.close
    (tie.spec
    (λ c. search rules)
    (λ c. search rules)
    byte-at-requires
    (λ c. search rules)
    returns
    two-at-requires
    (λ c. search rules)
    returns-2
    (λ c. search rules)
    (λ c. search rules)
    byte-at-requires-2
    two-at-requires-2
    (λ c. search rules)
    returns-3
    four-at-requires
    (λ c. search rules)
    returns-4)
