use borrow.Author.Rules.{rules}
use mathlib.Core.Path.{◌≡◌}
use mathlib.Core.List.{List, [], ◌∷◌, ◌++◌, append_assoc}
use Prim.Native.Nat.{ℕ, ◌+◌, ◌≤◌}
use native.Mathlib.Omega.{arith}
use Rattle.rules.specs.Bench.{decimal, hex4, line}
use lib.ListN.{length-append}
use Rattle.lists.specs.Written.{writes_on, writes_as}
use Rattle.lines.specs.Decimal.{decimal_length}
use Rattle.lines.specs.Parts.{rest}
use Rattle.lines.proofs.Parts.{goes_on_lem, rest_length}
use Rattle.lines.proofs.line.line_at.Statement.{statement}
use Rattle.lines.proofs.line.line_at.Tie as tie

-- The number ends no later than this.
number-ends : (c : tie.After-number_at-mid) → c.number_at-mid.result ≤ c.args.at + 20
number-ends c = omega (arith, decimal_length 19 c.args.counter.number (search rules), c.number_at-mid.ensures.place)

shown-at-requires : tie.Need-shown_at-end-requires
shown-at-requires c κs = omega (arith, number-ends c.before.before.before)

-- The rest ends no later than this.
rest-ends : (c : tie.After-shown_at-end) → c.shown_at-end.result ≤ c.args.at + 29
rest-ends c = omega (arith, number-ends c.before.before.before.before, c.shown_at-end.ensures.place, (rest_length c.args.shown.0 c.args.shown.1 (search rules)).1)

byte-at-requires : tie.Need-byte_at-requires
byte-at-requires c κs = omega (arith, rest-ends c.before.before.before)

-- The number, the rest and the end are the line.
parts : (d a h : List ℕ) → d ++ ((0x20 ∷ a) ++ (0x20 ∷ h) ++ (0x0a ∷ [])) ≡ d ++ (0x20 ∷ a) ++ (0x20 ∷ h) ++ (0x0a ∷ [])
parts d a h = simp append_assoc

returns : tie.Need-returns
unfolding line
returns c =
    let s = c in
    let n = rest_length s.args.shown.0 s.args.shown.1 (search rules) in
    let e = c.byte_at.ensures in
    let more = writes_on (omega (arith, number-ends c.before.before.before.before.before.before.before.before.before.before)) c.shown_at-end.ensures e in (
      writes_as (parts (decimal s.args.counter.number) (decimal s.args.shown.0) (hex4 s.args.shown.1))
          (goes_on_lem c.number_at-mid.ensures more (omega (arith, n.0, length-append (rest s.args.shown.0 s.args.shown.1) (0x0a ∷ [])))),
      omega (arith, rest-ends c.before.before.before.before.before.before, e.place),
    )

pub line_at_spec : {M : Type 1} → statement M
line_at_spec = tie.close (tie.spec (λ c κs. search rules) shown-at-requires byte-at-requires (λ c. search rules) returns)
