use borrow.Author.Rules.{rules}
use mathlib.Core.Path.{◌≡◌}
use mathlib.Core.List.{List, [], ◌∷◌, ◌++◌, append_assoc}
use Prim.Native.Nat.{ℕ, ◌+◌, ◌≤◌}
use native.Mathlib.Omega.{arith}
use lib.ListN.{length}
use Rattle.rules.specs.Bench.{decimal, hex4}
use Rattle.lists.specs.Written.{writes_on, writes_as}
use Rattle.lines.specs.Decimal.{decimal_length}
use Rattle.lines.proofs.line.shown_at.Statement.{statement}
use Rattle.lines.proofs.line.shown_at.Tie as tie

-- The answer has at most three digits, so each part ends no later than this.
few : (s : tie.Start) → length (decimal s.args.shown.0) ≤ 3
few s = decimal_length 2 s.args.shown.0 (search rules)

answer-ends : (c : tie.After-small_at-c) → c.small_at-c.result ≤ c.args.at + 4
answer-ends c = omega (arith, few c.before.before.before.before.before.before.before.before, c.small_at-c.ensures.place, c.byte_at-b.ensures.place)

small-at-requires : tie.Need-small_at-c-requires
small-at-requires c κs =
    let s = c.before.before.before.before.before.before.before in
    (search rules, omega (arith, s.requires, few s, c.byte_at-b.ensures.place))

byte-at-requires-2 : tie.Need-byte_at-d-requires
byte-at-requires-2 c κs = omega (arith, answer-ends c.before.before.before)

word-at-requires : tie.Need-word_at-requires
word-at-requires c κs = omega (arith, answer-ends c.before.before.before.before.before.before.before.before, c.byte_at-d.ensures.place)

-- The parts, one behind the other, are what stands behind the number.
parts : (a h : List ℕ) → (0x20 ∷ []) ++ a ++ (0x20 ∷ []) ++ h ≡ (0x20 ∷ a) ++ (0x20 ∷ h)
parts a h = simp append_assoc

returns : tie.Need-returns
returns c =
    let s = c in
    let r : s.args.at ≤ length s.args.lines.now = omega (arith, s.requires) in
    let first = c.byte_at-b.ensures in
    let answer = c.small_at-c.ensures in
    let second = c.byte_at-d.ensures in
    let value = writes_as c.hex_word.ensures c.word_at.ensures in
    writes_as (parts (decimal s.args.shown.0) (hex4 s.args.shown.1)) (writes_on r (writes_on r (writes_on r first answer) second) value)

pub shown_at_spec : {M : Type 1} → statement M
shown_at_spec =
    tie.close
    (tie.spec
    (λ c κs. search rules)
    (λ c. search rules)
    small-at-requires
    byte-at-requires-2
    (λ c κs. search rules)
    word-at-requires
    (λ c. search rules)
    returns)
