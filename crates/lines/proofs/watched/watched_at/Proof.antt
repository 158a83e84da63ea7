-- The number, the answer with its value, and what stands behind them.
use borrow.Author.Rules.{rules}
use mathlib.Core.Path.{◌≡◌}
use mathlib.Core.Bool.{Bool}
use mathlib.Core.List.{List, [], ◌∷◌, ◌++◌, append_assoc}
use Prim.Native.Nat.{ℕ, ◌+◌, ◌*◌, ◌≤◌}
use native.Mathlib.Omega.{arith}
use lib.ListN.{length, length-append}
use Rattle.rules.specs.Bits.{flag}
use Rattle.rules.specs.Answers.{Reply}
use Rattle.rules.specs.Bench.{decimal, hex4}
use Rattle.rules.specs.Watch.{put_out, more, watch_line}
use Rattle.lists.specs.Written.{writes_on, writes_as}
use Rattle.lines.specs.Decimal.{decimal_length}
use Rattle.lines.specs.Parts.{rest}
use Rattle.lines.proofs.Parts.{goes_on_lem, rest_length}
use Rattle.lines.proofs.Bytes.{sent_length}
use Rattle.lines.proofs.watched.watched_at.Statement.{statement}
use Rattle.lines.proofs.watched.watched_at.Tie as tie

-- The number ends no later than this, and the value than that.
number-ends : (c : tie.After-number_at-b) → c.number_at-b.result ≤ c.args.at + 20
number-ends c = omega (arith, decimal_length 19 c.args.counter.number (search rules), c.number_at-b.ensures.place)

value-ends : (c : tie.After-shown_at-c) → c.shown_at-c.result ≤ c.args.at + 29
value-ends c = omega (arith, number-ends c.before.before.before.before, c.shown_at-c.ensures.place, (rest_length c.args.shown.0 c.args.shown.1 (search rules)).1)

shown-at-requires : tie.Need-shown_at-c-requires
shown-at-requires c κs = omega (arith, number-ends c.before.before.before, c.requires.1, c.lines-1.given)

more-at-requires : tie.Need-more_at-requires
more-at-requires c κs = omega (arith, value-ends c.before.before.before, c.requires.1, c.lines-2-1.given, c.lines-1.given)

-- What stands behind the value has so many bytes.
more-length : (r : Reply) (up sent : Bool) (out : List ℕ) → (3 ≤ length (more r up sent out)) × (length (more r up sent out) ≤ 4 + 2 * length out)
more-length r up sent out =
    let a = length-append ((0x20 ∷ (0x30 + flag up) ∷ []) ++ put_out sent r out) (0x0a ∷ []) in
    (omega (arith, a), omega (arith, a, sent_length sent r out))

-- The number, the rest and more are the line.
parts : (d a h m : List ℕ) → d ++ ((0x20 ∷ a) ++ (0x20 ∷ h) ++ m) ≡ d ++ (0x20 ∷ a) ++ (0x20 ∷ h) ++ m
parts d a h m = simp append_assoc

returns : tie.Need-returns
unfolding watch_line
returns c =
    let s = c in
    let n = rest_length s.args.shown.0 s.args.shown.1 (search rules) in
    let r : Reply = record { number = s.args.shown.0; value = s.args.shown.1 } in
    let m = more-length r s.args.up s.args.sent s.args.out.now in
    let e = c.more_at.ensures in
    let last = writes_on (omega (arith, number-ends c.before.before.before.before.before.before.before.before.before.before, s.requires.1, c.lines-1.given)) c.shown_at-c.ensures e in (
      writes_as (parts (decimal s.args.counter.number) (decimal s.args.shown.0) (hex4 s.args.shown.1) (more r s.args.up s.args.sent s.args.out.now))
          (goes_on_lem c.number_at-b.ensures last (omega (arith, n.0, m.0, length-append (rest s.args.shown.0 s.args.shown.1) (more r s.args.up s.args.sent s.args.out.now)))),
      omega (arith, value-ends c.before.before.before.before.before.before, e.place, m.1),
    )

pub watched_at_spec : {M : Type 1} → statement M
watched_at_spec = tie.close (tie.spec (λ c κs. search rules) shown-at-requires more-at-requires (λ c. search rules) returns)
