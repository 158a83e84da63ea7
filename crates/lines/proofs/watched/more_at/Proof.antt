use borrow.Author.Rules.{rules}
use mathlib.Core.Path.{ap}
use mathlib.Core.List.{[], ◌∷◌}
use Prim.Native.Nat.{ℕ, ◌+◌, ◌*◌, ◌≤◌}
use native.Mathlib.Omega.{arith}
use lib.ListN.{length}
use Rattle.lists.specs.Written.{writes_on, writes_as}
use Rattle.lines.proofs.Bytes.{sent_length}
use Rattle.lines.proofs.watched.more_at.Statement.{statement}
use Rattle.lines.proofs.watched.more_at.Tie as tie

-- The bytes put out end no later than this.
sent-ends : (c : tie.After-sent_at-d) → c.sent_at-d.result ≤ c.args.at + 3 + 2 * length c.args.out.now
sent-ends c =
    let s = c in
    omega (arith, sent_length s.args.sent (record { number = s.args.shown.0; value = s.args.shown.1 }) s.args.out.now, c.sent_at-d.ensures.place, c.byte_at-c.ensures.place, c.byte_at-b.ensures.place)

sent-at-requires : tie.Need-sent_at-d-requires
sent-at-requires c κs = omega (arith, c.requires, c.byte_at-c.ensures.place, c.byte_at-b.ensures.place, c.lines-2-1.given, c.lines-1.given)

byte-at-requires-3 : tie.Need-byte_at-requires
byte-at-requires-3 c κs = omega (arith, sent-ends c.before.before.before, c.requires, c.lines-3-1.given, c.lines-2-1.given, c.lines-1.given)

returns : tie.Need-returns
returns c =
    let s = c in
    let r : s.args.at ≤ length s.args.lines.now = omega (arith, s.requires) in
    let digit = writes_as (ap (λ (x : ℕ). (0x30 + x) ∷ []) c.flag_of.ensures.0) c.byte_at-c.ensures in
    writes_on r (writes_on r (writes_on r c.byte_at-b.ensures digit) c.sent_at-d.ensures) c.byte_at.ensures

pub more_at_spec : {M : Type 1} → statement M
more_at_spec =
    tie.close
    (tie.spec
    (λ c κs. search rules)
    (λ c κs. search rules)
    (λ c. search rules)
    (λ c. search rules)
    (λ c κs. search rules)
    sent-at-requires
    byte-at-requires-3
    (λ c. search rules)
    returns)
