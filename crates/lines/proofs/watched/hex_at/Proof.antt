-- After i bytes two digits stand for each of them.
use borrow.Author.Rules.{rules}
use mathlib.Core.Path.{◌≡◌, refl, ap, sym, ◌∙◌}
use mathlib.Core.List.{[], ◌∷◌}
use Prim.Native.Nat.{ℕ, ◌+◌, ◌*◌, ◌-◌, ◌/◌, ◌%◌, ◌≤◌}
use native.Mathlib.Omega.{arith}
use lib.ListN.{length, take, get_or}
use lib.Seq.{take-length}
use Rattle.rules.specs.Bench.{hex_digit}
use Rattle.rules.specs.Watch.{hex_bytes}
use Rattle.lists.specs.Written.{Writes, writes_on, writes_as}
use Rattle.lines.proofs.Bytes.{hex_more, writes_none}
use Rattle.lines.proofs.watched.hex_at.Statement.{statement}
use Rattle.lines.proofs.watched.hex_at.Tie as tie

abbrev invariant-loop : tie.invariant-loop-i
invariant-loop lines₀ at bytes end₀ i₀ lines end i =
    (i ≤ length bytes) × (end ≡ at + 2 * i) × Writes lines₀ at (hex_bytes (take i bytes)) lines end × (length lines ≡ length lines₀)

abbrev decreases-loop : tie.decreases-loop-i
decreases-loop lines₀ at bytes end₀ i₀ lines end i = length bytes - i

loop-holds : tie.Need-loop-i-init invariant-loop decreases-loop
unfolding hex_bytes
loop-holds c =
    let s = c in
    (search rules, search rules, writes_none s.args.lines.now s.args.at, refl)

loop-again : tie.Need-loop-i-preserved invariant-loop decreases-loop
unfolding hex_bytes
loop-again c =
    let l = c in
    let s = c in
    let v = l.loop-i.invariant in
    let bytes = s.args.bytes.now in
    let i = l.loop-i.i in
    let t = c.loop-i-test.true in
    let known = c.shared_slice_known-in-loop-i-1.given i in
    let high : get_or bytes i 0 / 16 ≡ get_or bytes i 0 / 16 % 16 = omega (arith, known) in
    let first = writes_as (ap (λ (x : ℕ). x ∷ []) (c.hex_digit.ensures ∙ ap hex_digit high)) c.byte_at-mid.ensures in
    let second = writes_as (ap (λ (x : ℕ). x ∷ []) c.hex_digit-in-loop-i.ensures) c.byte_at-end.ensures in
    let r : s.args.at ≤ length s.args.lines.now = omega (arith, s.requires) in (
      omega (arith, t),
      omega (arith, v.1, first.place, second.place),
      writes_as (sym (hex_more bytes i t)) (writes_on r (writes_on r v.2 first) second),
      c.lines-in-loop-i-1.given ∙ c.lines-1.given ∙ v.3,
    )

returns : tie.Need-returns invariant-loop decreases-loop
returns c =
    let s = c in
    let v = c.loop-i.invariant in
    let e : c.loop-i.i ≡ length s.args.bytes.now = omega (arith, v.0, c.loop-i-test.false) in
    writes_as (ap (λ (k : ℕ). hex_bytes (take k s.args.bytes.now)) e ∙ ap hex_bytes (take-length s.args.bytes.now)) v.2

pub hex_at_spec : {M : Type 1} → statement M
hex_at_spec =
    tie.close
    (tie.spec
    invariant-loop
    decreases-loop
    loop-holds
    (λ c. search rules)
    (λ c κs. omega (arith, c.shared_slice_known-in-loop-i-1.given c.loop-i.i))
    (λ c κs. search rules)
    (λ c. search rules)
    (λ c κs. search rules)
    (λ c κs. search rules)
    (λ c. search rules)
    (λ c. search rules)
    loop-again
    (λ c. c.loop-i.invariant.3)
    returns)
