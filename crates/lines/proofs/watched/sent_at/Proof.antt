-- By the two tests: no send, refused, or done; and no more than the buffer has.
use borrow.Author.Rules.{rules}
use mathlib.Core.Path.{◌≡◌, ap, sym, ◌∙◌}
use mathlib.Core.List.{List, [], ◌∷◌, ◌++◌}
use Prim.Native.Nat.{ℕ}
use native.Mathlib.Omega.{arith}
use lib.ListN.{take}
use lib.Seq.{length-take-le}
use Rattle.rules.specs.Watch.{hex_bytes}
use Rattle.lists.specs.Written.{writes_on, writes_as}
use Rattle.lines.proofs.Bytes.{no_send, refused_send, done_send, take_whole, writes_none}
use Rattle.lines.proofs.watched.sent_at.Statement.{statement}
use Rattle.lines.proofs.watched.sent_at.Tie as tie

returns : tie.Need-returns-then-not-sent
returns c =
    let s = c in
    writes_as (sym (no_send _ s.args.out.now (c.if-not-sent.true))) (writes_none s.args.lines.now s.args.at)

returns-3 : tie.Need-returns-then-out-n
returns-3 c =
    let s = c in
    let out = s.args.out.now in
    let whole : take s.args.shown.1 out ≡ out = take_whole out s.args.shown.1 (omega (arith, c.if-out-n.true)) in
    writes_as (ap (λ (l : List ℕ). (0x20 ∷ []) ++ hex_bytes l) (sym whole) ∙ sym (done_send s.args.shown.1 out c.if-not-sent.false (omega arith)))
    (writes_on (omega (arith, s.requires)) c.byte_at-mid.ensures c.hex_at.ensures)

slice-aggregate-hex-at : tie.Need-slice_bounds-hex_at-end
slice-aggregate-hex-at c = sym (length-take-le _ _ (omega (arith, c.if-out-n.false)))

hex-at-requires-2 : tie.Need-hex_at-requires-2
hex-at-requires-2 c κs = omega (arith, slice-aggregate-hex-at c, c.if-out-n.false, c.byte_at-mid.ensures.place, c.lines-1.given, c.requires)

returns-4 : tie.Need-returns
returns-4 c =
    let s = c in
    writes_as (sym (done_send s.args.shown.1 s.args.out.now (c.if-not-sent.false) (omega arith)))
    (writes_on (omega (arith, s.requires)) c.byte_at-mid.ensures c.hex_at-2.ensures)

-- No fact of the second test is named by its text: another test has other facts, and these then fail.
pub sent_at_spec : {M : Type 1} → statement M
sent_at_spec =
    tie.close
    (tie.spec
    returns
    (λ c. writes_as (sym (refused_send c.args.sent c.args.shown.0 c.args.shown.1 c.args.out.now (λ e. omega (arith, e)))) (writes_none c.args.lines.now c.args.at))
    (λ c. search rules)
    (λ c κs. search rules)
    (λ c κs. search rules)
    (λ c. search rules)
    returns-3
    slice-aggregate-hex-at
    hex-at-requires-2
    (λ c. search rules)
    returns-4)
