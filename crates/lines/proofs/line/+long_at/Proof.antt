-- The measure is the number.
use borrow.Author.Rules.{rules}
use mathlib.Core.Path.{sym}
use Prim.Native.Nat.{ℕ, ◌<◌}
use native.Mathlib.Omega.{arith}
use borrow.Fn.Kinds.{In}
use borrow.Fn.PlainCycle.{Measures, is, falls, and}
use Rattle.lists.specs.Written.{writes_on, writes_as}
use Rattle.lines.specs.Decimal.{decimal_myriad, length_myriad}
use Rattle.lines.proofs.line.long_at.Reads as long-at
use Rattle.lines.proofs.line.long_at.Kinds as long-at-kinds
use Rattle.lines.proofs.line.+long_at.Lts-long_at as long-at-lts
use Rattle.lines.proofs.line.four_at.Reads as four-at-reads
use Rattle.lines.proofs.line.small_at.Reads as small-at-reads
use Rattle.lines.proofs.line.+long_at.{statement}
use Rattle.lines.proofs.line.+long_at.Tie.{close}

abbrev μ-long-at : Measures 1 long-at-kinds.ps ℕ
μ-long-at κs a = a.1.1.0

-- what `long_at` is given at the measure t, and what a call of it asks below t
abbrev long-at-at : ℕ → In 1 long-at-kinds.ps
long-at-at t = and 1 long-at-kinds.ps (is 1 long-at-kinds.ps μ-long-at t) long-at.Pre

abbrev long-at-below : ℕ → In 1 long-at-kinds.ps
long-at-below t = and 1 long-at-kinds.ps (falls 1 long-at-kinds.ps ◌<◌ μ-long-at t) long-at.Pre

abbrev claims : ℕ → long-at-lts.Claims
claims t = (small-at-reads.Asked, small-at-reads.Learnt, long-at-below t, long-at.Post, four-at-reads.Asked, four-at-reads.Learnt)

module _ (t : ℕ) where
  small-at-requires : long-at-lts.Need-small_at-requires (claims t) (long-at-at t) long-at.Post
  small-at-requires c κs = (c.if-x-lt10000.true, c.requires.1)

  returns : long-at-lts.Need-returns-then-x-lt10000 (claims t) (long-at-at t) long-at.Post
  returns c = c.small_at.ensures

  long-at-requires : long-at-lts.Need-long_at-mid-requires (claims t) (long-at-at t) long-at.Post
  long-at-requires c κs =
      let s = c.before.before.before in
      (omega (arith, s.requires.0, c.if-x-lt10000.false), omega (arith, s.requires.1, length_myriad s.args.x c.if-x-lt10000.false))

  four-at-requires : long-at-lts.Need-four_at-requires (claims t) (long-at-at t) long-at.Post
  four-at-requires c κs =
      let s = c.before.before.before.before.before.before.before in
      (search rules, omega (arith, s.requires.1, length_myriad s.args.x c.if-x-lt10000.false, c.long_at-mid.ensures.place))

  returns-2 : long-at-lts.Need-returns (claims t) (long-at-at t) long-at.Post
  returns-2 c =
      let s = c.before.before.before.before.before.before.before.before.before.before in
      writes_as (sym (decimal_myriad s.args.x c.if-x-lt10000.false))
      (writes_on (omega (arith, s.requires.1)) c.long_at-mid.ensures c.four_at.ensures)

pub +long_at_spec : {M : Type 1} → statement M
+long_at_spec =
    close μ-long-at λ t.
    long-at-lts.spec (claims t) (long-at-at t) long-at.Post
    (λ c. search rules)
    (small-at-requires t)
    (λ c. search rules)
    (returns t)
    (long-at-requires t)
    (λ c. search rules)
    (four-at-requires t)
    (λ c. search rules)
    (returns-2 t)
