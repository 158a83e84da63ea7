-- By the lengths.
use mathlib.Core.Path.{sym}
use mathlib.Core.Bool.{true≢false}
use native.Mathlib.Omega.{arith}
use borrow.Author.Tests.{leb-true, le-leb}
use Rattle.skarvoya.proofs.record.roomy.Statement.{statement}
use Rattle.skarvoya.proofs.record.roomy.Tie as tie

returns : tie.Need-returns-then-output-lt-OUTPUT_BYTES
returns c = record { sound = λ e. absurd (true≢false (sym e)); complete = λ r. absurd (omega (arith, r.0, c.if-output-lt-OUTPUT_BYTES.true)) }

returns-2 : tie.Need-returns
returns-2 c = record { sound = λ e. (omega (arith, c.if-output-lt-OUTPUT_BYTES.false), leb-true _ _ e); complete = λ r. le-leb _ _ r.1 }

pub roomy_spec : {M : Type 1} → statement M
roomy_spec = tie.close (tie.spec returns returns-2)
