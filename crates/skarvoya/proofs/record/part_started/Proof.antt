-- By the record's number and its length, then as the part says that it asks for.
use mathlib.Core.Path.{ap, sym, ◌∙◌}
use native.Mathlib.Omega.{arith}
use lib.ListN.{take}
use lib.Seq.{length-take-le}
use Rattle.rules.specs.Bench.{asks_for}
use Rattle.turns.specs.Served.{asked}
use Rattle.skarvoya.specs.Recorded.{cut_short, whole, later_none, short_none, first_asks}
use Rattle.skarvoya.proofs.record.part_started.Statement.{statement}
use Rattle.skarvoya.proofs.record.part_started.Tie as tie

returns : tie.Need-returns-then-number-ne1
returns c = let s = c.args in later_none s.number (asked (take 8 s.bytes.now)) (λ e. omega (arith, e, c.if-number-ne1.true))

returns-2 : tie.Need-returns-then-bytes-lt8
returns-2 c = let s = c.args in short_none s.number (cut_short s.bytes.now (omega (arith, c.if-bytes-lt8.true)))

returns-3 : tie.Need-returns
returns-3 c =
    let s = c.args in
    first_asks s.number (asked (take 8 s.bytes.now)) (omega (arith, c.if-number-ne1.false)) (c.part_asked.ensures ∙ ap asks_for (sym (whole s.bytes.now (omega (arith, c.if-bytes-lt8.false)))))

pub part_started_spec : {M : Type 1} → statement M
part_started_spec =
    tie.close
    (tie.spec
    returns
    returns-2
    (λ c. sym (length-take-le 8 c.args.bytes.now (omega (arith, c.if-bytes-lt8.false))))
    (λ c κs. length-take-le 8 c.args.bytes.now (omega (arith, c.if-bytes-lt8.false)))
    returns-3)
