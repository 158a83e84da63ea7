-- Each key computes; the rest by which values are left.
use borrow.Author.Rules.{rules}
use mathlib.Core.Path.{sym, ap}
use native.Mathlib.Omega.{arith}
use Rattle.rules.specs.Mmu.{decode}
use Rattle.commands.specs.Steps.{decode_allocate, decode_unknown}
use Rattle.commands.proofs.decode.decoded.Statement.{statement}
use Rattle.commands.proofs.decode.decoded.Tie as tie

returns : tie.Need-returns-in-0
unfolding decode
returns c = sym (ap decode c.in-0.is)

returns-2 : tie.Need-returns-in-64
unfolding decode
returns-2 c = sym (ap decode c.in-64.is)

returns-3 : tie.Need-returns-in-96
unfolding decode
returns-3 c = sym (ap decode c.in-96.is)

returns-4 : tie.Need-returns-in-128
unfolding decode
returns-4 c = sym (ap decode c.in-128.is)

returns-5 : tie.Need-returns-in-160
unfolding decode
returns-5 c = sym (ap decode c.in-160.is)

returns-6 : tie.Need-returns-in-192
unfolding decode
returns-6 c = sym (ap decode c.in-192.is)

returns-7 : tie.Need-returns-in-224
unfolding decode
returns-7 c = sym (ap decode c.in-224.is)

returns-8 : tie.Need-returns-in-32-to-39
returns-8 c = sym (decode_allocate _ c.in-32-to-39.if-value-lt32-own.false c.in-32-to-39.if-value-lt40-own.true)

returns-9 : tie.Need-returns-in_default
returns-9 c =
    let v = c.args.value in
    let n = c.in_default.in_default-own.rest in
    sym (decode_unknown v n.0.0.0.0.0.0.1 (λ e. omega (arith, c.in_default.if-value-lt32-own.true)) n.0.0.0.0.0.1 n.0.0.0.0.1 n.0.0.0.1 n.0.0.1 n.0.1 n.1)

returns-10 : tie.Need-returns-in_default-2
returns-10 c =
    let v = c.args.value in
    let n = c.in_default.in_default-own.rest in
    sym (decode_unknown v n.0.0.0.0.0.0.1 (λ e. omega (arith, c.in_default.if-value-lt40-own.false)) n.0.0.0.0.0.1 n.0.0.0.0.1 n.0.0.0.1 n.0.0.1 n.0.1 n.1)

pub decoded_spec : {M : Type 1} → statement M
decoded_spec =
    tie.close
    (tie.spec
    (λ c. search rules)
    (λ c. search rules)
    returns
    returns-2
    returns-3
    returns-4
    returns-5
    returns-6
    returns-7
    returns-8
    returns-9
    returns-10)
