-- The law of TCR; EPHSR stands as it did after the first store.
use mathlib.Core.Path.{ap, ◌∙◌}
use mathlib.Core.Bool.{cond}
use Prim.Native.Nat.{ℕ}
use native.Mathlib.Omega.{arith}
use lib.Seq.{get_or-set_other}
use Rattle.rules.specs.Bits.{bit}
use Rattle.rules.specs.Registers.{forgotten}
use Rattle.state.specs.Writes.{writes_tcr}
use borrow.Author.Rules.{rules}
use Rattle.registers.proofs.writes.write_tcr.Statement.{statement}
use Rattle.registers.proofs.writes.write_tcr.Tie as tie

returns : tie.Need-returns
returns c =
    let s = c in
    let w = s.args.words.now in
    let new = c.merged-tcr.result in
    writes_tcr _ _ _ _ w s.requires c.merged-tcr.ensures
    (c.ephsr_after.ensures ∙ ap (λ (e : ℕ). cond (bit 0 new) (forgotten e) e) (get_or-set_other w 0 1 new 0 (λ e. absurd (omega arith))))

pub write_tcr_spec : {M : Type 1} → statement M
write_tcr_spec =
    tie.close
    (tie.spec
    (λ c. search rules)
    (λ c κs. search rules)
    (λ c. search rules)
    (λ c. search rules)
    (λ c κs. search rules)
    (λ c. search rules)
    (λ c. search rules)
    returns)
