-- The law of control; the link's word stands as it did after the first store.
use mathlib.Core.Path.{ap}
use Prim.Native.Nat.{ℕ, ◌%◌}
use native.Mathlib.Omega.{arith}
use lib.Seq.{get_or-set_other}
use Rattle.state.specs.Writes.{writes_control}
use borrow.Author.Rules.{rules}
use Rattle.registers.proofs.writes.write_control.Statement.{statement}
use Rattle.registers.proofs.writes.write_control.Tie as tie

returns : tie.Need-returns
returns c =
    let m = c in
    let s = c in
    let w = s.args.words.now in
    writes_control _ _ _ _ w s.requires m.merged.ensures (ap (λ (x : ℕ). x % 2) (get_or-set_other w 14 15 m.merged.result 0 (λ e. absurd (omega arith))))

pub write_control_spec : {M : Type 1} → statement M
write_control_spec = tie.close (tie.spec (λ c. search rules) (λ c κs. search rules) (λ c. search rules) (λ c. search rules) (λ c. search rules) (λ c. search rules) returns)
