-- The law of ECR; EPHSR stands as it did after the first store.
use mathlib.Core.Path.{refl, ap, ◌∙◌}
use native.Mathlib.Omega.{arith}
use lib.Seq.{get_or-set_other}
use lib.ListN.{length-set}
use Rattle.rules.specs.Bits.{clear_bit}
use Rattle.state.specs.Writes.{reads_ecr}
use borrow.Author.Rules.{rules}
use Rattle.registers.proofs.reads.read_ecr.Statement.{statement}
use Rattle.registers.proofs.reads.read_ecr.Tie as tie

returns : tie.Need-returns
returns c =
    let s = c in
    let w = s.args.words.now in
    (refl, (λ p. reads_ecr p _ w s.requires (c.with_clear.ensures ∙ ap (clear_bit 12) (get_or-set_other w 3 1 0 0 (λ e. absurd (omega arith)))), simp length-set s.requires.whole))

pub read_ecr_spec : {M : Type 1} → statement M
read_ecr_spec =
    tie.close
    (tie.spec
    (λ c. search rules)
    (λ c. search rules)
    (λ c. search rules)
    (λ c κs. search rules)
    (λ c. search rules)
    (λ c. search rules)
    returns)
