-- By the two bytes.
use mathlib.Core.Path.{◌≡◌}
use Prim.Native.Nat.{ℕ}
use borrow.Author.Tests.{ne_eqb}
use Rattle.rules.specs.Parts.{part_named}
use Rattle.state.proofs.part.part_named.Statement.{statement}
use Rattle.state.proofs.part.part_named.Tie as tie

abbrev Byte : tie.Start → ℕ → Type 0
Byte s k = s.args.byte ≡ k

returns : tie.Need-returns-in-148
unfolding part_named
returns c = let e : Byte c.before 0x94 = c.in-148.is in rw e

returns-2 : tie.Need-returns-in-150
unfolding part_named
returns-2 c = let e : Byte c.before 0x96 = c.in-150.is in rw e

returns-3 : tie.Need-returns-in_default
unfolding part_named
returns-3 c = let n = c.in_default.in_default-own.rest in rw (ne_eqb c.args.byte 0x94 n.0.1, ne_eqb c.args.byte 0x96 n.1)

pub part_named_spec : {M : Type 1} → statement M
part_named_spec = tie.close (tie.spec returns returns-2 returns-3)
