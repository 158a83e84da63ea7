-- One queue after the other.
use mathlib.Core.Path.{refl}
use mathlib.Core.List.{[]}
use Rattle.rules.specs.Fields.{set_tx, set_completion, in_pool}
use Rattle.rules.specs.Mmu as rules
use Rattle.rules.specs.Mmu.{perform}
use Rattle.pool.specs.Queues.{rejoins_both, rejoins_chip, rejoins_sound}
use Rattle.commands.specs.Returns.{performs}
use borrow.Author.Rules.{rules}
use Rattle.commands.proofs.do_reset_tx.Statement.{statement}
use Rattle.commands.proofs.do_reset_tx.Tie as tie

returns : tie.Need-returns
unfolding perform
returns c = λ l s pages mem.
    let a = c.args in
    let both = rejoins_both c.empty.ensures c.empty-2.ensures in
    performs rules.reset_tx a.words.now s a.queues.now mem (in_pool (λ p. set_completion [] (set_tx [] p))) refl (rejoins_chip both l s mem) (rejoins_sound both pages)

pub do_reset_tx_spec : {M : Type 1} → statement M
do_reset_tx_spec =
    tie.close
    (tie.spec (λ c κs. search rules) (λ c κs. search rules) (λ c. search rules) (λ c. search rules) returns)
