-- RX is empty, or its head leaves.
use Rattle.std.specs.Prelude.{Ok, Err}
use mathlib.Core.Path.{sym, ◌∙◌}
use Prim.Native.Nat.{◌<◌}
use native.Mathlib.Omega.{arith}
use lib.ListN.{length, drop}
use Rattle.rules.specs.Fields.{set_rx, in_pool}
use Rattle.rules.specs.Mmu as rules
use Rattle.state.specs.declared.Refusal.TheVariants as refusal
use Rattle.state.specs.View.{word, queue_in, view_of}
use Rattle.pool.specs.Queues.{rejoins_chip, rejoins_sound}
use Rattle.commands.specs.Steps.{removes_none, removes}
use Rattle.commands.specs.Returns.{performs, unchanged}
use borrow.Author.Rules.{rules}
use Rattle.commands.proofs.rx.do_remove.Statement.{statement}
use Rattle.commands.proofs.rx.do_remove.Tie as tie

returns : tie.Need-returns-then-words-eq0
returns c = λ l s pages mem.
    let a = c in
    unchanged rules.remove_rx _ s _ mem (Err refusal.RxEmpty) (record { kept = a.requires.0; queues = a.requires.1; sets = pages }) (removes_none _ (sym a.requires.1.rx.many ∙ c.if-words-eq0.true))

returns-2 : tie.Need-returns
returns-2 c = λ l s pages mem.
    let h = c in
    let e = c in
    let a = c in
    let w = a.args.words.now in
    let q = a.args.queues.now in
    let some : 0 < length (queue_in 0 (word w 6) q) = omega (arith, a.requires.1.rx.many, e.if-words-eq0.false) in
    performs rules.remove_rx w s q mem (λ x. in_pool (set_rx (drop 1 x.pool.rx)) x) (removes (view_of l w s q mem) some) (rejoins_chip h.leave.ensures.1 l s mem) (rejoins_sound h.leave.ensures.1 pages)

pub do_remove_spec : {M : Type 1} → statement M
do_remove_spec =
    tie.close
    (tie.spec (λ c. search rules) returns (λ c κs. search rules) (λ c. search rules) (λ c. search rules) returns-2)
