-- The mask is stored; then, by the part, an acknowledge.
use mathlib.Core.Path.{sym, ◌∙◌}
use lib.ListN.{length-set}
use Rattle.interrupts.proofs.Acknowledge.{masked_kept, masked_queues, writes_mask, writes_both}
use borrow.Author.Rules.{rules}
use Rattle.interrupts.proofs.interrupts.write_interrupt.Statement.{statement}
use Rattle.interrupts.proofs.interrupts.write_interrupt.Tie as tie

returns : tie.Need-returns-then-is_high
returns c =
    let m = c in
    let d = c in
    (writes_mask _ _ _ _ d.args.words.now d.args.queues.now d.requires.0 d.requires.1 m.merged.ensures m.high_only.ensures (sym c.is_high.ensures ∙ c.if-is_high.true), (simp length-set d.requires.0.whole, d.requires.1.long))

acknowledge-requires : tie.Need-acknowledge-requires
acknowledge-requires c κs =
    let m = c in
    let d = c in
    (masked_kept _ _ _ _ d.args.words.now d.args.queues.now d.requires.0 d.requires.1 m.merged.ensures m.high_only.ensures, masked_queues _ _ _ _ d.args.words.now d.args.queues.now d.requires.0 d.requires.1 m.merged.ensures m.high_only.ensures)

returns-2 : tie.Need-returns
returns-2 c =
    let f = c in
    let m = c in
    let d = c in
    let a = c.acknowledge.ensures in
    (writes_both _ _ _ _ d.args.words.now d.args.queues.now d.requires.0 d.requires.1 m.merged.ensures m.high_only.ensures (sym f.is_high.ensures ∙ f.if-is_high.false) a, (a.kept.whole, a.queues.long))

pub write_interrupt_spec : {M : Type 1} → statement M
write_interrupt_spec =
    tie.close
    (tie.spec
    (λ c. search rules)
    (λ c κs. search rules)
    (λ c κs. search rules)
    (λ c. search rules)
    (λ c κs. search rules)
    (λ c. search rules)
    returns
    acknowledge-requires
    (λ c. search rules)
    (λ c. search rules)
    returns-2)
