-- Each bit; the word of the latches is the sum of two.
use Rattle.interrupts.proofs.Flags.{shows}
use Rattle.interrupts.proofs.Latches.{latches_small}
use borrow.Author.Rules.{rules}
use Rattle.interrupts.proofs.interrupts.status.Statement.{statement}
use Rattle.interrupts.proofs.interrupts.status.Tie as tie

gathered-requires : tie.Need-gathered-requires
gathered-requires c κs = latches_small _ c.requires.fixed.latched

returns : tie.Need-returns
returns c =
    let d = c in
    let s = c in
    (shows s.args.words.now s.requires _ _ _ d.is_set-granted.ensures d.eph-eph.ensures c.gathered.ensures.0, c.gathered.ensures.1)

pub status_spec : {M : Type 1} → statement M
status_spec =
    tie.close
    (tie.spec
    (λ c. search rules)
    (λ c κs. search rules)
    (λ c. search rules)
    (λ c. search rules)
    (λ c. search rules)
    (λ c κs. search rules)
    (λ c. search rules)
    (λ c. search rules)
    (λ c. search rules)
    gathered-requires
    returns)
