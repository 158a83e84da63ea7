-- By what the check says; of a record in order the line is that of its words.
use mathlib.Core.Bool.{not}
use mathlib.Core.Path.{ap, sym, ◌∙◌}
use Rattle.rules.specs.Bits.{flag}
use Rattle.rules.specs.Chip.{paged}
use Rattle.state.specs.Entry.{of_part}
use Rattle.chip.specs.Rights.{not_in, is_in}
use borrow.Author.Rules.{rules}
use Rattle.skarvoya.proofs.entries.skarvoya_line.Statement.{statement}
use Rattle.skarvoya.proofs.entries.skarvoya_line.Tie as tie

returns : tie.Need-returns-then-not-ready
returns c = record { up = λ o. absurd (not_in c.ready.ensures (ap not c.if-not-ready.true) o); refused = λ n. c.told.ensures }

line-up-requires : tie.Need-line_up-requires
line-up-requires c κs = let o = (is_in c.ready.ensures (ap not c.if-not-ready.false)).ready.sound in (o.kept, (_, o.queues))

returns-2 : tie.Need-returns-then-line_up
unfolding flag
returns-2 c = let s = c.args in record { up = λ o mem. ap flag (sym c.if-line_up.true ∙ c.line_up.ensures paged (of_part s.words.now s.sets.now) s.queues.now mem o.ready.sound.queues); refused = λ n. absurd (n (is_in c.ready.ensures (ap not c.if-not-ready.false))) }

returns-3 : tie.Need-returns-else-line_up
unfolding flag
returns-3 c = let s = c.args in record { up = λ o mem. ap flag (sym c.if-line_up.false ∙ c.line_up.ensures paged (of_part s.words.now s.sets.now) s.queues.now mem o.ready.sound.queues); refused = λ n. absurd (n (is_in c.ready.ensures (ap not c.if-not-ready.false))) }

pub skarvoya_line_spec : {M : Type 1} → statement M
skarvoya_line_spec =
    tie.close (tie.spec (λ c κs. search rules) (λ c κs. search rules) returns line-up-requires returns-2 returns-3)
