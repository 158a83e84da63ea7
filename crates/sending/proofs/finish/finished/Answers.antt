-- The refusals in their order: each test is the rules', and with those before it passed a law of `Laws` says what it gives.
-- Past all of them the turn is `head_sent`, which `send_head` promises.
use Rattle.std.specs.Prelude.{refl}
use Rattle.std.proofs.Common.{sym, ◌∙◌, arith}
use Rattle.sending.specs.After.{within_few, refuses, sends_as}
use Rattle.sending.specs.Laws.{short_output, outside, not_enabled, nothing_queued, head_sent_lem}
use Rattle.sending.proofs.finish.finished.Goals as goal

pub returns-then-out-lt-OUTPUT_BYTES : goal.returns-then-out-lt-OUTPUT_BYTES
returns-then-out-lt-OUTPUT_BYTES g c = refuses 15 c.requires.0.sound (short_output _ _ _ c.if-out-lt-OUTPUT_BYTES.true) refl

pub returns-then-not-is_within : goal.returns-then-not-is_within
returns-then-not-is_within g c = refuses 11 c.requires.0.sound (outside _ _ _ c.if-out-lt-OUTPUT_BYTES.false (sym c.is_within.ensures ∙ c.if-not-is_within.true)) refl

pub returns-then-not-is_set : goal.returns-then-not-is_set
returns-then-not-is_set g c =
    refuses 12 c.requires.0.sound
    (not_enabled _ _ _ c.if-out-lt-OUTPUT_BYTES.false (sym c.is_within.ensures ∙ c.if-not-is_within.false) (sym c.is_set.ensures ∙ c.if-not-is_set.true)) refl

pub returns-then-words-eq0 : goal.returns-then-words-eq0
returns-then-words-eq0 g c =
    refuses 12 c.requires.0.sound
    (nothing_queued _ _ _ c.if-out-lt-OUTPUT_BYTES.false (sym c.is_within.ensures ∙ c.if-not-is_within.false) (sym c.is_set.ensures ∙ c.if-not-is_set.false)
    (sym c.requires.0.sound.queues.tx.many ∙ c.if-words-eq0.true)) refl

pub send_head-requires : goal.send_head-requires
send_head-requires g c =
    (c.requires.0, c.requires.1, c.if-out-lt-OUTPUT_BYTES.false, omega (arith, c.if-words-eq0.false), within_few _ (sym c.is_within.ensures ∙ c.if-not-is_within.false))

pub returns : goal.returns
returns g c =
    sends_as
    (head_sent_lem _ _ _ c.if-out-lt-OUTPUT_BYTES.false (sym c.is_within.ensures ∙ c.if-not-is_within.false) (sym c.is_set.ensures ∙ c.if-not-is_set.false)
    (omega (arith, c.if-words-eq0.false, c.requires.0.sound.queues.tx.many)))
    c.send_head.ensures
