-- The two values that show the link, EPHSR and the interrupt status: bit by bit, and that all else in them is the same whatever the link.
use Rattle.std.specs.Prelude.{◌≡◌, Bool, true, false, not, ℕ, ◌+◌, ◌-◌, ◌*◌, ◌/◌, ◌%◌, ◌^◌, ◌≤◌, ◌<◌, eqb}
use Rattle.std.proofs.Common.{ap, sym, subst, ◌∙◌, arith, eq-eqb, shr-shr}
use Rattle.std.proofs.Math.Decide.{dec_le}
use Rattle.std.proofs.Math.Pow.{mod-mod-pow, field}
use Rattle.rules.specs.Bits.{bit, clear_bit, flag, low_byte, high_byte, word_of}
use Rattle.rules.specs.Lists.{some?}
use Rattle.rules.specs.Chip.{Link, Chip}
use Rattle.rules.specs.Interrupts.{eph, status}
use Rattle.rules.specs.Link.{shown}
use Rattle.rules.specs.Registers.{Lanes, low, high, both, EPHSR, INTERRUPT, taken}
use Rattle.laws.specs.Line.{flag_small}
use Rattle.laws.specs.LinkApart.{beside_link, linked}
use Rattle.laws.specs.LinkReads.{shown_word, shown_high, shown_low}

-- EPHSR on both, by either byte and as a word.
pub ephsr_beside : (p : Lanes) (up down : Bool) (e : ℕ) → beside_link EPHSR p (taken p (shown up e)) ≡ beside_link EPHSR p (taken p (shown down e))
unfolding taken
ephsr_beside low up down e = shown_low up down e
ephsr_beside high up down e = shown_high up down e
ephsr_beside both up down e = shown_word up down e
