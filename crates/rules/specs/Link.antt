-- Document 02, W8: the link. "Service people unplug cables."
use Rattle.std.specs.Prelude.{Bool, false, cond, ◌||◌, ℕ, ◌+◌, ◌*◌, ◌^◌, eqb, ltb}
use Rattle.std.specs.Bool.{xor}
use Rattle.rules.specs.Bits.{clear_bit, flag}
use Rattle.rules.specs.Chip.{Registers, Chip}
use Rattle.rules.specs.Fields.{set_link, in_registers}
use Rattle.rules.specs.Answers.{Effect, did, refuse}

-- "EPHSR bit 14 shows it", in a read and in the status word that a send writes: a stored word with its bit 14 replaced by the link
unfoldable pub shown : Bool → ℕ → ℕ
shown up e = clear_bit 14 e + 2 ^ 14 * flag up

abbrev pub shown_ephsr : Registers → ℕ
shown_ephsr r = shown r.link.up r.sending.ephsr

-- the link is set, and "a change of it is remembered"; the same state again is no change
abbrev pub relink : Bool → Registers → Registers
relink up r = set_link (record { up = up; changed = r.link.changed || xor up r.link.up }) r

-- remembered "until a write to either control byte"
abbrev pub forget_change : Registers → Registers
forget_change r = set_link (record { up = r.link.up; changed = false }) r

-- "A new event sets the link up or down.": 1 or 0; "11 for any other byte"
unfoldable pub plug : ℕ → Chip → Effect
plug x c = cond (ltb 1 x) (refuse 11 c) (did (in_registers (relink (eqb x 1)) c))
