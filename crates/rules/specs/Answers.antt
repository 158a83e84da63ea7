-- Document 01, "Numbers the bench prints": what a step answers. "A refusal returns value 0 and changes nothing."; in three of them the value is a byte count (document 02, W2).
use Rattle.std.specs.Prelude.{List, ◌++◌, ℕ, length, drop}
use Rattle.rules.specs.Chip.{Chip}

pub record Reply : Type 0 where
  pub number : ℕ
  pub value : ℕ

-- what an access or an arriving frame does: the reply, and the chip after it
pub record Effect : Type 0 where
  pub reply : Reply
  pub chip : Chip

-- what any input does: the reply, and the chip and the output buffer after it
pub record Turn : Type 0 where
  pub reply : Reply
  pub chip : Chip
  pub output : List ℕ

-- 0, done: an effect with a value; an effect with value 0 ("A write returns value 0."); a reply
abbrev pub done_with : ℕ → Chip → Effect
done_with v c = record { reply = record { number = 0; value = v }; chip = c }

abbrev pub did : Chip → Effect
did c = done_with 0 c

abbrev pub done : Reply
done = record { number = 0; value = 0 }

-- a refusal as a reply, an effect and a turn
abbrev pub refusal : ℕ → Reply
refusal n = record { number = n; value = 0 }

abbrev pub refuse : ℕ → Chip → Effect
refuse n c = record { reply = refusal n; chip = c }

abbrev pub refused : ℕ → Chip → List ℕ → Turn
refused n c out = record { reply = refusal n; chip = c; output = out }

-- a refusal that has a value: as a reply and a turn
abbrev pub refusal_with : ℕ → ℕ → Reply
refusal_with n v = record { number = n; value = v }

abbrev pub refused_with : ℕ → ℕ → Chip → List ℕ → Turn
refused_with n v c out = record { reply = refusal_with n v; chip = c; output = out }

-- an effect that leaves the output buffer
abbrev pub leaving : List ℕ → Effect → Turn
leaving out e = record { reply = e.reply; chip = e.chip; output = out }

-- a buffer with bytes written over its front; its other bytes stay
abbrev pub over : List ℕ → List ℕ → List ℕ
over bytes buffer = bytes ++ drop (length bytes) buffer
