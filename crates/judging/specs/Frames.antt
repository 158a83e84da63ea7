-- A frame as the rules have it, and the registers that it is judged by.
use Rattle.std.specs.Prelude.{◌≡◌, Bool, false, List, [], ℕ}
use Rattle.std.proofs.Math.Path.{refl, ap, sym}
use Rattle.std.proofs.Common.{◌∙◌}
use Rattle.rules.specs.Chip.{Registers, reset_registers}
use Rattle.rules.specs.Fields.{set_rcr, set_control}
use Rattle.rules.specs.Receive.{Frame, data_length, count_of, pages_for, needed}

abbrev pub frame_of : List ℕ → Bool → Frame
frame_of bytes alignment = record { bytes = bytes; alignment = alignment }

-- Registers with these contents, for a rule that sees no others: the length and the flags of a frame are judged by them.
abbrev pub with_rcr : ℕ → Registers
with_rcr rcr = set_rcr rcr (reset_registers [] false)

abbrev pub with_control : ℕ → Registers
with_control control = set_control control (reset_registers [] false)

-- The rules see only RCR of the registers.
module _ (r : Registers) where
  pub data_by : (len : ℕ) → data_length r len ≡ data_length (with_rcr r.receiving.rcr) len
  unfolding data_length
  data_by len = refl

  pub needed_by : (len n need : ℕ) → n ≡ data_length (with_rcr r.receiving.rcr) len → need ≡ pages_for (count_of n) → need ≡ needed r len
  unfolding needed
  needed_by len n need e f = f ∙ ap (λ (x : ℕ). pages_for (count_of x)) (e ∙ sym (data_by len))
