-- Commands, data, registers, frames and link events on a chip and on the same with another link: the tests answer the same, since none looks at the link.
use Rattle.std.specs.Prelude.{◌≡◌, Bool, cond, not, List, [], ◌∷◌, ℕ, leb, ltb, length}
use Rattle.std.proofs.Math.Path.{refl}
use Rattle.std.proofs.Math.Bool.{true, false}
use Rattle.rules.specs.Bits.{bit, low_byte}
use Rattle.rules.specs.Chip.{Link, Registers, Chip, pages_at, allocated, free}
use Rattle.rules.specs.Fields.{in_registers}
use Rattle.rules.specs.Answers.{Reply, Effect, did}
use Rattle.rules.specs.Mmu.{Command, nothing, allocate, reset, remove_rx, remove_and_release, release, enqueue, reset_tx, unknown, decode, due, settle, queued, if_idle, if_head, perform}
use Rattle.rules.specs.Data.{rcv, against, odd_fixed, past, if_packet, if_open, read_data, write_data}
use Rattle.rules.specs.Link.{plug}
use Rattle.rules.specs.Registers.{Lanes, low, high, both, Register, TCR, EPHSR, RCR, ECR, MIR, RESERVED, STATION, CONTROL, COMMAND, PACKET, HEADS, POINTER, DATA, INTERRUPT, TABLE, BANK, UNUSED, ABSENT, width, bytes_of, merged, new_rcr, write_rcr, write_tcr, write_interrupt, low_only, read_register, write_register, register_at, misplaced, lanes_at, Access, read, write, access}
use Rattle.rules.specs.Receive.{Frame, Arrival, stored, disabled, not_accepted, too_long, bad, no_room, judge, accepted, dropped, needed, data_length, after, verdict, arrive}
use Rattle.rules.specs.Step.{driver}
use Rattle.laws.specs.LinkApart.{linked, ByLink, beside_link, value_beside}
use Rattle.laws.specs.LinkReads.{interrupt_beside}

-- One test on both.
pub pick_alike : {A : Type 0} (R : A → A → Type 0) (b : Bool) {x y x' y' : A} → R x x' → R y y' → R (cond b x y) (cond b x' y')
pick_alike R true p q = p
pick_alike R false p q = q

-- the two effects of an access or a frame: the numbers agree, the values but for what shows the link, and the chips differ at most in the link
pub record Effects (beside : ℕ → ℕ) (e u : Effect) : Type 0 where
  pub number : u.reply.number ≡ e.reply.number
  pub value : beside u.reply.value ≡ beside e.reply.value
  pub chips : ByLink e.chip u.chip

module _ (y : Link) where
  module _ (c : Chip) where
    abbrev R : Effect → Effect → Type 0
    R = Effects (λ v. v)
