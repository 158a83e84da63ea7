-- What the proofs of an aborted frame share.
use Rattle.std.specs.Prelude.{Ok}
use mathlib.Core.Path.{◌≡◌, refl, ap, ap₂, sym, ◌∙◌}
use mathlib.Core.Bool.{Bool, true, false}
use mathlib.Core.List.{List}
use Prim.Native.Nat.{ℕ, ◌+◌, ◌*◌}
use native.Mathlib.Omega.{arith}
use lib.ListN.{set}
use Rattle.rules.specs.Bits.{bit, set_bit, clear_bit, flag}
use Rattle.rules.specs.Chip.{Registers, Chip}
use Rattle.rules.specs.Fields.{set_rcr, set_tx_empty, set_overrun, in_registers}
use Rattle.rules.specs.Answers.{Effect, done_with}
use Rattle.rules.specs.Receive.{abort}
use Rattle.bits.specs.Laws.{bit_set, bit_set_other}
use Rattle.state.specs.Meaning.{Answer}
use Rattle.state.specs.View.{word, registers_in, Latches, Kept}
use Rattle.state.specs.Promise.{Sets, sets_as, sets_chip, Does}
use Rattle.state.specs.Stores.{store_rcr, store_latches}

-- A change of the registers is a step that answers v; and it may come before a step.
pub does_with : {f : Registers → Registers} {w w' : List ℕ} → (v : ℕ) → Sets f w w' → Does (λ c. done_with v (in_registers f c)) w (Ok v) w'
does_with v a = record { step = λ l s q mem. ap (done_with v) (sets_chip a l s q mem); still = a.still; kept = a.kept }

-- The answer may be all that there is of it.
pub stays : (k : ℕ) {w : List ℕ} → Kept w → Does (λ c. done_with k c) w (Ok k) w
stays k h = record { step = λ l s q mem. refl; still = refl; kept = h }

pub does_after : {f : Chip → Effect} {g : Registers → Registers} {w w' w'' : List ℕ} {a : Answer} → Sets g w w' → Does f w' a w'' → Does (λ c. f (in_registers g c)) w a w''
does_after {f} a d = record { step = λ l s q mem. d.step l s q mem ∙ ap f (sets_chip a l s q mem); still = d.still ∙ a.still; kept = d.kept }

-- RX_ABORT set
pub sets_abort : (y : ℕ) (w : List ℕ) → Kept w → y ≡ set_bit 0 (word w 2) → Sets abort w (set w 2 y)
sets_abort y w k e = sets_as (store_rcr y w k) (ap (λ (x : ℕ). set_rcr x (registers_in w)) e)

-- RX_OVRN set, beside TX EMPTY, which stays
overrun_in : (x : ℕ) (a b : Bool) → x ≡ 4 * flag a + 16 * flag b → set_bit 4 x ≡ 4 * flag a + 16 * flag true
unfolding set_bit clear_bit flag
overrun_in x true true e = rw e refl
overrun_in x true false e = rw e refl
overrun_in x false true e = rw e refl
overrun_in x false false e = rw e refl

overrun_latched : (x : ℕ) → Latches x → Latches (set_bit 4 x)
overrun_latched x l =
    overrun_in x (bit 2 x) (bit 4 x) l
    ∙ ap₂ (λ (a b : Bool). 4 * flag a + 16 * flag b) (sym (bit_set_other 4 x 2 (λ e. absurd (omega arith)))) (sym (bit_set 4 x))

pub sets_overrun : (y : ℕ) (w : List ℕ) → Kept w → y ≡ set_bit 4 (word w 13) → Sets (set_overrun true) w (set w 13 y)
sets_overrun y w k e =
    sets_as (store_latches y (rw e (overrun_latched (word w 13) k.fixed.latched)) w k)
    (rw e (ap₂ (λ (a b : Bool). set_tx_empty a (set_overrun b (registers_in w))) (bit_set_other 4 (word w 13) 2 (λ x. absurd (omega arith))) (bit_set 4 (word w 13))))
