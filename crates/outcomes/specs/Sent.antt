-- Registers and TX after a send, of the state: what is known of the packet is the bits of its address's kind.
use Rattle.std.specs.Prelude.{◌≡◌, Bool, cond, not, ◌||◌, List, [], ℕ, ◌+◌, ◌*◌, ◌^◌, drop}
use Rattle.std.proofs.Common.{ap, sym, ◌∙◌}
use Rattle.rules.specs.Bits.{bit, clear_bit, flag}
use Rattle.rules.specs.Lists.{some?}
use Rattle.rules.specs.Chip.{Registers, Layout, paged, Chip}
use Rattle.rules.specs.Fields.{set_tx, in_sending, in_registers, in_pool}
use Rattle.rules.specs.Send.{Send, outcome_bits, any_at15, tally, new_ecr}
use Rattle.state.specs.View.{word, figures, view_of, Kept}
use Rattle.state.specs.Promise.{QueuesIn}
use Rattle.state.proofs.Only.{words_once}
use Rattle.pool.specs.Once.{figures_once, bytes_once}

-- the rules' `sent_registers`, by the bits of the address that is sent to
abbrev pub sent_by : Bool → Send → ℕ → Bool → Registers → Registers
sent_by is_good s bits emptied r =
    in_sending (λ x. record {
      tcr = cond is_good x.tcr (clear_bit 0 x.tcr);
      ephsr = outcome_bits is_good s + bits + 2 ^ 12 * flag (bit 12 x.ephsr || any_at15 (tally is_good s x.ecr));
      ecr = new_ecr is_good s x.ecr;
      tx_empty = x.tx_empty || emptied;
    }) r

-- The chip after it, but for the packet itself: the registers are the rules', and TX has lost its head.
abbrev pub head_gone : Bool → Send → ℕ → Chip → Chip
head_gone is_good s bits c =
    let rest = drop 1 c.pool.tx in
    in_pool (set_tx rest) (in_registers (sent_by is_good s bits (not (some? rest))) c)

-- words w and queues q become w' and q', beside any packets' pages and memory; MIR stays
pub record Sent (is_good : Bool) (s : Send) (bits : ℕ) (w q w' q' : List ℕ) : Type 0 where
  pub chip : (l : Layout) (sets mem : List ℕ) → view_of l w' sets q' mem ≡ head_gone is_good s bits (view_of l w sets q mem)
  pub free : word w' 4 ≡ word w 4
  pub kept : Kept w'
  pub queues : QueuesIn (figures w') q'

-- there is one
module _ {is_good : Bool} {s : Send} {bits : ℕ} {w q w₁ q₁ w₂ q₂ : List ℕ} (a : Sent is_good s bits w q w₁ q₁) (b : Sent is_good s bits w q w₂ q₂) where
  pub sent_once : (w₁ ≡ w₂) × (q₁ ≡ q₂)
  sent_once =
      let chip = a.chip paged [] [] ∙ sym (b.chip paged [] []) in
      let mir = a.free ∙ sym b.free in
      let pool = ap (λ (c : Chip). c.pool) chip in (
        words_once a.kept b.kept (ap (λ (c : Chip). c.regs) chip) (figures_once w₁ q₁ w₂ q₂ a.queues b.queues mir pool),
        bytes_once w₁ q₁ w₂ q₂ a.queues b.queues mir pool,
      )
