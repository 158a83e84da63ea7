-- Which steps are a soft or an MMU reset to the ledger: all that document 01 calls so, on any well-formed chip, of n packets.
use Rattle.std.specs.Prelude.{◌≡◌, true, false, ℕ}
use Rattle.std.proofs.Math.Path.{refl}
use Rattle.rules.specs.Bits.{bit, low_byte}
use Rattle.rules.specs.Chip.{Chip}
use Rattle.rules.specs.Mmu.{decode, perform}
use Rattle.rules.specs.Registers.{Width, Lanes, low, high, both, RCR, COMMAND, write, register_at, misplaced, lanes_at, new_rcr, write_rcr, low_only, write_register, access}
use Rattle.rules.specs.Step.{driver, serve}
use Rattle.wellformed.proofs.Fit.{step_fit}
use Rattle.laws.specs.Ledger.{Resets, command_entries, write_entries, input_entries, entries_of}
use Rattle.laws.specs.Theorems.{Whole}

top_bit : bit 15 0x8000 ≡ true
unfolding bit
top_bit = refl

-- A write that is placed, of the value v at an offset.
module _ (n : ℕ) (c : Chip) (whole : Whole n c) (w : Width) (offset v : ℕ) (placed : misplaced w offset ≡ false) where
  -- "40h frees all pages": 40h, written to the MMU command register
  pub mmu_reset : register_at c.regs.numbers.bank offset ≡ COMMAND → (lanes_at w offset ≡ high → ⊥) → low_byte v ≡ 0x40 → Resets n (driver (write w offset v)) c
  unfolding entries_of input_entries write_entries command_entries serve access decode perform low_only write_register
  mmu_reset reached lane value = go (lanes_at w offset) refl
    where
      go : (p : Lanes) → lanes_at w offset ≡ p → Resets n (driver (write w offset v)) c
      go low e = rw (step_fit n (driver (write w offset v)) c whole, placed, reached, e, value) refl
      go high e = absurd (lane e)
      go both e = rw (step_fit n (driver (write w offset v)) c whole, placed, reached, e, value) refl

  -- "A write to either byte of RCR that leaves its bit 15 set resets"
  pub soft_reset_lem : register_at c.regs.numbers.bank offset ≡ RCR → bit 15 (new_rcr (lanes_at w offset) v c.regs.receiving.rcr) ≡ true → Resets n (driver (write w offset v)) c
  unfolding entries_of input_entries write_entries serve access write_rcr write_register
  soft_reset_lem reached set = rw (step_fit n (driver (write w offset v)) c whole, placed, reached, set, top_bit) refl
