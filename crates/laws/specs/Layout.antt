-- No step changes the layout, nor the part: how many packets the chip has. On any chip, well formed or not.
use Rattle.std.specs.Prelude.{◌≡◌, Bool, true, false, ℕ}
use Rattle.std.proofs.Math.Path.{refl}
use Rattle.std.proofs.Common.{ap, sym, ◌∙◌, true≢false}
use Rattle.rules.specs.Bits.{bit, low_byte}
use Rattle.rules.specs.Chip.{Chip, size}
use Rattle.rules.specs.Answers.{Effect, Turn}
use Rattle.rules.specs.Tests.{fit}
use Rattle.rules.specs.Mmu.{decode}
use Rattle.rules.specs.Registers.{Lanes, Register, TCR, EPHSR, RCR, ECR, MIR, RESERVED, STATION, CONTROL, COMMAND, PACKET, HEADS, POINTER, DATA, INTERRUPT, TABLE, BANK, UNUSED, ABSENT, bytes_of, new_rcr, write_rcr, write_register, register_at, misplaced, lanes_at, Access, read, write, access}
use Rattle.rules.specs.Step.{Input, driver, frame, sent, link, serve, step_of}
use Rattle.wellformed.specs.Cases.{pick, by_lanes, by_read, by_plug, by_step}
use Rattle.wellformed.proofs.Fit.{fit_decides, step_unfit}
use Rattle.wellformed.proofs.Keeps.{keeps}
use Rattle.laws.specs.Untouched.{performs, reads_data, writes_data, writes_interrupt, arrives, finishes}

module _ (c : Chip) where
  -- the layout is that of c
  abbrev Laid : Chip → Type 0
  Laid d = d.pool.layout ≡ c.pool.layout

  abbrev LaidIn : Effect → Type 0
  LaidIn e = Laid e.chip

  writes : (r : Register) (p : Lanes) (v : ℕ) → LaidIn (write_register r p v c)
  unfolding write_register write_rcr
  writes TCR p v = refl
  writes EPHSR p v = refl
  writes RCR p v = pick Laid (bit 15 (new_rcr p v c.regs.receiving.rcr)) refl refl
  writes ECR p v = refl
  writes MIR p v = refl
  writes RESERVED p v = by_lanes c LaidIn p _ refl refl
  writes (STATION k) p v = refl
  writes CONTROL p v = refl
  writes COMMAND p v = by_lanes c LaidIn p _ refl (performs c (decode (low_byte v))).0
  writes PACKET p v = by_lanes c LaidIn p _ refl refl
  writes HEADS p v = refl
  writes POINTER p v = refl
  writes DATA p v = (writes_data c (bytes_of p v)).0
  writes INTERRUPT p v = (writes_interrupt c p v).0
  writes (TABLE k) p v = refl
  writes BANK p v = by_lanes c LaidIn p _ refl refl
  writes UNUSED p v = refl
  writes ABSENT p v = refl

  accesses : (a : Access) → LaidIn (access a c)
  unfolding access
  accesses (read w o) = pick LaidIn (misplaced w o) refl (by_read c LaidIn refl (λ v. refl) (λ v. refl) (λ wide. (reads_data c wide).0) (register_at c.regs.numbers.bank o) (lanes_at w o))
  accesses (write w o v) = pick LaidIn (misplaced w o) refl (writes (register_at c.regs.numbers.bank o) (lanes_at w o) v)

  abbrev LaidBy : Turn → Type 0
  LaidBy t = Laid t.chip

  serves : (i : Input) → LaidBy (serve i c)
  unfolding serve
  serves (driver a) = accesses a
  serves (frame f) = (arrives c f).0
  serves (sent s out) = (finishes c s out).0
  serves (link x) = by_plug c LaidIn x refl (λ up. refl)

pub layout_stays : (n : ℕ) (i : Input) (c : Chip) → (step_of n i c).chip.pool.layout ≡ c.pool.layout
layout_stays n i c = by_step c (LaidBy c) n i refl (serves c i)

-- A chip that is well formed has n packets before and after, and another stays as it is: so 40h and a soft reset keep the part too (document 02, W9).
pub size_stays : (n : ℕ) (i : Input) (c : Chip) → size (step_of n i c).chip ≡ size c
size_stays n i c = go (fit n c) refl
  where
    go : (b : Bool) → fit n c ≡ b → size (step_of n i c).chip ≡ size c
    go true e = let w = (fit_decides n c).sound e in (keeps n c w i).0.count ∙ sym w.0.count
    go false e = ap (λ (t : Turn). size t.chip) (step_unfit n i c (λ w. true≢false (sym ((fit_decides n c).complete w) ∙ e)))
