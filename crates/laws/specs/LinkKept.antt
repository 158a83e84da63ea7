-- Who changes the link: link events alone. Who forgets that it changed: a write to a control byte and a soft reset. Of every chip, well formed or not.
use Rattle.std.specs.Prelude.{◌≡◌, true, false, ◌||◌, ◌⊎◌, List, [], ℕ, eqb, ltb}
use Rattle.std.proofs.Math.Path.{refl}
use Rattle.std.proofs.Common.{ap, ⊎_elim, arith}
use Rattle.std.specs.Bool.{xor}
use Rattle.std.proofs.Math.Logic.{inl, inr}
use Rattle.rules.specs.Bits.{bit, low_byte}
use Rattle.rules.specs.Chip.{Link, Registers, Chip}
use Rattle.rules.specs.Fields.{in_registers}
use Rattle.rules.specs.Answers.{Effect, Turn, leaving}
use Rattle.rules.specs.Mmu.{decode}
use Rattle.rules.specs.Link.{plug}
use Rattle.rules.specs.Registers.{Lanes, Register, TCR, EPHSR, RCR, ECR, MIR, RESERVED, STATION, CONTROL, COMMAND, PACKET, HEADS, POINTER, DATA, INTERRUPT, TABLE, BANK, UNUSED, ABSENT, bytes_of, new_rcr, write_rcr, write_tcr, write_register, register_at, misplaced, lanes_at, Access, read, write, access}
use Rattle.rules.specs.Receive.{Frame}
use Rattle.rules.specs.Send.{Send}
use Rattle.rules.specs.Step.{Input, driver, frame, sent, link, serve, step_of}
use Rattle.wellformed.specs.Cases.{pick, by_lanes, by_read, by_step}
use Rattle.laws.specs.Untouched.{performs, reads_data, writes_data, writes_interrupt, arrives, finishes}

-- a write that reaches this register and leaves the chip d may forget the change: "a write to either control byte", and a soft reset, which leaves RCR bit 15 set
abbrev pub ForgetsAt : Register → Chip → Type 0
ForgetsAt CONTROL d = Unit {0}
ForgetsAt RCR d = bit 15 d.regs.receiving.rcr ≡ true
ForgetsAt TCR d = ⊥
ForgetsAt EPHSR d = ⊥
ForgetsAt ECR d = ⊥
ForgetsAt MIR d = ⊥
ForgetsAt RESERVED d = ⊥
ForgetsAt (STATION k) d = ⊥
ForgetsAt COMMAND d = ⊥
ForgetsAt PACKET d = ⊥
ForgetsAt HEADS d = ⊥
ForgetsAt POINTER d = ⊥
ForgetsAt DATA d = ⊥
ForgetsAt INTERRUPT d = ⊥
ForgetsAt (TABLE k) d = ⊥
ForgetsAt BANK d = ⊥
ForgetsAt UNUSED d = ⊥
ForgetsAt ABSENT d = ⊥

-- no other input does
abbrev pub Forgets : Input → Chip → Chip → Type 0
Forgets (driver (read w o)) c d = ⊥
Forgets (driver (write w o v)) c d = ForgetsAt (register_at c.regs.numbers.bank o) d
Forgets (frame f) c d = ⊥
Forgets (sent s out) c d = ⊥
Forgets (link x) c d = ⊥

-- a link with its change forgotten
abbrev pub forgotten : Link → Link
forgotten x = record { up = x.up; changed = false }

-- RCR after a soft reset
reset_leaves : bit 15 0x8000 ≡ true
unfolding bit
reset_leaves = refl

module _ (c : Chip) where
  -- the link is that of c
  abbrev Same : Chip → Type 0
  Same d = d.regs.link ≡ c.regs.link

  abbrev SameIn : Effect → Type 0
  SameIn e = Same e.chip

  -- or that with its change forgotten, where F says that it may be
  abbrev Kept : (Chip → Type 0) → Chip → Type 0
  Kept F d = Same d ⊎ (F d × (d.regs.link ≡ forgotten c.regs.link))

  abbrev KeptIn : Register → Effect → Type 0
  KeptIn r e = Kept (ForgetsAt r) e.chip

  -- Of the registers only RCR, by a soft reset, and control forget the change.
  writes : (r : Register) (p : Lanes) (v : ℕ) → KeptIn r (write_register r p v c)
  unfolding write_register write_rcr write_tcr
  writes TCR p v = inl (pick (λ (r : Registers). Same (in_registers (λ z. r) c)) (bit 0 _) refl refl)
  writes EPHSR p v = inl refl
  writes RCR p v = pick (Kept (ForgetsAt RCR)) (bit 15 (new_rcr p v c.regs.receiving.rcr)) (inr (reset_leaves, refl)) (inl refl)
  writes ECR p v = inl refl
  writes MIR p v = inl refl
  writes RESERVED p v = inl (by_lanes c SameIn p _ refl refl)
  writes (STATION k) p v = inl refl
  writes CONTROL p v = inr (tt, refl)
  writes COMMAND p v = inl (by_lanes c SameIn p _ refl (performs c (decode (low_byte v))).1)
  writes PACKET p v = inl (by_lanes c SameIn p _ refl refl)
  writes HEADS p v = inl refl
  writes POINTER p v = inl refl
  writes DATA p v = inl (writes_data c (bytes_of p v)).1
  writes INTERRUPT p v = inl (writes_interrupt c p v).1
  writes (TABLE k) p v = inl refl
  writes BANK p v = inl (by_lanes c SameIn p _ refl refl)
  writes UNUSED p v = inl refl
  writes ABSENT p v = inl refl

  -- All accesses.
  accesses : (a : Access) → Kept (Forgets (driver a) c) (access a c).chip
  unfolding access
  accesses (read w o) = inl (pick SameIn (misplaced w o) refl (by_read c SameIn refl (λ v. refl) (λ v. refl) (λ wide. (reads_data c wide).1) (register_at c.regs.numbers.bank o) (lanes_at w o)))
  accesses (write w o v) = pick (λ (e : Effect). Kept (Forgets (driver (write w o v)) c) e.chip) (misplaced w o) (inl refl) (writes (register_at c.regs.numbers.bank o) (lanes_at w o) v)

-- A frame leaves the link, and so does a send.
pub frame_leaves_link : (n : ℕ) (f : Frame) (c : Chip) → (step_of n (frame f) c).chip.regs.link ≡ c.regs.link
unfolding serve
frame_leaves_link n f c = by_step c (λ (t : Turn). Same c t.chip) n (frame f) refl (arrives c f).1

pub send_leaves_link : (n : ℕ) (s : Send) (out : List ℕ) (c : Chip) → (step_of n (sent s out) c).chip.regs.link ≡ c.regs.link
unfolding serve
send_leaves_link n s out c = by_step c (λ (t : Turn). Same c t.chip) n (sent s out) refl (finishes c s out).1

-- no link event
abbrev pub NoLinkEvent : Input → Type 0
NoLinkEvent i = (x : ℕ) → i ≡ link x → ⊥

-- "a change of it is remembered until a write to either control byte": any input but a link event leaves link and change, or is such a write or a soft reset, and forgets the change.
pub changed_until : (n : ℕ) (i : Input) (c : Chip) → NoLinkEvent i → Kept c (Forgets i c) (step_of n i c).chip
unfolding serve
changed_until n (driver a) c h = by_step c (λ (t : Turn). Kept c (Forgets (driver a) c) t.chip) n (driver a) (inl refl) (accesses c a)
changed_until n (frame f) c h = inl (frame_leaves_link n f c)
changed_until n (sent s out) c h = inl (send_leaves_link n s out c)
changed_until n (link x) c h = absurd (h x refl)

-- So the link goes up and down by link events alone.
pub only_link_events : (n : ℕ) (i : Input) (c : Chip) → NoLinkEvent i → (step_of n i c).chip.regs.link.up ≡ c.regs.link.up
only_link_events n i c h = ⊎_elim (λ e. ap (λ (x : Link). x.up) e) (λ w. ap (λ (x : Link). x.up) w.1) (changed_until n i c h)

-- One that is done sets it to its byte and remembers a change.
pub link_sets : (n x : ℕ) (c : Chip) → (step_of n (link x) c).reply.number ≡ 0
    → (step_of n (link x) c).chip.regs.link ≡ record { up = eqb x 1; changed = c.regs.link.changed || xor (eqb x 1) c.regs.link.up }
unfolding serve plug
link_sets n x c = by_step c Sets n (link x) (λ z. absurd (omega (arith, z))) (pick (λ (e : Effect). Sets (leaving [] e)) (ltb 1 x) (λ z. absurd (omega (arith, z))) (λ z. refl))
  where
    Sets : Turn → Type 0
    Sets t = t.reply.number ≡ 0 → t.chip.regs.link ≡ record { up = eqb x 1; changed = c.regs.link.changed || xor (eqb x 1) c.regs.link.up }
