-- Going by the cases of the rules: what holds of each outcome holds of the test that chooses it; and what each refusal of a step has, and what is done has, the step has.
use Rattle.std.specs.Prelude.{◌≡◌, refl, Bool, true, false, cond, not, ℕ, ◌*◌, eqb, ltb, length}
use mathlib.Core.List.{List, [], ◌∷◌}
use Rattle.rules.specs.Bits.{bit}
use Rattle.rules.specs.Lists.{member}
use Rattle.rules.specs.Chip.{Chip, pages_at, allocated}
use Rattle.rules.specs.Fields.{in_registers}
use Rattle.rules.specs.Answers.{Effect, Turn, done_with, did, refuse, refused, refused_with}
use Rattle.rules.specs.Link.{relink, plug}
use Rattle.rules.specs.Mmu.{grant, due, settle, queued, if_idle, if_head}
use Rattle.rules.specs.Data.{rcv, against, odd_fixed, past, if_packet, if_open, read_data}
use Rattle.rules.specs.Registers.{Lanes, low, high, both, Register, TCR, EPHSR, RCR, ECR, MIR, RESERVED, STATION, CONTROL, COMMAND, PACKET, HEADS, POINTER, DATA, INTERRUPT, TABLE, BANK, UNUSED, ABSENT, width, clear_ecr, low_only, read_register}
use Rattle.rules.specs.Send.{Send, in_limits, byte_count, no_place, send_head, if_usable, if_sendable, by_tx_head, finish}
use Rattle.rules.specs.Tests.{fit}
use Rattle.rules.specs.Step.{Input, lent, serve, step_of}
use Rattle.lists.specs.Facts.{or_left, or_right}

pub pick : {A : Type 0} (P : A → Type 0) (b : Bool) {x y : A} → P x → P y → P (cond b x y)
pick P true p q = p
pick P false p q = q

-- The same, where each branch may use its test's answer.
pub pick_by : {A : Type 0} (P : A → Type 0) (b : Bool) {x y : A} → (b ≡ true → P x) → (b ≡ false → P y) → P (cond b x y)
pick_by P true p q = p refl
pick_by P false p q = q refl

-- The same of a refusal that comes first: it is given where the test fails.
pub pick_unless : {A : Type 0} (P : A → Type 0) (b : Bool) {x y : A} → (b ≡ false → P x) → (b ≡ true → P y) → P (cond (not b) x y)
pick_unless P true p q = q refl
pick_unless P false p q = p refl

-- What waits is granted, or all stays.
pub by_settle : (P : Chip → Type 0) (c : Chip) → (due c ≡ true → P (grant c.regs.numbers.waiting c)) → (due c ≡ false → P c) → P (settle c)
unfolding settle
by_settle P c g s = pick_by P (due c) g s

-- A property of effects: each refusal that a chain of tests may give has it, and what is done.
module _ (c : Chip) (P : Effect → Type 0) where
  -- refusal 7, else by the RX head
  pub by_head : (f : ℕ → List ℕ → Effect) (l : List ℕ) → P (refuse 7 c) → ((k : ℕ) (ks : List ℕ) → l ≡ k ∷ ks → P (f k ks)) → P (if_head c l f)
  by_head f [] r7 h = r7
  by_head f (k ∷ ks) r7 h = h k ks refl

  -- refusals 5 and 6, else of an allocated packet in neither queue
  pub by_idle : (s : Effect) → P (refuse 5 c) → P (refuse 6 c)
      → (allocated c.regs.numbers.packet c ≡ true → member c.regs.numbers.packet c.pool.rx ≡ false → member c.regs.numbers.packet c.pool.tx ≡ false → P s) → P (if_idle c s)
  by_idle s r5 r6 f =
      let k = c.regs.numbers.packet in
      pick_unless P (allocated k c) (λ a. r5)
      (λ a. pick_by P (queued k c) (λ q. r6) (λ q. f a (or_left (member k c.pool.rx) (member k c.pool.tx) q) (or_right (member k c.pool.rx) (member k c.pool.tx) q)))

  -- refusals 7 and 5, else by the pages of the packet that the pointer means
  pub by_packet : (f : List ℕ → Effect) → P (refuse 7 c) → P (refuse 5 c) → ((pages : List ℕ) → P (f pages)) → P (if_packet c f)
  unfolding if_packet
  by_packet f r7 r5 h =
      pick P (rcv c.regs.pointer) (by_head _ c.pool.rx r7 (λ k ks e. h (pages_at c k))) (pick_unless P (allocated c.regs.numbers.packet c) (λ a. r5) (λ a. h (pages_at c c.regs.numbers.packet)))

  -- refusals 8, 9 and 10
  pub by_tests : (isRead : Bool) (wide : ℕ) (pages : List ℕ) (s : Effect) → P (refuse 8 c) → P (refuse 9 c) → P (refuse 10 c) → P s → P (if_open isRead wide pages c s)
  unfolding if_open
  by_tests isRead wide pages s r8 r9 r10 h =
      let p = c.regs.pointer in
      pick P (against isRead p) r8 (pick P (odd_fixed p) r9 (pick P (past wide p pages) r10 h))

  -- refusal 3, where the high byte is read-only
  pub by_lanes : (p : Lanes) (s : Effect) → P (refuse 3 c) → P s → P (low_only p c s)
  unfolding low_only
  by_lanes low s r3 h = h
  by_lanes high s r3 h = r3
  by_lanes both s r3 h = h

  -- refusal 2, else a value: reads change nothing but for ECR and data
  pub by_read : P (refuse 2 c) → ((v : ℕ) → P (done_with v c)) → ((v : ℕ) → P (done_with v (in_registers clear_ecr c))) → ((wide : ℕ) → P (read_data wide c))
      → (r : Register) (p : Lanes) → P (read_register r p c)
  unfolding read_register
  by_read r2 shown cleared moved TCR p = shown _
  by_read r2 shown cleared moved EPHSR p = shown _
  by_read r2 shown cleared moved RCR p = shown _
  by_read r2 shown cleared moved ECR p = cleared _
  by_read r2 shown cleared moved MIR p = shown _
  by_read r2 shown cleared moved RESERVED p = shown _
  by_read r2 shown cleared moved (STATION k) p = shown _
  by_read r2 shown cleared moved CONTROL p = shown _
  by_read r2 shown cleared moved COMMAND p = shown _
  by_read r2 shown cleared moved PACKET p = shown _
  by_read r2 shown cleared moved HEADS p = shown _
  by_read r2 shown cleared moved POINTER p = shown _
  by_read r2 shown cleared moved DATA p = moved (width p)
  by_read r2 shown cleared moved INTERRUPT p = shown _
  by_read r2 shown cleared moved (TABLE k) p = shown _
  by_read r2 shown cleared moved BANK p = shown _
  by_read r2 shown cleared moved UNUSED p = shown _
  by_read r2 shown cleared moved ABSENT p = r2

  -- refusal 11, else the link is set
  pub by_plug : (x : ℕ) → P (refuse 11 c) → ((up : Bool) → P (did (in_registers (relink up) c))) → P (plug x c)
  unfolding plug
  by_plug x r11 h = pick P (ltb 1 x) r11 (h (eqb x 1))

-- The same of turns, beside an output buffer.
module _ (c : Chip) (out : List ℕ) (P : Turn → Type 0) where
  -- refusals 13, 18 and 19, each of which tells the count
  pub by_count : (count pageCount : ℕ) (t : Turn) → P (refused_with 13 count c out) → P (refused_with 18 count c out) → P (refused_with 19 count c out)
      → (bit 0 count ≡ false → ltb count 12 ≡ false → ltb (256 * pageCount) count ≡ false → P t) → P (if_usable count pageCount c out t)
  unfolding if_usable
  by_count count pageCount t r13 r18 r19 h =
      pick_by P (bit 0 count) (λ o. r13) (λ o. pick_by P (ltb count 12) (λ l. r18) (λ l. pick_by P (ltb (256 * pageCount) count) (λ m. r19) (h o l)))

  -- what has to be shown of a refusal that tells the count: the packet is the head of TX
  abbrev pub Tells : ℕ → Type 0
  Tells n = (k : ℕ) (rest : List ℕ) → c.pool.tx ≡ k ∷ rest → P (refused_with n (byte_count (pages_at c k) c.memory) c out)

  -- refusals 15, 11, 12, 13, 18, 19 and 14, else the head of TX is sent
  pub by_send : (s : Send) → P (refused 15 c out) → P (refused 11 c out) → P (refused 12 c out) → Tells 13 → Tells 18 → Tells 19 → P (refused 14 c out)
      → ((k : ℕ) (rest : List ℕ) → c.pool.tx ≡ k ∷ rest → no_place s c ≡ false → P (send_head s k rest c out)) → P (finish s c out)
  unfolding finish if_sendable
  by_send s r15 r11 r12 r13 r18 r19 r14 h =
      pick P (ltb (length out) 2052) r15
      (pick_unless P (in_limits s) (λ l. r11) (λ l. pick_unless P (bit 0 c.regs.sending.tcr) (λ e. r12) (λ e. by_tx_head_lem c.pool.tx refl)))
    where
      by_tx_head_lem : (l : List ℕ) → c.pool.tx ≡ l → P (by_tx_head s l c out)
      by_tx_head_lem [] e = r12
      by_tx_head_lem (k ∷ rest) e =
          by_count (byte_count (pages_at c k) c.memory) (length (pages_at c k)) _ (r13 k rest e) (r18 k rest e) (r19 k rest e) (λ o l m. pick_by P (no_place s c) (λ t. r14) (h k rest e))

-- refusal 16, else by the input
pub by_step : (c : Chip) (P : Turn → Type 0) (n : ℕ) (i : Input) → P (refused 16 c (lent i)) → P (serve i c) → P (step_of n i c)
unfolding step_of
by_step c P n i r16 h = pick_unless P (fit n c) (λ f. r16) (λ f. h)
