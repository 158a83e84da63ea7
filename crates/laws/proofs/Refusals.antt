-- "A refusal returns value 0 and changes nothing", as document 02's W2 amends it: every refusal changes nothing, with no exception; its value is 0 but in 13, 18 and 19, where it is the byte count.
-- Both of every input, on every chip, well formed or not; and which numbers an input may get.
use Rattle.std.specs.Prelude.{◌≡◌, cond, List, [], ◌∷◌, ℕ, eqb, leb, ltb, length}
use Rattle.std.proofs.Math.Path.{refl}
use Rattle.std.proofs.Common.{ap, sym, ◌∙◌, true≢false}
use Rattle.std.proofs.Math.Bool.{true, false}
use Rattle.rules.specs.Bits.{low_byte}
use Rattle.rules.specs.Lists.{member}
use Rattle.rules.specs.Chip.{Chip, pages_at, free}
use Rattle.rules.specs.Answers.{Reply, Effect, Turn, refusal_with, refuse, refused_with, leaving}
use Rattle.rules.specs.Mmu.{Command, nothing, allocate, reset, remove_rx, remove_and_release, release, enqueue, reset_tx, unknown, decode, perform}
use Rattle.rules.specs.Data.{read_data, write_data}
use Rattle.rules.specs.Registers.{Lanes, Register, TCR, EPHSR, RCR, ECR, MIR, RESERVED, STATION, CONTROL, COMMAND, PACKET, HEADS, POINTER, DATA, INTERRUPT, TABLE, BANK, UNUSED, ABSENT, bytes_of, low_only, read_register, write_register, Width, read, write, misplaced, register_at, lanes_at, access}
use Rattle.rules.specs.Link.{plug}
use Rattle.rules.specs.Receive.{Frame, arrive}
use Rattle.rules.specs.Send.{Send, byte_count, send_head, finish}
use Rattle.rules.specs.Step.{Input, driver, frame, sent, link, lent, serve, step_of}
use Rattle.lists.specs.Facts.{or_true}
use Rattle.wellformed.specs.Cases.{pick, by_head, by_idle, by_packet, by_tests, by_lanes, by_read, by_plug, by_send, by_step}
use Rattle.wellformed.specs.Fit.{Fits}
use Rattle.wellformed.proofs.Fit.{step_fit, step_unfit}
use Rattle.laws.specs.Head.{head_count, count_is}
use Rattle.laws.specs.Refusals.{read_refusals, write_refusals, refusals, count_refusals, Unchanged, Valued}

-- A result that answers 0, or is the refusal of a number that is among these.
data Honest {A : Type 0} (number : A → ℕ) (refusing : ℕ → A) (among : List ℕ) : A → Type 0 where
  answers : {a : A} → number a ≡ 0 → Honest number refusing among a
  refuses : (k : ℕ) → member k among ≡ true → Honest number refusing among (refusing k)

-- the refusal of a number, with the value that goes with the number
abbrev refusing : Chip → ℕ → Reply
refusing c k = refusal_with k (cond (member k count_refusals) (head_count c) 0)

abbrev HonestEffect : Chip → List ℕ → Effect → Type 0
HonestEffect c = Honest (λ s. s.reply.number) (λ k. record { reply = refusing c k; chip = c })

abbrev HonestTurn : Chip → List ℕ → List ℕ → Turn → Type 0
HonestTurn c out = Honest (λ t. t.reply.number) (λ k. record { reply = refusing c k; chip = c; output = out })

-- Each rule that refuses, on any chip: the commands, the data accesses, the registers, accesses and frames.
module _ (c : Chip) where
  abbrev FairRead : Effect → Type 0
  FairRead = HonestEffect c read_refusals

  abbrev Fair : Effect → Type 0
  Fair = HonestEffect c write_refusals

  performs : (k : Command) → Fair (perform k c)
  unfolding perform member
  performs nothing = answers refl
  performs (allocate n) = pick Fair (leb n (length (free c))) (answers refl) (answers refl)
  performs reset = answers refl
  performs remove_rx = by_head c Fair _ c.pool.rx (refuses 7 refl) (λ k ks e. answers refl)
  performs remove_and_release = by_head c Fair _ c.pool.rx (refuses 7 refl) (λ k ks e. answers refl)
  performs release = by_idle c Fair _ (refuses 5 refl) (refuses 6 refl) (λ a r t. answers refl)
  performs enqueue = by_idle c Fair _ (refuses 5 refl) (refuses 6 refl) (λ a r t. answers refl)
  performs reset_tx = answers refl
  performs unknown = refuses 4 refl

  reads_data : (width : ℕ) → FairRead (read_data width c)
  unfolding read_data member
  reads_data width = by_packet c FairRead _ (refuses 7 refl) (refuses 5 refl) (λ pages. by_tests c FairRead true width pages _ (refuses 8 refl) (refuses 9 refl) (refuses 10 refl) (answers refl))

  writes_data : (bytes : List ℕ) → Fair (write_data bytes c)
  unfolding write_data member
  writes_data bytes = by_packet c Fair _ (refuses 7 refl) (refuses 5 refl) (λ pages. by_tests c Fair false (length bytes) pages _ (refuses 8 refl) (refuses 9 refl) (refuses 10 refl) (answers refl))

  reads : (r : Register) (p : Lanes) → FairRead (read_register r p c)
  unfolding member
  reads = by_read c FairRead (refuses 2 refl) (λ v. answers refl) (λ v. answers refl) reads_data

  -- a write to a register whose high byte is read_only, and one to a register that is read_only
  low_alone : (p : Lanes) (s : Effect) → Fair s → Fair (low_only p c s)
  unfolding member
  low_alone p s h = by_lanes c Fair p s (refuses 3 refl) h

  read_only : Fair (refuse 3 c)
  unfolding member
  read_only = refuses 3 refl

  writes : (r : Register) (p : Lanes) (v : ℕ) → Fair (write_register r p v c)
  unfolding write_register member
  writes TCR p v = answers refl
  writes EPHSR p v = read_only
  writes RCR p v = answers refl
  writes ECR p v = read_only
  writes MIR p v = read_only
  writes RESERVED p v = low_alone p _ (answers refl)
  writes (STATION k) p v = answers refl
  writes CONTROL p v = answers refl
  writes COMMAND p v = low_alone p _ (performs (decode (low_byte v)))
  writes PACKET p v = low_alone p _ (answers refl)
  writes HEADS p v = read_only
  writes POINTER p v = answers refl
  writes DATA p v = writes_data (bytes_of p v)
  writes INTERRUPT p v = answers refl
  writes (TABLE k) p v = answers refl
  writes BANK p v = low_alone p _ (answers refl)
  writes UNUSED p v = answers refl
  writes ABSENT p v = refuses 2 refl

  read_access : (w : Width) (offset : ℕ) → FairRead (access (read w offset) c)
  unfolding access member
  read_access w offset = pick FairRead (misplaced w offset) (refuses 1 refl) (reads (register_at c.regs.numbers.bank offset) (lanes_at w offset))

  write_access : (w : Width) (offset v : ℕ) → Fair (access (write w offset v) c)
  unfolding access member
  write_access w offset v = pick Fair (misplaced w offset) (refuses 1 refl) (writes (register_at c.regs.numbers.bank offset) (lanes_at w offset) v)

  arrives : (f : Frame) → HonestEffect c (refusals (frame f)) (arrive f c)
  unfolding arrive member
  arrives f = pick (HonestEffect c (refusals (frame f))) (ltb (length f.bytes) 18) (refuses 11 refl) (answers refl)

  -- a refusal that tells the count of the packet k, the head of TX
  tells : (s : Send) (out : List ℕ) (n : ℕ) → member n count_refusals ≡ true → member n (refusals (sent s out)) ≡ true
      → (k : ℕ) (rest : List ℕ) → c.pool.tx ≡ k ∷ rest → HonestTurn c out (refusals (sent s out)) (refused_with n (byte_count (pages_at c k) c.memory) c out)
  tells s out n m l k rest e =
      let v : byte_count (pages_at c k) c.memory ≡ cond (member n count_refusals) (head_count c) 0 = rw m (count_is (pages_at c k) c.memory ∙ rw e refl) in
      rw v (refuses n l)

  sends : (s : Send) (out : List ℕ) → HonestTurn c out (refusals (sent s out)) (finish s c out)
  unfolding send_head member
  sends s out =
      by_send c out (HonestTurn c out (refusals (sent s out))) s (refuses 15 refl) (refuses 11 refl) (refuses 12 refl)
      (tells s out 13 refl refl) (tells s out 18 refl refl) (tells s out 19 refl refl) (refuses 14 refl) (λ k rest e f. answers refl)

  plugs : (x : ℕ) → HonestEffect c (refusals (link x)) (plug x c)
  unfolding member
  plugs x = by_plug c (HonestEffect c (refusals (link x))) x (refuses 11 refl) (λ up. answers refl)

  -- what an effect has, it has as a turn that is lent no output buffer
  leaves : {among : List ℕ} {s : Effect} → HonestEffect c among s → HonestTurn c [] among (leaving [] s)
  leaves (answers e) = answers e
  leaves (refuses k m) = refuses k m

  serves : (i : Input) → HonestTurn c (lent i) (refusals i) (serve i c)
  unfolding serve
  serves (driver (read w o)) = leaves (read_access w o)
  serves (driver (write w o v)) = leaves (write_access w o v)
  serves (frame f) = leaves (arrives f)
  serves (sent s out) = sends s out
  serves (link x) = leaves (plugs x)

  or_sixteen : {out among : List ℕ} {t : Turn} → HonestTurn c out among t → HonestTurn c out (16 ∷ among) t
  unfolding member
  or_sixteen (answers e) = answers e
  or_sixteen (refuses k m) = refuses k (or_true (eqb k 16) m)

  steps : (n : ℕ) (i : Input) → HonestTurn c (lent i) (16 ∷ refusals i) (step_of n i c)
  unfolding member
  steps n i = by_step c (HonestTurn c (lent i) (16 ∷ refusals i)) n i (refuses 16 refl) (or_sixteen (serves i))

  -- An honest turn has one of its numbers, or 0; and with another number than 0 it is the refusal of that number.
  honest_number : {out among : List ℕ} {t : Turn} → HonestTurn c out among t → member t.reply.number (0 ∷ among) ≡ true
  unfolding member
  honest_number (answers e) = rw e refl
  honest_number (refuses k m) = or_true (eqb k 0) m

  honest_refuses : {out among : List ℕ} {t : Turn} → HonestTurn c out among t → (t.reply.number ≡ 0 → ⊥) → t ≡ record { reply = refusing c t.reply.number; chip = c; output = out }
  honest_refuses (answers e) h = absurd (h e)
  honest_refuses (refuses k m) h = refl

module _ (n : ℕ) (i : Input) (c : Chip) where
  -- A step answers 0, 16 or a number of its kind of input.
  pub numbers_given : member (step_of n i c).reply.number (0 ∷ 16 ∷ refusals i) ≡ true
  numbers_given = honest_number c (steps c n i)

  -- A reply other than 0 comes with the chip and the output as they were: at any part size n, so for `step` too.
  pub refusal_leaves : ((step_of n i c).reply.number ≡ 0 → ⊥) → Unchanged c (lent i) (step_of n i c)
  refusal_leaves h =
      let e = honest_refuses c (steps c n i) h in
      record { chip = ap (λ (t : Turn). t.chip) e; output = ap (λ (t : Turn). t.output) e }

  -- Its value goes by its number.
  pub refusal_value : ((step_of n i c).reply.number ≡ 0 → ⊥) → Valued c (step_of n i c).reply
  refusal_value h =
      let v = ap (λ (t : Turn). t.reply.value) (honest_refuses c (steps c n i) h) in
      record { count = λ m. v ∙ rw m refl; none = λ m. v ∙ rw m refl }

-- 16 and 17 are no kind's number.
sixteen_apart : (i : Input) → member 16 (0 ∷ refusals i) ≡ false
unfolding member
sixteen_apart (driver (read w o)) = refl
sixteen_apart (driver (write w o v)) = refl
sixteen_apart (frame f) = refl
sixteen_apart (sent s out) = refl
sixteen_apart (link x) = refl

seventeen_apart : (i : Input) → member 17 (0 ∷ 16 ∷ refusals i) ≡ false
unfolding member
seventeen_apart (driver (read w o)) = refl
seventeen_apart (driver (write w o v)) = refl
seventeen_apart (frame f) = refl
seventeen_apart (sent s out) = refl
seventeen_apart (link x) = refl

module _ (n : ℕ) (i : Input) (c : Chip) where
  -- 16 is given exactly where the memory has another length or the chip is not well formed; 17 never.
  pub sixteen_where : (step_of n i c).reply.number ≡ 16 → Fits n c → ⊥
  sixteen_where e w =
      let served = ap (λ (t : Turn). t.reply.number) (step_fit n i c w) in
      true≢false (sym (ap (λ (k : ℕ). member k (0 ∷ refusals i)) (sym e ∙ served) ∙ honest_number c (serves c i)) ∙ sixteen_apart i)

  pub never_seventeen : (step_of n i c).reply.number ≡ 17 → ⊥
  never_seventeen e = true≢false (sym (ap (λ (k : ℕ). member k (0 ∷ 16 ∷ refusals i)) (sym e) ∙ numbers_given n i c) ∙ seventeen_apart i)
