-- What a write of each register comes to over the words, and a read of ECR.
use Rattle.std.specs.Prelude.{◌≡◌, refl, Bool, true, false, cond, List, ℕ, ◌+◌, ◌*◌, ◌/◌, ◌%◌, set, Ok, Err}
use Rattle.std.proofs.Common.{ap, sym, ◌∙◌, arith}
use Rattle.rules.specs.Bits.{bit, clear_bit, low_byte}
use Rattle.rules.specs.Chip.{Link, Registers, Layout, Chip}
use Rattle.rules.specs.Fields.{set_tcr, set_ephsr, set_ecr, set_control, set_pointer, set_link, in_registers}
use Rattle.rules.specs.Answers.{Effect, did, done_with, refuse}
use Rattle.rules.specs.Link.{forget_change}
use Rattle.rules.specs.Registers.{Register, Lanes, TCR, EPHSR, RCR, ECR, MIR, RESERVED, STATION, CONTROL, PACKET, HEADS, POINTER, TABLE, BANK, UNUSED, ABSENT, low, high, both, taken, forgotten, clear_ecr, write_tcr, new_rcr, write_rcr, low_only, read_register, write_register}
use Rattle.state.specs.Meaning.{Answer}
use Rattle.state.specs.declared.Refusal.TheVariants.{NotModelled, ReadOnly}
use Rattle.state.specs.Meaning.{reply_of, is_high, Joined}
use Rattle.state.specs.View.{word, registers_in, view_of, Kept}
use Rattle.state.specs.Promise.{Sets, sets_both, sets_as, sets_chip, Does, does_sets}
use Rattle.state.specs.Stores.{store_tcr, store_ephsr, store_rcr, store_ecr, store_control, store_link, store_pointer, store_reserved, store_bank, store_packet, store_station_0, store_station_1, store_station_2, store_table_0, store_table_1, store_table_2, store_table_3}
use Rattle.state.specs.Links.{forgets}

-- A register that is a word, or two bytes of a list.
abbrev pub Plain : Register → ℕ → Type 0
Plain r at = (p : Lanes) (v new : ℕ) (w : List ℕ) → Kept w → Joined p v (word w at) new → Does (write_register r p v) w (Ok 0) (set w at new)

pub writes_pointer : Plain POINTER 19
unfolding write_register
writes_pointer p v new w k joined = does_sets (sets_as (store_pointer new w k) (ap (λ (x : ℕ). set_pointer x (registers_in w)) joined.word))

pub writes_station_0 : Plain (STATION 0) 10
unfolding write_register
writes_station_0 p v new w k joined = does_sets (store_station_0 p v new w k joined)

pub writes_station_1 : Plain (STATION 1) 11
unfolding write_register
writes_station_1 p v new w k joined = does_sets (store_station_1 p v new w k joined)

pub writes_station_2 : Plain (STATION 2) 12
unfolding write_register
writes_station_2 p v new w k joined = does_sets (store_station_2 p v new w k joined)

pub writes_table_0 : Plain (TABLE 0) 24
unfolding write_register
writes_table_0 p v new w k joined = does_sets (store_table_0 p v new w k joined)

pub writes_table_1 : Plain (TABLE 1) 25
unfolding write_register
writes_table_1 p v new w k joined = does_sets (store_table_1 p v new w k joined)

pub writes_table_2 : Plain (TABLE 2) 26
unfolding write_register
writes_table_2 p v new w k joined = does_sets (store_table_2 p v new w k joined)

pub writes_table_3 : Plain (TABLE 3) 27
unfolding write_register
writes_table_3 p v new w k joined = does_sets (store_table_3 p v new w k joined)

-- Refusals, and writes that are ignored.
pub unchanged : (f : Chip → Effect) (a : Answer) (w : List ℕ) → Kept w → ((l : Layout) (s q mem : List ℕ) → record { reply = reply_of a; chip = view_of l w s q mem } ≡ f (view_of l w s q mem)) → Does f w a w
unchanged f a w k e = record { step = e; still = refl; kept = k }

-- registers whose high byte is read-only
pub low_only_lem : (p : Lanes) (c : Chip) (e : Effect) → low_only p c e ≡ cond (is_high p) (refuse 3 c) e
unfolding low_only
low_only_lem low c e = refl
low_only_lem high c e = refl
low_only_lem both c e = refl

module _ (p : Lanes) (v : ℕ) (w : List ℕ) (k : Kept w) where
  pub writes_ephsr : Does (write_register EPHSR p v) w (Err ReadOnly) w
  unfolding write_register
  writes_ephsr = unchanged _ (Err ReadOnly) w k (λ l s q mem. refl)

  pub writes_ecr : Does (write_register ECR p v) w (Err ReadOnly) w
  unfolding write_register
  writes_ecr = unchanged _ (Err ReadOnly) w k (λ l s q mem. refl)

  pub writes_mir : Does (write_register MIR p v) w (Err ReadOnly) w
  unfolding write_register
  writes_mir = unchanged _ (Err ReadOnly) w k (λ l s q mem. refl)

  pub writes_heads : Does (write_register HEADS p v) w (Err ReadOnly) w
  unfolding write_register
  writes_heads = unchanged _ (Err ReadOnly) w k (λ l s q mem. refl)

  pub writes_unused : Does (write_register UNUSED p v) w (Ok 0) w
  unfolding write_register
  writes_unused = unchanged _ (Ok 0) w k (λ l s q mem. refl)

  pub writes_absent : Does (write_register ABSENT p v) w (Err NotModelled) w
  unfolding write_register
  writes_absent = unchanged _ (Err NotModelled) w k (λ l s q mem. refl)

  pub reserved_high_lem : is_high p ≡ true → Does (write_register RESERVED p v) w (Err ReadOnly) w
  unfolding write_register
  reserved_high_lem e = unchanged _ (Err ReadOnly) w k (λ l s q mem. rw (low_only_lem, e) refl)

  pub packet_high : is_high p ≡ true → Does (write_register PACKET p v) w (Err ReadOnly) w
  unfolding write_register
  packet_high e = unchanged _ (Err ReadOnly) w k (λ l s q mem. rw (low_only_lem, e) refl)

  pub bank_high_lem : is_high p ≡ true → Does (write_register BANK p v) w (Err ReadOnly) w
  unfolding write_register
  bank_high_lem e = unchanged _ (Err ReadOnly) w k (λ l s q mem. rw (low_only_lem, e) refl)

-- The low byte alone.
abbrev pub Low : Register → ℕ → (ℕ → ℕ) → Type 0
Low r at f = (p : Lanes) (v : ℕ) → is_high p ≡ false → (new : ℕ) (w : List ℕ) → Kept w → new ≡ word w at / 256 * 256 + f v → Does (write_register r p v) w (Ok 0) (set w at new)

low_does : {f : Registers → Registers} {w w' : List ℕ} (p : Lanes) → is_high p ≡ false → Sets f w w' → Does (λ c. low_only p c (did (in_registers f c))) w (Ok 0) w'
low_does {f} {w} {w'} p e a =
    let d = does_sets a in
    record { step = λ l s q mem. d.step l s q mem ∙ sym (low_only_lem p (view_of l w s q mem) (did (in_registers f (view_of l w s q mem))) ∙ ap (λ (b : Bool). cond b (refuse 3 (view_of l w s q mem)) (did (in_registers f (view_of l w s q mem)))) e); still = d.still; kept = d.kept }

pub writes_reserved : Low RESERVED 5 (λ v. v % 256)
unfolding write_register low_byte
writes_reserved p v e new w k right = low_does p e (store_reserved (v % 256) new (omega arith) w k right)

pub writes_packet : Low PACKET 17 (λ v. v % 64)
unfolding write_register
writes_packet p v e new w k right = low_does p e (store_packet (v % 64) new (omega arith) w k right)

pub writes_bank : Low BANK 7 (λ v. v % 8)
unfolding write_register
writes_bank p v e new w k right = low_does p e (store_bank (v % 8) new (omega arith) w k right)

-- RCR, where bit 15 is not left set.
pub writes_rcr : (p : Lanes) (v new : ℕ) → bit 15 new ≡ false → (w : List ℕ) → Kept w → new ≡ new_rcr p v (word w 2) → Does (write_register RCR p v) w (Ok 0) (set w 2 new)
unfolding write_register write_rcr
writes_rcr p v new stays w k right =
    let d = does_sets (store_rcr new w k) in
    record { step = λ l s q mem. d.step l s q mem ∙ rw (← right, stays) refl; still = d.still; kept = d.kept }

-- TCR, and EPHSR by the word that is left.
by_level : (x : ℕ) (r : Registers) → set_ephsr (cond (bit 0 x) (forgotten r.sending.ephsr) r.sending.ephsr) (set_tcr x r) ≡ write_tcr x r
unfolding write_tcr
by_level x r = go (bit 0 x)
  where
    go : (b : Bool) → set_ephsr (cond b (forgotten r.sending.ephsr) r.sending.ephsr) (set_tcr x r) ≡ cond b (set_tcr x (set_ephsr (forgotten r.sending.ephsr) r)) (set_tcr x r)
    go true = refl
    go false = refl

pub writes_tcr : (p : Lanes) (v new eph : ℕ) (w : List ℕ) → Kept w → Joined p v (word w 0) new → eph ≡ cond (bit 0 new) (forgotten (word w 1)) (word w 1)
    → Does (write_register TCR p v) w (Ok 0) (set (set w 0 new) 1 eph)
unfolding write_register
writes_tcr p v new eph w k joined level =
    let first = store_tcr new w k in
    does_sets (sets_as (sets_both first (store_ephsr eph (set w 0 new) first.kept))
    (ap (λ (x : ℕ). set_ephsr x (set_tcr new (registers_in w))) level ∙ by_level new (registers_in w) ∙ ap (λ (x : ℕ). write_tcr x (registers_in w)) joined.word))

-- Control, and the change of the link is forgotten.
pub writes_control : (p : Lanes) (v new kept : ℕ) (w : List ℕ) → Kept w → Joined p v (word w 14) new → kept ≡ word w 15 % 2 → Does (write_register CONTROL p v) w (Ok 0) (set (set w 14 new) 15 kept)
unfolding write_register
writes_control p v new kept w k joined right =
    let first = store_control new w k in
    does_sets (sets_as (sets_both first (store_link kept (omega (arith, right)) (set w 14 new) first.kept))
    (ap (λ (x : Link). set_link x (set_control new (registers_in w))) (forgets (word w 15) kept right) ∙ ap (λ (x : ℕ). set_control x (forget_change (registers_in w))) joined.word))

-- A read of ECR clears it, and EPHSR bit 12.
pub reads_ecr : (p : Lanes) (eph : ℕ) (w : List ℕ) → Kept w → eph ≡ clear_bit 12 (word w 1) → Does (read_register ECR p) w (Ok (taken p (word w 3))) (set (set w 3 0) 1 eph)
unfolding read_register
reads_ecr p eph w k right =
    let first = store_ecr 0 w k in
    let cleared : Sets clear_ecr w (set (set w 3 0) 1 eph) = sets_as (sets_both first (store_ephsr eph (set w 3 0) first.kept)) (ap (λ (x : ℕ). set_ephsr x (set_ecr 0 (registers_in w))) right) in
    record { step = λ l s q mem. ap (done_with (taken p (word w 3))) (sets_chip cleared l s q mem); still = cleared.still; kept = cleared.kept }
