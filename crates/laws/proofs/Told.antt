-- What the ledger enters for a step is what the step does to the page lists, to the allocation result and to an allocation that waits.
use Rattle.std.specs.Prelude.{◌≡◌, refl, Bool, cond, List, [], ◌∷◌, ◌++◌, ℕ, suc, ◌≤◌, ◌<◌, eqb, leb, ltb, length, set, take, replicate}
use Rattle.std.proofs.Common.{ap, sym, ◌∙◌, ⊎_elim, arith, lt-ltb, ne_eqb}
use Rattle.std.proofs.Math.Path.{subst}
use Rattle.std.proofs.Math.Bool.{true, false}
use Rattle.std.proofs.Math.Dec.{eqb-suc-zero}
use Rattle.rules.specs.Bits.{bit, low_byte}
use Rattle.rules.specs.Lists.{first_empty}
use Rattle.rules.specs.Chip.{Registers, Layout, Chip, free_for, free, allocated}
use Rattle.rules.specs.Fields.{set_rx, in_registers, in_pool}
use Rattle.rules.specs.Answers.{Reply, Effect, Turn, refuse, refused, did, done_with}
use Rattle.rules.specs.Mmu.{Command, nothing, allocate, reset, remove_rx, remove_and_release, release, enqueue, reset_tx, unknown, decode, perform, grant, pend, due, settle, freed, give_back}
use Rattle.rules.specs.Data.{read_data, write_data}
use Rattle.rules.specs.Registers.{Lanes, low, high, both, Register, TCR, EPHSR, RCR, ECR, MIR, RESERVED, STATION, CONTROL, COMMAND, PACKET, HEADS, POINTER, DATA, INTERRUPT, TABLE, BANK, UNUSED, ABSENT, bytes_of, merged, new_rcr, write_rcr, write_tcr, write_interrupt, read_register, write_register, head_of, register_at, misplaced, lanes_at, Access, read, write, access}
use Rattle.rules.specs.Receive.{Frame, Arrival, stored, disabled, not_accepted, too_long, bad, no_room, value_for, needed, after, verdict, arrive}
use Rattle.rules.specs.Send.{Send, good, auto_release, send_head, finish}
use Rattle.rules.specs.Step.{Input, driver, frame, sent, link, serve, step_of}
use Rattle.lists.specs.Facts.{member_first}
use Rattle.wellformed.specs.Layouts.{GoodLists, unallocated, back_lists}
use Rattle.wellformed.specs.Cases.{pick, pick_by, by_settle, by_head, by_idle, by_packet, by_tests, by_lanes, by_read, by_plug, by_send, by_step}
use Rattle.wellformed.specs.Pool.{has_small, good_lists}
use Rattle.wellformed.specs.Fit.{Fits}
use Rattle.wellformed.specs.Settle.{due_decides, not_due}
use Rattle.wellformed.specs.Keeps.{Valid, decode_valid}
use Rattle.wellformed.specs.Frames.{storable, needs_one}
use Rattle.laws.specs.Ledger.{Entry, asks, answers, grants, returns, restarts, just, last_of, result_entries, answered, command_entries, write_entries, input_entries, entries_of}
use Rattle.laws.specs.Told.{Held, held_by, Room, Settles, Moves, waits, completes, stays, takes, requests, frees, empties}

-- A last entry is the one that joined.
last_joined : (l : List ℕ) (k : ℕ) → last_of (l ++ (k ∷ [])) ≡ k
unfolding last_of
last_joined [] k = refl
last_joined (x ∷ []) k = refl
last_joined (x ∷ y ∷ ys) k = last_joined (y ∷ ys) k

head_of_first : (k : ℕ) (ks : List ℕ) → head_of (k ∷ ks) ≡ k
unfolding head_of
head_of_first k ks = refl

-- what is read off a reply and the chip after it
abbrev Reads : Type 0
Reads = ℕ → Chip → List Entry

-- What is answered: a number where the result read 80h and reads one, which is below 128; nothing where the result stays.
answered_number : (c d : Chip) → c.regs.numbers.result ≡ 0x80 → d.regs.numbers.result < 128 → answered c d ≡ just (answers d.regs.numbers.result)
unfolding answered result_entries
answered_number c d e h =
    let r = d.regs.numbers.result in
    ap (λ (x : ℕ). cond (eqb x 0x80) (result_entries r) []) e ∙ ap (λ (b : Bool). cond b [] (just (answers r))) (ne_eqb r 0x80 (omega (arith, h)))

answered_still : (c d : Chip) → d.regs.numbers.result ≡ c.regs.numbers.result → answered c d ≡ []
unfolding answered result_entries
answered_still c d e = rw e (go (eqb c.regs.numbers.result 0x80))
  where
    go : (b : Bool) → cond b (cond b [] (just (answers c.regs.numbers.result))) [] ≡ []
    go true = refl
    go false = refl

-- good page lists, for at most 128 numbers; and the result reads 80h while an allocation waits
record Open (n : ℕ) (a : Held) : Type 0 where
  small : n ≤ 128
  good : GoodLists a.layout n a.pages
  unanswered : 0 < a.waiting → a.result ≡ 0x80

-- There is a number where there is a page.
room : {n : ℕ} (m : ℕ) (l : Layout) (ls : List (List ℕ)) → GoodLists l n ls → 0 < m → m ≤ length (free_for l ls) → Room m l ls
room {n} m l ls g some h = record { enough = h; number = omega (arith, unallocated l n ls g (omega (arith, some, h)), g.count) }

settles : {n : ℕ} (c : Chip) → Open n (held_by c) → Settles (held_by c) (held_by (settle c)) (answered c (settle c))
settles c o =
    by_settle (λ (d : Chip). Settles (held_by c) (held_by d) (answered c d)) c
    (λ e. let m = c.regs.numbers.waiting in
    let p = (due_decides c).sound e in
    let r = room m c.pool.layout c.pool.pages o.good p.0 p.1 in
    rw (answered_number c (grant m c) (o.unanswered p.0) (omega (arith, r.number, o.good.count, o.small))) (completes p.0 r))
    (λ e. rw (answered_still c c refl) (waits (not_due c e)))

-- An allocate command puts its request in the place of what waited, and settles it.
allocate_settles : (m : ℕ) (c : Chip) → 1 ≤ m → perform (allocate m) c ≡ did (settle (pend m c))
unfolding perform due settle
allocate_settles m c h = rw (lt-ltb 0 m h) (go (leb m (length (free c))))
  where
    go : (b : Bool) → cond b (did (grant m c)) (did (pend m c)) ≡ did (cond b (grant m c) (pend m c))
    go true = refl
    go false = refl

module _ (n : ℕ) (small : n ≤ 128) (c : Chip) (w : Fits n c) where
  abbrev Told : Reads → Reply → Chip → Type 0
  Told e r d = Moves (held_by c) (held_by d) (cond (eqb r.number 0) (e r.value d) [])

  abbrev still : Reads
  still v d = []

  abbrev ToldBy : Reads → Effect → Type 0
  ToldBy e s = Told e s.reply s.chip

  -- the ledger stays as it is
  abbrev Left : Effect → Type 0
  Left s = ToldBy still s

  no : (e : Reads) (k : ℕ) → ToldBy e (refuse (suc k) c)
  no e k = rw (eqb-suc-zero k) stays

  in_range : (k : ℕ) → allocated k c ≡ true → k < length c.pool.pages
  in_range = has_small c.pool.pages

  -- What a packet's release leaves is settled, and so is a new request.
  freed_open : (k : ℕ) → allocated k c ≡ true → Open n (held_by (freed k c))
  freed_open k a = record {
    small = small;
    good = back_lists n c.pool.pages k (omega (arith, in_range k a, w.0.count)) c.pool.layout (good_lists w.0);
    unanswered = λ h. ⊎_elim (λ e. absurd (omega (arith, h, e))) (λ p. p.unanswered) w.0.request;
  }

  asked_open : (m : ℕ) → Open n (held_by (pend m c))
  asked_open m = record { small = small; good = good_lists w.0; unanswered = λ h. refl }

  told_command : (k : Command) → Valid k → ToldBy (λ v d. command_entries k c d) (perform k c)
  unfolding perform command_entries answered
  told_command nothing v = stays
  told_command (allocate m) v =
      subst (ToldBy (λ x d. asks m ∷ result_entries d.regs.numbers.result)) (sym (allocate_settles m c v.0)) (requests m v (settles (pend m c) (asked_open m)))
  told_command reset v = empties
  told_command remove_rx v = by_head c Left _ c.pool.rx (no still 6) (λ k ks e. stays)
  told_command remove_and_release v =
      let entries : Reads = λ x d. returns (head_of c.pool.rx) ∷ answered c d in
      by_head c (ToldBy entries) _ c.pool.rx (no entries 6)
      (λ k ks e. let a = w.0.queues.rx_allocated k (rw e (member_first k ks)) in
      rw (ap head_of e ∙ head_of_first k ks) (frees k (in_range k a) (settles (freed k (in_pool (set_rx ks) c)) (freed_open k a))))
  told_command release v =
      let k = c.regs.numbers.packet in
      let entries : Reads = λ x d. returns k ∷ answered c d in
      by_idle c (ToldBy entries) (did (give_back k c)) (no entries 4) (no entries 5) (λ a r t. frees k (in_range k a) (settles (freed k c) (freed_open k a)))
  told_command enqueue v = by_idle c Left _ (no still 4) (no still 5) (λ a r t. stays)
  told_command reset_tx v = stays
  told_command unknown v = stays

  told_read : (r : Register) (p : Lanes) → Left (read_register r p c)
  unfolding read_data
  told_read = by_read c Left (no still 1) (λ v. stays) (λ v. stays) (λ wide. by_packet c Left _ (no still 6) (no still 4) (λ l. by_tests c Left true wide l _ (no still 7) (no still 8) (no still 9) stays))

  -- A write to RCR leaves bit 15 set exactly when it resets.
  abbrev ToldRcr : Chip → Type 0
  ToldRcr d = Moves (held_by c) (held_by d) (cond (bit 15 d.regs.receiving.rcr) (just restarts) [])

  told_rcr : (x : ℕ) → ToldRcr (write_rcr x c)
  unfolding write_rcr bit
  told_rcr x = pick_by ToldRcr (bit 15 x) (λ e. empties) (λ e. rw e stays)

  told_interrupt : (p : Lanes) (v : ℕ) → Moves (held_by c) (held_by (write_interrupt p v c)) []
  unfolding write_interrupt
  told_interrupt low v = stays
  told_interrupt high v = stays
  told_interrupt both v = stays

  told_tcr : (x : ℕ) → Moves (held_by c) (held_by (in_registers (write_tcr x) c)) []
  unfolding write_tcr
  told_tcr x = pick (λ (r : Registers). Moves (held_by c) (held_by (in_registers (λ s. r) c)) []) (bit 0 x) stays stays

  told_write : (r : Register) (p : Lanes) (v : ℕ) → ToldBy (λ x d. write_entries r v c d) (write_register r p v c)
  unfolding write_register write_entries write_data
  told_write TCR p v = told_tcr (merged p v c.regs.sending.tcr)
  told_write EPHSR p v = stays
  told_write RCR p v = told_rcr (new_rcr p v c.regs.receiving.rcr)
  told_write ECR p v = stays
  told_write MIR p v = stays
  told_write RESERVED p v = by_lanes c Left p _ (no still 2) stays
  told_write (STATION k) p v = stays
  told_write CONTROL p v = stays
  told_write COMMAND p v = by_lanes c (ToldBy (λ x d. command_entries (decode (low_byte v)) c d)) p _ (no (λ x d. command_entries (decode (low_byte v)) c d) 2) (told_command (decode (low_byte v)) (decode_valid (low_byte v)))
  told_write PACKET p v = by_lanes c Left p _ (no still 2) stays
  told_write HEADS p v = stays
  told_write POINTER p v = stays
  told_write DATA p v = by_packet c Left _ (no still 6) (no still 4) (λ l. by_tests c Left false (length (bytes_of p v)) l _ (no still 7) (no still 8) (no still 9) stays)
  told_write INTERRUPT p v = told_interrupt p v
  told_write (TABLE k) p v = stays
  told_write BANK p v = by_lanes c Left p _ (no still 2) stays
  told_write UNUSED p v = stays
  told_write ABSENT p v = stays

  told_access : (a : Access) → ToldBy (λ v d. input_entries (driver a) c v d) (access a c)
  unfolding access input_entries
  told_access (read wide o) = pick Left (misplaced wide o) stays (told_read (register_at c.regs.numbers.bank o) (lanes_at wide o))
  told_access (write wide o v) =
      pick (ToldBy (λ x d. write_entries (register_at c.regs.numbers.bank o) v c d)) (misplaced wide o) stays (told_write (register_at c.regs.numbers.bank o) (lanes_at wide o) v)

  -- A frame that is stored takes the lowest number, which is then the last of RX.
  told_after : (v : Arrival) (f : Frame) → verdict f c ≡ v → ToldBy (λ x d. input_entries (frame f) c x d) (done_with (value_for v) (after v f c))
  unfolding after value_for input_entries
  told_after stored f e =
      let s = storable c.regs (length (free c)) f e in
      let m = needed c.regs (length f.bytes) in
      rw (last_joined c.pool.rx (first_empty c.pool.pages)) (takes m (room m c.pool.layout c.pool.pages (good_lists w.0) (omega (arith, needs_one c.regs (length f.bytes))) (omega (arith, s.room))))
  told_after disabled f e = stays
  told_after not_accepted f e = stays
  told_after too_long f e = stays
  told_after bad f e = stays
  told_after no_room f e = stays

  told_arrive : (f : Frame) → ToldBy (λ x d. input_entries (frame f) c x d) (arrive f c)
  unfolding arrive
  told_arrive f = pick (ToldBy (λ x d. input_entries (frame f) c x d)) (ltb (length f.bytes) 18) stays (told_after (verdict f c) f refl)

  -- A send gives back the pages of the TX head exactly when it is good and auto release is on.
  module _ (s : Send) (out : List ℕ) where
    abbrev ToldSend : Turn → Type 0
    ToldSend t = Told (λ x d. input_entries (sent s out) c x d) t.reply t.chip

    retired : (b : Bool) (x y : Chip) → Moves (held_by c) (held_by x) (returns (head_of c.pool.tx) ∷ answered c x) → Moves (held_by c) (held_by y) []
        → Moves (held_by c) (held_by (cond b x y)) (cond b (returns (head_of c.pool.tx) ∷ answered c (cond b x y)) [])
    retired true x y p q = p
    retired false x y p q = q

    told_head : (k : ℕ) (rest : List ℕ) → c.pool.tx ≡ k ∷ rest → ToldSend (send_head s k rest c out)
    unfolding send_head input_entries answered
    told_head k rest e =
        let a = w.0.queues.tx_allocated k (rw e (member_first k rest)) in
        retired (auto_release (good c.regs.sending.tcr s.outcome) c.regs) _ _ (rw (ap head_of e ∙ head_of_first k rest) (frees k (in_range k a) (settles _ (freed_open k a)))) stays

    told_send : ToldSend (finish s c out)
    told_send =
        let not_done : (k : ℕ) → ToldSend (refused (suc k) c out) = no (λ x d. input_entries (sent s out) c x d) in
        by_send c out ToldSend s (not_done 14) (not_done 10) (not_done 11) (λ k rest e. not_done 12) (λ k rest e. not_done 17) (λ k rest e. not_done 18) (not_done 13) (λ k rest e f. told_head k rest e)

  told_serve : (i : Input) → Moves (held_by c) (held_by (serve i c).chip) (entries_of i c (serve i c))
  unfolding serve entries_of input_entries
  told_serve (driver a) = told_access a
  told_serve (frame f) = told_arrive f
  told_serve (sent s out) = told_send s out
  told_serve (link x) = by_plug c Left x (no still 10) (λ up. stays)

  -- The entries of a step tell what it does to what the ledger follows.
  pub told : (i : Input) → Moves (held_by c) (held_by (step_of n i c).chip) (entries_of i c (step_of n i c))
  unfolding entries_of
  told i = by_step c (λ (t : Turn). Moves (held_by c) (held_by t.chip) (entries_of i c t)) n i (no (input_entries i c) 15) (told_serve i)
