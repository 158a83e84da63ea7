-- Every step from a well-formed chip gives a well-formed chip: accesses, frames, sends and the link, refusals too. For any size n.
use Rattle.std.specs.Prelude.{◌≡◌, refl, Bool, not, ◌&&◌, List, [], ◌∷◌, ◌++◌, ℕ, zero, suc, ◌+◌, ◌*◌, ◌≤◌, ◌<◌, ◌/◌, ◌%◌, eqb, leb, ltb, get_or, set, take}
use Rattle.std.proofs.Common.{ap, sym, ◌∙◌, inl, inr, arith, get_or-set_same}
use Rattle.std.proofs.Math.Bool.{true, false, true≢false}
use borrow.Author.Tests.{leb-true, leb-false}
use Rattle.std.proofs.Math.ListN.{length}
use Rattle.std.proofs.lemmas.List.{length-replicate}
use Rattle.rules.specs.Bits.{bit, low_byte}
use Rattle.rules.specs.Lists.{member, some?, first_empty}
use Rattle.rules.specs.Chip.{Registers, Layout, Chip, size, page_numbers, free, powered}
use Rattle.rules.specs.Fields.{set_rx, set_completion, in_registers, in_pool, in_memory}
use Rattle.rules.specs.Answers.{Effect, Turn}
use Rattle.rules.specs.WellFormed.{Distinct, Waits, Formed}
use Rattle.rules.specs.Packet.{put_bytes}
use Rattle.rules.specs.Mmu.{Command, nothing, allocate, reset, remove_rx, remove_and_release, release, enqueue, reset_tx, unknown, decode, perform, allot}
use Rattle.rules.specs.Interrupts.{acknowledge}
use Rattle.rules.specs.Data.{read_data, write_data}
use Rattle.rules.specs.Registers.{Lanes, low, high, both, Register, TCR, EPHSR, RCR, ECR, MIR, RESERVED, STATION, CONTROL, COMMAND, PACKET, HEADS, POINTER, DATA, INTERRUPT, TABLE, BANK, UNUSED, ABSENT, bytes_of, merged, new_rcr, write_rcr, write_tcr, write_interrupt, read_register, write_register, register_at, misplaced, lanes_at, Access, read, write, access}
use Rattle.rules.specs.Receive.{Frame, Arrival, stored, disabled, not_accepted, too_long, bad, no_room, needed, after, verdict, arrive}
use Rattle.rules.specs.Send.{Send, good, auto_release, send_head, finish}
use Rattle.rules.specs.Step.{Input, driver, frame, sent, link, serve, step_of}
use Rattle.lists.specs.Bytes.{length_put}
use Rattle.lists.specs.Facts.{if_not, member_first}
use Rattle.wellformed.specs.Cases.{pick, pick_by, by_head, by_idle, by_packet, by_tests, by_lanes, by_read, by_plug, by_send, by_step}
use Rattle.wellformed.specs.Fit.{Fits}
use Rattle.wellformed.specs.Frames.{storable, needs_one, needs_seven}
use Rattle.wellformed.specs.Pool.{has_small, number_free, number_not_rx, number_not_tx, given, rx_popped, rx_joined, tx_popped, tx_joined, completion_joined, completion_popped, tx_and_completion_emptied, with_bank, with_packet, with_result, reset_numbers, beside, emptied}
use Rattle.wellformed.proofs.Settle.{given_back}
use Rattle.wellformed.specs.Keeps.{Valid, decode_valid}

-- Pages that are taken from enough are some.
some_taken : (m : ℕ) → 1 ≤ m → (l : List ℕ) → m ≤ length l → some? (take m l) ≡ true
unfolding some?
some_taken zero a l h = absurd (omega arith)
some_taken (suc m) a [] h = absurd (omega arith)
some_taken (suc m) a (x ∷ xs) h = refl

module _ (n : ℕ) where
  abbrev Kept : Effect → Type 0
  Kept s = Fits n s.chip

  module _ (c : Chip) (w : Fits n c) where
    -- The RX head is in range.
    head_small : (k : ℕ) (ks : List ℕ) → c.pool.rx ≡ k ∷ ks → k < n
    head_small k ks e = omega (arith, has_small c.pool.pages k (w.0.queues.rx_allocated k (rw e (member_first k ks))), w.0.count)

    -- An allocation of more pages than are free waits.
    pends : (m : ℕ) → (1 ≤ m) × (m ≤ 8) → length (free c) < m → Waits (length (free c)) m 0x80
    pends m v h = record { few = v.1; short = h; unanswered = refl }

    pub keeps_perform : (k : Command) → Valid k → Kept (perform k c)
    unfolding perform
    keeps_perform nothing v = w
    keeps_perform (allocate m) v =
        pick_by Kept (leb m (length (free c)))
        (λ e. let h = leb-true m (length (free c)) e in
        let g = given w.0 m v.0 v.1 h in (
          beside g (with_result w.0.numbers _ (inl (number_free w.0 (omega (arith, v.0, h)))) 0) (inl refl),
          w.1,
        ))
        (λ e. (beside w.0 (with_result w.0.numbers 0x80 (inr refl) m) (inr (pends m v (leb-false m (length (free c)) e))), w.1))
    keeps_perform reset v = (rw w.0.count (emptied c.pool.layout n (with_result w.0.numbers 0x80 (inr refl) 0) refl), w.1)
    keeps_perform remove_rx v = by_head c Kept _ c.pool.rx w (λ k ks e. (rx_popped w.0 k ks e, w.1))
    keeps_perform remove_and_release v =
        by_head c Kept _ c.pool.rx w
        (λ k ks e. let q = w.0.queues in
        let d : Distinct (k ∷ ks) = rw e at q.rx_distinct in
        let m : member k c.pool.rx ≡ true = rw e (member_first k ks) in
        given_back n (in_pool (set_rx ks) c) (rx_popped w.0 k ks e, w.1) k (head_small k ks e) (λ x. true≢false (sym x ∙ d.0)) (λ x. true≢false (sym x ∙ q.not_both k m)))
    keeps_perform release v =
        by_idle c Kept _ w w
        (λ a r t. given_back n c w c.regs.numbers.packet (omega (arith, has_small c.pool.pages c.regs.numbers.packet a, w.0.count))
        (λ x. true≢false (sym x ∙ r)) (λ x. true≢false (sym x ∙ t)))
    keeps_perform enqueue v = by_idle c Kept _ w w (λ a r t. (tx_joined w.0 c.regs.numbers.packet a r t, w.1))
    keeps_perform reset_tx v = (tx_and_completion_emptied w.0, w.1)
    keeps_perform unknown v = w

    -- Data accesses: only the pointer and bytes of memory change.
    keeps_read_data : (wide : ℕ) → Kept (read_data wide c)
    unfolding read_data
    keeps_read_data wide = by_packet c Kept _ w w (λ pages. by_tests c Kept true wide pages _ w w w w)

    keeps_write_data : (bytes : List ℕ) → Kept (write_data bytes c)
    unfolding write_data
    keeps_write_data bytes = by_packet c Kept _ w w (λ pages. by_tests c Kept false (length bytes) pages _ w w w (w.0, length_put bytes _ pages c.memory ∙ w.1))

    -- Registers.
    pub keeps_read : (r : Register) (p : Lanes) → Kept (read_register r p c)
    keeps_read = by_read c Kept w (λ v. w) (λ v. w) keeps_read_data

    -- Of the writes to RCR only a soft reset changes the pool.
    keeps_rcr : (x : ℕ) → Fits n (write_rcr x c)
    unfolding write_rcr
    keeps_rcr x = pick (Fits n) (bit 15 x) (rw w.0.count (emptied c.pool.layout n (reset_numbers n) refl), w.1) w

    keeps_tcr : (x : ℕ) → Fits n (in_registers (write_tcr x) c)
    unfolding write_tcr
    keeps_tcr x = pick (λ (r : Registers). Formed n r c.pool × (length c.memory ≡ 256 * page_numbers c.pool.layout n)) (bit 0 x) w w

    keeps_acknowledge : (v : ℕ) → Fits n (acknowledge v c)
    keeps_acknowledge v = (
      pick (λ (l : List ℕ). Formed n c.regs (set_completion l c.pool)) (bit 1 v) (completion_popped w.0) w.0,
      w.1,
    )

    keeps_interrupt : (p : Lanes) (v : ℕ) → Fits n (write_interrupt p v c)
    unfolding write_interrupt
    keeps_interrupt low v = keeps_acknowledge (low_byte v)
    keeps_interrupt high v = w
    keeps_interrupt both v = keeps_acknowledge (low_byte v)

    pub keeps_write : (r : Register) (p : Lanes) (v : ℕ) → Kept (write_register r p v c)
    unfolding write_register
    keeps_write TCR p v = keeps_tcr (merged p v c.regs.sending.tcr)
    keeps_write EPHSR p v = w
    keeps_write RCR p v = keeps_rcr (new_rcr p v c.regs.receiving.rcr)
    keeps_write ECR p v = w
    keeps_write MIR p v = w
    keeps_write RESERVED p v = by_lanes c Kept p _ w w
    keeps_write (STATION k) p v = w
    keeps_write CONTROL p v = w
    keeps_write COMMAND p v = by_lanes c Kept p _ w (keeps_perform (decode (low_byte v)) (decode_valid (low_byte v)))
    keeps_write PACKET p v = by_lanes c Kept p _ w (beside w.0 (with_packet w.0.numbers (v % 64) (omega arith)) w.0.request, w.1)
    keeps_write HEADS p v = w
    keeps_write POINTER p v = w
    keeps_write DATA p v = keeps_write_data (bytes_of p v)
    keeps_write INTERRUPT p v = keeps_interrupt p v
    keeps_write (TABLE k) p v = w
    keeps_write BANK p v = by_lanes c Kept p _ w (beside w.0 (with_bank w.0.numbers (v % 8) (omega arith)) w.0.request, w.1)
    keeps_write UNUSED p v = w
    keeps_write ABSENT p v = w

    pub keeps_access : (a : Access) → Kept (access a c)
    unfolding access
    keeps_access (read wide o) = pick Kept (misplaced wide o) w (keeps_read (register_at c.regs.numbers.bank o) (lanes_at wide o))
    keeps_access (write wide o v) = pick Kept (misplaced wide o) w (keeps_write (register_at c.regs.numbers.bank o) (lanes_at wide o) v)

    -- A stored frame: its number has pages, and joins RX.
    module _ (m : ℕ) (least : 1 ≤ m) (most : m ≤ 8) (room : m ≤ length (free c)) where
      pub keeps_stowed : (bytes pages : List ℕ) → Fits n (in_memory (put_bytes bytes 0 pages) (in_pool (set_rx (c.pool.rx ++ (first_empty c.pool.pages ∷ []))) (allot m c)))
      keeps_stowed bytes pages =
          let k = first_empty c.pool.pages in
          let u : k < n = number_free w.0 (omega (arith, least, room)) in
          let has : some? (get_or (set c.pool.pages k (take m (free c))) k []) ≡ true =
          ap some? (get_or-set_same c.pool.pages k (take m (free c)) [] (omega (arith, u, w.0.count))) ∙ some_taken m least (free c) room in (
            rx_joined (given w.0 m least most room) k has (if_not (member k c.pool.rx) (number_not_rx w.0)) (if_not (member k c.pool.tx) (number_not_tx w.0)),
            length_put bytes 0 pages c.memory ∙ w.1,
          )

module _ (n : ℕ) (c : Chip) (w : Fits n c) where
  keeps_after : (v : Arrival) (f : Frame) → verdict f c ≡ v → Fits n (after v f c)
  unfolding after
  keeps_after stored f e =
      let s = storable c.regs (length (free c)) f e in
      let len = length f.bytes in
      keeps_stowed n c w (needed c.regs len) (needs_one c.regs len) (omega (arith, needs_seven c.regs len s.short)) (omega (arith, s.room)) _ _
  keeps_after disabled f e = w
  keeps_after not_accepted f e = w
  keeps_after too_long f e = w
  keeps_after bad f e = w
  keeps_after no_room f e = w

  pub keeps_arrive : (f : Frame) → Fits n (arrive f c).chip
  unfolding arrive
  keeps_arrive f = pick (λ (s : Effect). Fits n s.chip) (ltb (length f.bytes) 18) w (keeps_after (verdict f c) f refl)

  -- A finished send: its number leaves TX, and is released or joins completion.
  keeps_head : (s : Send) (k : ℕ) (rest : List ℕ) (out : List ℕ) → c.pool.tx ≡ k ∷ rest
      → (auto_release (good c.regs.sending.tcr s.outcome) c.regs ≡ false → length c.pool.completion < n) → Fits n (send_head s k rest c out).chip
  unfolding send_head
  keeps_head s k rest out e f =
      let q = w.0.queues in
      let m : member k c.pool.tx ≡ true = rw e (member_first k rest) in
      let d : Distinct (k ∷ rest) = rw e at q.tx_distinct in
      let u : k < n = omega (arith, has_small c.pool.pages k (q.tx_allocated k m), w.0.count) in
      let p = tx_popped w.0 k rest e in
      pick_by (Fits n) (auto_release (good c.regs.sending.tcr s.outcome) c.regs)
      (λ a. given_back n _ (p, length_put _ 0 _ c.memory ∙ w.1) k u (λ x. true≢false (sym m ∙ q.not_both k x)) (λ x. true≢false (sym x ∙ d.0)))
      (λ a. (completion_joined p k u (f a), length_put _ 0 _ c.memory ∙ w.1))

  abbrev Turned : Turn → Type 0
  Turned t = Fits n t.chip

  open_place : (a b : Bool) → not a && b ≡ false → a ≡ false → b ≡ false
  open_place true b e f = absurd (true≢false f)
  open_place false b e f = e

  pub keeps_send : (s : Send) (out : List ℕ) → Turned (finish s c out)
  keeps_send s out =
      by_send c out Turned s w w w (λ k rest e. w) (λ k rest e. w) (λ k rest e. w) w
      (λ k rest e f. keeps_head s k rest out e
      (λ b. omega (arith, leb-false (size c) (length c.pool.completion) (open_place (auto_release (good c.regs.sending.tcr s.outcome) c.regs) _ f b), w.0.count)))

  keeps_serve : (i : Input) → Turned (serve i c)
  unfolding serve
  keeps_serve (driver a) = keeps_access n c w a
  keeps_serve (frame f) = keeps_arrive f
  keeps_serve (sent s out) = keeps_send s out
  keeps_serve (link x) = by_plug c (Kept n) x w (λ up. w)

  -- Every step.
  pub keeps : (i : Input) → Turned (step_of n i c)
  keeps i = by_step c Turned n i w (keeps_serve i)
