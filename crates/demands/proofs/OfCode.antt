-- What the demands say of the rules, carried over to the code: by the board's chip where the board is in order, and by refusal 16 where it is not.
use Rattle.std.specs.Prelude.{◌≡◌, false, ◌⊎◌, List, [], ◌∷◌, ◌++◌, map, ℕ, ◌+◌, ◌*◌, ◌≤◌, ◌<◌, take}
use Rattle.std.proofs.Math.Path.{refl, subst}
use Rattle.std.proofs.Common.{ap, ap₂, sym, ◌∙◌, true≢false, arith}
use Rattle.std.proofs.Math.Bool.{true}
use Rattle.rules.specs.Lists.{member}
use Rattle.rules.specs.Chip.{Layout, paged, Chip, size, powered}
use Rattle.rules.specs.Answers.{Reply, Turn}
use Rattle.rules.specs.WellFormed.{FormedAt}
use Rattle.rules.specs.Registers.{Access, read, byte, word}
use Rattle.rules.specs.Receive.{Frame, bad_crc}
use Rattle.rules.specs.Send.{Send}
use Rattle.rules.specs.Step.{Input, driver, frame, sent, lent, step_of, run_of}
use Rattle.wellformed.specs.Parts.{part_few}
use Rattle.laws.specs.Sendable.{Reaches, ByCount, Before, told_by_count, told_before}
use Rattle.laws.specs.Refusals.{refusals, Valued}
use Rattle.laws.proofs.Refusals.{numbers_given, refusal_leaves, refusal_value, sixteen_where, never_seventeen}
use Rattle.laws.specs.Accounted.{IsFree, InOne}
use Rattle.laws.specs.Ledger.{Ledger, Resets, blank, ledger_from}
use Rattle.laws.specs.Fcs.{AppendsFcs}
use Rattle.laws.proofs.Fcs.{step_sends_good}
use Rattle.laws.specs.Loads.{Loads}
use Rattle.laws.specs.Merge.{Merge, lefts, rights, lefts_alike, rights_alike}
use Rattle.laws.proofs.Merge.{any_two_lem}
use Rattle.laws.specs.Reading.{read_byte, read_word, told, Balances}
use Rattle.laws.specs.Theorems.{Whole}
use Rattle.laws.proofs.Theorems.{power_up_whole, pages_accounted, since_power_up, since_reset}
use Rattle.state.specs.Entry.{record_view, WholeOf}
use Rattle.state.specs.Places.{places_told}
use Rattle.state.specs.Decided.{decided}
use Rattle.demands.specs.Boards.{Board, part_in, Left, reply_to, chip_of, Good, GoodOf, Serves, Starts, Runs, AsRules, board_after, one_board, good_size, is_part, own, serves_right, runs_right}
use Rattle.demands.proofs.Boards.{serves_refused, runs_refused}
use Rattle.demands.specs.OfCode.{BalancesOn, AlikeOn}

module _ (l : Layout) where
  -- Whether a board is in order is decided.
  good? : (b : Board) → Dec (Good l b)
  good? b = decided l b.words b.pages b.queues b.memory

  -- A board in order stands for a well-formed chip of the part that it names, with its memory.
  pub good_whole : (b : Board) → Good l b → Whole (part_in b) (chip_of l b)
  good_whole b g = (subst (λ (m : ℕ). FormedAt m (chip_of l b)) (places_told g.holds) g.holds.ready.well, g.full)

  -- Demand 1, on any board: one in order is of the part that it names.
  module _ (i : Input) (b : Board) (x : Left) (a : Serves l i b x) where
    right : Good l b → AsRules (part_in b) l (step_of (part_in b) i (chip_of l b)) x
    right g = serves_right (part_in b) l i b x (own g) a

    as_step : (P : ℕ → Type 0) → Good l b → P (step_of (part_in b) i (chip_of l b)).reply.number → P (reply_to x).number
    as_step P g = subst P (ap (λ (r : Reply). r.number) (sym (right g).reply))

    as_refused : (P : ℕ → Type 0) → (Good l b → ⊥) → P 16 → P (reply_to x).number
    as_refused P bad = subst P (ap (λ (r : Reply). r.number) (sym (serves_refused l i b x bad a).reply))

    pub serves_numbers : member (reply_to x).number (0 ∷ 16 ∷ refusals i) ≡ true
    unfolding member
    serves_numbers = go (good? b)
      where
        go : Dec (Good l b) → member (reply_to x).number (0 ∷ 16 ∷ refusals i) ≡ true
        go (yes g) = as_step (λ k. member k (0 ∷ 16 ∷ refusals i) ≡ true) g (numbers_given (part_in b) i (chip_of l b))
        go (no bad) = as_refused (λ k. member k (0 ∷ 16 ∷ refusals i) ≡ true) bad refl

    pub serves_leaves : ((reply_to x).number ≡ 0 → ⊥) → (x.board ≡ b) × (x.output ≡ lent i)
    serves_leaves h = go (good? b)
      where
        go : Dec (Good l b) → (x.board ≡ b) × (x.output ≡ lent i)
        go (yes g) =
            let r = right g in
            let u = refusal_leaves (part_in b) i (chip_of l b) (λ e. h (as_step (λ k. k ≡ 0) g e)) in
            (one_board l x.board b r.good.good g (r.chip ∙ u.chip), r.output ∙ u.output)
        go (no bad) = let r = serves_refused l i b x bad a in (r.board, r.output)

    pub serves_values : ((reply_to x).number ≡ 0 → ⊥) → Valued (chip_of l b) (reply_to x)
    unfolding member
    serves_values h = go (good? b)
      where
        go : Dec (Good l b) → Valued (chip_of l b) (reply_to x)
        go (yes g) = subst (Valued (chip_of l b)) (sym (right g).reply) (refusal_value (part_in b) i (chip_of l b) (λ e. h (as_step (λ k. k ≡ 0) g e)))
        go (no bad) = subst (Valued (chip_of l b)) (sym (serves_refused l i b x bad a).reply) (record { count = λ m. absurd (true≢false (sym m)); none = λ m. refl })

    pub serves_sixteen : ((reply_to x).number ≡ 16 → Good l b → ⊥) × ((Good l b → ⊥) → (reply_to x).number ≡ 16)
    serves_sixteen = (
      λ e g. sixteen_where (part_in b) i (chip_of l b) (ap (λ (r : Reply). r.number) (sym (right g).reply) ∙ e) (good_whole b g),
      λ bad. as_refused (λ k. k ≡ 16) bad refl,
    )

    pub serves_no17 : (reply_to x).number ≡ 17 → ⊥
    serves_no17 e = go (good? b)
      where
        go : Dec (Good l b) → ⊥
        go (yes g) = never_seventeen (part_in b) i (chip_of l b) (ap (λ (r : Reply). r.number) (sym (right g).reply) ∙ e)
        go (no bad) = omega (arith, ap (λ (r : Reply). r.number) (serves_refused l i b x bad a).reply, e)

    -- No entry changes the part (document 02, W9).
    pub serves_part : part_in x.board ≡ part_in b
    serves_part = go (good? b)
      where
        go : Dec (Good l b) → part_in x.board ≡ part_in b
        go (yes g) = (right g).good.part
        go (no bad) = ap (λ (d : Board). part_in d) (serves_refused l i b x bad a).board

  pub serves_earlier : (s : Send) (out : List ℕ) (b : Board) (x : Left) → Good l b → Serves l (sent s out) b x → Before s (chip_of l b) out (reply_to x)
  serves_earlier s out b x g a = subst (Before s (chip_of l b) out) (sym (right (sent s out) b x a g).reply) (told_before (part_in b) s out (chip_of l b) (good_whole b g))

  pub serves_counts : (s : Send) (out : List ℕ) (b : Board) (x : Left) → Good l b → Serves l (sent s out) b x → Reaches s (chip_of l b) out → ByCount s (chip_of l b) (reply_to x)
  serves_counts s out b x g a r = subst (ByCount s (chip_of l b)) (sym (right (sent s out) b x a g).reply) (told_by_count (part_in b) s out (chip_of l b) (good_whole b g) r)

  -- What a send puts out with an FCS has a good CRC.
  pub serves_good_crc : (s : Send) (out : List ℕ) (b : Board) (x : Left) → Serves l (sent s out) b x → (reply_to x).number ≡ 0 → AppendsFcs (chip_of l b) → bad_crc (take (reply_to x).value x.output) ≡ false
  serves_good_crc s out b x a e f = go (good? b)
    where
      go : Dec (Good l b) → bad_crc (take (reply_to x).value x.output) ≡ false
      go (yes g) =
          let r = right (sent s out) b x a g in
          ap₂ (λ (t : Reply) (o : List ℕ). bad_crc (take t.value o)) r.reply r.output
          ∙ step_sends_good (part_in b) s (chip_of l b) out (ap (λ (t : Reply). t.number) (sym r.reply) ∙ e) f
      go (no bad) = absurd (omega (arith, ap (λ (t : Reply). t.number) (serves_refused l (sent s out) b x bad a).reply, e))

-- Demand 2, on boards of the part with n packets.
module _ (n : ℕ) (l : Layout) where
  of_whole : (b : Board) → GoodOf n l b → Whole n (chip_of l b)
  of_whole b g = subst (λ (m : ℕ). Whole m (chip_of l b)) g.part (good_whole l b g.good)

  pub serves_pages : l ≡ paged → (i : Input) (b : Board) (x : Left) → GoodOf n l b → Serves l i b x → (p : ℕ) → p < n → IsFree (chip_of l x.board) p ⊎ InOne (chip_of l x.board) p
  serves_pages e i b x g a p h = subst (λ (c : Chip). IsFree c p ⊎ InOne c p) (sym (serves_right n l i b x g a).chip) (pages_accounted n i (chip_of l b) (of_whole b g) e p h)

  -- what `power_up` leaves stands for the rules' chip at power-up, and is in order
  pub starts_up : (x : Left) → Starts l n x → (chip_of l x.board ≡ powered l n) × GoodOf n l x.board
  starts_up x s =
      let b = x.board in
      let chip : chip_of l b ≡ powered l n = ap (λ (m : List ℕ). record_view l b.words b.pages b.queues m) s.beside ∙ s.returned.chip in
      let good : Good l b = subst (WholeOf l b.words b.pages b.queues) (sym s.beside) s.returned.whole in
      (chip, record { good = good; part = sym (good_size l b good) ∙ ap (λ (c : Chip). size c) chip ∙ (power_up_whole n l).0.count })

  -- A step that the rules answer by v, with the chip as it was, is answered by v and leaves the board.
  serves_shown : (i : Input) (b : Board) (v : ℕ) → GoodOf n l b → step_of n i (chip_of l b) ≡ record { reply = told v; chip = chip_of l b; output = [] } → (y : Left) → Serves l i b y → (reply_to y ≡ told v) × (y.board ≡ b)
  serves_shown i b v g e y a =
      let r = serves_right n l i b y g a in
      (r.reply ∙ ap (λ (t : Turn). t.reply) e, one_board l y.board b r.good.good g.good (r.chip ∙ ap (λ (t : Turn). t.chip) e))

  balances_on : (b : Board) (k : Ledger) → GoodOf n l b → Balances n (chip_of l b) k → BalancesOn n l b k
  balances_on b k g e = record {
    count = e.count;
    as_byte = λ ys r. (runs_right n l read_byte b ys g r).replies ∙ e.reads.as_byte;
    as_word = λ ys r. (runs_right n l read_word b ys g r).replies ∙ e.reads.as_word;
    byte_there = λ z. serves_shown (driver (read byte 9)) b e.count g (e.reads.byte_there z);
    word_there = λ z. serves_shown (driver (read word 8)) b (n + 256 * e.count) g (e.reads.word_there z);
    even = e.even;
  }

  small : {b : Board} → GoodOf n l b → n ≤ 128
  small g = omega (arith, part_few (is_part n l g))

  pub runs_balanced : (x : Left) → Starts l n x → (inputs : List Input) (xs : List Left) → Runs l inputs x.board xs → BalancesOn n l (board_after x.board xs) (ledger_from n inputs (powered l n) (blank n))
  runs_balanced x s inputs xs r =
      let k = ledger_from n inputs (powered l n) (blank n) in
      let up = starts_up x s in
      let e = runs_right n l inputs x.board xs up.1 r in
      balances_on (board_after x.board xs) k e.good
      (subst (λ (c : Chip). Balances n c k) (sym (e.chip ∙ ap (λ (c : Chip). (run_of n inputs c).chip) up.0)) (since_power_up n (small up.1) l inputs))

  pub runs_balanced_since : (b : Board) → GoodOf n l b → (k : Ledger) (before : List Input) (i : Input) (after : List Input) → Resets n i (run_of n before (chip_of l b)).chip
      → (xs : List Left) → Runs l (before ++ (i ∷ after)) b xs → BalancesOn n l (board_after b xs) (ledger_from n (before ++ (i ∷ after)) (chip_of l b) k)
  runs_balanced_since b g k before i after s xs r =
      let m = ledger_from n (before ++ (i ∷ after)) (chip_of l b) k in
      let e = runs_right n l (before ++ (i ∷ after)) b xs g r in
      balances_on (board_after b xs) m e.good (subst (λ (c : Chip). Balances n c m) (sym e.chip) (since_reset n (small g) (chip_of l b) (of_whole b g) k before i after s))

module _ (l : Layout) where
  pub any_two_on : (b : Board) (loads : List Access) (arriving : List Frame) → Loads (chip_of l b) (chip_of l b) loads → {zs others : List Input}
      → (m : Merge (map driver loads) (map frame arriving) zs) (k : Merge (map driver loads) (map frame arriving) others)
      → (xs ys : List Left) → Runs l zs b xs → Runs l others b ys → AlikeOn l b m xs k ys
  any_two_on b loads arriving h {zs} {others} m k xs ys r s = go (good? l b)
    where
      go : Dec (Good l b) → AlikeOn l b m xs k ys
      go (yes g) =
          let u = runs_right (part_in b) l zs b xs (own g) r in
          let v = runs_right (part_in b) l others b ys (own g) s in
          let e = any_two_lem (part_in b) (chip_of l b) loads arriving h m k in
          record {
            board = one_board l (board_after b xs) (board_after b ys) u.good.good v.good.good (u.chip ∙ e.chip ∙ sym v.chip);
            accesses = ap (lefts m) u.replies ∙ e.accesses ∙ sym (ap (lefts k) v.replies);
            frames = ap (rights m) u.replies ∙ e.frames ∙ sym (ap (rights k) v.replies);
          }
      go (no bad) =
          let u = runs_refused l zs b xs bad r in
          let v = runs_refused l others b ys bad s in
          record {
            board = u.1 ∙ sym v.1;
            accesses = ap (lefts m) u.0 ∙ lefts_alike m ∙ sym (ap (lefts k) v.0 ∙ lefts_alike k);
            frames = ap (rights m) u.0 ∙ rights_alike m ∙ sym (ap (rights k) v.0 ∙ rights_alike k);
          }
