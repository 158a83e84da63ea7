-- Payload blindness (document 02, W10), of the code: two runs of a chip's public entries from power-up, on inputs alike. Registers, page sets or counts and queues are the same words and bytes after every call.
use Rattle.std.specs.Prelude.{◌≡◌, List, [], ◌∷◌, ℕ, length}
use Rattle.std.proofs.Common.{ap, sym, subst, ◌∙◌}
use Rattle.rules.specs.Chip.{Layout, Chip, powered}
use Rattle.rules.specs.Interrupts.{line_up}
use Rattle.rules.specs.Answers.{Turn}
use Rattle.rules.specs.Step.{Input, step_of}
use Rattle.state.proofs.Only.{one_record}
use Rattle.blind_laws.specs.Alike.{InputsAlike, none, next, SendsAlike, ButBytes, TurnsAlike}
use Rattle.blind_laws.proofs.Blindness.{same_step}
use Rattle.demands.specs.Boards.{Board, Left, board_after, chip_of, GoodOf, Starts, Runs, AsRules, serves_right}
use Rattle.demands.proofs.OfCode.{starts_up}
use Rattle.demands.specs.LinkOfCode.{turn_of}
use Rattle.demands.specs.BlindCode.{BoardsAlike, AllLeftAlike}

module _ (l : Layout) where
  -- Boards in order that stand for chips equal but for the bytes of memory are such: each word and byte of the record is known from its chip.
  boards_alike : (n : ℕ) (b d : Board) → GoodOf n l b → GoodOf n l d → ButBytes (chip_of l b) (chip_of l d) → BoardsAlike l b d
  boards_alike n b d g h e =
      let same : chip_of l (record { words = d.words; pages = d.pages; queues = d.queues; memory = b.memory }) ≡ chip_of l b = λ i. record { regs = e.registers i; pool = e.pool i; memory = b.memory } in
      let s = one_record h.good.holds g.good.holds same in
      record {
        words = s.0;
        pages = s.1;
        queues = s.2;
        as_long = e.as_long;
        line = λ up other p q. q.up h.good.holds b.memory ∙ ap (λ (c : Chip). line_up c) same ∙ sym (p.up g.good.holds b.memory);
      }

  module _ (n : ℕ) where
    as_turn : (i : Input) (b : Board) (x : Left) → AsRules n l (step_of n i (chip_of l b)) x → turn_of l x ≡ step_of n i (chip_of l b)
    as_turn i b x r = λ j. record { reply = r.reply j; chip = r.chip j; output = r.output j }

    -- One run after another, on any two boards in order that are equal but for the bytes of memory.
    runs_on : {is js : List Input} → InputsAlike is js → (b d : Board) → GoodOf n l b → GoodOf n l d → ButBytes (chip_of l b) (chip_of l d) → SendsAlike n is js (chip_of l b) (chip_of l d)
        → (xs ys : List Left) → Runs l is b xs → Runs l js d ys → AllLeftAlike l is b xs ys × BoardsAlike l (board_after b xs) (board_after d ys)
    runs_on none b d g h e s [] [] p q = (tt, boards_alike n b d g h e)
    runs_on none b d g h e s [] (y ∷ ys) p q = absurd q
    runs_on none b d g h e s (x ∷ xs) ys p q = absurd p
    runs_on (next a more) b d g h e s [] ys p q = absurd p
    runs_on (next a more) b d g h e s (x ∷ xs) [] p q = absurd q
    runs_on (next {i} {j} {is} {js} a more) b d g h e s (x ∷ xs) (y ∷ ys) p q =
        let u = serves_right n l i b x g p.0 in
        let v = serves_right n l j d y h q.0 in
        let t : TurnsAlike i (chip_of l b) (turn_of l x) (turn_of l y) = subst (TurnsAlike i (chip_of l b) (turn_of l x)) (sym (as_turn j d y v)) (subst (λ (k : Turn). TurnsAlike i (chip_of l b) k (step_of n j (chip_of l d))) (sym (as_turn i b x u)) (same_step n a e s.0)) in
        let rest : SendsAlike n is js (chip_of l x.board) (chip_of l y.board) = subst (λ (k : Chip). SendsAlike n is js k (chip_of l y.board)) (sym u.chip) (subst (SendsAlike n is js (step_of n i (chip_of l b)).chip) (sym v.chip) s.1) in
        let r = runs_on more x.board y.board u.good v.good t.after rest xs ys p.1 q.1 in
        ((record { turns = t; boards = boards_alike n x.board y.board u.good v.good t.after }, r.0), r.1)

    -- "two runs from power-up"
    pub runs_blind : {is js : List Input} → InputsAlike is js → SendsAlike n is js (powered l n) (powered l n) → (u v : Left) → Starts l n u → Starts l n v
        → (xs ys : List Left) → Runs l is u.board xs → Runs l js v.board ys → AllLeftAlike l is u.board xs ys × BoardsAlike l (board_after u.board xs) (board_after v.board ys)
    runs_blind {is} {js} a s u v p q =
        let b = starts_up n l u p in
        let d = starts_up n l v q in
        let up : chip_of l v.board ≡ chip_of l u.board = d.0 ∙ sym b.0 in
        runs_on a u.board v.board b.1 d.1
        (record { registers = ap (λ (c : Chip). c.regs) up; pool = ap (λ (c : Chip). c.pool) up; as_long = ap (λ (c : Chip). length c.memory) up })
        (subst (λ (k : Chip). SendsAlike n is js k (chip_of l v.board)) (sym b.0) (subst (SendsAlike n is js (powered l n)) (sym d.0) s))
