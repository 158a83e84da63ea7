-- The code as its callers see it: a board is a record with its memory, and a public entry serves an input on it, `chip`'s at its layout: `Paged` where l is `paged`, `Strips` where it is `strips`.
-- What follows from the entries' promise alone, for one step and for runs.
use Rattle.std.specs.Prelude.{◌≡◌, refl, Bool, ℕ}
use Rattle.std.proofs.Math.Path.{ap, ap₂}
use Rattle.std.proofs.Common.{sym, subst, ◌∙◌}
use mathlib.Core.List.{List, [], ◌∷◌, map}
use Rattle.rules.specs.Parts.{IsPart}
use Rattle.rules.specs.Chip.{Layout, Chip, size}
use Rattle.rules.specs.Answers.{Reply, Turn, refusal}
use Rattle.rules.specs.Step.{Input, lent, step, step_of, run_of}
use Rattle.wellformed.proofs.Parts.{step_of_part}
use Rattle.laws.specs.Layout.{size_stays}
use Rattle.state.specs.Meaning.{Answer}
use Rattle.state.specs.Meaning.{reply_of}
use Rattle.state.specs.Entry.{size_in, record_view, HoldsOf, WholeOf, AnswersOf, StartedOf, LinesOf, zeros}
use Rattle.state.specs.Places.{names_part, places_told}
use Rattle.state.proofs.Only.{one_record, only}

-- what a caller hands over: the 32 words of the registers, 24 places with each packet's page set (of strips how many pages it has), the 72 bytes of the queues, and the memory that is lent
pub record Board : Type 0 where
  pub words : List ℕ
  pub pages : List ℕ
  pub queues : List ℕ
  pub memory : List ℕ

-- how many packets the part has that a board names, by the low byte of MIR: 18h is the LAN91C96, 12h the LAN91C94 (document 02, W9)
abbrev pub part_in : Board → ℕ
part_in b = size_in b.words

-- what an entry leaves: its answer, the board, and the output buffer that it was lent
pub record Left : Type 0 where
  pub answer : Answer
  pub board : Board
  pub output : List ℕ

-- document 01's number and value of the answer
abbrev pub reply_to : Left → Reply
reply_to x = reply_of x.answer

-- the board that inputs leave, and the replies and outputs
abbrev pub board_after : Board → List Left → Board
board_after b [] = b
board_after b (x ∷ xs) = board_after x.board xs

abbrev pub replies_of : List Left → List Reply
replies_of xs = map (λ (x : Left). reply_of x.answer) xs

abbrev pub outputs_of : List Left → List (List ℕ)
outputs_of xs = map (λ (x : Left). x.output) xs

module _ (l : Layout) where
  -- the chip of the rules that a board stands for; a record that is in order, of a well-formed chip of the part that it names; and a board with one, and with the part's memory: 256 bytes for each page, of strips 2,048
  abbrev pub chip_of : Board → Chip
  chip_of b = record_view l b.words b.pages b.queues b.memory

  abbrev pub ReadyBy : Board → Type 0
  ReadyBy b = HoldsOf l b.words b.pages b.queues

  abbrev pub Good : Board → Type 0
  Good b = WholeOf l b.words b.pages b.queues b.memory

  -- `access`, `frame`, `send` and `link` of `chip`, at each layout, promise this of their input i, and ask nothing: on the board b they leave x
  abbrev pub Serves : Input → Board → Left → Type 0
  Serves i b x = AnswersOf l i b.words b.pages b.queues b.memory x.answer x.board.words x.board.pages x.board.queues x.board.memory x.output

  -- `power_up` of the part with n packets promises this of what it returns; zero bytes stand beside it. And `line` promises this of its answer
  pub record Starts (n : ℕ) (x : Left) : Type 0 where
    pub returned : StartedOf l n x.answer x.board.words x.board.pages x.board.queues
    pub beside : x.board.memory ≡ zeros l n

  abbrev pub Shows : Board → Bool → Type 0
  Shows b up = LinesOf l b.words b.pages b.queues up

  -- inputs served one after another, each on the board that the one before it left
  abbrev pub Runs : List Input → Board → List Left → Type 0
  Runs [] b [] = Unit {0}
  Runs [] b (x ∷ xs) = ⊥
  Runs (i ∷ is) b [] = ⊥
  Runs (i ∷ is) b (x ∷ xs) = Serves i b x × Runs is x.board xs

  -- Boards in order that stand for the same chip are the same.
  pub one_board : (a b : Board) → Good a → Good b → chip_of a ≡ chip_of b → a ≡ b
  one_board a b g h e =
      let s = one_record g.holds h.holds e in
      λ i. record { words = s.0 i; pages = s.1 i; queues = s.2 i; memory = s.3 i }

  -- One in order names a part, and its chip has as many packets.
  pub good_part : (b : Board) → Good b → IsPart (part_in b)
  good_part b g = names_part g.holds

  pub good_size : (b : Board) → Good b → size (chip_of b) ≡ part_in b
  good_size b g = g.holds.ready.well.count ∙ places_told g.holds

  -- A step on any other is refused with 16, and nothing changes.
  pub record Refused16 (i : Input) (b : Board) (x : Left) : Type 0 where
    pub reply : reply_to x ≡ refusal 16
    pub board : x.board ≡ b
    pub output : x.output ≡ lent i

  -- There is one result, on any board.
  pub serves_once : (i : Input) (b : Board) (x y : Left) → Serves i b x → Serves i b y → x ≡ y
  serves_once i b x y p q =
      let e = only i b.words b.pages b.queues b.memory p q in
      λ j. record { answer = e.0 j; board = record { words = e.1 j; pages = e.2 j; queues = e.3 j; memory = e.4 j }; output = e.5 j }

module _ (n : ℕ) (l : Layout) where
  -- a board in order, of the part with n packets
  pub record GoodOf (b : Board) : Type 0 where
    pub good : Good l b
    pub part : part_in b ≡ n

  -- so n is a part's number
  pub is_part : {b : Board} → GoodOf b → IsPart n
  is_part {b} g = subst IsPart g.part (good_part l b g.good)

  -- A step on such a board is the rules' turn of its chip, all of it, and the board is in order again, of the same part.
  pub record AsRules (t : Turn) (x : Left) : Type 0 where
    pub chip : chip_of l x.board ≡ t.chip
    pub reply : reply_to x ≡ t.reply
    pub output : x.output ≡ t.output
    pub good : GoodOf x.board

  pub serves_right : (i : Input) (b : Board) (x : Left) → GoodOf b → Serves l i b x → AsRules (step_of n i (chip_of l b)) x
  serves_right i b x g a =
      let r = a.done g.good in
      let many : size (chip_of l b) ≡ n = good_size l b g.good ∙ g.part in
      let same : step i (chip_of l b) ≡ step_of n i (chip_of l b) = step_of_part i (chip_of l b) (is_part g) many in
      let chip : chip_of l x.board ≡ (step_of n i (chip_of l b)).chip = r.chip ∙ ap (λ (t : Turn). t.chip) same in
      record {
        chip = chip;
        reply = r.reply ∙ ap (λ (t : Turn). t.reply) same;
        output = r.output ∙ ap (λ (t : Turn). t.output) same;
        good = record { good = r.whole; part = sym (good_size l x.board r.whole) ∙ ap (λ (c : Chip). size c) chip ∙ size_stays n i (chip_of l b) ∙ many };
      }

  -- The same of runs.
  pub record RunsAsRules (is : List Input) (b : Board) (xs : List Left) : Type 0 where
    pub chip : chip_of l (board_after b xs) ≡ (run_of n is (chip_of l b)).chip
    pub replies : replies_of xs ≡ (run_of n is (chip_of l b)).replies
    pub outputs : outputs_of xs ≡ (run_of n is (chip_of l b)).outputs
    pub good : GoodOf (board_after b xs)

  pub runs_right : (is : List Input) (b : Board) (xs : List Left) → GoodOf b → Runs l is b xs → RunsAsRules is b xs
  unfolding run_of
  runs_right [] b [] g r = record { chip = refl; replies = refl; outputs = refl; good = g }
  runs_right [] b (x ∷ xs) g r = absurd r
  runs_right (i ∷ is) b [] g r = absurd r
  runs_right (i ∷ is) b (x ∷ xs) g r =
      let s = serves_right i b x g r.0 in
      let t = runs_right is x.board xs s.good r.1 in
      record {
        chip = t.chip ∙ ap (λ (c : Chip). (run_of n is c).chip) s.chip;
        replies = ap₂ ◌∷◌ s.reply (t.replies ∙ ap (λ (c : Chip). (run_of n is c).replies) s.chip);
        outputs = ap₂ ◌∷◌ s.output (t.outputs ∙ ap (λ (c : Chip). (run_of n is c).outputs) s.chip);
        good = t.good;
      }

-- A board in order is of the part that it names.
pub own : {l : Layout} {b : Board} → Good l b → GoodOf (part_in b) l b
own g = record { good = g; part = refl }
