-- The promise of strips beside pages, of the code: the public entries of `chip` at `Paged` and at `Strips`, of the part with n packets, on the same inputs from power-up.
use Rattle.std.specs.Prelude.{◌≡◌, List, [], ◌∷◌, ℕ}
use Rattle.rules.specs.Chip.{paged, strips, powered}
use Rattle.rules.specs.Step.{Input}
use Rattle.strip_laws.specs.Written.{Marks, unwritten, written, written_by}
use Rattle.strip_laws.specs.Strips.{Agree, SameReply}
use Rattle.demands.specs.Boards.{Board, Left, reply_to, board_after, chip_of}

module _ (n : ℕ) where
  -- the input i on the board b of pages left x, and on the one of strips y, where m are the bytes written before it
  pub record StepBeside (i : Input) (m : Marks) (b : Board) (x y : Left) : Type 0 where
    pub reply : SameReply i (chip_of paged b) m (reply_to x) (reply_to y)
    pub output : y.output ≡ x.output
    pub after : Agree (written n i (chip_of paged b) m) (chip_of paged x.board) (chip_of strips y.board)

  -- each input, throughout
  abbrev pub StepsBeside : List Input → Marks → Board → List Left → List Left → Type 0
  StepsBeside [] m b [] [] = Unit {0}
  StepsBeside [] m b [] (y ∷ ys) = ⊥
  StepsBeside [] m b (x ∷ xs) ys = ⊥
  StepsBeside (i ∷ is) m b [] ys = ⊥
  StepsBeside (i ∷ is) m b (x ∷ xs) [] = ⊥
  StepsBeside (i ∷ is) m b (x ∷ xs) (y ∷ ys) = StepBeside i m b x y × StepsBeside is (written n i (chip_of paged b) m) x.board xs ys

  -- and at the end
  pub record BesideOn (inputs : List Input) (b : Board) (xs : List Left) (d : Board) (ys : List Left) : Type 0 where
    pub steps : StepsBeside inputs unwritten b xs ys
    pub end : Agree (written_by n inputs (powered paged n) unwritten) (chip_of paged (board_after b xs)) (chip_of strips (board_after d ys))
