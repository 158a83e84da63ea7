-- Payload blindness (document 02, W10), of the code: two runs of a chip's public entries from power-up, on inputs alike. Registers, page sets or counts and queues are the same words and bytes after every call.
use Rattle.std.specs.Prelude.{◌≡◌, Bool, List, [], ◌∷◌, length}
use Rattle.rules.specs.Chip.{Layout}
use Rattle.rules.specs.Step.{Input}
use Rattle.blind_laws.specs.Alike.{TurnsAlike}
use Rattle.demands.specs.Boards.{Board, Left, chip_of, Shows}
use Rattle.demands.specs.LinkOfCode.{turn_of}

module _ (l : Layout) where
  -- two boards that are the same but for the bytes of memory, and on which `line` answers the same
  pub record BoardsAlike (b d : Board) : Type 0 where
    pub words : d.words ≡ b.words
    pub pages : d.pages ≡ b.pages
    pub queues : d.queues ≡ b.queues
    pub as_long : length d.memory ≡ length b.memory
    pub line : (up other : Bool) → Shows l b up → Shows l d other → other ≡ up

  -- what the input i on the board b left, and the input in its place
  pub record LeftAlike (i : Input) (b : Board) (x y : Left) : Type 0 where
    -- the replies, what was put out and the chips
    pub turns : TurnsAlike i (chip_of l b) (turn_of l x) (turn_of l y)
    pub boards : BoardsAlike x.board y.board

  -- each input, throughout
  abbrev pub AllLeftAlike : List Input → Board → List Left → List Left → Type 0
  AllLeftAlike [] b xs ys = Unit {0}
  AllLeftAlike (i ∷ is) b [] ys = ⊥
  AllLeftAlike (i ∷ is) b (x ∷ xs) [] = ⊥
  AllLeftAlike (i ∷ is) b (x ∷ xs) (y ∷ ys) = LeftAlike i b x y × AllLeftAlike is x.board xs ys
