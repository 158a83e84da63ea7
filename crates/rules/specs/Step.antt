-- One type of inputs, one step, and inputs one after another.
use Rattle.std.specs.Prelude.{cond, not, List, [], ◌∷◌, ℕ}
use Rattle.rules.specs.Parts.{part_of}
use Rattle.rules.specs.Chip.{Chip, size}
use Rattle.rules.specs.Answers.{Reply, Turn, refused, leaving}
use Rattle.rules.specs.Tests.{fit}
use Rattle.rules.specs.Registers.{Access, access}
use Rattle.rules.specs.Receive.{Frame, arrive}
use Rattle.rules.specs.Send.{Send, finish}
use Rattle.rules.specs.Link.{plug}

pub data Input : Type 0 where
  driver : Access → Input
  frame : Frame → Input
  -- a send, and the output buffer that is lent for it
  sent : Send → List ℕ → Input
  -- the link is set: its byte, 0 down, 1 up (document 02, W8)
  link : ℕ → Input

-- the output buffer that an input lends: only a send lends one
abbrev pub lent : Input → List ℕ
lent (driver a) = []
lent (frame f) = []
lent (sent s out) = out
lent (link x) = []

-- on a chip that is well formed and has its memory
unfoldable pub serve : Input → Chip → Turn
serve (driver a) c = leaving [] (access a c)
serve (frame f) c = leaving [] (arrive f c)
serve (sent s out) c = finish s c out
serve (link x) c = leaving [] (plug x c)

-- on any chip, of the part with n packets: refusal 16 is first, whatever the input
unfoldable pub step_of : ℕ → Input → Chip → Turn
step_of n i c = cond (not (fit n c)) (refused 16 c (lent i)) (serve i c)

-- of either part, the one whose number of packets the chip has: "16 goes by the part's size" (W9)
abbrev pub step : Input → Chip → Turn
step i c = step_of (part_of (size c)) i c

-- inputs one after another: their replies, the output buffer of each after it, and the last chip
pub record Ran : Type 0 where
  pub replies : List Reply
  pub outputs : List (List ℕ)
  pub chip : Chip

abbrev pub behind : Turn → Ran → Ran
behind t x = record { replies = t.reply ∷ x.replies; outputs = t.output ∷ x.outputs; chip = x.chip }

unfoldable pub run_of : ℕ → List Input → Chip → Ran
run_of n [] c = record { replies = []; outputs = []; chip = c }
run_of n (i ∷ is) c = let t = step_of n i c in behind t (run_of n is t.chip)
