-- What the public entries promise, by their own structs, is what the demands speak of: `Serves`, `Starts` and `Shows`, word for word.
use Rattle.std.specs.Prelude.{refl, Bool, List, [], ℕ}
use Rattle.rules.specs.Chip.{paged, strips}
use Rattle.rules.specs.Step.{Input}
use Rattle.state.specs.declared.Registers.{Registers}
use Rattle.state.specs.declared.Pages.{Pages}
use Rattle.state.specs.declared.Queues.{Queues}
use Rattle.state.specs.declared.Returned.{Returned}
use Rattle.state.specs.Entry.{AnswersBy, StartedBy, LinesBy, zeros}
use Rattle.demands.specs.Boards.{Board, Left, Serves, Starts, Shows}

-- What an entry is handed, and what it returns with memory and output.
abbrev pub handed : Registers → Pages → Queues → List ℕ → Board
handed r p q mem = record { words = r.words; pages = p.sets; queues = q.slots; memory = mem }

abbrev pub left : Returned → List ℕ → List ℕ → Left
left x mem out = record { answer = x.answer; board = handed x.registers x.pages x.queues mem; output = out }

-- The paged chip: `chip::access`, `frame`, `send` and `link`; `power_up` of the part with n packets; `line`
pub chip_serves : (i : Input) (r : Registers) (p : Pages) (q : Queues) (mem : List ℕ) (x : Returned) (mem' out' : List ℕ) → AnswersBy paged i r p q mem x mem' out' → Serves paged i (handed r p q mem) (left x mem' out')
chip_serves i r p q mem x mem' out' a = a

pub chip_starts : (n : ℕ) (x : Returned) → StartedBy paged n x → Starts paged n (left x (zeros paged n) [])
chip_starts n x s = record { returned = s; beside = refl }

pub chip_shows : (r : Registers) (p : Pages) (q : Queues) (mem : List ℕ) (up : Bool) → LinesBy paged r p q up → Shows paged (handed r p q mem) up
chip_shows r p q mem up s = s

-- The chip of strips: the same functions, at its layout.
pub strips_serve : (i : Input) (r : Registers) (p : Pages) (q : Queues) (mem : List ℕ) (x : Returned) (mem' out' : List ℕ) → AnswersBy strips i r p q mem x mem' out' → Serves strips i (handed r p q mem) (left x mem' out')
strips_serve i r p q mem x mem' out' a = a

pub strips_start : (n : ℕ) (x : Returned) → StartedBy strips n x → Starts strips n (left x (zeros strips n) [])
strips_start n x s = record { returned = s; beside = refl }

pub strips_show : (r : Registers) (p : Pages) (q : Queues) (mem : List ℕ) (up : Bool) → LinesBy strips r p q up → Shows strips (handed r p q mem) up
strips_show r p q mem up s = s
