-- A step on the record of page lists and the same step on the lent state have the same result, on either part: both stand for the same chip before it, both
-- promises give the turn of the rules on that chip, and records in order of the same chip convert into each other. No step changes the part.
-- This is of records in order. A damaged one may lose its damage on the way: the page list 5, 3 does not ascend, so its record gets refusal 16; its set
-- has the pages 3 and 5, and is good.
use Rattle.std.specs.Prelude.{◌≡◌, List, map, ℕ}
use Rattle.std.proofs.Common.{ap, sym, ◌∙◌}
use Rattle.rules.specs.Chip.{Chip, size}
use Rattle.rules.specs.Answers.{Turn}
use Rattle.rules.specs.Step.{Input, step}
use Rattle.wellformed.proofs.Parts.{step_of_part}
use Rattle.wellformed.proofs.Keeps.{keeps}
use Rattle.sets.specs.Views as sets
use Rattle.state.specs.declared.Returned.{Returned}
use Rattle.state.specs.View.{registers_in}
use Rattle.state.specs.Entry as lent
use Rattle.state.specs.Entry.{size_in}
use Rattle.state.specs.Places.{places_told}
use Rattle.state.specs.Only.{one_answer}
use Rattle.listed.specs.declared.Stepped.{Stepped}
use Rattle.listed.specs.Record.{used, registers_of, of_part}
use Rattle.listed.specs.Promise.{Answers}
use Rattle.listed.specs.Convert.{Listed, Lent, Converts, listed_chip, lent_chip, ListedInOrder, LentInOrder, LentTyped}

-- what a step on either form leaves: what it returned, and memory and output buffer then
pub record ListedLeft : Type 0 where
  pub stepped : Stepped
  pub memory : List ℕ
  pub output : List ℕ

pub record LentLeft : Type 0 where
  pub returned : Returned
  pub memory : List ℕ
  pub output : List ℕ

-- the record in it
abbrev pub listed_in : ListedLeft → Listed
listed_in x = record { registers = x.stepped.registers; pages = x.stepped.pages }

abbrev pub lent_in : LentLeft → Lent
lent_in y = record { registers = y.returned.registers; pages = y.returned.pages; queues = y.returned.queues }

-- the promise of a public entry for the input i, on a record and its memory
abbrev pub ListedStep : Input → Listed → List ℕ → ListedLeft → Type 0
ListedStep i x mem x' = Answers i x.registers x.pages mem x'.stepped x'.memory x'.output

abbrev pub LentStep : Input → Lent → List ℕ → LentLeft → Type 0
LentStep i y mem y' = lent.Answers i y.registers y.pages y.queues mem y'.returned y'.memory y'.output

-- the same is left, of the part with n packets: answer, registers and page lists as the rules have them, memory and output; and the records are in order and convert into each other
pub record SameLeft (n : ℕ) (x : ListedLeft) (y : LentLeft) : Type 0 where
  pub packets : x.stepped.registers.packets ≡ n
  pub named : size_in y.returned.registers.words ≡ n
  pub answer : x.stepped.answer ≡ y.returned.answer
  pub registers : registers_of x.stepped.registers ≡ registers_in y.returned.registers.words
  pub pages : map used (of_part x.stepped.registers x.stepped.pages) ≡ map sets.pages_of (lent.of_part y.returned.registers.words y.returned.pages.sets)
  pub memory : x.memory ≡ y.memory
  pub output : x.output ≡ y.output
  pub converts : Converts (listed_in x) (lent_in y)
  pub listed : ListedInOrder (listed_in x) x.memory
  pub lent : LentInOrder (lent_in y) y.memory
