-- A step on the record of page lists and the same step on the lent state have the same result, on either part: both stand for the same chip before it, both
-- promises give the turn of the rules on that chip, and records in order of the same chip convert into each other. No step changes the part.
-- This is of records in order. A damaged one may lose its damage on the way: the page list 5, 3 does not ascend, so its record gets refusal 16; its set
-- has the pages 3 and 5, and is good.
use Rattle.std.specs.Prelude.{◌≡◌, List, map, ℕ}
use Rattle.std.proofs.Common.{ap, sym, ◌∙◌}
use Rattle.rules.specs.Chip.{Chip, size}
use Rattle.rules.specs.Answers.{Turn}
use Rattle.rules.specs.Step.{Input, step}
use Rattle.wellformed.proofs.Parts.{step_of_part}
use Rattle.wellformed.proofs.Keeps.{keeps}
use Rattle.sets.specs.Views as sets
use Rattle.state.specs.declared.Returned.{Returned}
use Rattle.state.specs.View.{registers_in}
use Rattle.state.specs.Entry as lent
use Rattle.state.specs.Entry.{size_in}
use Rattle.state.specs.Places.{places_told}
use Rattle.state.specs.Only.{one_answer}
use Rattle.listed.specs.declared.Stepped.{Stepped}
use Rattle.listed.specs.Record.{used, registers_of, of_part}
use Rattle.listed.specs.Promise.{Answers}
use Rattle.listed.specs.Convert.{Listed, Lent, Converts, listed_chip, lent_chip, ListedInOrder, LentInOrder, LentTyped}
use Rattle.listed.proofs.Convert.{same_chip, converts_chip}
use Rattle.listed.specs.Same.{ListedLeft, LentLeft, listed_in, lent_in, ListedStep, LentStep, SameLeft}

-- it is enough that answers and outputs are equal, and that the records are in order and stand for the same chip
pub same_left : {n : ℕ} (x : ListedLeft) (y : LentLeft) → x.stepped.registers.packets ≡ n → x.stepped.answer ≡ y.returned.answer → x.output ≡ y.output
    → ListedInOrder (listed_in x) x.memory → LentInOrder (lent_in y) y.memory → LentTyped (lent_in y)
    → listed_chip (listed_in x) x.memory ≡ lent_chip (lent_in y) y.memory → SameLeft n x y
same_left x y k a e o p t chip = record {
  packets = k;
  named = sym (places_told p.holds) ∙ sym p.holds.ready.well.count ∙ ap size (sym chip) ∙ o.ready.well.count ∙ k;
  answer = a;
  registers = ap (λ (d : Chip). d.regs) chip;
  pages = ap (λ (d : Chip). d.pool.pages) chip;
  memory = ap (λ (d : Chip). d.memory) chip;
  output = e;
  converts = same_chip (listed_in x) (lent_in y) x.memory y.memory o p t chip;
  listed = o;
  lent = p;
}

-- no step changes the part
part_kept : (i : Input) (x : Listed) (mem : List ℕ) → ListedInOrder x mem → size (step i (listed_chip x mem)).chip ≡ x.registers.packets
part_kept i x mem o =
    let c = listed_chip x mem in
    ap (λ (t : Turn). size t.chip) (step_of_part i c o.ready.part o.ready.well.count) ∙ (keeps x.registers.packets c (o.ready.well, o.full) i).0.count

pub same_step : (i : Input) (x : Listed) (y : Lent) (mem : List ℕ) → ListedInOrder x mem → LentInOrder y mem → Converts x y
    → (x' : ListedLeft) (y' : LentLeft) → ListedStep i x mem x' → LentStep i y mem y' → LentTyped (lent_in y') → SameLeft x.registers.packets x' y'
same_step i x y mem o p c x' y' a b t =
    let u = a.done o in
    let v = b.done p in
    let e : step i (listed_chip x mem) ≡ step i (lent_chip y mem) = ap (λ (d : Chip). step i d) (converts_chip x y mem p c) in
    same_left x' y' (sym u.ready.ready.well.count ∙ ap size u.chip ∙ part_kept i x mem o)
    (one_answer x'.stepped.answer y'.returned.answer (u.reply ∙ ap (λ (z : Turn). z.reply) e ∙ sym v.reply))
    (u.output ∙ ap (λ (z : Turn). z.output) e ∙ sym v.output)
    u.ready v.whole t
    (u.chip ∙ ap (λ (z : Turn). z.chip) e ∙ sym v.chip)
