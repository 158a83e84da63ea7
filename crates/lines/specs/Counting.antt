-- A record number, and its digits beside it.
use Rattle.std.specs.Prelude.{◌≡◌, cond, ℕ, ◌-◌, ◌%◌, ◌^◌, ltb}
use Rattle.std.proofs.Common.{ap, sym, ◌∙◌}
use Rattle.std.proofs.Math.ListN as list
use Rattle.rules.specs.Bench.{decimal}
use Rattle.lines.specs.Word.{packed}
use Rattle.lines.specs.declared.count.Counter.{Counter}

-- what is known of a number's digits is kept below a hundred million; at and above that there is 0
unfoldable pub if_short : ℕ → ℕ → ℕ
if_short number x = cond (ltb number 100000000) x 0

-- the counter of a number: its digits are in the text, and the last of them is known, and what it stands for there
abbrev pub counter_of : ℕ → Counter
counter_of number = record {
  number = number;
  text = if_short number (packed (decimal number));
  unit = if_short number (256 ^ (list.length (decimal number) - 1));
  last = if_short number (number % 10);
  length = if_short number (list.length (decimal number));
}

-- so a counter is known from its number
abbrev pub Counts : Counter → Type 0
Counts c = c ≡ counter_of c.number

-- The counter of a number has that number, and is its own number's.
pub counter_number : {c : Counter} {n : ℕ} → c ≡ counter_of n → c.number ≡ n
counter_number e = ap (λ (x : Counter). x.number) e

pub counter_counts : {c : Counter} {n : ℕ} → c ≡ counter_of n → Counts c
counter_counts e = e ∙ ap counter_of (sym (counter_number e))
