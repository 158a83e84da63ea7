-- What a lent part of bytes stands for as a queue.
use Rattle.std.specs.Prelude.{◌≡◌, List, ◌++◌, ℕ, ◌-◌, ◌≤◌, length, replicate}

-- the slots hold the entries, and 0 in each place that is left; `count` is how many
pub record Slots (slots : List ℕ) (count : ℕ) (l : List ℕ) : Type 0 where
  pub many : count ≡ length l
  pub fits : count ≤ length slots
  pub same : slots ≡ l ++ replicate (length slots - count) 0
