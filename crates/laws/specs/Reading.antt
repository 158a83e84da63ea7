-- How a driver reads the free count, and what it means that the ledger balances, on a chip with n pages: document 01's 24, or "18 for 24" on the other part (document 02, W9). Definitions over the rules alone: demand 2 is stated with them.
use Rattle.std.specs.Prelude.{◌≡◌, List, [], ◌∷◌, ℕ, ◌+◌, ◌*◌}
use Rattle.rules.specs.Chip.{Layout, Chip, powered}
use Rattle.rules.specs.Answers.{Reply}
use Rattle.rules.specs.Registers.{byte, word, read, write}
use Rattle.rules.specs.Step.{Input, driver, step_of, run_of}
use Rattle.laws.specs.Ledger.{Ledger, blank, ledger_from}

-- A driver's two ways to read MIR, from whatever bank: bank 0 is selected by a byte at E, then MIR's high byte is read at 9, or its word at 8.
abbrev pub read_byte : List Input
read_byte = driver (write byte 14 0) ∷ driver (read byte 9) ∷ []

abbrev pub read_word : List Input
read_word = driver (write byte 14 0) ∷ driver (read word 8) ∷ []

-- what it is told: both are done, with the value v in the second
abbrev pub told : ℕ → Reply
told v = record { number = 0; value = v }

abbrev pub reads : ℕ → List Reply
reads v = told 0 ∷ told v ∷ []

-- by every one of these it reads that f of n pages are free
pub record ReadsFree (n : ℕ) (c : Chip) (f : ℕ) : Type 0 where
  pub as_byte : (run_of n read_byte c).replies ≡ reads f
  -- "low byte 18h, high byte free pages": 18h is document 01's n, and 12h that of the other part
  pub as_word : (run_of n read_word c).replies ≡ reads (n + 256 * f)
  -- and where bank 0 is selected already, without selecting it
  pub byte_there : c.regs.numbers.bank ≡ 0 → step_of n (driver (read byte 9)) c ≡ record { reply = told f; chip = c; output = [] }
  pub word_there : c.regs.numbers.bank ≡ 0 → step_of n (driver (read word 8)) c ≡ record { reply = told (n + 256 * f); chip = c; output = [] }

-- "the free count that the driver reads is 24 less the pages granted plus those given back", read with n for 24: on the chip c, by the ledger l
pub record Balances (n : ℕ) (c : Chip) (l : Ledger) : Type 0 where
  pub count : ℕ
  pub reads : ReadsFree n c count
  pub even : count + l.granted ≡ n + l.back

-- "counted over the steps since power-up": of every history, of either layout
abbrev pub BalancesAlways : ℕ → Layout → Type 0
BalancesAlways n l = (inputs : List Input) → Balances n (run_of n inputs (powered l n)).chip (ledger_from n inputs (powered l n) (blank n))
