-- Demand 2 at a chip of n packets: what the modules before it prove, and that a driver reads the free count. "each part only cites them" (document 02, W9): the LAN91C96 at its 24, the LAN91C94 at its 18.
use Rattle.std.specs.Prelude.{◌≡◌, refl, ◌⊎◌, ℕ, ◌+◌, ◌*◌, ◌≤◌, ◌<◌, ◌/◌, ◌%◌}
use Rattle.std.proofs.Math.Path.{ap, ap₂, subst}
use Rattle.std.proofs.Common.{sym, ◌∙◌, arith}
use mathlib.Core.List.{List, [], ◌∷◌, ◌++◌}
use Rattle.std.proofs.Math.ListN.{length}
use Rattle.rules.specs.Bits.{bit, high_byte, word_of}
use Rattle.rules.specs.Chip.{Layout, paged, Chip, size, free, powered}
use Rattle.rules.specs.Fields.{set_bank, in_registers}
use Rattle.rules.specs.Answers.{done_with, did, leaving}
use Rattle.rules.specs.Registers.{byte, word, read, write, register_at, misplaced, lanes_at, taken, low_only, read_register, write_register, access}
use Rattle.rules.specs.Step.{Input, driver, serve, step_of, run_of}
use Rattle.wellformed.specs.Fit.{Fits}
use Rattle.wellformed.proofs.Fit.{step_fit}
use Rattle.wellformed.specs.Layouts.{free_total}
use Rattle.wellformed.specs.Pool.{good_lists}
use Rattle.wellformed.specs.Keeps.{powered_fits}
use Rattle.wellformed.proofs.Keeps.{keeps}
use Rattle.laws.specs.Accounted.{IsFree, InOne, accounted_after}
use Rattle.laws.specs.Ledger.{Ledger, Resets, ledger_from}
use Rattle.laws.specs.Reading.{ReadsFree, Balances, BalancesAlways}
use Rattle.laws.specs.Balance.{run_fits, run_joined, ledger_joined}

-- well formed, with 256 bytes for each of its n pages (of strips 2,048 for each of its n packets): what refusal 16 asks of a chip of n packets
abbrev pub Whole : ℕ → Chip → Type 0
Whole n c = Fits n c
