-- A run of loads, and that it is one after a frame too.
use Rattle.std.specs.Prelude.{◌≡◌, true, List, [], ◌∷◌, ℕ}
use Rattle.std.proofs.Common.{ap, sym, ◌∙◌}
use Rattle.rules.specs.Lists.{some?}
use Rattle.rules.specs.Chip.{Chip, allocated}
use Rattle.rules.specs.Registers.{Access, access}
use Rattle.rules.specs.Receive.{Frame, arrive}
use Rattle.wellformed.specs.Pool.{good_lists}
use Rattle.wellformed.specs.Fit.{Fits}
use Rattle.wellformed.proofs.Keeps.{keeps_access}
use Rattle.laws.specs.Reception.{reception, receive, kept, frame_is, frame_writes}
use Rattle.laws.specs.Loading.{Load, to_bank, to_packet, to_pointer, to_data}

-- Demand 3: "a run of bank selections and accesses to packet number, pointer and data (receive bit clear throughout, each data access on a packet allocated before the run)":
-- from the chip before the run, and the chip that it has come to
abbrev pub Loads : Chip → Chip → List Access → Type 0
Loads start now [] = Unit {0}
Loads start now (a ∷ rest) = Load start now a × Loads start (access a now).chip rest
