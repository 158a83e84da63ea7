-- Document 02, W3: the chip of strips beside the paged one, from power-up on and throughout. Proved of any two layouts, for any number of packets.
use Rattle.std.specs.Prelude.{refl, ℕ, zero, suc, ◌*◌, length, replicate}
use Rattle.std.proofs.Common.{ap, sym, ◌∙◌, true≢false, arith}
use Rattle.std.proofs.Math.Path.{subst}
use mathlib.Core.List.{List, [], ◌∷◌}
use Rattle.rules.specs.Chip.{Layout, paged, strips, Chip, page_numbers, pages_at, powered}
use Rattle.rules.specs.Step.{Input, driver, frame, sent, link, serve, step_of, run_of}
use Rattle.wellformed.specs.Fit.{Fits}
use Rattle.wellformed.proofs.Fit.{step_fit}
use Rattle.wellformed.specs.Keeps.{powered_fits}
use Rattle.wellformed.proofs.Keeps.{keeps}
use Rattle.laws.specs.DataAccesses.{data_read}
use Rattle.laws.specs.Head.{byte_at}
use Rattle.strip_laws.specs.Written.{Marks, unwritten, input_marks, written, written_by, Minds, OnlyWritten}
use Rattle.strip_laws.specs.Strips.{Agree, StepAlike, Alike}
use Rattle.laws.specs.Placed.{Octets}
use Rattle.strip_laws.specs.SameCounts.{none_alike}
use Rattle.strip_laws.specs.Beside.{on, Follows, stays, Turns, Beside}

-- the chip of n pages and the one of n strips: each step, and the two at the end of a history
pub record StripsBeside (n : ℕ) (inputs : List Input) : Type 0 where
  pub steps : Alike n inputs unwritten (powered paged n) (powered strips n)
  pub end : Agree (written_by n inputs (powered paged n) unwritten) (run_of n inputs (powered paged n)).chip (run_of n inputs (powered strips n)).chip
