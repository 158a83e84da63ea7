-- The packet's pages are given back, or only completion changes.
use borrow.Author.Rules.{rules}
use Rattle.outcomes.specs.Retired.{gives_back}
use Rattle.outcomes.proofs.completion.retire.Goals as goal

-- Part by part, and by no path into the code: a release that leaves MIR is refused at `free` itself.
pub returns-then-released : goal.returns-then-released
returns-then-released g c =
    gives_back (search rules) (search rules) (record { chip = search rules; still = search rules; kept = search rules; sets = record { part = search rules; free = search rules; small = search rules } })
