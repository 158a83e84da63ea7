-- The line of a record that is cut short.
use Rattle.std.proofs.Common.{◌≡◌, refl, false, ℕ, zero, suc}
use Rattle.rules.specs.Bench.{unknown, Bench, Form, answer}
use Rattle.rules.specs.Watch.{is_send}
use Rattle.batches.specs.Printed.{last_line}

-- Where bytes are left over the last line is that of a record of unknown kind, which no send is.
pub last_some : (form : Form) (t k : ℕ) (b : Bench) → (t ≡ 0 → ⊥) → last_line form t k b ≡ form k unknown (answer unknown b)
last_some form zero k b h = absurd (h refl)
last_some form (suc t) k b h = refl

pub unknown_unsent : false ≡ is_send unknown
unfolding is_send
unknown_unsent = refl
