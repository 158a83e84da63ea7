-- What a read has to have brought before its records are answered.
use Rattle.std.specs.Prelude.{ℕ, ◌+◌, ◌/◌, ◌≤◌, ◌<◌, Option, IfSome}

-- where bytes are there to be answered: more than were kept, or the record that was
abbrev pub FillsMore : ℕ → ℕ → Option ℕ → Type 0
FillsMore k n r = IfSome r (λ m. (k < m + m / 8) × (m ≤ n))
