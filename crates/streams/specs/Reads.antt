-- What a read promises of the buffer: where it gave bytes, how far they go.
use Rattle.std.specs.Prelude.{ℕ, ◌≤◌, ◌<◌, Option, Result, IfSome, IfOk}

-- bytes stand behind the first k, and within the n of the buffer
abbrev pub Fills : {E : Type 0} → ℕ → ℕ → Result (Option ℕ) E → Type 0
Fills k n r = IfOk r (λ filled. IfSome filled (λ m. (k < m) × (m ≤ n)))
