use Rattle.std.proofs.Common.{ap, ◌∙◌}
use Rattle.std.specs.Prelude.{List, ℕ, get_or}
use Rattle.pool.proofs.Changes.{part}
use Rattle.pool.proofs.head.Goals as goal

pub returns : goal.returns
returns g c = c.head.ensures ∙ ap (λ (p : List ℕ). get_or p 0 0) (part g.Q.Fifo.laws c.args.queues.now _ c.FROM-from.ensures)
