-- Interrupt status by its bits: the latches stand at theirs, and a queue has an entry where its count is not 0.
use mathlib.Core.Path.{◌≡◌, ap, sym, ◌∙◌}
use mathlib.Core.Bool.{Bool, not, ◌&&◌, ◌||◌}
use mathlib.Core.List.{List}
use Prim.Native.Nat.{ℕ, ◌+◌, ◌*◌}
use native.Mathlib.Omega.{arith}
use lib.Dec.{eqb}
use Rattle.rules.specs.Bits.{bit, flag}
use Rattle.rules.specs.Chip.{Layout}
use Rattle.rules.specs.Interrupts.{failed, eph, status}
use Rattle.sets.specs.Bits.{bit_shr}
use Rattle.state.specs.View.{word, figures, queue_in, view_of, Kept}
use Rattle.state.specs.Promise.{QueuesIn}
use Rattle.interrupts.proofs.Queues.{some_count}

pub shows : (w : List ℕ) → Kept w → (r : ℕ) (granted full : Bool) → granted ≡ bit 15 (word w 17)
    → full ≡ (bit 12 (word w 1) && bit 6 (word w 14)) || (failed (word w 1) && bit 5 (word w 14)) || (bit 1 (word w 15) && bit 7 (word w 14))
    → r ≡ flag (not (eqb (word w 6) 0)) + 2 * flag (not (eqb (word w 9) 0)) + word w 13 + 8 * flag (not granted) + 32 * flag full
    → (l : Layout) (s q mem : List ℕ) → QueuesIn (figures w) q → r ≡ status (view_of l w s q mem)
unfolding status eph
shows w k r granted full g f sum l s q mem h =
    let rx = ap flag (some_count (queue_in 0 (word w 6) q) (word w 6) h.rx.many) in
    let done = ap flag (some_count (queue_in 2 (word w 9) q) (word w 9) h.completion.many) in
    let latched = k.fixed.latched in
    let result = ap (λ (b : Bool). flag (not b)) (g ∙ sym (bit_shr 8 7 (word w 17))) in
    let last = ap flag f in
    omega arith
