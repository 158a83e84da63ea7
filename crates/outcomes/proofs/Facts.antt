-- What the proofs of this crate need of the latches, and of registers and TX after a send.
use mathlib.Core.Path.{◌≡◌, refl, ap, ◌∙◌}
use mathlib.Core.Bool.{Bool, true, false, cond, not, ◌||◌}
use mathlib.Core.List.{List, [], ◌∷◌}
use Prim.Native.Nat.{ℕ, ◌+◌, ◌*◌, ◌^◌, ◌<◌}
use native.Mathlib.Omega.{arith}
use borrow.Author.Tests.{ne_eqb}
use lib.Dec.{eqb}
use lib.ListN.{length, set, drop}
use Rattle.rules.specs.Bits.{bit, set_bit, clear_bit, flag}
use Rattle.rules.specs.Lists.{some?}
use Rattle.rules.specs.Fields.{set_tx, in_registers, in_pool}
use Rattle.rules.specs.Send.{Send, outcome_bits, nibbles, any_at15, tally, new_ecr}
use Rattle.bits.specs.Laws.{bit_set, bit_set_other}
use Rattle.state.specs.View.{word, figures, queue_in, view_of, Latches, Kept}
use Rattle.state.specs.Promise.{QueuesIn, Sets, sets_both, sets_as, sets_chip}
use Rattle.state.specs.Stores.{store_tcr, store_ephsr, store_ecr, store_latches}
use Rattle.pool.specs.Queues.{Rejoins, rejoins_chip}
use Rattle.outcomes.specs.Sent.{sent_by, Sent}

four_set : (x : ℕ) (b c : Bool) → x ≡ 4 * flag b + 16 * flag c → set_bit 2 x ≡ 4 + 16 * flag c
unfolding set_bit clear_bit flag
four_set x true true h = rw h refl
four_set x true false h = rw h refl
four_set x false true h = rw h refl
four_set x false false h = rw h refl

-- TX EMPTY is set, and the word has still no bit but the two.
pub latch_set : (x : ℕ) → Latches x → Latches (set_bit 2 x)
unfolding flag
latch_set x e = rw (bit_set 2 x, bit_set_other 2 x 4 (λ n. absurd (omega arith))) (four_set x (bit 2 x) (bit 4 x) e)

-- The four stores are the registers' changes; x are the nibbles of ECR.
module _ (is_good : Bool) (s : Send) (bits : ℕ) (emptied : Bool) (w : List ℕ) (k : Kept w) {t e n l : ℕ} {full : Bool} {x : List ℕ} where
  pub registers_set : x ≡ tally is_good s (word w 3) → full ≡ any_at15 x → t ≡ cond is_good (word w 0) (clear_bit 0 (word w 0))
      → e ≡ outcome_bits is_good s + bits + 2 ^ 12 * flag (bit 12 (word w 1) || full) → n ≡ nibbles x
      → Latches l → bit 2 l ≡ bit 2 (word w 13) || emptied → bit 4 l ≡ bit 4 (word w 13)
      → Sets (sent_by is_good s bits emptied) w (set (set (set (set w 0 t) 1 e) 3 n) 13 l)
  unfolding new_ecr
  registers_set counts at15 tcr ephsr ecr latched empty overrun =
      let a = store_tcr t w k in
      let b = store_ephsr e _ a.kept in
      let c = store_ecr n _ b.kept in
      let d = store_latches l latched _ c.kept in
      sets_as (sets_both (sets_both (sets_both a b) c) d) (rw (tcr, ephsr, at15, ecr, counts, empty, overrun) refl)

-- A queue with one entry is empty without it.
last_one : (l : List ℕ) → 0 < length l → eqb (length l) 1 ≡ not (some? (drop 1 l))
unfolding some?
last_one [] h = absurd (omega arith)
last_one (x ∷ []) h = refl
last_one (x ∷ y ∷ ys) h = ne_eqb (length (x ∷ y ∷ ys)) 1 (λ e. omega (arith, e))

-- The registers are set, and then the head leaves TX.
module _ (is_good : Bool) (s : Send) (bits : ℕ) {w q w₁ w' q' : List ℕ} where
  pub leaves : QueuesIn (figures w) q → 0 < word w 8 → Sets (sent_by is_good s bits (eqb (word w 8) 1)) w w₁
      → Rejoins (λ p. set_tx (drop 1 p.tx) p) w₁ q w' q' → Sent is_good s bits w q w' q'
  leaves o h a b =
      let n = o.tx.many in
      record {
        chip = λ l sets mem. rejoins_chip b l sets mem ∙ ap (in_pool (λ p. set_tx (drop 1 p.tx) p)) (sets_chip a l sets q mem)
            ∙ ap (λ (e : Bool). let c = view_of l w sets q mem in in_pool (set_tx (drop 1 c.pool.tx)) (in_registers (sent_by is_good s bits e) c))
            (ap (λ (k : ℕ). eqb k 1) n ∙ last_one (queue_in 1 (word w 8) q) (omega (arith, n)));
        free = b.free ∙ ap (λ (c : List ℕ). word c 3) a.still;
        kept = b.kept;
        queues = b.queues;
      }
