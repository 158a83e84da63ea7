-- A run of steps of the bench has one result, but for bytes that nobody reads: those of the wire buffer behind the gathered ones, and of the lines' buffer behind the lines.
use Rattle.std.specs.Prelude.{◌≡◌, Bool, ℕ, ◌≤◌, length, take}
use Rattle.std.proofs.Math.Path.{refl, sym}
use Rattle.std.proofs.Common.{◌∙◌}
use mathlib.Core.List.{List, []}
use Rattle.rules.specs.Bench as rules
use Rattle.rules.specs.Bench.{unknown}
use Rattle.rules.specs.Watch.{is_send}
use Rattle.state.specs.Meaning.{Answer}
use Rattle.state.specs.View.{figures}
use Rattle.state.specs.Promise.{QueuesIn}
use Rattle.turns.specs.Once.{same_place, Same, bench_once}
use Rattle.batches.specs.Batch.{Answered}
use Rattle.batches.specs.Alone.{LoneLine, LastLine}

-- The records of a read: the bench after them, the lines, where they end, and the next number. (That they end within their buffer is promised beside it.)
pub answered_once : {w s q mem wire : List ℕ} {have : ℕ} {out w' s' q' mem' wire' : List ℕ} {have' : ℕ} {out' : List ℕ}
    {form : rules.Form} {n k : ℕ} {input : List ℕ} {b : rules.Bench} {lines lines' : List ℕ} {end end' number number' : ℕ} → end ≤ length lines → end' ≤ length lines'
    → Answered form n k input b w s q mem wire have out lines end number → Answered form n k input b w' s' q' mem' wire' have' out' lines' end' number'
    → Same w s q mem wire have out w' s' q' mem' wire' have' out' × (take end lines ≡ take end' lines') × (end ≡ end') × (number ≡ number')
answered_once {lines = lines} {lines' = lines'} h i p r =
    let t = p.text ∙ sym r.text in
    (bench_once p.held r.held (p.bench ∙ sym r.bench), t, same_place lines lines' h i t, p.counted ∙ sym r.counted)

-- A line by itself: its bytes, and where they end.
module _ (watching : Bool) (number : ℕ) (words out lines lines' : List ℕ) {end end' : ℕ} (h : end ≤ length lines) (i : end' ≤ length lines') (q : List ℕ) (in-queues : QueuesIn (figures words) q) where
  pub lone_once : (a : Answer) → LoneLine watching number a words out lines end → LoneLine watching number a words out lines' end' → (take end lines ≡ take end' lines') × (end ≡ end')
  unfolding is_send
  lone_once a p r = let t = p unknown [] q [] [] refl in-queues ∙ sym (r unknown [] q [] [] refl in-queues) in (t, same_place lines lines' h i t)

  pub last_once : (kept : ℕ) → LastLine watching kept number words out lines end → LastLine watching kept number words out lines' end' → (take end lines ≡ take end' lines') × (end ≡ end')
  last_once kept p r = let t = p [] q [] [] in-queues ∙ sym (r [] q [] [] in-queues) in (t, same_place lines lines' h i t)
