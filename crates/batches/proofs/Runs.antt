-- Records answered one after another.
use mathlib.Core.Path.{◌≡◌, refl, ap, ap₂, sym, ◌∙◌}
use mathlib.Core.Bool.{Bool}
use mathlib.Core.List.{List, ◌++◌}
use Prim.Native.Nat.{ℕ, suc, ◌+◌, ◌*◌, ◌/◌, ◌≤◌, ◌<◌}
use native.Mathlib.Omega.{arith}
use lib.ListN.{length, take, drop, length-drop}
use Rattle.std.proofs.Common.{drop-drop}
use Rattle.std.proofs.Math.Seq.{take-append_seam, drop-append_seam}
use Rattle.std.proofs.lemmas.List.{length-append}
use Rattle.rules.specs.Chip.{Layout, paged}
use Rattle.rules.specs.Interrupts.{line_up}
use Rattle.rules.specs.Bench.{Bench, Answered, Form, answer, event_of}
use Rattle.rules.specs.Watch.{is_send}
use Rattle.state.specs.Meaning.{Answer}
use Rattle.state.specs.Meaning.{reply_of}
use Rattle.state.specs.View.{view, view_of, figures}
use Rattle.state.specs.Promise.{QueuesIn}
use Rattle.records.specs.Gathers.{holding}
use Rattle.lines.specs.Parts.{taken}
use Rattle.turns.specs.Turns.{Held, Turns}
use Rattle.batches.specs.Batch as batch
use Rattle.batches.specs.Batch.{form_of, Prints, record_at, bench_after, lines_for}

-- Eight bytes off the front of what follows the first k records are the next record, and what follows them follows it.
module _ (k : ℕ) (input bytes rest' : List ℕ) {rest : List ℕ} (r : rest ≡ drop (8 * k) input) (s : rest ≡ bytes ++ rest') (l : length bytes ≡ 8) where
  pub front_record : bytes ≡ record_at k input
  front_record = sym (take-append_seam bytes rest') ∙ ap₂ (λ (n : ℕ) (xs : List ℕ). take n xs) l (sym s ∙ r)

  pub behind_record : {n : ℕ} → n ≡ suc k → rest' ≡ drop (8 * n) input
  behind_record {n} h =
      let e : 8 * k + 8 ≡ 8 * n = omega (arith, h) in
      sym (drop-append_seam bytes rest') ∙ ap₂ (λ (m : ℕ) (xs : List ℕ). drop m xs) l (sym s ∙ r) ∙ drop-drop 8 (8 * k) input ∙ ap (λ (i : ℕ). drop i input) e

  pub record_within : k < length input / 8
  record_within = omega (arith, length-drop (8 * k) input, ap length r, ap length s, length-append bytes rest', l)

-- Where fewer are left there is no other record.
pub records_end : (k : ℕ) (input : List ℕ) {rest : List ℕ} → rest ≡ drop (8 * k) input → length rest < 8 → k ≤ length input / 8 → length input / 8 ≡ k
records_end k input r h w = omega (arith, length-drop (8 * k) input, ap length r, h, w)

-- No record is answered yet.
pub none_yet : {form : Form} {k number : ℕ} (input w s q mem wire : List ℕ) (have : ℕ) (out lines : List ℕ) → number ≡ k → Held w s q mem wire have
    → batch.Answered form 0 k input (holding (view w s q mem) (take have wire) out) w s q mem wire have out lines 0 number
unfolding bench_after lines_for
none_yet input w s q mem wire have out lines e h = record { held = h; bench = refl; text = refl; counted = omega (arith, e) }

-- what a turn leaves is the answer, and so another that is equal to it
told_answer : {x y : Answered} {a : Answer} {w s q mem wire : List ℕ} {have : ℕ} {out : List ℕ} → Turns x a w s q mem wire have out → x ≡ y
    → record { reply = reply_of a; after = holding (view w s q mem) (take have wire) out } ≡ y
told_answer t e = (λ i. record { reply = t.reply i; after = t.bench i }) ∙ e

-- One record more.
pub one_more : (watching : Bool) (n n' k : ℕ) (input : List ℕ) (b : Bench) (bytes : List ℕ) {w s q mem wire : List ℕ} {have : ℕ} {out lines : List ℕ} {end number : ℕ}
    {x : Answer} {sent up : Bool} {w' s' q' mem' wire' : List ℕ} {have' : ℕ} {out' lines' : List ℕ} {end' number' : ℕ}
    → n' ≡ suc n → bytes ≡ record_at n input → end ≤ length lines
    → batch.Answered (form_of watching) n k input b w s q mem wire have out lines end number
    → Turns (answer (event_of bytes) (holding (view w s q mem) (take have wire) out)) x w' s' q' mem' wire' have' out'
    → Prints watching number x sent up out' lines end lines' end' → ((l : Layout) (s q mem : List ℕ) → QueuesIn (figures w') q → up ≡ line_up (view_of l w' s q mem)) → sent ≡ is_send (event_of bytes) → number' ≡ number + 1
    → batch.Answered (form_of watching) n' k input b w' s' q' mem' wire' have' out' lines' end' number'
unfolding bench_after lines_for
one_more watching n n' k input b bytes {w} {s} {q} {mem} {wire} {have} {out} {w' = w'} {s' = s'} {q' = q'} {mem' = mem'} {wire' = wire'} {have' = have'} i e₀ h a t p u g j =
    let z = p (view w' s' q' mem') (take have' wire') (event_of bytes) (u paged s' q' mem' t.held.chip.ready.sound.queues) g in
    let e : answer (event_of bytes) (holding (view w s q mem) (take have wire) out) ≡ answer (event_of (record_at n input)) (bench_after n input b) =
    ap₂ (λ (l : List ℕ) (d : Bench). answer (event_of l) d) e₀ a.bench in
    rw i (record {
      held = t.held;
      bench = t.bench ∙ ap (λ (y : Answered). y.after) e;
      text = taken h z ∙ ap₂ (λ (x y : List ℕ). x ++ y) a.text (λ m. form_of watching (a.counted m) (event_of (e₀ m)) (told_answer t e m));
      counted = omega (arith, a.counted, j);
    })
