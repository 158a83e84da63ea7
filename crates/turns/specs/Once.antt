-- One step of the bench has one result, but for bytes that nobody reads: those of the wire buffer behind the gathered ones.
use Rattle.std.specs.Prelude.{◌≡◌, List, [], ℕ, ◌≤◌, length, take}
use Rattle.std.proofs.Common.{ap, sym, ◌∙◌, arith, length-take-le}
use Rattle.rules.specs.Chip.{Layout, paged, powered}
use Rattle.rules.specs.Bench as rules
use Rattle.state.specs.Meaning.{Answer}
use Rattle.state.specs.View.{view_of}
use Rattle.state.specs.Only.{one_answer}
use Rattle.state.proofs.Only.{one_state}
use Rattle.records.specs.Gathers.{holding}
use Rattle.turns.specs.Turns.{HeldOf, TurnsOf, Gathered}

-- Parts of a buffer that are equal are equally long.
pub same_place : (l m : List ℕ) {i j : ℕ} → i ≤ length l → j ≤ length m → take i l ≡ take j m → i ≡ j
same_place l m {i} {j} h k e = sym (length-take-le i l h) ∙ ap length e ∙ length-take-le j m k

-- State, memory, gathered bytes and output are the same.
pub record Same (w s q mem wire : List ℕ) (have : ℕ) (out w' s' q' mem' wire' : List ℕ) (have' : ℕ) (out' : List ℕ) : Type 0 where
  pub words : w ≡ w'
  pub sets : s ≡ s'
  pub queues : q ≡ q'
  pub memory : mem ≡ mem'
  pub gathered : take have wire ≡ take have' wire'
  pub many : have ≡ have'
  pub output : out ≡ out'

module _ {l : Layout} {w s q mem wire : List ℕ} {have : ℕ} {out w' s' q' mem' wire' : List ℕ} {have' : ℕ} {out' : List ℕ} where
  -- The bench is known from the rules' bench.
  pub bench_once : HeldOf l w s q mem wire have → HeldOf l w' s' q' mem' wire' have' → holding (view_of l w s q mem) (take have wire) out ≡ holding (view_of l w' s' q' mem') (take have' wire') out'
      → Same w s q mem wire have out w' s' q' mem' wire' have' out'
  bench_once h k e =
      let a = one_state h.chip.ready.sound k.chip.ready.sound (ap (λ (b : rules.Bench). b.chip) e) in
      let g = ap (λ (b : rules.Bench). b.gathered) e in
      record {
        words = a.0;
        sets = a.1;
        queues = a.2;
        memory = a.3;
        gathered = g;
        many = same_place wire wire' (omega (arith, h.few, h.room)) (omega (arith, k.few, k.room)) g;
        output = ap (λ (b : rules.Bench). b.output) e;
      }

  -- One record: the answer too.
  pub turns_once : {x : rules.Answered} {a b : Answer} → TurnsOf l x a w s q mem wire have out → TurnsOf l x b w' s' q' mem' wire' have' out'
      → (a ≡ b) × Same w s q mem wire have out w' s' q' mem' wire' have' out'
  turns_once {x} {a} {b} p r = (one_answer a b (p.reply ∙ sym r.reply), bench_once p.held r.held (p.bench ∙ sym r.bench))

-- Wire bytes: the answer, the bytes gathered then, and how many they are.
pub gathered_once : {wire bytes wire₁ wire₂ : List ℕ} {have count have₁ have₂ : ℕ} {a b : Answer} → Gathered wire have bytes count a wire₁ have₁ → Gathered wire have bytes count b wire₂ have₂
    → (a ≡ b) × (take have₁ wire₁ ≡ take have₂ wire₂) × (have₁ ≡ have₂)
gathered_once {wire₁ = wire₁} {wire₂ = wire₂} {a = a} {b = b} p r =
    let e = sym (p.rule (powered paged 24) []) ∙ r.rule (powered paged 24) [] in
    let g = ap (λ (x : rules.Answered). x.after.gathered) e in
    (one_answer a b (ap (λ (x : rules.Answered). x.reply) e), g, same_place wire₁ wire₂ (omega (arith, p.few, p.room)) (omega (arith, r.few, r.room)) g)
