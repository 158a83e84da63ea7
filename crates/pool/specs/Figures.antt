-- The figures of an empty pool, in both layouts.
use Rattle.std.specs.Prelude.{◌≡◌, refl, List, [], ℕ, length, replicate}
use Rattle.std.proofs.Common.{ap, ap₂, sym, subst, ◌∙◌, arith}
use Rattle.std.proofs.lemmas.List.{length-replicate}
use Rattle.rules.specs.Bits.{word_of}
use Rattle.rules.specs.Parts.{IsPart}
use Rattle.rules.specs.Chip.{Layout, free_for}
use Rattle.wellformed.specs.Layouts.{free_total, none_lists, none_total}
use Rattle.sets.specs.Members.{set_of}
use Rattle.state.specs.View.{no_figures, lists_of, pool_of}
use Rattle.state.specs.Pages.{numbers_length}
use Rattle.state.specs.Promise.{QueuesIn, Small, PagesIn}
use Rattle.state.specs.Stores.{Recounts}
use Rattle.pool.specs.Queues.{EmptiedOf}

-- Bytes that are all 0 are three empty queues.
no_entries : (n : ℕ) → QueuesIn (no_figures n) (replicate 72 0)
unfolding set_of
no_entries n = record {
  long = refl;
  rx = record { many = refl; fits = omega arith; same = refl };
  tx = record { many = refl; fits = omega arith; same = refl };
  completion = record { many = refl; fits = omega arith; same = refl };
  in_rx = record { lower = refl; upper = refl };
  in_tx = record { lower = refl; upper = refl };
}

-- n free pages of n
all_free : (l : Layout) (n : ℕ) → word_of n n ≡ word_of n (length (free_for l (replicate n [])))
all_free l n = let e : n ≡ length (free_for l (replicate n [])) = omega (arith, free_total l n (replicate n []) (none_lists l n), none_total n) in ap (word_of n) e

-- No packet has pages and no queue has entries.
pub emptied : {l : Layout} (n : ℕ) {w w' s' q' : List ℕ} → IsPart n → Recounts (no_figures n) w w' → Small s' → lists_of l s' ≡ replicate n [] → q' ≡ replicate 72 0 → EmptiedOf l n w w' s' q'
emptied {l} n {s' = s'} {q' = q'} part r small pages none = let size : length s' ≡ n = sym (numbers_length l s') ∙ ap length pages ∙ length-replicate n [] in record {
  regs = r.regs;
  pool = ap (λ (c : List ℕ). pool_of l c s' q') r.counted ∙ ap (λ (ls : List (List ℕ)). record { layout = l; pages = ls; rx = []; tx = []; completion = [] }) pages;
  sound = record {
    kept = r.kept;
    queues = subst (λ (c : List ℕ). QueuesIn c q') (sym r.counted) (subst (QueuesIn (no_figures n)) (sym none) (no_entries n));
    sets = subst (λ (c : List ℕ). PagesIn l c s') (sym r.counted)
        (record { part = subst IsPart (sym size) part; free = all_free l n ∙ ap₂ (λ (m : ℕ) (ls : List (List ℕ)). word_of m (length (free_for l ls))) (sym size) (sym pages); small = small });
  };
}
