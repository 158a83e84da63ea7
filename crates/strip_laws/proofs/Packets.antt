-- The packets of two chips beside each other: as many pages each, and the same at every written byte. What a step does to packets keeps this: bytes are put into one, one gives its pages back, the next is granted pages.
use Rattle.std.specs.Prelude.{◌≡◌, Bool, false, ◌&&◌, ◌⊎◌, ℕ, ◌+◌, ◌-◌, ◌*◌, ◌≤◌, ◌<◌, eqb, get_or, set, replicate}
use Rattle.std.proofs.Math.Path.{refl, ap}
use Rattle.std.proofs.Common.{sym, ◌∙◌, arith}
use Rattle.std.proofs.Math.Bool.{true, true≢false}
use Rattle.std.proofs.Math.Logic.{inl, inr, ⊎_elim}
use mathlib.Core.List.{List, []}
use Rattle.std.proofs.Math.Decide.{ℕ_discrete, dec_le}
use Rattle.std.proofs.Math.Dec.{leb, ltb}
use Rattle.std.proofs.Math.ListN.{length}
use Rattle.rules.specs.Lists.{some?}
use Rattle.rules.specs.WellFormed.{GoodPages}
use Rattle.rules.specs.Packet.{place, get_bytes, put_bytes}
use Rattle.lists.specs.Facts.{Decides, ◌and◌, is_true, is_false, or_cases, lt_decides, le_decides, eq_decides}
use Rattle.lists.specs.Each.{Each}
use Rattle.wellformed.specs.Pages.{at_set}
use Rattle.wellformed.specs.Layouts.{none_there}
use Rattle.laws.specs.Apart.{get_after_put}
use Rattle.laws.specs.Head.{byte_at}
use Rattle.strip_laws.specs.Written.{Marks, marked, anew}
use Rattle.strip_laws.specs.SameCounts.{SameCounts, set_alike, none_alike}
use Rattle.laws.specs.Placed.{placed, put_beside, put_there, Octets, put_octets}
use Rattle.strip_laws.specs.Packets.{Packets}

-- what starts anew was written, and is not of that packet
anew_decides : (k : ℕ) (m : Marks) (j x : ℕ) → Decides (anew k m j x) ((m j x ≡ true) × (eqb j k ≡ false))
unfolding anew
anew_decides k m j x = is_true (m j x) and is_false (eqb j k)

module _ {m : Marks} {ls : List (List ℕ)} {memory : List ℕ} {others : List (List ℕ)} {bytes : List ℕ} (p : Packets m ls memory others bytes) where
  -- Packet k has other pages: nothing is written of it, or it has none.
  repaged : (k : ℕ) → k < length ls → k < length others → (l other : List ℕ) → length other ≡ length l → (m' : Marks) → ((j x : ℕ) → m' j x ≡ true → m j x ≡ true)
      → ((x : ℕ) → some? l ≡ true → m' k x ≡ true → ⊥) → Packets m' (set ls k l) memory (set others k other) bytes
  repaged k h h' l other long m' keep fresh = record {
    counts = set_alike ls others p.counts k h h' l other long;
    within = λ j x s e. ⊎_elim (λ u. absurd (gone j x u s e)) (λ u. rw u.1 (p.within j x (sym (ap some? u.1) ∙ s) (keep j x e))) (at_set ls k l h j);
    same = λ j x s e.
        ⊎_elim (λ u. absurd (gone j x u s e))
        (λ u. ⊎_elim (λ v. absurd (u.0 v.0)) (λ v. rw (u.1, v.1) (p.same j x (sym (ap some? u.1) ∙ s) (keep j x e))) (at_set others k other h' j)) (at_set ls k l h j);
    octets = p.octets;
    octets' = p.octets';
  }
    where
      gone : (j x : ℕ) → (j ≡ k) × (get_or (set ls k l) j [] ≡ l) → some? (get_or (set ls k l) j []) ≡ true → m' j x ≡ true → ⊥
      gone j x u s e = fresh x (sym (ap some? u.1) ∙ s) (sym (ap (λ (i : ℕ). m' i x) u.0) ∙ e)

  -- It gives its pages back; it is granted some, and starts anew.
  pub freed_in_both : (k : ℕ) → k < length ls → k < length others → Packets m (set ls k []) memory (set others k []) bytes
  unfolding some?
  freed_in_both k h h' = repaged k h h' [] [] refl m (λ j x e. e) (λ x s e. true≢false (sym s))

  pub granted_in_both : (k : ℕ) → k < length ls → k < length others → (l other : List ℕ) → length other ≡ length l → Packets (anew k m) (set ls k l) memory (set others k other) bytes
  granted_in_both k h h' l other long =
      repaged k h h' l other long (anew k m) (λ j x e. ((anew_decides k m j x).sound e).0) (λ x s e. true≢false (sym ((eq_decides k k).complete refl) ∙ ((anew_decides k m k x).sound e).1))
