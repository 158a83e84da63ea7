-- The pages of a set: which they are, that they ascend, how many, and what becomes of them where the lowest bits are cleared.
use Rattle.std.specs.Prelude.{◌≡◌, ℕ, zero, suc, ◌^◌, ◌<◌, ◌≤◌, Bool, true, false, not, List, [], ◌∷◌, ◌++◌, length, slice_index, refl}
use Rattle.std.proofs.Common.{ap, sym, ◌∙◌, true≢false, append-nil, append_assoc, lt_of_lt_of_le, arith, length-append, pow_mono}
use Rattle.std.proofs.Math.Decide.{dec_le}
use Rattle.std.proofs.lemmas.List.{get_or_at}
use Rattle.std.proofs.Math.ListN.{get_or-append}
use Rattle.rules.specs.Lists.{unless}
use Rattle.rules.specs.Bits.{bit}
use Rattle.sets.specs.Views.{bits_below, pages_of}
use Rattle.sets.specs.Bits.{bit_past}
use Rattle.sets.specs.Pages.{below_count, Placed}

last_nth : (b : Bool) (n s k : ℕ) → bit n s ≡ b → length (bits_below n s) ≤ k → k < length (bits_below n s ++ unless (not b) n)
    → Placed s k (slice_index (bits_below n s ++ unless (not b) n) k)
unfolding unless
last_nth true n s k e l m =
    let f : length (bits_below n s) ≡ k = omega (arith, length-append (bits_below n s) (n ∷ [])) in
    rw (get_or_at (bits_below n s) n [] 0 k f) (e, sym (below_count n s) ∙ f)
last_nth false n s k e l m = absurd (omega (arith, length-append (bits_below n s) []))

below_nth : (n s k : ℕ) → k < length (bits_below n s) → Placed s k (slice_index (bits_below n s) k)
unfolding bits_below
below_nth zero s k h = absurd (omega arith)
below_nth (suc n) s k h = go (below_nth n s k) (dec_le (suc k) (length (bits_below n s)))
  where
    go : (k < length (bits_below n s) → Placed s k (slice_index (bits_below n s) k)) → Dec (k < length (bits_below n s))
        → Placed s k (slice_index (bits_below n s ++ unless (not (bit n s)) n) k)
    go f (yes l) = rw (get_or-append (bits_below n s) (unless (not (bit n s)) n) 0 k l) (f l)
    go f (no l) = last_nth (bit n s) n s k refl (omega arith) h

below_split : (n p s : ℕ) → p ≤ n → (rest : List ℕ) × (bits_below n s ≡ bits_below p s ++ rest)
unfolding bits_below
below_split zero p s h = let e : p ≡ 0 = omega arith in ([], rw e)
below_split (suc n) p s h = go (below_split n p s) (dec_le p n)
  where
    go : (p ≤ n → (rest : List ℕ) × (bits_below n s ≡ bits_below p s ++ rest)) → Dec (p ≤ n)
        → (rest : List ℕ) × (bits_below (suc n) s ≡ bits_below p s ++ rest)
    go f (yes q) =
        ((f q).0 ++ unless (not (bit n s)) n, rw (f q).1 (append_assoc (bits_below p s) (f q).0 (unless (not (bit n s)) n)))
    go f (no q) = let e : p ≡ suc n = omega arith in ([], rw e (sym (append-nil (bits_below (suc n) s))))

below_placed : (n s k p : ℕ) → p < n → Placed s k p → slice_index (bits_below n s) k ≡ p
unfolding bits_below unless
below_placed n s k p h w =
    let e = below_split n (suc p) s h in
    let f : length (bits_below p s) ≡ k = below_count p s ∙ w.1 in
    ap (λ (l : List ℕ). slice_index l k)
    (e.1 ∙ ap (λ (b : Bool). (bits_below p s ++ unless (not b) p) ++ e.0) w.0 ∙ append_assoc (bits_below p s) (p ∷ []) e.0)
    ∙ get_or_at (bits_below p s) p e.0 0 k f

pub nth_placed : (s k : ℕ) → k < length (pages_of s) → Placed s k (slice_index (pages_of s) k)
unfolding pages_of
nth_placed s k h = below_nth 32 s k h

pub placed_nth : (s k p : ℕ) → s < 2 ^ 32 → Placed s k p → slice_index (pages_of s) k ≡ p
unfolding pages_of
placed_nth s k p h w = go (dec_le 32 p)
  where
    go : Dec (32 ≤ p) → slice_index (bits_below 32 s) k ≡ p
    go (yes g) = absurd (true≢false (sym w.0 ∙ bit_past p s (lt_of_lt_of_le h (pow_mono g))))
    go (no g) = below_placed 32 s k p (omega arith) w
