-- The rules' gathering with its test answered, and what the buffer then holds.
use Rattle.std.proofs.Common.{◌≡◌, refl, ap, sym, ◌∙◌, Bool, true, false, ◌&&◌, List, ℕ, ◌+◌, ◌≤◌, leb, length, take, drop, None, Some, arith, length-drop, length-take-le}
use Rattle.std.proofs.Math.Seq.{paste, length-paste, take-paste, drop-paste}
use Rattle.std.proofs.lemmas.Bool.{leb-true}
use Rattle.rules.specs.Answers.{done}
use Rattle.rules.specs.Bench.{gather}
use Rattle.state.specs.Keys.{left_true, right_true}
use Rattle.records.specs.Gathers.{Gathers, holding}

-- the test of the rules
abbrev Joins : ℕ → ℕ → Bool
Joins have count = leb 1 count && leb count 6 && leb (have + count) 2048

pub joins_few : (have count : ℕ) → Joins have count ≡ true → (count ≤ 6) × (have + count ≤ 2048)
joins_few have count t = (leb-true count 6 (right_true _ _ (left_true _ _ t)), leb-true (have + count) 2048 (right_true _ _ t))

module _ (wire : List ℕ) (have : ℕ) (bytes : List ℕ) (count : ℕ) (w : length wire ≡ 2048) (h : have ≤ 2048) where
  test : {t : Bool} → Joins have count ≡ t → Joins (length (take have wire)) count ≡ t
  test e = ap (λ (n : ℕ). Joins n count) (length-take-le have wire (omega arith)) ∙ e

  pub keeps : Joins have count ≡ false → Gathers wire have bytes count wire None
  unfolding gather
  keeps e = record { rule = λ c out. rw (test e); room = h; rest = refl; size = refl }

  pub grows : Joins have count ≡ true → length bytes ≡ 8 → (after : List ℕ) → after ≡ paste wire have (drop 2 bytes) count → Gathers wire have bytes count after (Some (have + count))
  unfolding gather
  grows t b after e =
      let few = joins_few have count t in
      let n : have ≤ length wire = omega arith in
      let m : count ≤ length (drop 2 bytes) = omega (arith, length-drop 2 bytes) in
      record {
        rule = λ c out. rw (test t) (ap (λ (x : List ℕ). record { reply = done; after = holding c x out }) (sym (ap (take (have + count)) e ∙ take-paste wire have (drop 2 bytes) count n m)));
        room = few.1;
        rest = ap (drop (have + count)) e ∙ drop-paste wire have (drop 2 bytes) count n m;
        size = ap length e ∙ length-paste wire have (drop 2 bytes) count (omega arith) m;
      }
