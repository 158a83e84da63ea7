-- The word of the link: its two bits, and what a link event comes to over the words.
use Rattle.std.specs.Prelude.{◌≡◌, refl, false, ◌||◌, List, ℕ, zero, suc, ◌+◌, ◌*◌, ◌/◌, ◌%◌, ◌^◌, ◌≤◌, ◌<◌, eqb, ltb, set, Ok, Err}
use Rattle.std.proofs.Common.{ap, ◌∙◌, arith, lt-ltb, le-ltb}
use Rattle.std.proofs.Math.Path.{sym}
use Rattle.std.proofs.Math.Bool.{xor}
use Rattle.rules.specs.Bits.{bit, flag}
use Rattle.rules.specs.Chip.{Link}
use Rattle.rules.specs.Fields.{set_link}
use Rattle.rules.specs.Link.{relink, plug}
use Rattle.bits.specs.Laws.{bit_zero}
use Rattle.state.specs.declared.Refusal.TheVariants.{OutsideLimits}
use Rattle.state.specs.View.{word, registers_in, Kept}
use Rattle.state.specs.Promise.{Does, does_sets, sets_as}
use Rattle.state.specs.Stores.{store_link}

-- the link and the change that a word of the link stands for
abbrev pub link_in : ℕ → Link
link_in x = record { up = bit 0 x; changed = bit 1 x }

-- What holds of 0, 1, 2 and 3 holds of a word below 4.
below_four : (P : ℕ → Type 0) → P 0 → P 1 → P 2 → P 3 → (x : ℕ) → x < 4 → P x
below_four P a b c d zero h = a
below_four P a b c d (suc zero) h = b
below_four P a b c d (suc (suc zero)) h = c
below_four P a b c d (suc (suc (suc zero))) h = d
below_four P a b c d (suc (suc (suc (suc x)))) h = absurd (omega arith)

-- It is made of its two bits.
pub two_bits : (x : ℕ) → x < 4 → x ≡ flag (bit 0 x) + 2 * flag (bit 1 x)
unfolding bit flag
two_bits = below_four (λ x. x ≡ flag (bit 0 x) + 2 * flag (bit 1 x)) refl refl refl refl

-- Its bit 1 is set where it is above 1.
pub change_bit : (x : ℕ) → x < 4 → ltb 1 x ≡ bit 1 x
unfolding bit
change_bit = below_four (λ x. ltb 1 x ≡ bit 1 x) refl refl refl refl

-- Bit 0 alone is the link, and no change.
pub forgets : (x kept : ℕ) → kept ≡ x % 2 → link_in kept ≡ record { up = bit 0 x; changed = false }
unfolding bit
forgets x kept e =
    let same : kept % 2 ≡ x % 2 = omega (arith, e) in
    let none : kept / 2 ^ 1 % 2 ≡ 0 = omega (arith, e) in
    λ i. record { up = (bit_zero kept ∙ ap (λ (y : ℕ). eqb y 1) same ∙ sym (bit_zero x)) i; changed = ap (λ (y : ℕ). eqb y 1) none i }

-- The link set to x, 0 or 1, where the word was y: the same again is no change, and another is one.
abbrev after : ℕ → ℕ → Link
after x y = record { up = eqb x 1; changed = bit 1 y || xor (eqb x 1) (bit 0 y) }

same_again : (x y : ℕ) → y < 4 → y % 2 ≡ x → after x y ≡ link_in y
unfolding bit xor
same_again x y h e = ap (λ (z : ℕ). after z y) (sym e) ∙ below_four (λ y. after (y % 2) y ≡ link_in y) refl refl refl refl y h

another : (x y : ℕ) → x ≤ 1 → y < 4 → (y % 2 ≡ x → ⊥) → after x y ≡ link_in (2 + x)
unfolding bit xor
another zero y l h n = below_four (λ y. (y % 2 ≡ 0 → ⊥) → after 0 y ≡ link_in 2) (λ n. absurd (n refl)) (λ n. refl) (λ n. absurd (n refl)) (λ n. refl) y h n
another (suc zero) y l h n = below_four (λ y. (y % 2 ≡ 1 → ⊥) → after 1 y ≡ link_in 3) (λ n. refl) (λ n. absurd (n refl)) (λ n. refl) (λ n. absurd (n refl)) y h n
another (suc (suc x)) y l h n = absurd (omega arith)

-- A link event: outside its limits, the same state again, and another.
module _ (x : ℕ) (w : List ℕ) (k : Kept w) where
  pub plug_outside : 1 < x → Does (plug x) w (Err OutsideLimits) w
  unfolding plug
  plug_outside h = record { step = λ l s q mem. rw (lt-ltb 1 x h) refl; still = refl; kept = k }

  pub plug_same : x ≤ 1 → word w 15 % 2 ≡ x → Does (plug x) w (Ok 0) w
  unfolding plug
  plug_same h e = record { step = λ l s q mem. rw (le-ltb 1 x h, same_again x (word w 15) k.fixed.link_bits e) refl; still = refl; kept = k }

  pub plug_other : (new : ℕ) → new ≡ 2 + x → x ≤ 1 → (word w 15 % 2 ≡ x → ⊥) → Does (plug x) w (Ok 0) (set w 15 new)
  unfolding plug
  plug_other new right h n =
      let stored = store_link new (omega (arith, right, h)) w k in
      let d = does_sets {f = relink (eqb x 1)} (sets_as stored (ap (λ (z : Link). set_link z (registers_in w)) (ap link_in right ∙ sym (another x (word w 15) h k.fixed.link_bits n)))) in
      record { step = λ l s q mem. d.step l s q mem ∙ rw (le-ltb 1 x h) refl; still = d.still; kept = d.kept }
