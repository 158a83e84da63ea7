-- The word of two latches, and what is left of it by `and`.
use mathlib.Core.Path.{◌≡◌, refl, ap, sym, ◌∙◌}
use mathlib.Core.Bool.{Bool, true, false, not, ◌&&◌}
use Prim.Native.Nat.{ℕ, zero, suc, ◌+◌, ◌-◌, ◌*◌, ◌/◌, ◌%◌, ◌^◌, ◌≤◌, ◌<◌}
use native.Mathlib.Nat.{lt_of_le_of_lt, lt_of_lt_of_le}
use native.Mathlib.Omega.{arith}
use native.Mathlib.Decide.{ℕ_discrete}
use lib.Bits.{bit_and, and_le_l}
use lib.Dec.{eqb}
use lib.Pow.{pow_mono}
use Rattle.rules.specs.Bits.{bit, flag, low_byte}
use Rattle.sets.specs.Bits.{bit_and_lem, bit_past, bits_same}
use Rattle.state.specs.View.{Latches}
use Rattle.interrupts.specs.Promises.{Acknowledged}

abbrev latch_word : Bool → Bool → ℕ
latch_word a b = 4 * flag a + 16 * flag b

word_small : (a b : Bool) → latch_word a b < 21
unfolding flag
word_small true true = omega arith
word_small true false = omega arith
word_small false true = omega arith
word_small false false = omega arith

pub latches_small : (x : ℕ) → Latches x → x < 21
latches_small x h = rw h (word_small (bit 2 x) (bit 4 x))

tx : (a b : Bool) → bit 2 (latch_word a b) ≡ a
unfolding bit flag
tx true true = refl
tx true false = refl
tx false true = refl
tx false false = refl

over : (a b : Bool) → bit 4 (latch_word a b) ≡ b
unfolding bit flag
over true true = refl
over true false = refl
over false true = refl
over false false = refl

-- no other bit is set
low_bits : (a b : Bool) → (bit 0 (latch_word a b) ≡ false) × (bit 1 (latch_word a b) ≡ false) × (bit 3 (latch_word a b) ≡ false)
unfolding bit flag
low_bits true true = (refl, refl, refl)
low_bits true false = (refl, refl, refl)
low_bits false true = (refl, refl, refl)
low_bits false false = (refl, refl, refl)

only : (a b : Bool) (p : ℕ) → (p ≡ 2 → ⊥) → (p ≡ 4 → ⊥) → bit p (latch_word a b) ≡ false
only a b zero n m = (low_bits a b).0
only a b (suc zero) n m = (low_bits a b).1
only a b (suc (suc zero)) n m = absurd (n refl)
only a b (suc (suc (suc zero))) n m = (low_bits a b).2
only a b (suc (suc (suc (suc zero)))) n m = absurd (m refl)
only a b (suc (suc (suc (suc (suc k))))) n m =
    let far : 5 ≤ suc (suc (suc (suc (suc k)))) = omega arith in
    let small : latch_word a b < 2 ^ 5 = omega (arith, word_small a b) in
    bit_past _ (latch_word a b) (lt_of_lt_of_le small (pow_mono far))

-- what is left by `and` is such a word again
left : (x z : ℕ) → Latches x → Latches (bit_and x z)
left x z h = bits_same 5 y (latch_word (bit 2 y) (bit 4 y)) (lt_of_le_of_lt (and_le_l x z) (omega (arith, latches_small x h))) (omega (arith, word_small (bit 2 y) (bit 4 y))) (λ p. go p (ℕ_discrete p 2) (ℕ_discrete p 4))
  where
    y : ℕ
    y = bit_and x z

    go : (p : ℕ) → Dec (p ≡ 2) → Dec (p ≡ 4) → bit p y ≡ bit p (latch_word (bit 2 y) (bit 4 y))
    go p (yes e) d = rw e (sym (tx (bit 2 y) (bit 4 y)))
    go p (no n) (yes e) = rw e (sym (over (bit 2 y) (bit 4 y)))
    go p (no n) (no m) = bit_and_lem p x z ∙ ap (λ (b : Bool). b && bit p z) (ap (bit p) h ∙ only (bit 2 x) (bit 4 x) p n m) ∙ sym (only (bit 2 y) (bit 4 y) p n m)

-- a digit turned
turned : (a b : ℕ) → a + b ≡ 1 → eqb a 1 ≡ not (eqb b 1)
turned zero zero e = absurd (omega arith)
turned zero (suc zero) e = refl
turned zero (suc (suc b)) e = absurd (omega arith)
turned (suc zero) zero e = refl
turned (suc zero) (suc b) e = absurd (omega arith)
turned (suc (suc a)) b e = absurd (omega arith)

turned_2 : (v : ℕ) → v < 65536 → bit 2 (65535 - v) ≡ not (bit 2 (low_byte v))
unfolding bit low_byte
turned_2 v h = turned ((65535 - v) / 2 ^ 2 % 2) (v % 256 / 2 ^ 2 % 2) (omega arith)

turned_4 : (v : ℕ) → v < 65536 → bit 4 (65535 - v) ≡ not (bit 4 (low_byte v))
unfolding bit low_byte
turned_4 v h = turned ((65535 - v) / 2 ^ 4 % 2) (v % 256 / 2 ^ 4 % 2) (omega arith)

pub acknowledged : (v x : ℕ) → v < 65536 → Latches x → Acknowledged v x (bit_and x (65535 - v))
acknowledged v x small h = record {
  tx_empty = bit_and_lem 2 x (65535 - v) ∙ ap (λ (b : Bool). bit 2 x && b) (turned_2 v small);
  overrun = bit_and_lem 4 x (65535 - v) ∙ ap (λ (b : Bool). bit 4 x && b) (turned_4 v small);
  latched = left x (65535 - v) h;
}
