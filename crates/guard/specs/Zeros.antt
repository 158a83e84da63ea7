-- Numbers joined by `|` are 0 where each is.
use Rattle.std.specs.Prelude.{◌≡◌, List, ℕ, eqb}
use Rattle.std.proofs.Common.{ap₂, arith}
use Rattle.std.specs.Int.Bits.{bit_or, or_add_and}
use Rattle.std.proofs.lemmas.Nat.{and_le_l, and_le_r}
use Rattle.lists.specs.Facts.{Decides, agrees, eq_decides}
use Rattle.state.specs.View.{word, BlankIn}

infixl 40 ◌joined◌
-- a number that is 0 exactly where P holds
pub record None (a : ℕ) (P : Type 0) : Type 0 where
  pub sound : a ≡ 0 → P
  pub complete : P → a ≡ 0

pub none_decides : {a : ℕ} {P : Type 0} → None a P → Decides (eqb a 0) P
none_decides {a} n = agrees (eq_decides a 0) n.sound n.complete

-- one more
◌joined◌ : {a : ℕ} {P : Type 0} → None a P → (b : ℕ) → None (bit_or a b) (P × (b ≡ 0))
◌joined◌ {a} n b = record {
  sound = λ e. (n.sound (omega (arith, e, or_add_and a b, and_le_r a b)), omega (arith, e, or_add_and a b, and_le_l a b));
  complete = λ w. ap₂ bit_or (n.complete w.0) w.1;
}

alone : (a : ℕ) → None a (a ≡ 0)
alone a = record { sound = λ e. e; complete = λ e. e }

-- The words that hold nothing, as the code joins them.
pub blank_none : (w : List ℕ) → None (bit_or (bit_or (bit_or (word w 16) (word w 18)) (word w 20)) (word w 21)) (BlankIn w)
blank_none w =
    let n = alone (word w 16) joined word w 18 joined word w 20 joined word w 21 in
    record {
      sound = λ z. let b = n.sound z in record { none16 = b.0.0.0; none18 = b.0.0.1; none20 = b.0.1; none21 = b.1 };
      complete = λ b. n.complete (((b.none16, b.none18), b.none20), b.none21);
    }
