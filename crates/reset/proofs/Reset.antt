-- The words after a reset.
use mathlib.Core.Path.{◌≡◌, refl, ap}
use mathlib.Core.Bool.{false}
use mathlib.Core.List.{List, [], ◌++◌}
use Prim.Native.Nat.{ℕ, ◌%◌}
use native.Mathlib.Omega.{arith}
use lib.ListN.{length, set, take, drop, replicate}
use Rattle.rules.specs.Bits.{bit, flag}
use Rattle.rules.specs.Chip.{Link, reset_registers}
use Rattle.rules.specs.Fields.{set_link}
use Rattle.state.specs.View.{word, bytes}
use Rattle.state.specs.Links.{forgets}
use Rattle.state.specs.Written.{Written, written_out}
use Rattle.reset.specs.Promises.{zero_but, WordsReset}

-- what the stores leave
abbrev reset_words : ℕ → List ℕ → List ℕ
reset_words x w = set (set (set (set (set (zero_but w) 15 x) 5 0x3300) 7 0x3300) 13 4) 17 0x8000

pub reset_to : (x : ℕ) (w : List ℕ) → length w ≡ 32 → x ≡ word w 15 % 2 → WordsReset w (reset_words x w)
unfolding Written bit flag
reset_to new = written_out 32 (λ w. new ≡ word w 15 % 2 → WordsReset w (reset_words new w)) (λ a b c d e f g h i j k l m n o p q r s t u x y z a2 b2 c2 d2 e2 f2 g2 h2 right.
    record {
      regs = ap (λ (y : Link). set_link y (reset_registers (bytes k (bytes l (bytes m []))) false)) (forgets p new right);
      none = refl;
      kept = record {
        whole = refl;
        fixed = record { bank_high = refl; reserved_high = refl; latched = refl; link_bits = omega (arith, right); mask_low = refl };
        blank = record { none16 = refl; none18 = refl; none20 = refl; none21 = refl };
      };
    })

-- 0 in two parts of the words
pub zero_parts : (w : List ℕ) → length w ≡ 32 → take 13 (replicate 10 0 ++ drop 10 w) ++ (replicate 19 0 ++ drop 19 (drop 13 (replicate 10 0 ++ drop 10 w))) ≡ zero_but w
unfolding Written
zero_parts = written_out 32 (λ w. take 13 (replicate 10 0 ++ drop 10 w) ++ (replicate 19 0 ++ drop 19 (drop 13 (replicate 10 0 ++ drop 10 w))) ≡ zero_but w)
    (λ a b c d e f g h i j k l m n o p q r s t u x y z a2 b2 c2 d2 e2 f2 g2 h2. refl)

pub zeros_long : (w : List ℕ) → length w ≡ 32 → length (zero_but w) ≡ 32
unfolding Written
zeros_long = written_out 32 (λ w. length (zero_but w) ≡ 32) (λ a b c d e f g h i j k l m n o p q r s t u x y z a2 b2 c2 d2 e2 f2 g2 h2. refl)
