-- A queue by its count: has it an entry.
use mathlib.Core.Path.{◌≡◌, refl}
use mathlib.Core.Bool.{not}
use mathlib.Core.List.{List, [], ◌∷◌}
use Prim.Native.Nat.{ℕ}
use native.Mathlib.Omega.{arith}
use borrow.Author.Tests.{eq-eqb, ne_eqb}
use lib.Dec.{eqb}
use lib.ListN.{length}
use Rattle.rules.specs.Lists.{some?}

pub some_count : (l : List ℕ) (n : ℕ) → n ≡ length l → not (eqb n 0) ≡ some? l
unfolding some?
some_count [] n e = rw (eq-eqb n 0 e)
some_count (x ∷ xs) n e = rw (ne_eqb n 0 (omega arith))

pub no_entries : (l : List ℕ) (n : ℕ) → n ≡ length l → n ≡ 0 → l ≡ []
no_entries [] n e z = refl
no_entries (x ∷ xs) n e z = absurd (omega arith)
