-- A packet's bytes one by one, after bytes were put into it: those that were put, and for the rest what stood there. Its pages ascend, so that two addresses lie at two places.
use Rattle.std.specs.Prelude.{◌≡◌, ◌⊎◌, length, set}
use Rattle.std.proofs.Math.Path.{refl, ap}
use Rattle.std.proofs.Common.{◌∙◌}
use Rattle.std.proofs.Math.Logic.{inl, inr, ⊎_elim}
use mathlib.Core.List.{List, [], ◌∷◌}
use Prim.Native.Nat.{ℕ, zero, suc, ◌+◌, ◌*◌, ◌/◌, ◌≤◌, ◌<◌}
use Rattle.std.proofs.Math.Nat.{add-zero}
use native.Mathlib.Omega.{arith}
use Rattle.std.proofs.Math.ListN.{get_or, length-set}
use Rattle.std.proofs.Math.Seq.{get_or-set_same, get_or-set_other}
use Rattle.rules.specs.WellFormed.{Ascending}
use Rattle.rules.specs.Packet.{place, get_bytes, put_bytes}
use Rattle.lists.specs.Facts.{member_at}
use Rattle.lists.specs.Bytes.{Below, place_room}
use Rattle.lists.specs.Each.{Each}
use Rattle.wellformed.specs.Count.{above_least}
use Rattle.laws.specs.Head.{byte_at}

-- No two places of an ascending list hold the same.
ascend_once : (l : List ℕ) → Ascending l → (i j : ℕ) → i < length l → j < length l → get_or l i 0 ≡ get_or l j 0 → i ≡ j
ascend_once [] a i j h k e = absurd (omega arith)
ascend_once (x ∷ xs) a zero zero h k e = refl
ascend_once (x ∷ xs) a zero (suc j) h k e = absurd (omega (arith, e, above_least x (get_or xs j 0) xs a (member_at xs j (omega arith))))
ascend_once (x ∷ xs) a (suc i) zero h k e = absurd (omega (arith, e, above_least x (get_or xs i 0) xs a (member_at xs i (omega arith))))
ascend_once (x ∷ y ∷ ys) a (suc i) (suc j) h k e = ap suc (ascend_once (y ∷ ys) a.1 i j (omega arith) (omega arith) e)
ascend_once (x ∷ []) a (suc i) (suc j) h k e = absurd (omega arith)

-- the bytes of a packet, of pages that ascend and lie in memory
pub record Placed (pages memory : List ℕ) : Type 0 where
  pub ascend : Ascending pages
  pub inside : (a : ℕ) → a < 256 * length pages → place pages a < length memory

pub placed : (n : ℕ) (pages memory : List ℕ) → Ascending pages → Below n pages → length memory ≡ 256 * n → Placed pages memory
placed n pages memory a b e = record { ascend = a; inside = λ x h. omega (arith, place_room n pages x b h, e) }

module _ (pages : List ℕ) (ascend : Ascending pages) where
  place_once : (a b : ℕ) → a < 256 * length pages → b < 256 * length pages → place pages a ≡ place pages b → a ≡ b
  unfolding place
  place_once a b h k e =
      let p = ascend_once pages ascend (a / 256) (b / 256) (omega arith) (omega arith) (omega (arith, e)) in
      omega (arith, e, p, ap (λ (i : ℕ). get_or pages i 0) p)

  -- A byte in front of those that are put, or behind them, stays.
  pub put_beside : (bytes : List ℕ) (a : ℕ) (memory : List ℕ) → a + length bytes ≤ 256 * length pages → (x : ℕ) → x < 256 * length pages → (x < a) ⊎ (a + length bytes ≤ x)
      → byte_at pages (put_bytes bytes a pages memory) x ≡ byte_at pages memory x
  unfolding put_bytes place
  put_beside [] a memory h x k s = refl
  put_beside (y ∷ ys) a memory h x k s =
      put_beside ys (suc a) (set memory (place pages a) y) (omega arith) x k (⊎_elim (λ l. inl (omega (arith, l))) (λ r. inr (omega (arith, r))) s)
      ∙ get_or-set_other memory (place pages a) (place pages x) y 0
      (λ e. let same = place_once x a k (omega arith) e in ⊎_elim (λ l. omega (arith, l, same)) (λ r. omega (arith, r, same)) s)

  -- One of those that are put is that byte.
  pub put_there : (bytes : List ℕ) (a : ℕ) (memory : List ℕ) → Placed pages memory → a + length bytes ≤ 256 * length pages → (j : ℕ) → j < length bytes
      → byte_at pages (put_bytes bytes a pages memory) (a + j) ≡ get_or bytes j 0
  unfolding put_bytes place
  put_there [] a memory p h j k = absurd (omega arith)
  put_there (y ∷ ys) a memory p h zero k =
      rw add-zero
      (put_beside ys (suc a) (set memory (place pages a) y) (omega arith) a (omega arith) (inl (omega arith))
      ∙ get_or-set_same memory (place pages a) y 0 (p.inside a (omega arith)))
  put_there (y ∷ ys) a memory p h (suc j) k =
      let e : a + suc j ≡ suc a + j = omega arith in
      rw e
      (put_there ys (suc a) (set memory (place pages a) y)
      (record { ascend = p.ascend; inside = λ x b. omega (arith, p.inside x b, length-set memory (place pages a) y) })
      (omega arith) j (omega arith))

-- what a list holds is bytes
abbrev pub Octets : List ℕ → Type 0
Octets l = (i : ℕ) → get_or l i 0 < 256

-- It does where bytes are put into it.
set_octets : (l : List ℕ) (i x : ℕ) → Octets l → x < 256 → Octets (set l i x)
set_octets [] i x o h j = o j
set_octets (y ∷ ys) zero x o h zero = h
set_octets (y ∷ ys) zero x o h (suc j) = o (suc j)
set_octets (y ∷ ys) (suc i) x o h zero = o 0
set_octets (y ∷ ys) (suc i) x o h (suc j) = set_octets ys i x (λ k. o (suc k)) h j

pub put_octets : (bytes : List ℕ) (a : ℕ) (pages memory : List ℕ) → Each (λ b. b < 256) bytes → Octets memory → Octets (put_bytes bytes a pages memory)
unfolding put_bytes
put_octets [] a pages memory e o = o
put_octets (x ∷ xs) a pages memory e o = put_octets xs (suc a) pages (set memory (place pages a) x) e.1 (set_octets memory (place pages a) x o e.0)

-- Bytes that are equal one by one are equal, where they are read.
pub get_alike : (w a : ℕ) (pages memory others bytes : List ℕ) → ((j : ℕ) → a ≤ j → j < a + w → byte_at others bytes j ≡ byte_at pages memory j) → get_bytes w a others bytes ≡ get_bytes w a pages memory
unfolding get_bytes place
get_alike zero a pages memory others bytes h = refl
get_alike (suc w) a pages memory others bytes h =
    rw (h a (omega arith) (omega arith), get_alike w (suc a) pages memory others bytes (λ j p q. h j (omega arith) (omega arith)))
