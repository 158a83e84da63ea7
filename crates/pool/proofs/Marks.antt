-- The bits of a queue's packets, where they are kept: where one joins it, and where its head leaves.
use Rattle.std.specs.Prelude.{◌≡◌, refl, List, [], ◌∷◌, ◌++◌, ℕ, Option, None, Some, IfSome, ◌+◌, ◌-◌, ◌^◌, ◌≤◌, ◌<◌, length, drop, get_or}
use Rattle.std.proofs.Common.{ap, sym, ◌∙◌, arith}
use Rattle.lists.specs.Facts.{head_and_rest}
use Rattle.sets.specs.Members.{set_of, set_small, set_first, set_joined}
use Rattle.state.specs.View.{word}
use Rattle.state.specs.Promise.{Halves}
use Rattle.state.specs.Counted.{whole}
use Rattle.pool.specs.Queues.{MayJoin}
use Rattle.pool.specs.Fifos.{bits_at, with_bits, bits_by}

-- the bits kept in w are those of l
abbrev pub Marked : Option ℕ → List ℕ → List ℕ → Type 0
Marked b w l = IfSome b (λ low. Halves (word w low) (word w (low + 1)) (set_of l))

pub room : (b : Option ℕ) (w l : List ℕ) (k : ℕ) → Marked b w l → IfSome b (λ low. MayJoin k l) → IfSome b (λ low. bits_at low w + 2 ^ k < 2 ^ 32)
room None w l k h m = tt
room (Some low) w l k h m = omega (arith, whole h, set_first k l, set_small 24 (k ∷ l) m.once m.small)

pub joined : (b : Option ℕ) (w l : List ℕ) (k : ℕ) → Marked b w l → bits_by b (λ x. x + 2 ^ k) w ≡ bits_by b (λ x. set_of (l ++ (k ∷ []))) w
joined None w l k h = refl
joined (Some low) w l k h =
    let e : bits_at low w + 2 ^ k ≡ set_of (l ++ (k ∷ [])) = omega (arith, whole h, set_first k l, set_joined l k) in
    ap (λ (x : ℕ). with_bits low x w) e

module _ (l : List ℕ) (k : ℕ) (some : 0 < length l) (first : k ≡ get_or l 0 0) where
  head : set_of l ≡ 2 ^ k + set_of (drop 1 l)
  head = ap set_of (head_and_rest l 0 some) ∙ set_first (get_or l 0 0) (drop 1 l) ∙ ap (λ (x : ℕ). 2 ^ x + set_of (drop 1 l)) (sym first)

  pub there : (b : Option ℕ) (w : List ℕ) → Marked b w l → IfSome b (λ low. 2 ^ k ≤ bits_at low w)
  there None w h = tt
  there (Some low) w h = omega (arith, whole h, head)

  pub left : (b : Option ℕ) (w : List ℕ) → Marked b w l → bits_by b (λ x. x - 2 ^ k) w ≡ bits_by b (λ x. set_of (drop 1 l)) w
  left None w h = refl
  left (Some low) w h =
      let e : bits_at low w - 2 ^ k ≡ set_of (drop 1 l) = omega (arith, whole h, head) in
      ap (λ (x : ℕ). with_bits low x w) e
