-- Bytes of a packet lie in its pages. So two packets with no page in common do not disturb each other:
-- what is written into one is not read from the other, and the two may be written in either order.
use Rattle.std.specs.Prelude.{◌≡◌, true, length, get_or, set}
use Rattle.std.proofs.Math.Path.{refl, ap}
use Rattle.std.proofs.Common.{◌∙◌, arith}
use mathlib.Core.List.{List, [], ◌∷◌}
use Prim.Native.Nat.{ℕ, zero, suc, ◌+◌, ◌*◌, ◌≤◌, ◌/◌}
use Rattle.std.proofs.Math.Seq.{get_or-set_other}
use Rattle.std.proofs.lemmas.List.{set_comm}
use Rattle.rules.specs.Lists.{member}
use Rattle.rules.specs.Packet.{place, get_bytes, put_bytes}
use Rattle.lists.specs.Facts.{member_at}

-- w bytes from packet address a on lie within the pages
abbrev pub Within : ℕ → ℕ → List ℕ → Type 0
Within a w pages = a + w ≤ 256 * length pages

-- a place of memory that lies in none of the pages
abbrev pub Outside : ℕ → List ℕ → Type 0
Outside i pages = member (i / 256) pages ≡ true → ⊥

-- no page in common
abbrev pub Apart : List ℕ → List ℕ → Type 0
Apart s t = (p : ℕ) → member p s ≡ true → member p t ≡ true → ⊥

-- A packet address lies in a page of the packet.
place_inside : (pages : List ℕ) (a : ℕ) → Within a 1 pages → member (place pages a / 256) pages ≡ true
unfolding place
place_inside pages a h =
    let e : place pages a / 256 ≡ get_or pages (a / 256) 0 = omega arith in
    rw e (member_at pages (a / 256) (omega arith))

module _ (t : List ℕ) (i : ℕ) (outside : Outside i t) where
  elsewhere : (b : ℕ) → Within b 1 t → i ≡ place t b → ⊥
  elsewhere b h e = outside (ap (λ (j : ℕ). member (j / 256) t) e ∙ place_inside t b h)

  -- Bytes written into a packet leave the byte at i, and may be written before or after it.
  pub put_outside : (bytes : List ℕ) (b : ℕ) (memory : List ℕ) → Within b (length bytes) t → get_or (put_bytes bytes b t memory) i 0 ≡ get_or memory i 0
  unfolding put_bytes
  put_outside [] b memory h = refl
  put_outside (x ∷ xs) b memory h =
      put_outside xs (suc b) (set memory (place t b) x) (omega arith) ∙ get_or-set_other memory (place t b) i x 0 (elsewhere b (omega arith))

  put_set : (y : ℕ) (bytes : List ℕ) (b : ℕ) (memory : List ℕ) → Within b (length bytes) t → put_bytes bytes b t (set memory i y) ≡ set (put_bytes bytes b t memory) i y
  unfolding put_bytes
  put_set y [] b memory h = refl
  put_set y (x ∷ xs) b memory h =
      ap (put_bytes xs (suc b) t) (set_comm memory i (place t b) y x (elsewhere b (omega arith))) ∙ put_set y xs (suc b) (set memory (place t b) x) (omega arith)

module _ (s t : List ℕ) (apart : Apart s t) where
  outside : (a : ℕ) → Within a 1 s → Outside (place s a) t
  outside a h m = apart (place s a / 256) (place_inside s a h) m

  pub get_after_put : (w a : ℕ) → Within a w s → (bytes : List ℕ) (b : ℕ) (memory : List ℕ) → Within b (length bytes) t
      → get_bytes w a s (put_bytes bytes b t memory) ≡ get_bytes w a s memory
  unfolding get_bytes
  get_after_put zero a h bytes b memory k = refl
  get_after_put (suc w) a h bytes b memory k =
      rw (put_outside t (place s a) (outside a (omega arith)) bytes b memory k, get_after_put w (suc a) (omega arith) bytes b memory k)

  pub put_either_order : (bytes : List ℕ) (a : ℕ) → Within a (length bytes) s → (others : List ℕ) (b : ℕ) (memory : List ℕ) → Within b (length others) t
      → put_bytes others b t (put_bytes bytes a s memory) ≡ put_bytes bytes a s (put_bytes others b t memory)
  unfolding put_bytes
  put_either_order [] a h others b memory k = refl
  put_either_order (x ∷ xs) a h others b memory k =
      put_either_order xs (suc a) (omega arith) others b (set memory (place s a) x) k
      ∙ ap (put_bytes xs (suc a) s) (put_set t (place s a) (outside a (omega arith)) x others b memory k)
