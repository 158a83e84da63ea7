-- A strip as the rules see it: eight pages that follow one another, of which the packet has the first m. So its bytes lie in a row, and byte a of packet k at 2048k + a.
use Rattle.std.specs.Prelude.{◌≡◌, Bool, true, false, cond, length, drop, set}
use Rattle.std.proofs.Math.Path.{refl, ap, ap₂, sym}
use Rattle.std.proofs.Common.{◌∙◌, add-suc, arith, length-append, length-take}
use mathlib.Core.List.{List, [], ◌∷◌, ◌++◌}
use Prim.Native.Nat.{ℕ, zero, suc, ◌+◌, ◌-◌, ◌*◌, ◌/◌, ◌≤◌, ◌<◌}
use Rattle.std.proofs.Math.ListN.{take, get_or}
use Rattle.std.proofs.Math.Seq.{sets, drop-cons}
use Rattle.rules.specs.Bits.{bit}
use Rattle.rules.specs.Lists.{up_from}
use Rattle.rules.specs.Packet.{place, get_bytes, put_bytes}
use Rattle.rules.specs.Receive.{count_of, trailer}
use Rattle.rules.specs.Send.{send_length, control_byte, on_wire, put_out}
use Rattle.lists.specs.UpFrom.{up_at}
use Rattle.packet.specs.Room.{image_of}

-- all pages of packet k's strip
abbrev pub strip_of : ℕ → List ℕ
strip_of k = up_from (8 * k) 8

-- memory has a strip for packet k, and its addresses below `end` are in it
pub record InStrip (end k : ℕ) (memory : List ℕ) : Type 0 where
  pub there : 2048 * k + 2048 ≤ length memory
  pub within : end ≤ 2048

-- With the first m pages, which is enough for the addresses below 256m.
module _ (k m : ℕ) where
  pub strip_place : (a : ℕ) → a < 256 * m → place (up_from (8 * k) m) a ≡ 2048 * k + a
  unfolding place
  strip_place a h = rw (up_at (8 * k) m (a / 256) (omega arith)) (omega arith)

  pub strip_put : (bytes : List ℕ) (a : ℕ) (memory : List ℕ) → a + length bytes ≤ 256 * m
      → put_bytes bytes a (up_from (8 * k) m) memory ≡ sets memory (2048 * k + a) bytes
  unfolding put_bytes
  strip_put [] a memory h = refl
  strip_put (x ∷ xs) a memory h =
      rw (strip_place a (omega arith))
      (strip_put xs (suc a) (set memory (2048 * k + a) x) (omega arith)
      ∙ ap (λ (i : ℕ). sets (set memory (2048 * k + a) x) i xs) (add-suc (2048 * k) a))

  pub strip_get : (n a : ℕ) (memory : List ℕ) → a + n ≤ 256 * m → 2048 * k + a + n ≤ length memory
      → get_bytes n a (up_from (8 * k) m) memory ≡ take n (drop (2048 * k + a) memory)
  unfolding get_bytes
  strip_get zero a memory h f = refl
  strip_get (suc n) a memory h f =
      rw (strip_place a (omega arith), drop-cons memory (2048 * k + a) 0 (omega arith))
      (ap (λ (l : List ℕ). get_or memory (2048 * k + a) 0 ∷ l)
      (strip_get n (suc a) memory (omega arith) (omega arith) ∙ ap (λ (i : ℕ). take n (drop i memory)) (add-suc (2048 * k) a)))

-- What a send and an arriving frame reach is below the byte count.
sent_below : (count last : ℕ) → 12 ≤ count → 4 + send_length count last ≤ count
unfolding send_length
sent_below count last h = go (bit 5 last)
  where
    go : (b : Bool) → 4 + cond b (count - 5) (count - 6) ≤ count
    go true = omega arith
    go false = omega arith

image_below : (status count n : ℕ) (bytes : List ℕ) → length (image_of status count n bytes) ≤ count_of n
unfolding trailer count_of
image_below status count n bytes = go (bit 0 n)
  where
    go : (b : Bool) → suc (suc (suc (suc (length (take n bytes ++ cond b (0x60 ∷ []) (0 ∷ 0x40 ∷ [])))))) ≤ cond b (n + 5) (n + 6)
    go true = simp (length-append, length-take) (omega arith)
    go false = simp (length-append, length-take) (omega arith)

-- The contracts speak of the whole strip. With the m pages that the packet has, where they hold what is read or written, all is the same.
module _ (k m : ℕ) (few : m ≤ 8) where
  pub first_get : (n a : ℕ) (memory : List ℕ) → a + n ≤ 256 * m → get_bytes n a (strip_of k) memory ≡ get_bytes n a (up_from (8 * k) m) memory
  unfolding get_bytes
  first_get zero a memory h = refl
  first_get (suc n) a memory h =
      ap₂ (λ (i : ℕ) (l : List ℕ). get_or memory i 0 ∷ l) (strip_place k 8 a (omega arith) ∙ sym (strip_place k m a (omega arith))) (first_get n (suc a) memory (omega arith))

  pub first_put : (bytes : List ℕ) (a : ℕ) (memory : List ℕ) → a + length bytes ≤ 256 * m → put_bytes bytes a (strip_of k) memory ≡ put_bytes bytes a (up_from (8 * k) m) memory
  first_put bytes a memory h = strip_put k 8 bytes a memory (omega arith) ∙ sym (strip_put k m bytes a memory h)

  -- a frame that is stored, and the bytes that a send puts out
  pub first_image : (status count n : ℕ) (bytes memory : List ℕ) → count_of n ≤ 256 * m
      → put_bytes (image_of status count n bytes) 0 (strip_of k) memory ≡ put_bytes (image_of status count n bytes) 0 (up_from (8 * k) m) memory
  first_image status count n bytes memory h = first_put (image_of status count n bytes) 0 memory (omega (arith, image_below status count n bytes))

  pub first_out : (tcr count : ℕ) (memory : List ℕ) → 12 ≤ count → count ≤ 256 * m → put_out tcr count (strip_of k) memory ≡ put_out tcr count (up_from (8 * k) m) memory
  unfolding put_out control_byte
  first_out tcr count memory h f =
      let last = get_or (get_bytes 1 (count - 1) (up_from (8 * k) m) memory) 0 0 in
      rw (first_get 1 (count - 1) memory (omega arith)) (ap (on_wire tcr last) (first_get (send_length count last) 4 memory (omega (arith, sent_below count last h))))
