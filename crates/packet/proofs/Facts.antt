-- What the proofs of this crate, and of those above it, need of `Room`, of the pages that are left in a walk, and of the image of a frame.
use mathlib.Core.Path.{◌≡◌, refl, ap, ap₂, sym, subst, ◌∙◌}
use mathlib.Core.Bool.{true, false}
use mathlib.Core.List.{List, [], ◌∷◌, ◌++◌}
use Prim.Native.Nat.{ℕ, zero, suc, ◌+◌, ◌-◌, ◌*◌, ◌/◌, ◌%◌, ◌^◌, ◌≤◌, ◌<◌}
use native.Mathlib.Nat.{add-suc}
use native.Mathlib.Omega.{arith}
use lib.Count.{ones-le}
use lib.ListN.{length, take, drop, get_or, set, length-drop}
use lib.Seq.{get_or-drop, length-take-le}
use Rattle.rules.specs.Lists.{member}
use Rattle.std.proofs.lemmas.Bool.{eqb-false}
use Rattle.rules.specs.Bits.{bit, low_byte, high_byte, word_of}
use Rattle.rules.specs.Data.{value_of}
use Rattle.rules.specs.Packet.{place, get_bytes, put_bytes}
use Rattle.rules.specs.Receive.{Frame, count_of, trailer, frame_status, image}
use Rattle.bits.specs.Laws.{bit_zero}
use Rattle.lists.specs.Bytes.{Below, put_append, length_put, value_one, value_two}
use Rattle.lists.specs.Facts.{member_later}
use Rattle.sets.specs.Views.{pages_of}
use Rattle.sets.specs.Pages.{pages_count}
use Rattle.packet.specs.Room.{Room, InPage, image_of}

-- a set that stands for a page list has room in memory where the list has
pub room_of : (n end set : ℕ) (pages memory : List ℕ) → pages_of set ≡ pages → length memory ≡ 256 * n → Below n pages → end ≤ 256 * length pages → Room end set memory
room_of n end set pages memory e w b h = let m : length memory / 256 ≡ n = omega (arith, w) in record { below = rw (e, m) b; within = rw e h }

-- what is stored is the image of the rules
pub image_is : (f : Frame) (n : ℕ) → image f n ≡ image_of (frame_status f n) (count_of n) n f.bytes
unfolding image
image_is f n = refl

-- put in three parts
pub put_image : {headed stored after : List ℕ} (status count n : ℕ) (bytes pages m : List ℕ) → n ≤ length bytes
    → headed ≡ put_bytes (low_byte status ∷ high_byte status ∷ low_byte count ∷ high_byte count ∷ []) 0 pages m
    → stored ≡ put_bytes (take n bytes) 4 pages headed
    → after ≡ put_bytes (trailer n) (n + 4) pages stored
    → after ≡ put_bytes (image_of status count n bytes) 0 pages m
unfolding put_bytes
put_image {headed} status count n bytes pages m h e f g =
    g
    ∙ ap (put_bytes (trailer n) (n + 4) pages) f
    ∙ ap (λ (k : ℕ). put_bytes (trailer n) (k + 4) pages (put_bytes (take n bytes) 4 pages headed)) (sym (length-take-le n bytes h))
    ∙ sym (put_append (take n bytes) (trailer n) 4 pages headed)
    ∙ ap (put_bytes (take n bytes ++ trailer n) 4 pages) e

member_drop : (x k : ℕ) (l : List ℕ) → member x (drop k l) ≡ true → member x l ≡ true
member_drop x zero l m = m
member_drop x (suc k) [] m = m
member_drop x (suc k) (y ∷ ys) m = member_later x y ys (member_drop x k ys m)

-- the pages that are left from page k on
module _ (pages rest : List ℕ) (k : ℕ) (e : rest ≡ drop k pages) where
  pub rest_below : (n : ℕ) → Below n pages → Below n rest
  rest_below n b p m = b p (member_drop p k pages (ap (member p) (sym e) ∙ m))

  pub rest_length : length rest ≡ length pages - k
  rest_length = ap length e ∙ length-drop k pages

module _ {end : ℕ} {pages : ℕ} {memory : List ℕ} (h : Room end pages memory) where
  pub room_less : (e : ℕ) → e ≤ end → Room e pages memory
  room_less e k = record { below = h.below; within = omega (arith, h.within) }

  -- a place in the first page, with the rest of it
  pub room_place : (i a : ℕ) → InPage i (pages_of pages) a → i + (256 - a % 256) ≤ length memory
  room_place i a p = let r = p (length memory / 256) h.below in omega (arith, r)

  -- bytes that are put leave the room
  pub room_put : {after : List ℕ} (bytes l : List ℕ) (a : ℕ) → after ≡ put_bytes bytes a l memory → Room end pages after
  room_put bytes l a e = record { below = subst (λ (n : ℕ). Below (n / 256) (pages_of pages)) (sym (ap length e ∙ length_put bytes a l memory)) h.below; within = h.within }

  -- a packet has at most 32 pages
  pub room_small : pages < 2 ^ 32 → end ≤ 8192
  room_small k = omega (arith, h.within, pages_count pages k, ones-le 32 pages k)

  -- the pages that are left from the one of an address on
  pub room_rest : (rest a : ℕ) → pages_of rest ≡ drop (a / 256) (pages_of pages) → a < end → Room 1 rest memory
  room_rest rest a e k = record {
    below = rest_below (pages_of pages) (pages_of rest) (a / 256) e (length memory / 256) h.below;
    within = omega (arith, h.within, rest_length (pages_of pages) (pages_of rest) (a / 256) e);
  }

-- an even number, by its bit 0
pub even_end : (n : ℕ) → false ≡ bit 0 n → n % 2 ≡ 0
even_end n e = omega (arith, eqb-false (n % 2) 1 (sym (e ∙ bit_zero n)))

-- Addresses counted from the page k of the packet on.
place_on : (k a : ℕ) (pages : List ℕ) → place (drop k pages) a ≡ place pages (256 * k + a)
unfolding place
place_on k a pages =
    let e : (256 * k + a) / 256 ≡ k + a / 256 = omega arith in
    let f : (256 * k + a) % 256 ≡ a % 256 = omega arith in
    rw (get_or-drop k pages (a / 256) 0, e, f)

get_on_page : (n k a : ℕ) (pages m : List ℕ) → get_bytes n a (drop k pages) m ≡ get_bytes n (256 * k + a) pages m
unfolding get_bytes
get_on_page zero k a pages m = refl
get_on_page (suc n) k a pages m =
    ap₂ (λ (i : ℕ) (l : List ℕ). get_or m i 0 ∷ l) (place_on k a pages)
    (get_on_page n k (suc a) pages m ∙ ap (λ (i : ℕ). get_bytes n i pages m) (add-suc (256 * k) a))

put_on_page : (bytes : List ℕ) (k a : ℕ) (pages m : List ℕ) → put_bytes bytes a (drop k pages) m ≡ put_bytes bytes (256 * k + a) pages m
unfolding put_bytes
put_on_page [] k a pages m = refl
put_on_page (x ∷ xs) k a pages m =
    ap (λ (i : ℕ). put_bytes xs (suc a) (drop k pages) (set m i x)) (place_on k a pages)
    ∙ put_on_page xs k (suc a) pages (set m (place pages (256 * k + a)) x)
    ∙ ap (λ (i : ℕ). put_bytes xs i pages (set m (place pages (256 * k + a)) x)) (add-suc (256 * k) a)

-- So with the pages that are left from the one of an address on, the place within its page does.
module _ (a : ℕ) (rest pages : List ℕ) (e : rest ≡ drop (a / 256) pages) where
  whole_address : 256 * (a / 256) + a % 256 ≡ a
  whole_address = omega arith

  pub get_rest : (n : ℕ) (m : List ℕ) → get_bytes n (a % 256) rest m ≡ get_bytes n a pages m
  get_rest n m =
      ap (λ (l : List ℕ). get_bytes n (a % 256) l m) e
      ∙ get_on_page n (a / 256) (a % 256) pages m
      ∙ ap (λ (i : ℕ). get_bytes n i pages m) whole_address

  pub put_rest : (bytes m : List ℕ) → put_bytes bytes (a % 256) rest m ≡ put_bytes bytes a pages m
  put_rest bytes m =
      ap (λ (l : List ℕ). put_bytes bytes (a % 256) l m) e
      ∙ put_on_page bytes (a / 256) (a % 256) pages m
      ∙ ap (λ (i : ℕ). put_bytes bytes i pages m) whole_address

-- The value of a byte that lies at i, and of a word.
pub byte_at : (a i : ℕ) (pages m : List ℕ) → i ≡ place pages a → get_or m i 0 ≡ value_of (get_bytes 1 a pages m)
byte_at a i pages m e = ap (λ (j : ℕ). get_or m j 0) e ∙ sym (value_one a pages m)

pub word_of_lem : (a : ℕ) (pages m : List ℕ) → word_of (value_of (get_bytes 1 a pages m)) (value_of (get_bytes 1 (a + 1) pages m)) ≡ value_of (get_bytes 2 a pages m)
unfolding word_of
word_of_lem a pages m = sym (value_two a pages m)

-- The next address of the same page lies next in memory.
pub place_next : (a : ℕ) (pages : List ℕ) → (a % 256 ≡ 255 → ⊥) → place pages a + 1 ≡ place pages (a + 1)
unfolding place
place_next a pages h =
    let e : (a + 1) / 256 ≡ a / 256 = omega (arith, h) in
    let f : (a + 1) % 256 ≡ a % 256 + 1 = omega (arith, h) in
    rw (e, f) (omega arith)
