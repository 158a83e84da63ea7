-- Facts of a packet's bytes in memory, over any pages and any size of memory.
use Rattle.std.specs.Prelude.{◌≡◌, refl, Bool, true, false, cond, List, [], ◌∷◌, ◌++◌, ℕ, zero, suc, ◌+◌, ◌-◌, ◌*◌, ◌/◌, ◌%◌, ◌≤◌, ◌<◌, eqb, length, take, drop, get_or, set}
use Rattle.std.proofs.Common.{ap, sym, ◌∙◌, append-nil, append_assoc, add-one, arith, add-suc, suc-add, zero-add, div-one, length-append, length-set, length-take, length-drop, take-append-drop, drop_of_length-le, length-take-le, take-add, drop-cons, drop-drop}
use borrow.Author.Tests.{eq-eqb, ne_eqb}
use Rattle.std.proofs.lemmas.List.{drop-append-le}
use Rattle.std.proofs.Math.Seq.{drop-append-add, take-append_seam}
use Rattle.std.proofs.lemmas.List.Edits.{sets, sets-eq}
use Rattle.rules.specs.Lists.{member}
use Rattle.rules.specs.Packet.{place, get_bytes, put_bytes}
use Rattle.rules.specs.Answers.{over}
use Rattle.rules.specs.Bits.{bit, word_of, word_at}
use Rattle.rules.specs.Data.{value_of}
use Rattle.rules.specs.Receive.{count_of, trailer}
use Rattle.lists.specs.Facts.{member_at}

-- each page of the list is below n
abbrev pub Below : ℕ → List ℕ → Type 0
Below n l = (p : ℕ) → member p l ≡ true → p < n

pub below_at : (n : ℕ) (l : List ℕ) (k : ℕ) → Below n l → k < length l → get_or l k 0 < n
below_at n l k b h = b (get_or l k 0) (member_at l k h)

-- An address within the packet lies in memory, and so does the rest of its page.
pub place_room : (n : ℕ) (pages : List ℕ) (a : ℕ) → Below n pages → a < 256 * length pages → place pages a + (256 - a % 256) ≤ 256 * n
unfolding place
place_room n pages a b h = omega (arith, below_at n pages (a / 256) b (omega arith))

-- The next address of the same page lies next in memory.
place_next : (pages : List ℕ) (a : ℕ) → a % 256 + 1 < 256 → place pages (suc a) ≡ suc (place pages a)
unfolding place
place_next pages a h =
    let e : suc a / 256 ≡ a / 256 = omega arith in
    let f : suc a % 256 ≡ suc (a % 256) = omega arith in
    rw (e, f) (add-suc _ _)

-- Bytes that stay in one page lie in a row.
pub put_within : (pages bytes : List ℕ) (a : ℕ) (m : List ℕ) → a % 256 + length bytes ≤ 256 → put_bytes bytes a pages m ≡ sets m (place pages a) bytes
unfolding put_bytes
put_within pages [] a m h = refl
put_within pages (x ∷ []) a m h = refl
put_within pages (x ∷ y ∷ ys) a m h =
    put_within pages (y ∷ ys) (suc a) (set m (place pages a) x) (omega arith)
    ∙ ap (λ (i : ℕ). sets (set m (place pages a) x) i (y ∷ ys)) (place_next pages a (omega arith))

pub get_within : (n a : ℕ) (pages m : List ℕ) → a % 256 + n ≤ 256 → place pages a + n ≤ length m → get_bytes n a pages m ≡ take n (drop (place pages a) m)
unfolding get_bytes
get_within zero a pages m h k = refl
get_within (suc zero) a pages m h k = rw (drop-cons m (place pages a) 0 (omega arith))
get_within (suc (suc n)) a pages m h k =
    let e = place_next pages a (omega arith) in
    rw (drop-cons m (place pages a) 0 (omega arith))
    (ap (λ (l : List ℕ). get_or m (place pages a) 0 ∷ l)
    (get_within (suc n) (suc a) pages m (omega arith) (omega (arith, e)) ∙ ap (λ (i : ℕ). take (suc n) (drop i m)) e))

-- Bytes in two parts, the second from where the first ends.
pub put_append : (xs ys : List ℕ) (a : ℕ) (pages m : List ℕ) → put_bytes (xs ++ ys) a pages m ≡ put_bytes ys (length xs + a) pages (put_bytes xs a pages m)
unfolding put_bytes
put_append [] ys a pages m = rw zero-add
put_append (x ∷ xs) ys a pages m =
    rw suc-add
    (put_append xs ys (suc a) pages (set m (place pages a) x)
    ∙ ap (λ (i : ℕ). put_bytes ys i pages (put_bytes xs (suc a) pages (set m (place pages a) x))) (add-suc (length xs) a))

pub put_on : (bytes pages m : List ℕ) (i j a : ℕ) → i ≤ j → j ≤ length bytes
    → put_bytes (take (j - i) (drop i bytes)) (i + a) pages (put_bytes (take i bytes) a pages m) ≡ put_bytes (take j bytes) a pages m
put_on bytes pages m i j a h k =
    let e : j ≡ i + (j - i) = omega arith in
    let f : length (take i bytes) ≡ i = length-take-le i bytes (omega arith) in
    ap (λ (n : ℕ). put_bytes (take (j - i) (drop i bytes)) (n + a) pages (put_bytes (take i bytes) a pages m)) (sym f)
    ∙ sym (put_append (take i bytes) (take (j - i) (drop i bytes)) a pages m)
    ∙ ap (λ (l : List ℕ). put_bytes l a pages m) (sym (take-add i (j - i) bytes) ∙ ap (λ (n : ℕ). take n bytes) (sym e))

pub get_add : (n k a : ℕ) (pages m : List ℕ) → get_bytes (n + k) a pages m ≡ get_bytes n a pages m ++ get_bytes k (n + a) pages m
unfolding get_bytes
get_add zero k a pages m = simp zero-add
get_add (suc n) k a pages m =
    simp suc-add
    (ap (λ (l : List ℕ). get_or m (place pages a) 0 ∷ l)
    (get_add n k (suc a) pages m ∙ ap (λ (i : ℕ). get_bytes n (suc a) pages m ++ get_bytes k i pages m) (add-suc n a)))

pub length_get : (n a : ℕ) (pages m : List ℕ) → length (get_bytes n a pages m) ≡ n
unfolding get_bytes
length_get zero a pages m = refl
length_get (suc n) a pages m = ap suc (length_get n (suc a) pages m)

pub length_put : (bytes : List ℕ) (a : ℕ) (pages m : List ℕ) → length (put_bytes bytes a pages m) ≡ length m
unfolding put_bytes
length_put [] a pages m = refl
length_put (x ∷ xs) a pages m = length_put xs (suc a) pages (set m (place pages a) x) ∙ length-set m (place pages a) x

-- The value of one byte and of two.
pub value_one : (a : ℕ) (pages m : List ℕ) → value_of (get_bytes 1 a pages m) ≡ get_or m (place pages a) 0
unfolding value_of get_bytes word_of
value_one a pages m = omega arith

pub value_two : (a : ℕ) (pages m : List ℕ) → value_of (get_bytes 2 a pages m) ≡ value_of (get_bytes 1 a pages m) + value_of (get_bytes 1 (a + 1) pages m) * 256
unfolding value_of get_bytes word_of
value_two a pages m = rw add-one (omega arith)

-- the same, as a send speaks of them
pub value_first : (a : ℕ) (pages m : List ℕ) → value_of (get_bytes 1 a pages m) ≡ get_or (get_bytes 1 a pages m) 0 0
unfolding value_of get_bytes word_of
value_first a pages m = omega arith

pub value_word : (a : ℕ) (pages m : List ℕ) → value_of (get_bytes 2 a pages m) ≡ word_at 0 (get_bytes 2 a pages m)
unfolding value_of get_bytes word_of word_at
value_word a pages m = omega arith

-- A part from i on that is made anew, and one of k bytes that has its front written over: nothing else changes.
part_new : (m : List ℕ) (i : ℕ) (bytes : List ℕ) → i + length bytes ≤ length m → take i m ++ (bytes ++ drop (length bytes) (drop i m)) ≡ sets m i bytes
part_new m i bytes h = rw (drop-drop (length bytes) i m) (sym (append_assoc (take i m) bytes _) ∙ sym (sets-eq bytes m i h))

pub part_over : (m : List ℕ) (i k : ℕ) (bytes : List ℕ) → length bytes ≤ k → i + k ≤ length m
    → take i m ++ (over bytes (take k (drop i m)) ++ drop k (drop i m)) ≡ sets m i bytes
part_over m i k bytes h f =
    let n = length bytes in
    let g : n ≤ length (take k (drop i m)) = simp (length-take, length-drop) (omega arith) in
    ap (λ (l : List ℕ). take i m ++ l)
    (append_assoc bytes (drop n (take k (drop i m))) (drop k (drop i m))
    ∙ ap (λ (l : List ℕ). bytes ++ l) (sym (drop-append-le n (take k (drop i m)) (drop k (drop i m)) g) ∙ ap (drop n) (take-append-drop k (drop i m))))
    ∙ part_new m i bytes (omega arith)

-- So where the part is of the page in which a packet address lies, from there on, the bytes are put from that address on.
pub part_put : (pages bytes m : List ℕ) (a i k : ℕ) → i ≡ place pages a → a % 256 + length bytes ≤ 256 → length bytes ≤ k → i + k ≤ length m
    → take i m ++ (over bytes (take k (drop i m)) ++ drop k (drop i m)) ≡ put_bytes bytes a pages m
part_put pages bytes m a i k e h f g = part_over m i k bytes f g ∙ ap (λ (j : ℕ). sets m j bytes) e ∙ sym (put_within pages bytes a m h)

-- Bytes written on from where the front that was written over ends.
pub over_more : (front bytes buffer : List ℕ) → length front + length bytes ≤ length buffer → sets (over front buffer) (length front) bytes ≡ over (front ++ bytes) buffer
over_more front bytes buffer h =
    let n = length front in
    let k = length bytes in
    let f : n + k ≤ length (over front buffer) = simp (length-append, length-drop) (omega arith) in
    sets-eq bytes (over front buffer) n f
    ∙ rw (take-append_seam front (drop n buffer), drop-append-add front (drop n buffer) k, drop-drop k n buffer, length-append front bytes)

-- So where the part goes on from the packet's bytes before it, the front is that of all of them.
pub get_on : (pages m buffer out : List ℕ) (i j a : ℕ) → i ≤ j → j ≤ length buffer → out ≡ over (get_bytes i a pages m) buffer
    → take i out ++ (get_bytes (j - i) (i + a) pages m ++ drop (j - i) (drop i out)) ≡ over (get_bytes j a pages m) buffer
get_on pages m buffer out i j a h k e =
    let front = get_bytes i a pages m in
    let bytes = get_bytes (j - i) (i + a) pages m in
    let n = length_get i a pages m in
    let w = length_get (j - i) (i + a) pages m in
    let f : i + length bytes ≤ length (over front buffer) = simp (length-append, length-drop) (omega (arith, n, w)) in
    let g : i + (j - i) ≡ j = omega arith in
    rw e
    (ap (λ (x : ℕ). take i (over front buffer) ++ (bytes ++ drop x (drop i (over front buffer)))) (sym w)
    ∙ part_new (over front buffer) i bytes f
    ∙ ap (λ (x : ℕ). sets (over front buffer) x bytes) (sym n)
    ∙ over_more front bytes buffer (omega (arith, n, w))
    ∙ ap (λ (l : List ℕ). over l buffer) (sym (get_add i (j - i) a pages m) ∙ ap (λ (x : ℕ). get_bytes x a pages m) g))

pub length_over : (bytes buffer : List ℕ) → length bytes ≤ length buffer → length (over bytes buffer) ≡ length buffer
length_over bytes buffer h = simp (length-append, length-drop) (omega arith)

-- A buffer that is written over whole.
pub over_all : (bytes buffer : List ℕ) → length buffer ≤ length bytes → over bytes buffer ≡ bytes
over_all bytes buffer h = ap (λ (l : List ℕ). bytes ++ l) (drop_of_length-le buffer h) ∙ append-nil bytes

-- What follows a stored frame, and the byte count: by whether n is odd.
odd : (n : ℕ) → bit 0 n ≡ eqb (n % 2) 1
unfolding bit
odd n = ap (λ (k : ℕ). eqb (k % 2) 1) (div-one n)

module _ (n : ℕ) (h : n % 2 ≡ 1) where
  pub trailer_odd : trailer n ≡ 0x60 ∷ []
  unfolding trailer
  trailer_odd = rw (odd n, eq-eqb (n % 2) 1 h)

  pub count_odd : count_of n ≡ n + 5
  unfolding count_of
  count_odd = rw (odd n, eq-eqb (n % 2) 1 h)

module _ (n : ℕ) (h : n % 2 ≡ 1 → ⊥) where
  pub trailer_even : trailer n ≡ 0 ∷ 0x40 ∷ []
  unfolding trailer
  trailer_even = rw (odd n, ne_eqb (n % 2) 1 h)

  pub count_even : count_of n ≡ n + 6
  unfolding count_of
  count_even = rw (odd n, ne_eqb (n % 2) 1 h)

pub count_least : (n : ℕ) → n + 5 ≤ count_of n
unfolding count_of
count_least n = go (bit 0 n)
  where
    go : (b : Bool) → n + 5 ≤ cond b (n + 5) (n + 6)
    go true = omega arith
    go false = omega arith
