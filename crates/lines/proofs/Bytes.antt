-- Bytes as hex digits, and those that a send puts out.
use mathlib.Core.Path.{◌≡◌, refl, ap, sym, ◌∙◌}
use mathlib.Core.Bool.{Bool, true, false, cond, ◌&&◌}
use mathlib.Core.List.{List, [], ◌∷◌, ◌++◌, append_assoc, append-nil}
use Prim.Native.Nat.{ℕ, ◌+◌, ◌*◌, ◌/◌, ◌%◌, ◌≤◌, ◌<◌}
use native.Mathlib.Numerals.{add-one}
use native.Mathlib.Omega.{arith}
use borrow.Author.Tests.{lt-ltb, le-ltb, ne_eqb}
use lib.Dec.{eqb}
use lib.ListN.{length, take, drop, get_or, length-take, take-append-drop, drop_of_length-le}
use lib.Seq.{take-suc}
use Rattle.rules.specs.Answers.{Reply}
use Rattle.rules.specs.Bench.{hex_digit}
use Rattle.rules.specs.Watch.{hex_bytes, put_out}
use Rattle.lists.specs.Written.{Writes}

-- A digit is a figure, or a letter.
pub figure : (d : ℕ) → d < 10 → hex_digit d ≡ 0x30 + d
unfolding hex_digit
figure d h = rw (lt-ltb d 10 h)

pub letter : (d : ℕ) → 10 ≤ d → hex_digit d ≡ 0x57 + d
unfolding hex_digit
letter d h = rw (le-ltb d 10 h)

-- Two digits for each byte.
pub hex_length : (l : List ℕ) → length (hex_bytes l) ≡ 2 * length l
unfolding hex_bytes
hex_length [] = refl
hex_length (x ∷ xs) = omega (arith, hex_length xs)

hex_append : (l m : List ℕ) → hex_bytes (l ++ m) ≡ hex_bytes l ++ hex_bytes m
unfolding hex_bytes
hex_append [] m = refl
hex_append (x ∷ xs) m = ap (λ (t : List ℕ). hex_digit (x / 16 % 16) ∷ hex_digit (x % 16) ∷ t) (hex_append xs m)

pub hex_more : (l : List ℕ) (i : ℕ) → i < length l
    → hex_bytes (take (i + 1) l) ≡ hex_bytes (take i l) ++ (hex_digit (get_or l i 0 / 16 % 16) ∷ []) ++ (hex_digit (get_or l i 0 % 16) ∷ [])
unfolding hex_bytes
hex_more l i h =
    ap (λ (k : ℕ). hex_bytes (take k l)) (add-one i)
    ∙ ap hex_bytes (take-suc l i 0 h)
    ∙ hex_append (take i l) (get_or l i 0 ∷ [])
    ∙ sym (append_assoc (hex_bytes (take i l)) (hex_digit (get_or l i 0 / 16 % 16) ∷ []) (hex_digit (get_or l i 0 % 16) ∷ []))

-- Of what is no send, and of a send that is refused, nothing is shown; of one that is done the bytes put out.
pub no_send : {sent : Bool} (r : Reply) (out : List ℕ) → sent ≡ false → put_out sent r out ≡ []
unfolding put_out
no_send r out h = rw h

pub refused_send : (sent : Bool) (number value : ℕ) (out : List ℕ) → (number ≡ 0 → ⊥) → put_out sent (record { number = number; value = value }) out ≡ []
unfolding put_out
refused_send true number value out h = rw (ne_eqb number 0 h)
refused_send false number value out h = refl

pub done_send : {sent : Bool} {number : ℕ} (value : ℕ) (out : List ℕ) → sent ≡ true → number ≡ 0 → put_out sent (record { number = number; value = value }) out ≡ (0x20 ∷ []) ++ hex_bytes (take value out)
unfolding put_out
done_send value out h k = rw (h, k)

-- At most the whole buffer is shown.
pub sent_length : (sent : Bool) (r : Reply) (out : List ℕ) → length (put_out sent r out) ≤ 1 + 2 * length out
unfolding put_out
sent_length sent r out = go (sent && eqb r.number 0)
  where
    go : (t : Bool) → length (cond t (0x20 ∷ hex_bytes (take r.value out)) []) ≤ 1 + 2 * length out
    go true = omega (arith, hex_length (take r.value out), length-take r.value out)
    go false = omega arith

-- Of a list no more is taken than there is.
pub take_whole : (l : List ℕ) (n : ℕ) → length l ≤ n → take n l ≡ l
take_whole l n h = sym (append-nil (take n l)) ∙ ap (λ (d : List ℕ). take n l ++ d) (sym (drop_of_length-le l h)) ∙ take-append-drop n l

-- Nothing is written.
pub writes_none : (l : List ℕ) (i : ℕ) → Writes l i [] l i
writes_none l i =
    let e : i + 0 ≡ i = omega arith in
    record { buffer = sym (ap (λ (k : ℕ). take i l ++ drop k l) e ∙ take-append-drop i l); place = sym e }
