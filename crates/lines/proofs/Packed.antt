-- A number's digits, packed in a word.
use mathlib.Core.Path.{◌≡◌, refl, ap, sym, ◌∙◌}
use mathlib.Core.List.{List, [], ◌∷◌, ◌++◌, append_assoc}
use Prim.Native.Nat.{ℕ, zero, suc, ◌+◌, ◌*◌, ◌-◌, ◌/◌, ◌%◌, ◌^◌, ◌≤◌, ◌<◌}
use native.Mathlib.Nat.{pow-suc, pow-le-pow_right, div-div-eq-div-mul}
use native.Mathlib.Omega.{arith}
use native.Mathlib.Decide.{dec_le}
use borrow.Author.Tests.{lt-ltb, le-ltb}
use lib.ListN.{length, take, length-append}
use Rattle.rules.specs.Bench.{decimal}
use Rattle.lines.specs.Decimal.{leading, leading_ends, decimal_ends, decimal_length, Bytes, decimal_bytes}
use Rattle.lines.specs.Word.{packed, bytes4, bytes8}
use Rattle.lines.specs.Counting.{if_short, counter_of, Counts}
use Rattle.lines.specs.declared.count.Counter.{Counter}
use Rattle.lines.proofs.Hex.{above, below}

-- Bytes that are packed are below the power that their count says.
packed_below : (l : List ℕ) → Bytes l → packed l < 256 ^ length l
unfolding packed
packed_below [] h = omega arith
packed_below (x ∷ l) h = omega (arith, h.0, packed_below l h.1, pow-suc 256 (length l))

more : (m n : ℕ) → m ≤ n → 256 ^ m ≤ 256 ^ n
more m n h = pow-le-pow_right {n = 256} (omega arith) h

few : (l : List ℕ) (n : ℕ) → Bytes l → length l ≤ n → packed l < 256 ^ n
few l n h k = omega (arith, packed_below l h, more (length l) n k)

-- One more in the last of them is one more of what it stands for.
packed_grows : (a : List ℕ) (x : ℕ) → packed (a ++ (suc x ∷ [])) ≡ packed (a ++ (x ∷ [])) + 256 ^ length a
unfolding packed
packed_grows [] x = omega arith
packed_grows (y ∷ a) x = omega (arith, packed_grows a x, pow-suc 256 (length a))

-- They come out again as they were.
unfoldable bytes_in : ℕ → ℕ → List ℕ
bytes_in zero w = []
bytes_in (suc n) w = (w % 256) ∷ bytes_in n (w / 256)

unpacked_in : (n : ℕ) (l : List ℕ) → Bytes l → length l ≤ n → take (length l) (bytes_in n (packed l)) ≡ l
unfolding packed bytes_in
unpacked_in n [] h k = refl
unpacked_in zero (x ∷ l) h k = absurd (omega arith)
unpacked_in (suc n) (x ∷ l) h k = rw (below x (packed l) h.0, above x (packed l) h.0, unpacked_in n l h.1 (omega arith))

unpacked : (l : List ℕ) → Bytes l → length l ≤ 8 → take (length l) (bytes8 (packed l)) ≡ l
unfolding bytes8 bytes_in
unpacked l h k = ap (take (length l)) (sym (simp div-div-eq-div-mul)) ∙ unpacked_in 8 l h k

-- Eight bytes are four and four.
lowest : (x y h : ℕ) → x ≡ h * 256 + y → y % 256 ≡ x % 256
lowest x y h e = omega arith

pub halves : (x : ℕ) → bytes4 (x % 4294967296) ++ bytes4 (x / 4294967296) ≡ bytes8 x
unfolding bytes4 bytes8
halves x =
    let high = x / 4294967296 in
    let low = x % 4294967296 in
    let a = lowest x low (high * 16777216) (omega arith) in
    let b = lowest (x / 256) (low / 256) (high * 65536) (omega arith) in
    let c = lowest (x / 65536) (low / 65536) (high * 256) (omega arith) in
    let d = lowest (x / 16777216) (low / 16777216) high (omega arith) in
    rw (a, b, c, d) (simp div-div-eq-div-mul)

-- The digits of a number packed so far, from the last one on, and the number x that stands before them.
pub record Packing (number x text unit size : ℕ) : Type 0 where
  pub digits : List ℕ
  pub whole : decimal number ≡ leading x ++ digits
  pub bytes : Bytes digits
  pub packs : text ≡ packed digits
  pub count : size ≡ length digits
  pub some : 1 ≤ size
  pub steps : unit ≡ 256 ^ (size - 1)

pub packing_starts : (number : ℕ) → Packing number (number / 10) (0x30 + number % 10) 1 1
unfolding packed
packing_starts number = record {
  digits = (0x30 + number % 10) ∷ [];
  whole = decimal_ends number;
  bytes = (omega arith, tt);
  packs = omega arith;
  count = refl;
  some = omega arith;
  steps = refl;
}

module _ {number x text unit size : ℕ} (p : Packing number x text unit size) (h : 0 < x) where
  pub packing_on : Packing number (x / 10) (text * 256 + 0x30 + x % 10) (unit * 256) (size + 1)
  unfolding packed
  packing_on =
      let n : size + 1 - 1 ≡ suc (size - 1) = omega (arith, p.some) in
      record {
        digits = (0x30 + x % 10) ∷ p.digits;
        whole = p.whole ∙ rw (leading_ends x h) (append_assoc (leading (x / 10)) ((0x30 + x % 10) ∷ []) p.digits);
        bytes = (omega arith, p.bytes);
        packs = omega (arith, p.packs);
        count = omega (arith, p.count);
        some = omega arith;
        steps = sym (ap (λ (k : ℕ). 256 ^ k) n ∙ pow-suc 256 (size - 1) ∙ ap (λ (k : ℕ). k * 256) (sym p.steps));
      }

  -- there is room for one more
  pub packing_short : number < 100000000 → size ≤ 7
  packing_short k = omega (
    arith,
    decimal_length 7 number k,
    ap length p.whole,
    length-append (leading x) p.digits,
    ap length (leading_ends x h),
    length-append (leading (x / 10)) ((0x30 + x % 10) ∷ []),
    p.count,
  )

  pub packing_text : number < 100000000 → text < 256 ^ 7
  packing_text k = omega (arith, p.packs, few p.digits 7 p.bytes (omega (arith, p.count, packing_short k)))

  pub packing_unit : number < 100000000 → unit ≤ 256 ^ 6
  packing_unit k = omega (arith, p.steps, more (size - 1) 6 (omega (arith, packing_short k)))

-- The digits of a number below a hundred million, as its counter has them.
pub record Digits (number text unit last size : ℕ) : Type 0 where
  pub short : number < 100000000
  pub packs : text ≡ packed (decimal number)
  pub count : size ≡ length (decimal number)
  pub ends : last ≡ number % 10
  pub steps : unit ≡ 256 ^ (size - 1)

pub packing_ends : {number x text unit size : ℕ} → Packing number x text unit size → x ≡ 0 → number < 100000000 → Digits number text unit (number % 10) size
unfolding leading
packing_ends {number} p e h =
    let all : decimal number ≡ p.digits = p.whole ∙ rw e in
    record { short = h; packs = p.packs ∙ ap packed (sym all); count = p.count ∙ ap length (sym all); ends = refl; steps = p.steps }

-- a counter from its parts
abbrev counter : ℕ → ℕ → ℕ → ℕ → ℕ → Counter
counter number text unit last size = record { number = number; text = text; unit = unit; last = last; length = size }

-- What is kept of a short number, and of a long one.
if_short_lem : (number x : ℕ) → number < 100000000 → if_short number x ≡ x
unfolding if_short
if_short_lem number x h = rw (lt-ltb number 100000000 h)

if_long : (number x : ℕ) → 100000000 ≤ number → if_short number x ≡ 0
unfolding if_short
if_long number x h = rw (le-ltb number 100000000 h)

module _ {number text unit last size : ℕ} (d : Digits number text unit last size) where
  -- There are at most eight.
  pub digits_few : size ≤ 8
  digits_few = omega (arith, d.count, decimal_length 7 number d.short)

  -- The digits as they stand in the text, which fits a word.
  pub digits_out : take size (bytes8 text) ≡ decimal number
  digits_out = rw (d.packs, d.count) (unpacked (decimal number) (decimal_bytes number) (omega (arith, digits_few, d.count)))

  pub digits_fit : text < 256 ^ 8
  digits_fit = omega (arith, d.packs, few (decimal number) 8 (decimal_bytes number) (omega (arith, digits_few, d.count)))

  -- The next number has the same digits but for the last one, unless that is a 9.
  pub digits_next : last < 9 → Digits (number + 1) (text + unit) unit (last + 1) size
  digits_next h =
      let front = leading (number / 10) in
      let k : number % 10 < 9 = omega (arith, d.ends) in
      let a : (number + 1) / 10 ≡ number / 10 = omega arith in
      let b : 0x30 + (number + 1) % 10 ≡ suc (0x30 + number % 10) = omega arith in
      let e : decimal (number + 1) ≡ front ++ (suc (0x30 + number % 10) ∷ []) = decimal_ends (number + 1) ∙ rw (a, b) in
      let m = length-append front ((0x30 + number % 10) ∷ []) in
      let n = length-append front (suc (0x30 + number % 10) ∷ []) in
      let u : unit ≡ 256 ^ length front = d.steps ∙ ap (λ (i : ℕ). 256 ^ i) (omega (arith, d.count, ap length (decimal_ends number), m)) in
      record {
        short = omega (arith, d.short, k);
        packs = omega (arith, d.packs, u, packed_grows front (0x30 + number % 10), ap packed e, ap packed (decimal_ends number));
        count = omega (arith, d.count, ap length e, ap length (decimal_ends number), m, n);
        ends = omega (arith, d.ends);
        steps = d.steps;
      }

  -- They make the counter of the number.
  pub digits_counted : counter number text unit last size ≡ counter_of number
  digits_counted =
      let kept : (x : ℕ) → x ≡ if_short number x = λ x. sym (if_short_lem number x d.short) in
      let place : unit ≡ 256 ^ (length (decimal number) - 1) = d.steps ∙ ap (λ (i : ℕ). 256 ^ (i - 1)) d.count in
      λ i. counter number ((d.packs ∙ kept _) i) ((place ∙ kept _) i) ((d.ends ∙ kept _) i) ((d.count ∙ kept _) i)

-- From a hundred million on there are none.
pub none_counted : (number : ℕ) → 100000000 ≤ number → counter number 0 0 0 0 ≡ counter_of number
none_counted number h =
    let none : (x : ℕ) → 0 ≡ if_short number x = λ x. sym (if_long number x h) in
    λ i. counter number (none (packed (decimal number)) i) (none (256 ^ (length (decimal number) - 1)) i) (none (number % 10) i) (none (length (decimal number)) i)

-- A counter that has digits has its number's.
pub has_digits : (c : Counter) → Counts c → 0 < c.length → Digits c.number c.text c.unit c.last c.length
has_digits c e h = go (dec_le 100000000 c.number)
  where
    of : {A : Type 0} (f : Counter → A) → f c ≡ f (counter_of c.number)
    of f = ap f e

    go : Dec (100000000 ≤ c.number) → Digits c.number c.text c.unit c.last c.length
    go (yes l) = absurd (omega (arith, h, of (λ x. x.length), if_long c.number (length (decimal c.number)) l))
    go (no l) =
        let short : c.number < 100000000 = omega (arith, l) in
        let count : c.length ≡ length (decimal c.number) = of (λ x. x.length) ∙ if_short_lem c.number _ short in
        record {
          short = short;
          packs = of (λ x. x.text) ∙ if_short_lem c.number _ short;
          count = count;
          ends = of (λ x. x.last) ∙ if_short_lem c.number _ short;
          steps = of (λ x. x.unit) ∙ if_short_lem c.number _ short ∙ ap (λ (i : ℕ). 256 ^ (i - 1)) (sym count);
        }
