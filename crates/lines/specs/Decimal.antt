-- The rules' decimal digits in a shape that code can follow: the last one, two or four digits, and what stands before them.
use Rattle.std.specs.Prelude.{◌≡◌, refl, List, [], ◌∷◌, ◌++◌, ℕ, zero, suc, ◌+◌, ◌*◌, ◌/◌, ◌%◌, ◌^◌, ◌≤◌, ◌<◌, length}
use Rattle.std.proofs.Common.{ap, ap₂, sym, ◌∙◌, append_assoc, pow-suc, arith, lt-ltb, le-ltb, length-append}
use Rattle.std.proofs.Math.Decide.{dec_le}
use Rattle.rules.specs.Bench.{decimal_in, decimal}
use Rattle.lists.specs.Each.{Each}

-- a number below 100 as two digits, and one below 10,000 as four
abbrev pub digits2 : ℕ → List ℕ
digits2 x = (0x30 + x / 10) ∷ (0x30 + x % 10) ∷ []

abbrev pub digits4 : ℕ → List ℕ
digits4 x = digits2 (x / 100) ++ digits2 (x % 100)

-- One digit, and a last digit behind the others.
in_small : (n x : ℕ) → x < 10 → decimal_in (suc n) x ≡ (0x30 + x) ∷ []
unfolding decimal_in
in_small n x h = rw (lt-ltb x 10 h, decimal_in)

in_large : (n x : ℕ) → 10 ≤ x → decimal_in (suc n) x ≡ decimal_in n (x / 10) ++ ((0x30 + x % 10) ∷ [])
unfolding decimal_in
in_large n x h = rw (le-ltb x 10 h, decimal_in)

-- The bound on the number of digits does not matter once it is large enough.
bound : (n m x : ℕ) → x < n → x < m → decimal_in n x ≡ decimal_in m x
bound zero m x h k = absurd (omega arith)
bound (suc n) zero x h k = absurd (omega arith)
bound (suc n) (suc m) x h k = go (bound n m (x / 10)) (dec_le 10 x)
  where
    go : (x / 10 < n → x / 10 < m → decimal_in n (x / 10) ≡ decimal_in m (x / 10)) → Dec (10 ≤ x) → decimal_in (suc n) x ≡ decimal_in (suc m) x
    go f (yes l) =
        in_large n x l
        ∙ ap (λ (d : List ℕ). d ++ ((0x30 + x % 10) ∷ [])) (f (omega arith) (omega arith))
        ∙ sym (in_large m x l)
    go f (no l) = in_small n x (omega arith) ∙ sym (in_small m x (omega arith))

pub decimal_one : (x : ℕ) → x < 10 → decimal x ≡ (0x30 + x) ∷ []
decimal_one x h = in_small x x h

pub decimal_last : (x : ℕ) → 10 ≤ x → decimal x ≡ decimal (x / 10) ++ ((0x30 + x % 10) ∷ [])
decimal_last x h =
    in_large x x h ∙ ap (λ (d : List ℕ). d ++ ((0x30 + x % 10) ∷ [])) (bound x (suc (x / 10)) (x / 10) (omega arith) (omega arith))

pub decimal_two : (x : ℕ) → 10 ≤ x → x < 100 → decimal x ≡ digits2 x
decimal_two x h k = decimal_last x h ∙ ap (λ (d : List ℕ). d ++ ((0x30 + x % 10) ∷ [])) (decimal_one (x / 10) (omega arith))

-- The last two digits and the last four, behind the others.
pub decimal_hundred : (x : ℕ) → 100 ≤ x → decimal x ≡ decimal (x / 100) ++ digits2 (x % 100)
decimal_hundred x h =
    let a : x / 10 / 10 ≡ x / 100 = omega arith in
    let b : x / 10 % 10 ≡ x % 100 / 10 = omega arith in
    let c : x % 10 ≡ x % 100 % 10 = omega arith in
    decimal_last x (omega arith)
    ∙ ap (λ (d : List ℕ). d ++ ((0x30 + x % 10) ∷ [])) (decimal_last (x / 10) (omega arith))
    ∙ append_assoc (decimal (x / 10 / 10)) ((0x30 + x / 10 % 10) ∷ []) ((0x30 + x % 10) ∷ [])
    ∙ ap₂ (λ (p q : ℕ). decimal p ++ ((0x30 + q) ∷ (0x30 + x % 10) ∷ [])) a b
    ∙ ap (λ (q : ℕ). decimal (x / 100) ++ ((0x30 + x % 100 / 10) ∷ (0x30 + q) ∷ [])) c

pub decimal_myriad : (x : ℕ) → 10000 ≤ x → decimal x ≡ decimal (x / 10000) ++ digits4 (x % 10000)
decimal_myriad x h =
    let a : x / 100 / 100 ≡ x / 10000 = omega arith in
    let b : x / 100 % 100 ≡ x % 10000 / 100 = omega arith in
    let c : x % 100 ≡ x % 10000 % 100 = omega arith in
    decimal_hundred x (omega arith)
    ∙ ap (λ (d : List ℕ). d ++ digits2 (x % 100)) (decimal_hundred (x / 100) (omega arith))
    ∙ append_assoc (decimal (x / 100 / 100)) (digits2 (x / 100 % 100)) (digits2 (x % 100))
    ∙ ap₂ (λ (p q : ℕ). decimal p ++ (digits2 q ++ digits2 (x % 100))) a b
    ∙ ap (λ (q : ℕ). decimal (x / 10000) ++ (digits2 (x % 10000 / 100) ++ digits2 q)) c

pub length_myriad : (x : ℕ) → 10000 ≤ x → length (decimal x) ≡ length (decimal (x / 10000)) + 4
length_myriad x h = ap length (decimal_myriad x h) ∙ length-append (decimal (x / 10000)) (digits4 (x % 10000))

-- A number below 10,000 that has three digits, or four.
pub decimal_three : (x : ℕ) → 100 ≤ x → x < 1000 → decimal x ≡ ((0x30 + x / 100) ∷ []) ++ digits2 (x % 100)
decimal_three x h k = decimal_hundred x h ∙ ap (λ (d : List ℕ). d ++ digits2 (x % 100)) (decimal_one (x / 100) (omega arith))

pub decimal_four : (x : ℕ) → 1000 ≤ x → x < 10000 → decimal x ≡ digits4 x
decimal_four x h k = decimal_hundred x (omega arith) ∙ ap (λ (d : List ℕ). d ++ digits2 (x % 100)) (decimal_two (x / 100) (omega arith) (omega arith))

-- A number below the power of ten has no more digits than that.
pub decimal_length : (k x : ℕ) → x < 10 ^ suc k → length (decimal x) ≤ suc k
decimal_length zero x h = omega (arith, ap length (decimal_one x (omega arith)))
decimal_length (suc k) x h = go (decimal_length k (x / 10)) (dec_le 10 x)
  where
    go : (x / 10 < 10 ^ suc k → length (decimal (x / 10)) ≤ suc k) → Dec (10 ≤ x) → length (decimal x) ≤ suc (suc k)
    go f (no l) = omega (arith, ap length (decimal_one x (omega arith)))
    go f (yes l) =
        let b : x < 10 ^ suc k * 10 = rw (pow-suc 10 (suc k)) at h in
        omega (arith, ap length (decimal_last x l), length-append (decimal (x / 10)) ((0x30 + x % 10) ∷ []), f (omega arith))

-- The digits that stand before others: none where nothing is left of the number.
unfoldable pub leading : ℕ → List ℕ
leading zero = []
leading (suc n) = decimal (suc n)

leading_some : (x : ℕ) → 0 < x → leading x ≡ decimal x
unfolding leading
leading_some zero h = absurd (omega arith)
leading_some (suc n) h = refl

-- So each number ends in its last digit.
pub decimal_ends : (x : ℕ) → decimal x ≡ leading (x / 10) ++ ((0x30 + x % 10) ∷ [])
unfolding leading
decimal_ends x = go (dec_le 10 x)
  where
    go : Dec (10 ≤ x) → decimal x ≡ leading (x / 10) ++ ((0x30 + x % 10) ∷ [])
    go (yes l) = decimal_last x l ∙ ap (λ (d : List ℕ). d ++ ((0x30 + x % 10) ∷ [])) (sym (leading_some (x / 10) (omega arith)))
    go (no l) =
        let none : x / 10 ≡ 0 = omega arith in
        let all : x % 10 ≡ x = omega arith in
        decimal_one x (omega arith) ∙ sym (rw (none, all))

pub leading_ends : (x : ℕ) → 0 < x → leading x ≡ leading (x / 10) ++ ((0x30 + x % 10) ∷ [])
leading_ends x h = leading_some x h ∙ decimal_ends x

-- Each digit is a byte.
abbrev pub Bytes : List ℕ → Type 0
Bytes l = Each (λ b. b < 256) l

bytes_append : (a b : List ℕ) → Bytes a → Bytes b → Bytes (a ++ b)
bytes_append [] b h k = k
bytes_append (x ∷ a) b h k = (h.0, bytes_append a b h.1 k)

in_bytes : (n x : ℕ) → Bytes (decimal_in n x)
unfolding decimal_in
in_bytes zero x = tt
in_bytes (suc n) x = go (in_bytes n (x / 10)) (dec_le 10 x)
  where
    go : Bytes (decimal_in n (x / 10)) → Dec (10 ≤ x) → Bytes (decimal_in (suc n) x)
    go f (yes l) = rw (in_large n x l) (bytes_append (decimal_in n (x / 10)) ((0x30 + x % 10) ∷ []) f (omega arith, tt))
    go f (no l) = rw (in_small n x (omega arith)) (omega arith, tt)

pub decimal_bytes : (x : ℕ) → Bytes (decimal x)
decimal_bytes x = in_bytes (suc x) x
