-- The bytes still to go.
use Rattle.std.proofs.Common.{◌≡◌, ℕ, zero, suc, ◌+◌, ◌*◌, ◌<◌, ◌≤◌, List, [], ◌∷◌, ◌++◌, length, take, drop, get_or, drop-cons, refl, ap, sym, ◌∙◌, arith}
use Rattle.std.proofs.lemmas.List.{drop-drop, take-append-drop}
use Rattle.std.proofs.Math.ListN.{drop_of_length-le}
use Rattle.std.specs.Simd.{first_chunks}
use Rattle.rules.specs.Crc.{crc_bits, crc_from}

-- none of them, one, and the four of a chunk
pub none_on : (k r : ℕ) (bytes : List ℕ) → length bytes ≤ k → crc_from r (drop k bytes) ≡ r
unfolding crc_from
none_on k r bytes h = rw (drop_of_length-le bytes {i = k} h) refl

pub byte_on : (k r t : ℕ) (bytes : List ℕ) → k < length bytes → t ≡ crc_bits 8 (get_or bytes k 0) r → crc_from t (drop (k + 1) bytes) ≡ crc_from r (drop k bytes)
unfolding crc_from
byte_on k r t bytes h e = let j : k + 1 ≡ suc k = omega arith in rw (e, j, drop-cons bytes k 0)

from_append : (xs ys : List ℕ) (r : ℕ) → crc_from r (xs ++ ys) ≡ crc_from (crc_from r xs) ys
unfolding crc_from
from_append [] ys r = refl
from_append (x ∷ xs) ys r = from_append xs ys (crc_bits 8 x r)

chunk_at : (n k i : ℕ) (xs : List ℕ) → i < k → get_or (first_chunks n k xs) i [] ≡ take n (drop (i * n) xs)
chunk_at n zero i xs h = absurd (omega arith)
chunk_at n (suc k) zero xs h = let e : 0 * n ≡ 0 = omega arith in rw e refl
chunk_at n (suc k) (suc i) xs h =
    let e : n + i * n ≡ suc i * n = omega arith in
    chunk_at n k i (drop n xs) (omega arith) ∙ ap (take n) (drop-drop (i * n) n xs ∙ ap (λ (j : ℕ). drop j xs) e)

pub chunk_on : (n k i r t : ℕ) (bytes : List ℕ) (chunks : List (List ℕ)) → chunks ≡ first_chunks n k bytes → i < k → t ≡ crc_from r (get_or chunks i []) → crc_from t (drop ((i + 1) * n) bytes) ≡ crc_from r (drop (i * n) bytes)
chunk_on n k i r t bytes chunks c h e =
    let rest = drop (i * n) bytes in
    let s : i * n + n ≡ (i + 1) * n = omega arith in
    let one : t ≡ crc_from r (take n rest) = e ∙ ap (λ (l : List (List ℕ)). crc_from r (get_or l i [])) c ∙ ap (crc_from r) (chunk_at n k i bytes h) in
    let more : drop ((i + 1) * n) bytes ≡ drop n rest = sym (drop-drop n (i * n) bytes ∙ ap (λ (j : ℕ). drop j bytes) s) in
    rw (one, more) (sym (from_append (take n rest) (drop n rest) r) ∙ ap (crc_from r) (take-append-drop n rest))

-- four of them, by their places
pub four_from : (r : ℕ) (four : List ℕ) → length four ≡ 4 → crc_from r four ≡ crc_bits 8 (get_or four 3 0) (crc_bits 8 (get_or four 2 0) (crc_bits 8 (get_or four 1 0) (crc_bits 8 (get_or four 0 0) r)))
unfolding crc_from
four_from r [] h = absurd (omega arith)
four_from r (a ∷ []) h = absurd (omega arith)
four_from r (a ∷ b ∷ []) h = absurd (omega arith)
four_from r (a ∷ b ∷ c ∷ []) h = absurd (omega arith)
four_from r (a ∷ b ∷ c ∷ d ∷ []) h = refl
four_from r (a ∷ b ∷ c ∷ d ∷ e ∷ l) h = absurd (omega arith)
