-- A packet's data, page by page: the part of it from byte i on that lies in one page goes into that page, or comes out of it.
use Rattle.std.proofs.Common.{◌≡◌, ℕ, ◌+◌, ◌-◌, ◌/◌, ◌%◌, ◌<◌, ◌≤◌, List, ◌++◌, min, length, take, drop, ap, ap₂, sym, ◌∙◌, arith, length-take, length-drop}
use Rattle.std.proofs.lemmas.List.{drop-drop}
use Rattle.std.proofs.Math.Seq.{length-take-le}
use Rattle.rules.specs.Answers.{over}
use Rattle.rules.specs.Packet.{get_bytes, put_bytes}
use Rattle.lists.specs.Bytes.{get_on, put_on, length_get}
use Rattle.packet.proofs.Facts.{get_rest, put_rest}

-- the page after that of address a is that of address b
pub next_page : (a b : ℕ) (pages rest more : List ℕ) → b / 256 ≡ a / 256 + 1 → rest ≡ drop (a / 256) pages → more ≡ drop 1 rest → more ≡ drop (b / 256) pages
next_page a b pages rest more h e f =
    let k : a / 256 + 1 ≡ b / 256 = omega (arith, h) in
    f ∙ ap (drop 1) e ∙ drop-drop 1 (a / 256) pages ∙ ap (λ (n : ℕ). drop n pages) k

module _ (pages rest m : List ℕ) (i : ℕ) (e : rest ≡ drop ((i + 4) / 256) pages) where
  pub part_filled : (bytes left now new : List ℕ) (a k : ℕ) → a ≡ (i + 4) % 256 → i + k ≤ length bytes → left ≡ drop i bytes
      → now ≡ put_bytes (take i bytes) 4 pages m → new ≡ put_bytes (take k left) a rest now → new ≡ put_bytes (take (i + k) bytes) 4 pages m
  part_filled bytes left now new a k h l f d g =
      let part = take k (drop i bytes) in
      let n : k ≡ i + k - i = omega arith in
      g
      ∙ ap₂ (λ (x : List ℕ) (y : ℕ). put_bytes (take k x) y rest now) f h
      ∙ put_rest (i + 4) rest pages e part now
      ∙ ap₂ (λ (x : ℕ) (y : List ℕ). put_bytes (take x (drop i bytes)) (i + 4) pages y) n d
      ∙ put_on bytes pages m i (i + k) 4 (omega arith) l

  pub part_copied : (out now new : List ℕ) (a j : ℕ) → a ≡ (i + 4) % 256 → i ≤ j → j ≤ length out → length now ≡ length out
      → now ≡ over (get_bytes i 4 pages m) out → new ≡ get_bytes (length (take (j - i) (drop i now))) a rest m
      → take i now ++ (new ++ drop (j - i) (drop i now)) ≡ over (get_bytes j 4 pages m) out
  part_copied out now new a j h l k w d f =
      let n : length (take (j - i) (drop i now)) ≡ j - i = simp (length-take, length-drop) (omega (arith, w, k)) in
      ap (λ (y : List ℕ). take i now ++ (y ++ drop (j - i) (drop i now))) (f ∙ ap₂ (λ (x y : ℕ). get_bytes x y rest m) n h ∙ get_rest (i + 4) rest pages e (j - i) m)
      ∙ get_on pages m out now i j 4 l k d

-- The first page ends before byte 252, and a page that begins at byte `from` 256 bytes after it, or where the data ends.
pub first_copied : (pages m out new : List ℕ) (k n : ℕ) → k ≡ n → k ≤ length out → new ≡ get_bytes (length (take k out)) 4 pages m → new ++ drop k out ≡ over (get_bytes n 4 pages m) out
first_copied pages m out new k n e h f =
    let g : length (take k out) ≡ n = length-take-le k out h ∙ e in
    ap₂ (λ (l : List ℕ) (j : ℕ). l ++ drop j out) (f ∙ ap (λ (j : ℕ). get_bytes j 4 pages m) g) (e ∙ sym (length_get n 4 pages m))

pub page_copied : (pages rest m out now new : List ℕ) (from n len : ℕ) → from % 256 ≡ 252 → rest ≡ drop ((from + 4) / 256) pages → from < len → n ≡ min (len - from) 256 → len ≤ length out
    → length now ≡ length out → now ≡ over (get_bytes (min len from) 4 pages m) out → new ≡ get_bytes (length (take (from + n - from) (drop from now))) 0 rest m
    → take from now ++ (new ++ drop (from + n - from) (drop from now)) ≡ over (get_bytes (min len (from + 256)) 4 pages m) out
page_copied pages rest m out now new from n len h e l k f w d g =
    let i : min len from ≡ from = omega arith in
    let j : from + n ≡ min len (from + 256) = omega arith in
    part_copied pages rest m from e out now new 0 (from + n) (omega (arith, h)) (omega arith) (omega (arith, k)) w (d ∙ ap (λ (x : ℕ). over (get_bytes x 4 pages m) out) i) g
    ∙ ap (λ (x : ℕ). over (get_bytes x 4 pages m) out) j
