-- The page lists that the packets' numbers say: the pages of each set, or of each count the first pages of the packet's own eight.
use Rattle.std.specs.Prelude.{◌≡◌, refl, not, List, [], ◌∷◌, map, ℕ, zero, suc, ◌+◌, ◌*◌, eqb, length, get_or, set, replicate}
use Rattle.std.proofs.Common.{ap, sym, ◌∙◌, arith}
use Rattle.std.proofs.Math.Dec.{eqb-suc-zero}
use Rattle.rules.specs.Bits.{word_of}
use Rattle.rules.specs.Lists.{some?, free_below, total, up_from}
use Rattle.rules.specs.Chip.{Layout, paged, strips, free_for}
use Rattle.lists.specs.UpFrom.{length_up}
use Rattle.sets.specs.Views.{pages_of}
use Rattle.sets.specs.Pages.{some_pages}
use Rattle.sets.specs.Lists.{lists_length, list_at}
use Rattle.state.specs.View.{word, strips_from, lists_of}
use Rattle.state.specs.Promise.{Small, SetsIn}

-- one for each count
pub strips_length : (k : ℕ) (s : List ℕ) → length (strips_from k s) ≡ length s
strips_length k [] = refl
strips_length k (m ∷ ms) = ap suc (strips_length (suc k) ms)

-- In both layouts.
pub numbers_length : (l : Layout) (s : List ℕ) → length (lists_of l s) ≡ length s
numbers_length paged s = lists_length s
numbers_length strips s = strips_length 0 s

strips_from_lem : (k : ℕ) (s : List ℕ) (i : ℕ) → get_or (strips_from k s) i [] ≡ up_from (8 * (k + i)) (get_or s i 0)
unfolding up_from
strips_from_lem k [] i = refl
strips_from_lem k (m ∷ ms) zero = ap (λ (x : ℕ). up_from (8 * x) m) (omega arith)
strips_from_lem k (m ∷ ms) (suc i) = strips_from_lem (suc k) ms i ∙ ap (λ (x : ℕ). up_from (8 * x) (get_or ms i 0)) (omega arith)

-- the pages of packet i, and how many they are
pub strip_at : (s : List ℕ) (i : ℕ) → get_or (strips_from 0 s) i [] ≡ up_from (8 * i) (get_or s i 0)
strip_at s i = strips_from_lem 0 s i ∙ ap (λ (x : ℕ). up_from (8 * x) (get_or s i 0)) (omega arith)

pub strip_count : (s : List ℕ) (i : ℕ) → length (get_or (strips_from 0 s) i []) ≡ get_or s i 0
strip_count s i = ap length (strip_at s i) ∙ length_up (8 * i) (get_or s i 0)

-- another count for packet i
strips_set_from : (k : ℕ) (s : List ℕ) (i m : ℕ) → strips_from k (set s i m) ≡ set (strips_from k s) i (up_from (8 * (k + i)) m)
strips_set_from k [] i m = refl
strips_set_from k (x ∷ xs) zero m = ap (λ (y : ℕ). up_from (8 * y) m ∷ strips_from (suc k) xs) (omega arith)
strips_set_from k (x ∷ xs) (suc i) m =
    ap (λ (ls : List (List ℕ)). up_from (8 * k) x ∷ ls)
    (strips_set_from (suc k) xs i m ∙ ap (λ (y : ℕ). set (strips_from (suc k) xs) i (up_from (8 * y) m)) (omega arith))

pub strips_set : (s : List ℕ) (i m : ℕ) → strips_from 0 (set s i m) ≡ set (strips_from 0 s) i (up_from (8 * i) m)
strips_set s i m = strips_set_from 0 s i m ∙ ap (λ (y : ℕ). set (strips_from 0 s) i (up_from (8 * y) m)) (omega arith)

-- A packet has pages where its count is not 0.
pub some_strip : (x m : ℕ) → some? (up_from x m) ≡ not (eqb m 0)
unfolding some? up_from
some_strip x zero = refl
some_strip x (suc m) = rw (eqb-suc-zero m) refl

-- no packet has pages
pub strips_none : (k n : ℕ) → strips_from k (replicate n 0) ≡ replicate n []
unfolding up_from
strips_none k zero = refl
strips_none k (suc n) = ap (λ (ls : List (List ℕ)). [] ∷ ls) (strips_none (suc k) n)

-- Both say that a packet has no pages by 0.
pub says_none : (s : List ℕ) → Small s → (k : ℕ) → some? (get_or (map pages_of s) k []) ≡ some? (get_or (strips_from 0 s) k [])
says_none s small k =
    ap some? (list_at s k) ∙ some_pages (get_or s k 0) (small k) ∙ sym (ap some? (strip_at s k) ∙ some_strip (8 * k) (get_or s k 0))

-- how many pages the counts say in all
abbrev pub sum : List ℕ → ℕ
sum [] = 0
sum (m ∷ ms) = m + sum ms

pub strips_total : (k : ℕ) (s : List ℕ) → total (strips_from k s) ≡ sum s
unfolding total
strips_total k [] = refl
strips_total k (m ∷ ms) = omega (arith, length_up (8 * k) m, strips_total (suc k) ms)

-- Of page sets the free pages are those that no set has, of as many pages as there are packets.
pub free_sets : (s : List ℕ) → free_for paged (map pages_of s) ≡ free_below (length s) (map pages_of s)
free_sets s = ap (λ (n : ℕ). free_below n (map pages_of s)) (lists_length s)

pub sets_free : {c s : List ℕ} → SetsIn c s → word c 3 ≡ word_of (length s) (length (free_below (length s) (map pages_of s)))
sets_free {s = s} h = h.free ∙ ap (λ (l : List ℕ). word_of (length s) (length l)) (free_sets s)
