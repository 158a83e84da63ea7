-- Records served one after another: their lines are what the rules say the programs print.
use Rattle.std.specs.Prelude.{◌≡◌, refl, List, [], ◌∷◌, ◌++◌, ℕ, zero, suc, ◌+◌, ◌≤◌, ◌<◌, length, take, drop}
use Rattle.std.proofs.Common.{ap, sym, append-nil, arith, lt-ltb, le-ltb, drop_of_length-le, length-take-le, take_all}
use Rattle.std.proofs.Math.Decide.{dec_le}
use Rattle.rules.specs.Parts.{lan91c96}
use Rattle.rules.specs.Chip.{strips, powered}
use Rattle.rules.specs.Bench.{unknown, Bench, plain, answer, answer_to, event_of, printed, started_on, started, bench, strip_bench}
use Rattle.turns.specs.Served.{asked, asked_short, asked_whole, answered_unknown}

-- the input's records: eight bytes each, and what is left at its end (n bounds the records, of which there are no more than bytes)
unfoldable pub records_in : ℕ → List ℕ → List (List ℕ)
records_in zero input = []
records_in (suc n) [] = []
records_in (suc n) (x ∷ xs) = take 8 (x ∷ xs) ∷ records_in n (drop 8 (x ∷ xs))

-- the lines of these records, served one after another from the bench b on, of which the first has number k
unfoldable pub lines_of : ℕ → List (List ℕ) → Bench → List ℕ
lines_of k [] b = []
lines_of k (r ∷ rs) b = plain k (asked r) (answer_to k (asked r) b) ++ lines_of (k + 1) rs (answer_to k (asked r) b).after

none_left : (n : ℕ) → records_in n [] ≡ []
unfolding records_in
none_left zero = refl
none_left (suc n) = refl

-- One record more: what is printed for an input is the line of its first record, and what is printed for the rest on the bench after it.
prints : (n k : ℕ) (input : List ℕ) (b : Bench) → printed plain n k input b ≡ lines_of k (records_in n input) b
unfolding printed records_in lines_of
prints zero k input b = refl
prints (suc n) k [] b = refl
prints (suc n) k (x ∷ xs) b = go (prints n (k + 1) (drop 8 (x ∷ xs)) (answer_to k (event_of (take 8 (x ∷ xs))) b).after) (dec_le 8 (length (x ∷ xs)))
  where
    go : printed plain n (k + 1) (drop 8 (x ∷ xs)) (answer_to k (event_of (take 8 (x ∷ xs))) b).after ≡ lines_of (k + 1) (records_in n (drop 8 (x ∷ xs))) (answer_to k (event_of (take 8 (x ∷ xs))) b).after
        → Dec (8 ≤ length (x ∷ xs)) → printed plain (suc n) k (x ∷ xs) b ≡ lines_of k (records_in (suc n) (x ∷ xs)) b
    go ih (yes h) =
        let l = x ∷ xs in
        rw (le-ltb (length l) 8 h, asked_whole (take 8 l) (omega (arith, length-take-le 8 l h))) (ap (λ (t : List ℕ). plain k (event_of (take 8 l)) (answer_to k (event_of (take 8 l)) b) ++ t) ih)
    go ih (no h) =
        let l = x ∷ xs in
        let s : length l < 8 = omega arith in
        rw (lt-ltb (length l) 8 s, take_all 8 l (omega arith), drop_of_length-le l {i = 8} (omega arith), asked_short l s, answered_unknown k b, none_left n) (sym (append-nil (plain k unknown (answer unknown b))))

-- From power-up on, the lines of the input's records are the program's: the bench's, and that of the chip of strips.
pub bench_prints : (input : List ℕ) → bench input ≡ lines_of 1 (records_in (length input) input) started
bench_prints input = prints (length input) 1 input started

pub strip_bench_prints : (input : List ℕ) → strip_bench input ≡ lines_of 1 (records_in (length input) input) (started_on (powered strips lan91c96))
strip_bench_prints input = prints (length input) 1 input (started_on (powered strips lan91c96))
