-- Records called one after another: from the bench at power-up on, what they print is what the program `bench` prints.
use Rattle.std.specs.Prelude.{◌≡◌, refl, List, [], ◌∷◌, ◌++◌, map, ℕ, zero, suc, ◌+◌, length, take, drop}
use Rattle.std.proofs.Common.{ap, ap₂, sym, ◌∙◌, arith, length-take, take_all}
use Rattle.rules.specs.Bench.{Bench, started, bench}
use Rattle.turns.specs.Printed.{records_in, lines_of, bench_prints}
use Rattle.skarvoya.specs.Records.{bench_of, ServesNext}

-- a run of calls: on a bench b, after so many records, these records print this text. What a call leaves is what the next one is lent; the buffer of the line may be another
pub data Runs : Bench → ℕ → List (List ℕ) → List ℕ → Type 0 where
  none : (b : Bench) (count : ℕ) → Runs b count [] []
  more : (bytes w s q mem wire : List ℕ) (have : ℕ) (out : List ℕ) (count : ℕ) (line : List ℕ) (n : ℕ) (w' s' q' mem' wire' : List ℕ) (have' : ℕ) (out' : List ℕ) (count' : ℕ) (line' : List ℕ) (end : ℕ) (rest : List (List ℕ)) (text : List ℕ)
      → ServesNext bytes w s q mem wire have out count line n w' s' q' mem' wire' have' out' count' line' end
      → Runs (bench_of w' s' q' mem' wire' have' out') count' rest text
      → Runs (bench_of w s q mem wire have out) count (bytes ∷ rest) (take end line' ++ text)

-- They print the rules' lines, one for each record: of its first eight bytes.
pub runs_print : {b : Bench} {count : ℕ} {records : List (List ℕ)} {text : List ℕ} → Runs b count records text → text ≡ lines_of (count + 1) (map (take 8) records) b
unfolding lines_of
runs_print (none b count) = refl
runs_print (more bytes w s q mem wire have out count line n w' s' q' mem' wire' have' out' count' line' end rest text x run) =
    ap₂ (λ (l m : List ℕ). l ++ m) x.serves.text
    (runs_print run ∙ ap (λ (k : ℕ). lines_of (k + 1) (map (take 8) rest) (bench_of w' s' q' mem' wire' have' out')) x.counted
    ∙ ap (lines_of (count + 1 + 1) (map (take 8) rest)) x.serves.turns.bench)

-- An input's records have eight bytes at most.
firsts : (n : ℕ) (input : List ℕ) → map (take 8) (records_in n input) ≡ records_in n input
unfolding records_in
firsts zero input = refl
firsts (suc n) [] = refl
firsts (suc n) (x ∷ xs) = ap₂ (λ (r : List ℕ) (rs : List (List ℕ)). r ∷ rs) (take_all 8 (take 8 (x ∷ xs)) (omega (arith, length-take 8 (x ∷ xs)))) (firsts n (drop 8 (x ∷ xs)))

-- So the lines of an input's records, called one after another, are those that the program prints for the input, of either part: the first record may ask for the other.
pub bench_runs : (input : List ℕ) {text : List ℕ} → Runs started 0 (records_in (length input) input) text → text ≡ bench input
bench_runs input run = runs_print run ∙ ap (λ (rs : List (List ℕ)). lines_of 1 rs started) (firsts (length input) input) ∙ sym (bench_prints input)
