-- The same of every history from power-up of the part with n packets: step by step, since what a step leaves is in order, of the same part, and converts again.
use Rattle.std.specs.Prelude.{◌≡◌, refl, true, false, ℕ, ◌+◌, ◌*◌, ◌-◌, ◌<◌, length, take, drop, replicate, Ok}
use Rattle.std.proofs.Math.Path.{ap}
use Rattle.std.proofs.Common.{ap₂, sym, subst, ◌∙◌, inl, inr, arith, take_at, drop_at}
use mathlib.Core.List.{List, [], ◌∷◌, ◌++◌, map}
use Rattle.std.proofs.lemmas.List.{length-replicate, replicate-append-replicate}
use Rattle.rules.specs.Bits.{flag, word_of, word_at}
use Rattle.rules.specs.Parts.{lan91c94, lan91c96, IsPart}
use Rattle.rules.specs.Chip.{paged, free_for, powered}
use Rattle.rules.specs.Fields.{set_pages, in_pool}
use Rattle.rules.specs.WellFormed.{FormedAt}
use Rattle.rules.specs.Step.{Input}
use Rattle.lists.specs.Each.{each_at}
use Rattle.wellformed.specs.Parts.{part_few}
use Rattle.wellformed.specs.Layouts.{free_total, none_total, none_lists}
use Rattle.wellformed.specs.Keeps.{powered_fits}
use Rattle.sets.specs.Members.{set_of}
use Rattle.state.specs.Entry.{Started, zeros}
use Rattle.sets.specs.declared.Page.{Page}
use Rattle.listed.specs.declared.Queue.{Queue}
use Rattle.listed.specs.Record.{page, packet, used, row_of, map_of, SoundQueue}
use Rattle.listed.specs.Lists.{map_padded}
use Rattle.listed.specs.Convert.{Listed, Lent, Converts, to_sets, to_lists, listed_chip, lent_chip, ListedInOrder, ListedTyped, LentInOrder, LentTyped}
use Rattle.listed.proofs.Convert.{sets_in_order, sets_typed, lists_back, converts_chip}
use Rattle.listed.specs.Same.{ListedLeft, LentLeft, listed_in, lent_in, ListedStep, LentStep, SameLeft}
use Rattle.listed.proofs.Same.{same_left, same_step}
use Rattle.listed.specs.History.{ListedRun, LentRun, SameRun, no_packets, listed_power_up, lent_with, lent_power_up, listed_start, lent_start, SameAlways}

pub same_run : {n : ℕ} (is : List Input) (x : ListedLeft) (y : LentLeft) → SameLeft n x y → (xs : List ListedLeft) (ys : List LentLeft) → ListedRun is x xs → LentRun is y ys → SameRun n x xs y ys
same_run [] x y s [] [] a b = record { all = tt; answers = refl; end = s }
same_run [] x y s [] (y' ∷ ys) a b = absurd b
same_run [] x y s (x' ∷ xs) ys a b = absurd a
same_run (i ∷ is) x y s [] ys a b = absurd a
same_run (i ∷ is) x y s (x' ∷ xs) [] a b = absurd b
same_run (i ∷ is) x y s (x' ∷ xs) (y' ∷ ys) a b =
    let before : LentInOrder (lent_in y) x.memory = subst (LentInOrder (lent_in y)) (sym s.memory) s.lent in
    let step : LentStep i (lent_in y) x.memory y' = subst (λ (m : List ℕ). LentStep i (lent_in y) m y') (sym s.memory) b.0 in
    let now = subst (λ (k : ℕ). SameLeft k x' y') s.packets (same_step i (listed_in x) (lent_in y) x.memory s.listed before s.converts x' y' a.0 step b.1) in
    let rest = same_run is x' y' now xs ys a.1 b.2 in
    record { all = (now, rest.all); answers = ap₂ ◌∷◌ now.answer rest.answers; end = rest.end }

module _ {n : ℕ} (part : IsPart n) where
  -- a row with no page
  abbrev none : List Page
  none = replicate 8 (page 255)

  all_empty : (listed_power_up n).pages ≡ replicate n none ++ replicate (24 - n) none
  all_empty = let e : 24 ≡ n + (24 - n) = omega (arith, part_few part) in ap (λ (k : ℕ). replicate k none) e ∙ sym (replicate-append-replicate n (24 - n) none)

  rows_empty : take n (listed_power_up n).pages ≡ replicate n none
  rows_empty = ap (take n) all_empty ∙ take_at (replicate n none) (replicate (24 - n) none) n (length-replicate n none)

  lists_empty : map used (take n (listed_power_up n).pages) ≡ replicate n []
  unfolding used
  lists_empty = ap (map used) rows_empty ∙ map_padded used [] n none

  pub listed_power_up_lem : listed_chip (listed_power_up n) (zeros paged n) ≡ powered paged n
  listed_power_up_lem = ap (λ (ls : List (List ℕ)). in_pool (set_pages ls) (powered paged n)) lists_empty

  listed_in_order : ListedInOrder (listed_power_up n) (zeros paged n)
  listed_in_order =
      let free : SoundQueue no_packets = record { fits = omega arith; same = refl } in
      record {
        ready = record {
          part = part;
          queues = record { rx = free; tx = free; done = free };
          map = rows_empty ∙ sym (map_padded row_of [] n []) ∙ ap map_of (sym lists_empty);
          rest = ap (drop n) all_empty ∙ drop_at (replicate n none) (replicate (24 - n) none) n (length-replicate n none);
          well = subst (FormedAt n) (sym listed_power_up_lem) (powered_fits paged n).0;
        };
        full = length-replicate {A = ℕ} (256 * n) 0;
      }

  listed_typed : ListedTyped (listed_power_up n)
  listed_typed =
      let byte : 0 < 256 = omega arith in
      let word : 0 < 65536 = omega arith in
      record {
        words = λ i. each_at (λ x. x < 65536) (replicate 7 0) i 0 (word, (word, (word, (word, (word, (word, (word, tt))))))) word;
        bytes = λ i. each_at (λ x. x < 256) (0 ∷ 0 ∷ 0 ∷ 0x80 ∷ 0 ∷ []) i 0 (byte, (byte, (byte, (omega arith, (byte, tt))))) byte;
        six = refl;
        station = λ i. each_at (λ x. x < 256) (replicate 6 0) i 0 (byte, (byte, (byte, (byte, (byte, (byte, tt)))))) byte;
        eight = refl;
        table = λ i. each_at (λ x. x < 256) (replicate 8 0) i 0 (byte, (byte, (byte, (byte, (byte, (byte, (byte, (byte, tt)))))))) byte;
      }

  -- every page is free
  all_free : length (free_for paged (replicate n [])) ≡ n
  all_free = omega (arith, free_total paged n (replicate n []) (none_lists paged n), none_total n)

  mir : word_of (length (map used (take n (listed_power_up n).pages))) (length (free_for paged (map used (take n (listed_power_up n).pages)))) ≡ word_of n n
  mir = ap (λ (ls : List (List ℕ)). word_of (length ls) (length (free_for paged ls))) lists_empty ∙ ap₂ word_of (length-replicate {A = List ℕ} n []) all_free

  sets_power_up : to_sets (listed_power_up n) ≡ lent_power_up n
  unfolding used set_of word_of word_at flag
  sets_power_up = ap lent_with mir

  pub converts_power_up : Converts (listed_power_up n) (lent_power_up n)
  converts_power_up = record { sets = sets_power_up; lists = ap to_lists (sym sets_power_up) ∙ lists_back (listed_power_up n) (zeros paged n) listed_typed listed_in_order }

  lent_whole : LentInOrder (lent_power_up n) (zeros paged n)
  lent_whole = subst (λ (y : Lent). LentInOrder y (zeros paged n)) sets_power_up (sets_in_order (listed_power_up n) (zeros paged n) listed_typed listed_in_order)

  same_power_up : listed_chip (listed_power_up n) (zeros paged n) ≡ lent_chip (lent_power_up n) (zeros paged n)
  same_power_up = converts_chip (listed_power_up n) (lent_power_up n) (zeros paged n) lent_whole converts_power_up

  -- and it is the one that power-up promises
  pub lent_power_up_lem : Started n (lent_start n).returned
  lent_power_up_lem = record { answer = refl; chip = sym same_power_up ∙ listed_power_up_lem; whole = lent_whole }

  pub same_start : SameLeft n (listed_start n) (lent_start n)
  same_start =
      let typed = subst LentTyped sets_power_up (sets_typed (listed_power_up n) (zeros paged n) listed_typed listed_in_order) in
      same_left (listed_start n) (lent_start n) refl refl refl listed_in_order lent_whole typed same_power_up

pub same_history : {n : ℕ} → IsPart n → SameAlways n
same_history {n} part is = same_run is (listed_start n) (lent_start n) (same_start part)

-- "each part only cites them" (document 02, W9)
pub same_of_lan91c96 : SameAlways lan91c96
same_of_lan91c96 = same_history (inr refl)

pub same_of_lan91c94 : SameAlways lan91c94
same_of_lan91c94 = same_history (inl refl)
