-- The same of every history from power-up of the part with n packets: step by step, since what a step leaves is in order, of the same part, and converts again.
use Rattle.std.specs.Prelude.{◌≡◌, refl, true, false, ℕ, ◌+◌, ◌*◌, ◌-◌, ◌<◌, length, take, drop, replicate, Ok}
use Rattle.std.proofs.Math.Path.{ap}
use Rattle.std.proofs.Common.{ap₂, sym, subst, ◌∙◌, inl, inr, arith, take_at, drop_at}
use mathlib.Core.List.{List, [], ◌∷◌, ◌++◌, map}
use Rattle.std.proofs.lemmas.List.{length-replicate, replicate-append-replicate}
use Rattle.rules.specs.Bits.{flag, word_of, word_at}
use Rattle.rules.specs.Parts.{lan91c94, lan91c96, IsPart}
use Rattle.rules.specs.Chip.{paged, free_for, powered}
use Rattle.rules.specs.Fields.{set_pages, in_pool}
use Rattle.rules.specs.WellFormed.{FormedAt}
use Rattle.rules.specs.Step.{Input}
use Rattle.lists.specs.Each.{each_at}
use Rattle.wellformed.specs.Parts.{part_few}
use Rattle.wellformed.specs.Layouts.{free_total, none_total, none_lists}
use Rattle.wellformed.specs.Keeps.{powered_fits}
use Rattle.sets.specs.Members.{set_of}
use Rattle.state.specs.Entry.{Started, zeros}
use Rattle.sets.specs.declared.Page.{Page}
use Rattle.listed.specs.declared.Queue.{Queue}
use Rattle.listed.specs.Record.{page, packet, used, row_of, map_of, SoundQueue}
use Rattle.listed.specs.Lists.{map_padded}
use Rattle.listed.specs.Convert.{Listed, Lent, Converts, to_sets, to_lists, listed_chip, lent_chip, ListedInOrder, ListedTyped, LentInOrder, LentTyped}
use Rattle.listed.specs.Same.{ListedLeft, LentLeft, listed_in, lent_in, ListedStep, LentStep, SameLeft}

-- Runs: each step meets its promise on what the step before it left, as `run_of n` of the rules does.
abbrev pub ListedRun : List Input → ListedLeft → List ListedLeft → Type 0
ListedRun [] x [] = Unit {0}
ListedRun [] x (x' ∷ xs) = ⊥
ListedRun (i ∷ is) x [] = ⊥
ListedRun (i ∷ is) x (x' ∷ xs) = ListedStep i (listed_in x) x.memory x' × ListedRun is x' xs

-- (and the words that it returns are u16 numbers)
abbrev pub LentRun : List Input → LentLeft → List LentLeft → Type 0
LentRun [] y [] = Unit {0}
LentRun [] y (y' ∷ ys) = ⊥
LentRun (i ∷ is) y [] = ⊥
LentRun (i ∷ is) y (y' ∷ ys) = LentStep i (lent_in y) y.memory y' × LentTyped (lent_in y') × LentRun is y' ys

-- the same is left by every step
abbrev pub AllSame : ℕ → List ListedLeft → List LentLeft → Type 0
AllSame n [] [] = Unit {0}
AllSame n [] (y ∷ ys) = ⊥
AllSame n (x ∷ xs) [] = ⊥
AllSame n (x ∷ xs) (y ∷ ys) = SameLeft n x y × AllSame n xs ys

-- what the last step left, or the start where there is none
abbrev pub last : {A : Type 0} → A → List A → A
last x [] = x
last x (x' ∷ xs) = last x' xs

pub record SameRun (n : ℕ) (x : ListedLeft) (xs : List ListedLeft) (y : LentLeft) (ys : List LentLeft) : Type 0 where
  pub all : AllSame n xs ys
  pub answers : map (λ (z : ListedLeft). z.stepped.answer) xs ≡ map (λ (z : LentLeft). z.returned.answer) ys
  pub end : SameLeft n (last x xs) (last y ys)

-- Power-up of the part with n packets, in both forms.
abbrev pub no_packets : Queue
no_packets = record { count = 0; slots = replicate 24 (packet 0) }

abbrev pub listed_power_up : ℕ → Listed
listed_power_up n = record {
  registers = record {
    packets = n;
    tcr = 0;
    ephsr = 0;
    rcr = 0;
    ecr = 0;
    reserved = 0;
    station = replicate 6 0;
    control = 0;
    packet = 0;
    result = 0x80;
    waiting = 0;
    pointer = 0;
    mask = 0;
    table = replicate 8 0;
    bank = 0;
    txempty = true;
    overrun = false;
    up = false;
    changed = false;
    rx = no_packets;
    tx = no_packets;
    done = no_packets;
  };
  pages = replicate 24 (replicate 8 (page 255));
}

-- beside MIR
abbrev pub lent_with : ℕ → Lent
lent_with mir = record {
  registers = record {
    words =
        0 ∷ 0 ∷ 0 ∷ 0 ∷ mir ∷ 0x3300 ∷ 0 ∷ 0x3300 ∷ 0 ∷ 0 ∷ 0 ∷ 0 ∷ 0 ∷ 4 ∷ 0 ∷ 0 ∷ 0 ∷ 0x8000 ∷ 0 ∷ 0 ∷ 0 ∷ 0 ∷ 0 ∷ 0 ∷ 0 ∷ 0 ∷ 0 ∷ 0 ∷ 0 ∷ 0 ∷ 0 ∷ 0 ∷ [];
  };
  pages = record { sets = replicate 24 0 };
  queues = record { slots = replicate 72 0 };
}

-- which is document 01's 1818h, or "MIR 1212h after reset"
abbrev pub lent_power_up : ℕ → Lent
lent_power_up n = lent_with (word_of n n)

-- what power-up leaves: it is lent no output buffer
abbrev pub listed_start : ℕ → ListedLeft
listed_start n = record { stepped = record { answer = Ok 0; registers = (listed_power_up n).registers; pages = (listed_power_up n).pages }; memory = zeros paged n; output = [] }

abbrev pub lent_start : ℕ → LentLeft
lent_start n = record {
  returned = record { answer = Ok 0; registers = (lent_power_up n).registers; pages = (lent_power_up n).pages; queues = (lent_power_up n).queues };
  memory = zeros paged n;
  output = [];
}

-- Every history of the part with n packets: the same answers all along, and records that convert into each other after every step and at the end.
abbrev pub SameAlways : ℕ → Type 0
SameAlways n = (is : List Input) (xs : List ListedLeft) (ys : List LentLeft) → ListedRun is (listed_start n) xs → LentRun is (lent_start n) ys → SameRun n (listed_start n) xs (lent_start n) ys
