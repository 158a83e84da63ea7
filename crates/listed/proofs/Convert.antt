-- From the record of page lists to the lent state and back, field by field, of either part. Each way takes a record in order to one in order that stands
-- for the same chip; and a record of either form is known from its chip. So the two are inverse to each other, and records of the same chip convert into each other.
use Rattle.std.specs.Prelude.{◌≡◌, List, [], ◌++◌, map, ℕ, ◌*◌, ◌-◌, ◌/◌, ◌%◌, ◌≤◌, length, take, drop, replicate}
use Rattle.std.proofs.Common.{ap, ap₂, sym, subst, ◌∙◌, arith, take_at, drop_at}
use Rattle.std.proofs.lemmas.List.{length-map}
use Rattle.rules.specs.Bits.{bit, word_of}
use Rattle.rules.specs.Parts.{IsPart}
use Rattle.rules.specs.Chip.{paged, Chip, Pool, free_for}
use Rattle.rules.specs.WellFormed.{FormedAt}
use Rattle.wellformed.specs.Parts.{part_few}
use Rattle.sets.specs.Views as sets
use Rattle.sets.specs.Members.{set_of}
use Rattle.sets.specs.Lists.{lists_length}
use Rattle.queues.specs.Parts.{slots, part_long}
use Rattle.state.specs.declared.Registers as declared
use Rattle.state.specs.declared.Pages.{Pages}
use Rattle.state.specs.declared.Queues.{Queues}
use Rattle.state.specs.View as lent
use Rattle.state.specs.View.{word, bytes}
use Rattle.state.specs.Entry as state
use Rattle.state.specs.Entry.{size_in, record_view, WholeBy}
use Rattle.state.specs.Places.{places_told, names_part, record_cut, whole_back, view_back}
use Rattle.state.specs.Only.{words_of}
use Rattle.state.proofs.Only as only
use Rattle.sets.specs.declared.Page.{Page}
use Rattle.listed.specs.declared.Registers.{Registers}
use Rattle.listed.specs.Record.{used, row_of, map_of, registers_of, of_part, pool_of, view, rows_cut, one_record}
use Rattle.listed.specs.Promise.{InOrder}
use Rattle.listed.specs.Lists.{lists_sets, lists_rows, lists_small, rows_padded, sets_padded}
use Rattle.listed.specs.Words.{Words, Typed, registers_back, words_kept, words_typed, typed_words}
use Rattle.listed.specs.Fifos.{bytes_of, queue_from, entries_from, sound_from, all_queues, all_rx, all_tx, all_completion}
use Rattle.listed.specs.Convert.{Listed, Lent, to_sets, to_lists, Converts, listed_chip, lent_chip, ListedInOrder, LentInOrder, ListedTyped, LentTyped}

-- To sets: the same chip, in order. What a step is lent is made of the part's rows alone.
module _ (x : Listed) (mem : List ℕ) (t : ListedTyped x) (o : ListedInOrder x mem) where
  abbrev r : Registers
  r = x.registers

  abbrev pool : Pool
  pool = pool_of r x.pages

  abbrev words : List ℕ
  words = (to_sets x).registers.words

  abbrev places : List ℕ
  places = map set_of pool.pages

  few : r.packets ≤ 32
  few = omega (arith, part_few o.ready.part)

  long : length places ≡ r.packets
  long = length-map pool.pages set_of ∙ o.ready.well.count

  back : map sets.pages_of places ≡ pool.pages
  back = lists_sets few pool.pages o.ready.well.pages

  part_chip : (m : List ℕ) → lent.view words places (to_sets x).queues.slots m ≡ listed_chip x m
  part_chip m = λ i. record {
    regs = registers_back (registers_of r) t pool i;
    pool = record {
      layout = paged;
      pages = back i;
      rx = all_rx r.rx r.tx r.done o.ready.queues i;
      tx = all_tx r.rx r.tx r.done o.ready.queues i;
      completion = all_completion r.rx r.tx r.done o.ready.queues i;
    };
    memory = m;
  }

  part_in_order : state.InOrder words places (to_sets x).queues.slots mem
  part_in_order = record {
    ready = record {
      sound = record {
        kept = words_kept (registers_of r) t pool o.ready.well.numbers.bank_small;
        queues = all_queues r.rx r.tx r.done o.ready.queues (registers_of r) pool.pages;
        sets = record {
          part = subst IsPart (sym long) o.ready.part;
          free = ap₂ (λ (n : ℕ) (ls : List (List ℕ)). word_of n (length (free_for paged ls))) (sym (length-map pool.pages set_of)) (sym back);
          small = lists_small few pool.pages o.ready.well.pages;
        };
      };
      well = subst (λ (n : ℕ). FormedAt n (lent.view words places (to_sets x).queues.slots [])) (sym long) (subst (FormedAt r.packets) (sym (part_chip [])) o.ready.well);
    };
    full = o.full ∙ ap (λ (n : ℕ). 256 * n) (sym long);
  }

  padded : (to_sets x).pages.sets ≡ places ++ replicate (24 - length places) 0
  padded =
      ap (λ (m : List (List Page)). map set_of (map used m)) (rows_cut o.ready) ∙ rows_padded (of_part r x.pages) (24 - r.packets)
      ∙ ap (λ (n : ℕ). places ++ replicate (24 - n) 0) (sym long)

  pub sets_chip : (m : List ℕ) → lent_chip (to_sets x) m ≡ listed_chip x m
  sets_chip m = view_back (to_sets x).pages.sets part_in_order.ready.sound padded ∙ part_chip m

  pub sets_in_order : LentInOrder (to_sets x) mem
  sets_in_order = whole_back (to_sets x).pages.sets part_in_order padded

  pub sets_typed : LentTyped (to_sets x)
  sets_typed = words_typed (registers_of r) t pool few o.ready.well

-- To lists: the same chip, in order.
module _ (y : Lent) (mem : List ℕ) (o : LentInOrder y mem) where
  abbrev w : List ℕ
  w = y.registers.words

  abbrev s : List ℕ
  s = y.pages.sets

  abbrev q : List ℕ
  q = y.queues.slots

  -- the rows of the part's packets, and as they stand in the record
  abbrev rows : List (List Page)
  rows = map_of (map sets.pages_of (state.of_part w s))

  rows_long : length rows ≡ size_in w
  rows_long = length-map (map sets.pages_of (state.of_part w s)) row_of ∙ lists_length (state.of_part w s) ∙ places_told o.holds

  rows_all : (to_lists y).pages ≡ rows ++ replicate (24 - size_in w) (row_of [])
  rows_all = ap (λ (l : List ℕ). map_of (map sets.pages_of l)) (record_cut o.holds) ∙ sets_padded (state.of_part w s) (24 - size_in w)

  rows_are : take (size_in w) (to_lists y).pages ≡ rows
  rows_are = ap (take (size_in w)) rows_all ∙ take_at rows (replicate (24 - size_in w) (row_of [])) (size_in w) rows_long

  well : FormedAt (size_in w) (lent_chip y [])
  well = subst (λ (n : ℕ). FormedAt n (lent_chip y [])) (places_told o.holds) o.holds.ready.well

  pages_are : map used (take (size_in w) (to_lists y).pages) ≡ map sets.pages_of (state.of_part w s)
  pages_are = ap (map used) rows_are ∙ lists_rows (omega (arith, part_few (names_part o.holds))) (map sets.pages_of (state.of_part w s)) well.pages

  pub lists_chip : (m : List ℕ) → listed_chip (to_lists y) m ≡ lent_chip y m
  lists_chip m = λ i. record {
    regs = lent.registers_in w;
    pool = record {
      layout = paged;
      pages = pages_are i;
      rx = entries_from (word w 6) (slots 0 q) i;
      tx = entries_from (word w 8) (slots 1 q) i;
      completion = entries_from (word w 9) (slots 2 q) i;
    };
    memory = m;
  }

  pub lists_in_order : ListedInOrder (to_lists y) mem
  lists_in_order =
      let queues = o.holds.ready.sound.queues in
      record {
        ready = record {
          part = names_part o.holds;
          queues = record {
            rx = sound_from (word w 6) (slots 0 q) (part_long 0 q queues.long (omega arith)) queues.rx;
            tx = sound_from (word w 8) (slots 1 q) (part_long 1 q queues.long (omega arith)) queues.tx;
            done = sound_from (word w 9) (slots 2 q) (part_long 2 q queues.long (omega arith)) queues.completion;
          };
          map = rows_are ∙ ap map_of (sym pages_are);
          rest = ap (drop (size_in w)) rows_all ∙ drop_at rows (replicate (24 - size_in w) (row_of [])) (size_in w) rows_long;
          well = subst (FormedAt (size_in w)) (sym (lists_chip [])) well;
        };
        full = o.full;
      }

-- Records in order of the same chip convert into each other.
listed_once : (x x' : Listed) (mem mem' : List ℕ) → ListedInOrder x mem → ListedInOrder x' mem' → listed_chip x mem ≡ listed_chip x' mem' → x ≡ x'
listed_once x x' mem mem' o p e = let s = one_record o.ready p.ready e in λ i. record { registers = s.0 i; pages = s.1 i }

lent_once : (y y' : Lent) (mem mem' : List ℕ) → LentInOrder y mem → LentInOrder y' mem' → lent_chip y mem ≡ lent_chip y' mem' → y ≡ y'
lent_once y y' mem mem' o p e =
    let s = only.one_record o.holds p.holds e in
    λ i. record { registers = record { words = s.0 i }; pages = record { sets = s.1 i }; queues = record { slots = s.2 i } }

pub same_chip : (x : Listed) (y : Lent) (mem mem' : List ℕ) → ListedInOrder x mem → LentInOrder y mem' → LentTyped y → listed_chip x mem ≡ lent_chip y mem' → Converts x y
same_chip x y mem mem' o p t e =
    let u : ListedTyped x = subst Typed (sym (ap (λ (c : Chip). c.regs) e)) (typed_words y.registers.words t) in
    record {
      sets = lent_once (to_sets x) y mem mem' (sets_in_order x mem u o) p (sets_chip x mem u o mem ∙ e);
      lists = listed_once (to_lists y) x mem' mem (lists_in_order y mem' p) o (lists_chip y mem' p mem' ∙ sym e);
    }

-- and those that convert into each other are of the same chip.
pub converts_chip : (x : Listed) (y : Lent) (mem : List ℕ) → LentInOrder y mem → Converts x y → listed_chip x mem ≡ lent_chip y mem
converts_chip x y mem o c = ap (λ (z : Listed). listed_chip z mem) (sym c.lists) ∙ lists_chip y mem o mem

-- The two ways are inverse to each other.
pub lists_back : (x : Listed) (mem : List ℕ) → ListedTyped x → ListedInOrder x mem → to_lists (to_sets x) ≡ x
lists_back x mem t o = (same_chip x (to_sets x) mem mem o (sets_in_order x mem t o) (sets_typed x mem t o) (sym (sets_chip x mem t o mem))).lists

pub sets_back : (y : Lent) (mem : List ℕ) → LentTyped y → LentInOrder y mem → to_sets (to_lists y) ≡ y
sets_back y mem t o = (same_chip (to_lists y) y mem mem (lists_in_order y mem o) o t (lists_chip y mem o mem)).sets
