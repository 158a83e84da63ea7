-- From the record of page lists to the lent state and back, field by field, of either part. Each way takes a record in order to one in order that stands
-- for the same chip; and a record of either form is known from its chip. So the two are inverse to each other, and records of the same chip convert into each other.
use Rattle.std.specs.Prelude.{◌≡◌, List, [], ◌++◌, map, ℕ, ◌*◌, ◌-◌, ◌/◌, ◌%◌, ◌≤◌, length, take, drop, replicate}
use Rattle.std.proofs.Common.{ap, ap₂, sym, subst, ◌∙◌, arith, take_at, drop_at}
use Rattle.std.proofs.lemmas.List.{length-map}
use Rattle.rules.specs.Bits.{bit, word_of}
use Rattle.rules.specs.Parts.{IsPart}
use Rattle.rules.specs.Chip.{paged, Chip, Pool, free_for}
use Rattle.rules.specs.WellFormed.{FormedAt}
use Rattle.wellformed.specs.Parts.{part_few}
use Rattle.sets.specs.Views as sets
use Rattle.sets.specs.Members.{set_of}
use Rattle.sets.specs.Lists.{lists_length}
use Rattle.queues.specs.Parts.{slots, part_long}
use Rattle.state.specs.declared.Registers as declared
use Rattle.state.specs.declared.Pages.{Pages}
use Rattle.state.specs.declared.Queues.{Queues}
use Rattle.state.specs.View as lent
use Rattle.state.specs.View.{word, bytes}
use Rattle.state.specs.Entry as state
use Rattle.state.specs.Entry.{size_in, record_view, WholeBy}
use Rattle.state.specs.Places.{places_told, names_part, record_cut, whole_back, view_back}
use Rattle.state.specs.Only.{words_of}
use Rattle.state.specs.Only as only
use Rattle.sets.specs.declared.Page.{Page}
use Rattle.listed.specs.declared.Registers.{Registers}
use Rattle.listed.specs.Record.{used, row_of, map_of, registers_of, of_part, pool_of, view, rows_cut, one_record}
use Rattle.listed.specs.Promise.{InOrder}
use Rattle.listed.specs.Lists.{lists_sets, lists_rows, lists_small, rows_padded, sets_padded}
use Rattle.listed.specs.Words.{Words, Typed, registers_back, words_kept, words_typed, typed_words}
use Rattle.listed.specs.Fifos.{bytes_of, queue_from, entries_from, sound_from, all_queues, all_rx, all_tx, all_completion}

-- A record of page lists, and a lent state; both but for the memory.
pub record Listed : Type 0 where
  pub registers : Registers
  pub pages : List (List Page)

pub record Lent : Type 0 where
  pub registers : declared.Registers
  pub pages : Pages
  pub queues : Queues

-- To sets, the figures of the words are counted from the lists: with them MIR, whose low byte names the part.
abbrev pub to_sets : Listed → Lent
to_sets x =
    let r = x.registers in
    record {
      registers = record { words = words_of (registers_of r) (pool_of r x.pages) };
      pages = record { sets = map set_of (map used x.pages) };
      queues = record { slots = bytes_of r.rx ++ (bytes_of r.tx ++ bytes_of r.done) };
    }

abbrev pub to_lists : Lent → Listed
to_lists y =
    let w = y.registers.words in
    let q = y.queues.slots in
    record {
      registers = record {
        packets = size_in w;
        tcr = word w 0;
        ephsr = word w 1;
        rcr = word w 2;
        ecr = word w 3;
        reserved = word w 5 % 256;
        station = bytes (word w 10) (bytes (word w 11) (bytes (word w 12) []));
        control = word w 14;
        packet = word w 17 % 256;
        result = word w 17 / 256;
        waiting = word w 23;
        pointer = word w 19;
        mask = word w 22 / 256;
        table = bytes (word w 24) (bytes (word w 25) (bytes (word w 26) (bytes (word w 27) [])));
        bank = word w 7 % 256;
        txempty = bit 2 (word w 13);
        overrun = bit 4 (word w 13);
        up = bit 0 (word w 15);
        changed = bit 1 (word w 15);
        rx = queue_from (word w 6) (slots 0 q);
        tx = queue_from (word w 8) (slots 1 q);
        done = queue_from (word w 9) (slots 2 q);
      };
      pages = map_of (map sets.pages_of y.pages.sets);
    }

-- they convert into each other
pub record Converts (x : Listed) (y : Lent) : Type 0 where
  pub sets : to_sets x ≡ y
  pub lists : to_lists y ≡ x

-- The chip that a record stands for, and whether it is in order.
abbrev pub listed_chip : Listed → List ℕ → Chip
listed_chip x mem = view x.registers x.pages mem

abbrev pub lent_chip : Lent → List ℕ → Chip
lent_chip y mem = record_view paged y.registers.words y.pages.sets y.queues.slots mem

abbrev pub ListedInOrder : Listed → List ℕ → Type 0
ListedInOrder x mem = InOrder x.registers x.pages mem

abbrev pub LentInOrder : Lent → List ℕ → Type 0
LentInOrder y mem = WholeBy y.registers y.pages y.queues mem

-- What the types say of the numbers of registers; packets and pages of a record in order are below its part's number in any case.
abbrev pub ListedTyped : Listed → Type 0
ListedTyped x = Typed (registers_of x.registers)

abbrev pub LentTyped : Lent → Type 0
LentTyped y = Words y.registers.words

-- To sets: the same chip, in order. What a step is lent is made of the part's rows alone.
module _ (x : Listed) (mem : List ℕ) (t : ListedTyped x) (o : ListedInOrder x mem) where
  abbrev r : Registers
  r = x.registers

  abbrev words : List ℕ
  words = (to_sets x).registers.words

-- To lists: the same chip, in order.
module _ (y : Lent) (mem : List ℕ) (o : LentInOrder y mem) where
  abbrev w : List ℕ
  w = y.registers.words

  abbrev q : List ℕ
  q = y.queues.slots

  pub lists_typed : LentTyped y → ListedTyped (to_lists y)
  lists_typed t = typed_words w t
