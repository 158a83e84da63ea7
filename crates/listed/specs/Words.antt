-- Registers as words, beside a pool's figures: where they are bytes and words, as their fields' types say, the words give them back. A list of six or eight bytes is written out.
use Rattle.std.specs.Prelude.{◌≡◌, refl, Bool, true, false, List, [], ◌∷◌, ℕ, ◌+◌, ◌*◌, ◌/◌, ◌%◌, ◌^◌, ◌≤◌, ◌<◌, length, get_or}
use Rattle.std.proofs.Common.{ap₂, sym, pow_mono}
use native.Mathlib.Omega.{arith}
use Rattle.rules.specs.Bits.{bit, flag, word_of, word_at}
use Rattle.rules.specs.Lists.{member, some?}
use Rattle.rules.specs.Chip.{Registers, Pool, free_for}
use Rattle.rules.specs.WellFormed.{Distinct, Formed}
use Rattle.wellformed.specs.Layouts.{free_total}
use Rattle.lists.specs.Each.{each_at, member_each}
use Rattle.wellformed.specs.Count.{distinct_few}
use Rattle.wellformed.specs.Pool.{has_small, good_lists}
use Rattle.sets.specs.Members.{set_of, set_small}
use Rattle.state.specs.View.{word, bytes, registers_in, Latches, Kept}
use Rattle.state.specs.Written.{Written, written_out}
use Rattle.state.specs.Only.{words_of}

abbrev pub Bytes : List ℕ → Type 0
Bytes l = (i : ℕ) → get_or l i 0 < 256

abbrev pub Words : List ℕ → Type 0
Words l = (i : ℕ) → get_or l i 0 < 65536

-- what the types of the fields say of registers
pub record Typed (r : Registers) : Type 0 where
  pub words : Words (r.sending.tcr ∷ r.sending.ephsr ∷ r.sending.ecr ∷ r.receiving.rcr ∷ r.pointer ∷ r.control ∷ r.numbers.waiting ∷ [])
  pub bytes : Bytes (r.receiving.reserved ∷ r.numbers.bank ∷ r.numbers.packet ∷ r.numbers.result ∷ r.mask ∷ [])
  pub six : length r.receiving.station ≡ 6
  pub station : Bytes r.receiving.station
  pub eight : length r.receiving.table ≡ 8
  pub table : Bytes r.receiving.table

-- The bytes of a word of two bytes, and the latches in theirs.
low_of : (x y : ℕ) → x < 256 → word_of x y % 256 ≡ x
unfolding word_of
low_of x y h = omega arith

high_of : (x y : ℕ) → x < 256 → word_of x y / 256 ≡ y
unfolding word_of
high_of x y h = omega arith

banked : (x : ℕ) → x < 8 → word_of x 0x33 / 8 ≡ 0x660
unfolding word_of
banked x h = omega arith

two : (x y : ℕ) → x < 256 → y < 256 → word_of x y < 65536
unfolding word_of
two x y h g = omega arith

latch_2 : (a b : Bool) → bit 2 (4 * flag a + 16 * flag b) ≡ a
unfolding bit flag
latch_2 true true = refl
latch_2 true false = refl
latch_2 false true = refl
latch_2 false false = refl

latch_4 : (a b : Bool) → bit 4 (4 * flag a + 16 * flag b) ≡ b
unfolding bit flag
latch_4 true true = refl
latch_4 true false = refl
latch_4 false true = refl
latch_4 false false = refl

latches : (a b : Bool) → Latches (4 * flag a + 16 * flag b)
latches a b = sym (ap₂ (λ (x y : Bool). 4 * flag x + 16 * flag y) (latch_2 a b) (latch_4 a b))

latches_low : (a b : Bool) → 4 * flag a + 16 * flag b < 65536
unfolding flag
latches_low true true = omega arith
latches_low true false = omega arith
latches_low false true = omega arith
latches_low false false = omega arith

-- The link and its change in theirs.
link_0 : (a b : Bool) → bit 0 (flag a + 2 * flag b) ≡ a
unfolding bit flag
link_0 true true = refl
link_0 true false = refl
link_0 false true = refl
link_0 false false = refl

link_1 : (a b : Bool) → bit 1 (flag a + 2 * flag b) ≡ b
unfolding bit flag
link_1 true true = refl
link_1 true false = refl
link_1 false true = refl
link_1 false false = refl

link_small : (a b : Bool) → flag a + 2 * flag b < 4
unfolding flag
link_small true true = omega arith
link_small true false = omega arith
link_small false true = omega arith
link_small false false = omega arith

-- Six bytes and eight bytes from their words.
six_back : (l : List ℕ) → length l ≡ 6 → Bytes l → bytes (word_at 0 l) (bytes (word_at 2 l) (bytes (word_at 4 l) [])) ≡ l
unfolding Written word_at
six_back = written_out 6 (λ l. Bytes l → bytes (word_at 0 l) (bytes (word_at 2 l) (bytes (word_at 4 l) [])) ≡ l)
    (λ a b c d e f h. λ i. low_of a b (h 0) i ∷ high_of a b (h 0) i ∷ low_of c d (h 2) i ∷ high_of c d (h 2) i ∷ low_of e f (h 4) i ∷ high_of e f (h 4) i ∷ [])

eight_back : (l : List ℕ) → length l ≡ 8 → Bytes l → bytes (word_at 0 l) (bytes (word_at 2 l) (bytes (word_at 4 l) (bytes (word_at 6 l) []))) ≡ l
unfolding Written word_at
eight_back = written_out 8 (λ l. Bytes l → bytes (word_at 0 l) (bytes (word_at 2 l) (bytes (word_at 4 l) (bytes (word_at 6 l) []))) ≡ l)
    (λ a b c d e f g j h. λ i. low_of a b (h 0) i ∷ high_of a b (h 0) i ∷ low_of c d (h 2) i ∷ high_of c d (h 2) i ∷ low_of e f (h 4) i ∷ high_of e f (h 4) i ∷ low_of g j (h 6) i ∷ high_of g j (h 6) i ∷ [])

-- A pool's figures are words, where it is well formed: an allocated packet is below n, so distinct ones are at most n, and their set has n bits, at most 32.
record SmallQueue (l : List ℕ) : Type 0 where
  count : length l < 65536
  lower : set_of l % 65536 < 65536
  upper : set_of l / 65536 < 65536

module _ {n : ℕ} (few : n ≤ 32) where
  small_queue : (ls : List (List ℕ)) (l : List ℕ) → length ls ≡ n → Distinct l → ((k : ℕ) → member k l ≡ true → some? (get_or ls k []) ≡ true) → SmallQueue l
  small_queue ls l long d h =
      let low : (k : ℕ) → member k l ≡ true → k < n = λ k m. omega (arith, has_small ls k (h k m), long) in
      let small = set_small n l d (member_each (λ k. k < n) l low) in
      let most : 2 ^ n ≤ 2 ^ 32 = pow_mono few in
      record { count = omega (arith, few, distinct_few n l d low); lower = omega arith; upper = omega (arith, small, most) }

  mir_small : (r : Registers) (p : Pool) → Formed n r p → word_of (length p.pages) (length (free_for p.layout p.pages)) < 65536
  mir_small r p well = two _ _ (omega (arith, few, well.count)) (omega (arith, few, free_total p.layout n p.pages (good_lists well)))

module _ (r : Registers) (t : Typed r) (p : Pool) where
  pub registers_back : registers_in (words_of r p) ≡ r
  registers_back =
      let x = r.sending.tx_empty in
      let y = r.receiving.overrun in
      λ i. record {
        sending = record { tcr = r.sending.tcr; ephsr = r.sending.ephsr; ecr = r.sending.ecr; tx_empty = latch_2 x y i };
        receiving = record {
          rcr = r.receiving.rcr;
          reserved = low_of r.receiving.reserved 0x33 (t.bytes 0) i;
          station = six_back r.receiving.station t.six t.station i;
          table = eight_back r.receiving.table t.eight t.table i;
          overrun = latch_4 x y i;
        };
        numbers = record {
          bank = low_of r.numbers.bank 0x33 (t.bytes 1) i;
          packet = low_of r.numbers.packet r.numbers.result (t.bytes 2) i;
          result = high_of r.numbers.packet r.numbers.result (t.bytes 2) i;
          waiting = r.numbers.waiting;
        };
        pointer = r.pointer;
        control = r.control;
        mask = high_of 0 r.mask (omega arith) i;
        link = record { up = link_0 r.link.up r.link.changed i; changed = link_1 r.link.up r.link.changed i };
      }

  pub words_kept : r.numbers.bank < 8 → Kept (words_of r p)
  words_kept h = record {
    whole = refl;
    fixed = record {
      bank_high = banked r.numbers.bank h;
      reserved_high = high_of r.receiving.reserved 0x33 (t.bytes 0);
      latched = latches r.sending.tx_empty r.receiving.overrun;
      link_bits = link_small r.link.up r.link.changed;
      mask_low = low_of 0 r.mask (omega arith);
    };
    blank = record { none16 = refl; none18 = refl; none20 = refl; none21 = refl };
  }

  -- and they are words, where the chip is well formed
  pub words_typed : {n : ℕ} → n ≤ 32 → Formed n r p → Words (words_of r p)
  unfolding word_at
  words_typed few well i =
      let queues = well.queues in
      let rx = small_queue few p.pages p.rx well.count queues.rx_distinct queues.rx_allocated in
      let tx = small_queue few p.pages p.tx well.count queues.tx_distinct queues.tx_allocated in
      let byte = t.bytes in
      let words = t.words in
      let station : (k : ℕ) → word_at k r.receiving.station < 65536 = λ k. two _ _ (t.station k) (t.station (k + 1)) in
      let table : (k : ℕ) → word_at k r.receiving.table < 65536 = λ k. two _ _ (t.table k) (t.table (k + 1)) in
      let none : 0 < 65536 = omega arith in
      let high : 0x33 < 256 = omega arith in
      each_at (λ x. x < 65536) (words_of r p) i 0 (
        words 0,
        (
          words 1,
          (
            words 3,
            (
              words 2,
              (
                mir_small few r p well,
                (
                  two _ _ (byte 0) high,
                  (
                    rx.count,
                    (
                      two _ _ (byte 1) high,
                      (
                        tx.count,
                        (
                          omega (arith, few, queues.completion_few),
                          (
                            station 0,
                            (
                              station 2,
                              (
                                station 4,
                                (
                                  latches_low _ _,
                                  (
                                    words 5,
                                    (
                                      omega (arith, link_small r.link.up r.link.changed),
                                      (
                                        none,
                                        (
                                          two _ _ (byte 2) (byte 3),
                                          (
                                            none,
                                            (
                                              words 4,
                                              (
                                                none,
                                                (
                                                  none,
                                                  (
                                                    two _ _ (omega arith) (byte 4),
                                                    (
                                                      words 6,
                                                      (table 0, (table 2, (table 4, (table 6, (rx.lower, (rx.upper, (tx.lower, (tx.upper, tt)))))))),
                                                    ),
                                                  ),
                                                ),
                                              ),
                                            ),
                                          ),
                                        ),
                                      ),
                                    ),
                                  ),
                                ),
                              ),
                            ),
                          ),
                        ),
                      ),
                    ),
                  ),
                ),
              ),
            ),
          ),
        ),
      )
      none

-- The registers of words are bytes and words.
pub typed_words : (w : List ℕ) → Words w → Typed (registers_in w)
typed_words w h =
    let low : (x : ℕ) → x % 256 < 256 = λ x. omega arith in
    let high : (k : ℕ) → get_or w k 0 / 256 < 256 = λ k. omega (arith, h k) in
    let none : 0 < 256 = omega arith in
    record {
      words = λ i. each_at (λ x. x < 65536) (word w 0 ∷ word w 1 ∷ word w 3 ∷ word w 2 ∷ word w 19 ∷ word w 14 ∷ word w 23 ∷ []) i 0 (h 0, (h 1, (h 3, (h 2, (h 19, (h 14, (h 23, tt))))))) (omega arith);
      bytes = λ i. each_at (λ x. x < 256) (word w 5 % 256 ∷ word w 7 % 256 ∷ word w 17 % 256 ∷ word w 17 / 256 ∷ word w 22 / 256 ∷ []) i 0 (low _, (low _, (low _, (high 17, (high 22, tt))))) none;
      six = refl;
      station = λ i. each_at (λ x. x < 256) (registers_in w).receiving.station i 0 (low _, (high 10, (low _, (high 11, (low _, (high 12, tt)))))) none;
      eight = refl;
      table = λ i. each_at (λ x. x < 256) (registers_in w).receiving.table i 0 (low _, (high 24, (low _, (high 25, (low _, (high 26, (low _, (high 27, tt)))))))) none;
    }
