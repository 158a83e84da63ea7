-- What a store into a word of the file does to the registers that it stands for: a law for each word. Each goes by `written_out`: on a file that is
-- written out to its 32 words both sides compute.
use Rattle.std.specs.Prelude.{◌≡◌, refl, List, [], ◌∷◌, ℕ, ◌+◌, ◌*◌, ◌/◌, ◌%◌, ◌<◌, set}
use Rattle.std.proofs.Common.{◌∙◌, arith}
use Rattle.rules.specs.Bits.{bit, low_byte, high_byte, word_of}
use Rattle.rules.specs.Chip.{Registers}
use Rattle.rules.specs.Fields.{set_tcr, set_ephsr, set_rcr, set_ecr, set_reserved, set_station, set_control, set_packet, set_result, set_waiting, set_pointer, set_mask, set_table, set_bank, set_tx_empty, set_overrun, set_link}
use Rattle.rules.specs.Registers.{Lanes, low, high, both, merged_at}
use Rattle.state.specs.Meaning.{low_after, high_after, Joined}
use Rattle.state.specs.View.{word, registers_in, figures, with_rx, with_tx, with_completion, with_mir, no_figures, FixedIn, BlankIn, Latches, Kept}
use Rattle.state.specs.Written.{Written, written_out}
use Rattle.state.specs.Promise.{Sets}

-- a store of y at a place, where y is right for the word that stood there
abbrev Stored : ℕ → ℕ → (Registers → Registers) → (ℕ → Type 0) → List ℕ → Type 0
Stored at y f Right w = FixedIn w → BlankIn w → Right (word w at) → Sets f w (set w at y)

-- it is enough to show it of a file that is written out
stored : (at y : ℕ) (f : Registers → Registers) (Right : ℕ → Type 0) → Written 32 (Stored at y f Right) → (w : List ℕ) → Kept w → Right (word w at) → Sets f w (set w at y)
stored at y f Right p w k = written_out 32 (Stored at y f Right) p w k.whole k.fixed k.blank

-- A register that is a word.
pub store_tcr : (y : ℕ) (w : List ℕ) → Kept w → Sets (set_tcr y) w (set w 0 y)
unfolding Written
store_tcr y w k = stored 0 y (set_tcr y) (λ old. Unit {0}) (λ a b c d e f g h i j k l m n o p q r s t u x y z a2 b2 c2 d2 e2 f2 g2 h2 fix blank right.
    record { regs = refl; still = refl; kept = record { whole = refl; fixed = fix; blank = blank } }) w k tt

pub store_ephsr : (y : ℕ) (w : List ℕ) → Kept w → Sets (set_ephsr y) w (set w 1 y)
unfolding Written
store_ephsr y w k = stored 1 y (set_ephsr y) (λ old. Unit {0}) (λ a b c d e f g h i j k l m n o p q r s t u x y z a2 b2 c2 d2 e2 f2 g2 h2 fix blank right.
    record { regs = refl; still = refl; kept = record { whole = refl; fixed = fix; blank = blank } }) w k tt

pub store_rcr : (y : ℕ) (w : List ℕ) → Kept w → Sets (set_rcr y) w (set w 2 y)
unfolding Written
store_rcr y w k = stored 2 y (set_rcr y) (λ old. Unit {0}) (λ a b c d e f g h i j k l m n o p q r s t u x y z a2 b2 c2 d2 e2 f2 g2 h2 fix blank right.
    record { regs = refl; still = refl; kept = record { whole = refl; fixed = fix; blank = blank } }) w k tt

pub store_ecr : (y : ℕ) (w : List ℕ) → Kept w → Sets (set_ecr y) w (set w 3 y)
unfolding Written
store_ecr y w k = stored 3 y (set_ecr y) (λ old. Unit {0}) (λ a b c d e f g h i j k l m n o p q r s t u x y z a2 b2 c2 d2 e2 f2 g2 h2 fix blank right.
    record { regs = refl; still = refl; kept = record { whole = refl; fixed = fix; blank = blank } }) w k tt

pub store_control : (y : ℕ) (w : List ℕ) → Kept w → Sets (set_control y) w (set w 14 y)
unfolding Written
store_control y w k = stored 14 y (set_control y) (λ old. Unit {0}) (λ a b c d e f g h i j k l m n o p q r s t u x y z a2 b2 c2 d2 e2 f2 g2 h2 fix blank right.
    record { regs = refl; still = refl; kept = record { whole = refl; fixed = fix; blank = blank } }) w k tt

pub store_pointer : (y : ℕ) (w : List ℕ) → Kept w → Sets (set_pointer y) w (set w 19 y)
unfolding Written
store_pointer y w k = stored 19 y (set_pointer y) (λ old. Unit {0}) (λ a b c d e f g h i j k l m n o p q r s t u x y z a2 b2 c2 d2 e2 f2 g2 h2 fix blank right.
    record { regs = refl; still = refl; kept = record { whole = refl; fixed = fix; blank = blank } }) w k tt

pub store_waiting : (y : ℕ) (w : List ℕ) → Kept w → Sets (set_waiting y) w (set w 23 y)
unfolding Written
store_waiting y w k = stored 23 y (set_waiting y) (λ old. Unit {0}) (λ a b c d e f g h i j k l m n o p q r s t u x y z a2 b2 c2 d2 e2 f2 g2 h2 fix blank right.
    record { regs = refl; still = refl; kept = record { whole = refl; fixed = fix; blank = blank } }) w k tt

-- The low byte, beside a high byte that stays: pages reserved for transmit, the packet number, the bank.
low_of : (old x y : ℕ) → x < 256 → y ≡ old / 256 * 256 + x → y % 256 ≡ x
low_of old x y small right = omega arith

high_of : (old x y : ℕ) → x < 256 → y ≡ old / 256 * 256 + x → y / 256 ≡ old / 256
high_of old x y small right = omega arith

pub store_reserved : (v new : ℕ) → v < 256 → (w : List ℕ) → Kept w → new ≡ word w 5 / 256 * 256 + v → Sets (set_reserved v) w (set w 5 new)
unfolding Written
store_reserved v new small w k = stored 5 new (set_reserved v) (λ old. new ≡ old / 256 * 256 + v) (λ a b c d e f g h i j k l m n o p q r s t u x y z a2 b2 c2 d2 e2 f2 g2 h2 fix blank right.
    record { regs = rw (low_of f v new (omega arith) right) refl; still = refl; kept = record { whole = refl; fixed = record { bank_high = fix.bank_high; reserved_high = high_of f v new (omega arith) right ∙ fix.reserved_high; latched = fix.latched; link_bits = fix.link_bits; mask_low = fix.mask_low }; blank = blank } }) w k

pub store_bank : (v new : ℕ) → v < 8 → (w : List ℕ) → Kept w → new ≡ word w 7 / 256 * 256 + v → Sets (set_bank v) w (set w 7 new)
unfolding Written
store_bank v new small w k = stored 7 new (set_bank v) (λ old. new ≡ old / 256 * 256 + v) (λ a b c d e f g h i j k l m n o p q r s t u x y z a2 b2 c2 d2 e2 f2 g2 h2 fix blank right.
    record { regs = rw (low_of h v new (omega arith) right) refl; still = refl; kept = record { whole = refl; fixed = record { bank_high = omega (arith, fix.bank_high, right); reserved_high = fix.reserved_high; latched = fix.latched; link_bits = fix.link_bits; mask_low = fix.mask_low }; blank = blank } }) w k

pub store_packet : (v new : ℕ) → v < 256 → (w : List ℕ) → Kept w → new ≡ word w 17 / 256 * 256 + v → Sets (set_packet v) w (set w 17 new)
unfolding Written
store_packet v new small w k = stored 17 new (set_packet v) (λ old. new ≡ old / 256 * 256 + v) (λ a b c d e f g h i j k l m n o p q r s t u x y z a2 b2 c2 d2 e2 f2 g2 h2 fix blank right.
    record { regs = rw (low_of r v new (omega arith) right, high_of r v new (omega arith) right) refl; still = refl; kept = record { whole = refl; fixed = fix; blank = blank } }) w k

-- The high byte beside the packet number: the allocation result.
pub store_result : (v new : ℕ) (w : List ℕ) → Kept w → new ≡ word w 17 % 256 + v * 256 → Sets (set_result v) w (set w 17 new)
unfolding Written
store_result v new w k = stored 17 new (set_result v) (λ old. new ≡ old % 256 + v * 256) (λ a b c d e f g h i j k l m n o p q r s t u x y z a2 b2 c2 d2 e2 f2 g2 h2 fix blank right.
    let below : new % 256 ≡ r % 256 = omega arith in
    let above : new / 256 ≡ v = omega arith in
    record { regs = rw (below, above) refl; still = refl; kept = record { whole = refl; fixed = fix; blank = blank } }) w k

-- The mask, above a byte that is 0.
pub store_mask : (v new : ℕ) → new ≡ v * 256 → (w : List ℕ) → Kept w → Sets (set_mask v) w (set w 22 new)
unfolding Written
store_mask v new right w k = stored 22 new (set_mask v) (λ old. Unit {0}) (λ a b c d e f g h i j k l m n o p q r s t u x y z a2 b2 c2 d2 e2 f2 g2 h2 fix blank none.
    let above : new / 256 ≡ v = omega arith in
    record {
      regs = rw above refl;
      still = refl;
      kept = record { whole = refl; fixed = record { bank_high = fix.bank_high; reserved_high = fix.reserved_high; latched = fix.latched; link_bits = fix.link_bits; mask_low = omega (arith, right) }; blank = blank };
    }) w k tt

-- The two latches.
pub store_latches : (new : ℕ) → Latches new → (w : List ℕ) → Kept w → Sets (λ r. set_tx_empty (bit 2 new) (set_overrun (bit 4 new) r)) w (set w 13 new)
unfolding Written
store_latches new right w k = stored 13 new (λ r. set_tx_empty (bit 2 new) (set_overrun (bit 4 new) r)) (λ old. Unit {0}) (λ a b c d e f g h i j k l m n o p q r s t u x y z a2 b2 c2 d2 e2 f2 g2 h2 fix blank none.
    record {
      regs = refl;
      still = refl;
      kept = record { whole = refl; fixed = record { bank_high = fix.bank_high; reserved_high = fix.reserved_high; latched = right; link_bits = fix.link_bits; mask_low = fix.mask_low }; blank = blank };
    }) w k tt

-- The link and its change.
pub store_link : (new : ℕ) → new < 4 → (w : List ℕ) → Kept w → Sets (set_link (record { up = bit 0 new; changed = bit 1 new })) w (set w 15 new)
unfolding Written
store_link new small w k = stored 15 new (set_link (record { up = bit 0 new; changed = bit 1 new })) (λ old. Unit {0}) (λ a b c d e f g h i j k l m n o p q r s t u x y z a2 b2 c2 d2 e2 f2 g2 h2 fix blank none.
    record {
      regs = refl;
      still = refl;
      kept = record { whole = refl; fixed = record { bank_high = fix.bank_high; reserved_high = fix.reserved_high; latched = fix.latched; link_bits = small; mask_low = fix.mask_low }; blank = blank };
    }) w k tt

-- Two bytes of the station address or of the multicast table.
pair_0 : (p : Lanes) (v x : ℕ) (rest : List ℕ) → merged_at p v 0 (x % 256 ∷ x / 256 ∷ rest) ≡ low_after p v x ∷ high_after p v x ∷ rest
unfolding merged_at low_byte high_byte
pair_0 low v x rest = refl
pair_0 high v x rest = refl
pair_0 both v x rest = refl

pair_2 : (p : Lanes) (v x : ℕ) (b0 b1 : ℕ) (rest : List ℕ) → merged_at p v 2 (b0 ∷ b1 ∷ x % 256 ∷ x / 256 ∷ rest) ≡ b0 ∷ b1 ∷ low_after p v x ∷ high_after p v x ∷ rest
unfolding merged_at low_byte high_byte
pair_2 low v x b0 b1 rest = refl
pair_2 high v x b0 b1 rest = refl
pair_2 both v x b0 b1 rest = refl

pair_4 : (p : Lanes) (v x : ℕ) (b0 b1 b2 b3 : ℕ) (rest : List ℕ) → merged_at p v 4 (b0 ∷ b1 ∷ b2 ∷ b3 ∷ x % 256 ∷ x / 256 ∷ rest) ≡ b0 ∷ b1 ∷ b2 ∷ b3 ∷ low_after p v x ∷ high_after p v x ∷ rest
unfolding merged_at low_byte high_byte
pair_4 low v x b0 b1 b2 b3 rest = refl
pair_4 high v x b0 b1 b2 b3 rest = refl
pair_4 both v x b0 b1 b2 b3 rest = refl

pair_6 : (p : Lanes) (v x : ℕ) (b0 b1 b2 b3 b4 b5 : ℕ) (rest : List ℕ) → merged_at p v 6 (b0 ∷ b1 ∷ b2 ∷ b3 ∷ b4 ∷ b5 ∷ x % 256 ∷ x / 256 ∷ rest) ≡ b0 ∷ b1 ∷ b2 ∷ b3 ∷ b4 ∷ b5 ∷ low_after p v x ∷ high_after p v x ∷ rest
unfolding merged_at low_byte high_byte
pair_6 low v x b0 b1 b2 b3 b4 b5 rest = refl
pair_6 high v x b0 b1 b2 b3 b4 b5 rest = refl
pair_6 both v x b0 b1 b2 b3 b4 b5 rest = refl

pub store_station_0 : (p : Lanes) (v y : ℕ) (w : List ℕ) → Kept w → Joined p v (word w 10) y → Sets (λ r. set_station (merged_at p v 0 r.receiving.station) r) w (set w 10 y)
unfolding Written
store_station_0 part v new w k = stored 10 new (λ r. set_station (merged_at part v 0 r.receiving.station) r) (λ old. Joined part v old new) (λ a b c d e f g h i j k l m n o p q r s t u x y z a2 b2 c2 d2 e2 f2 g2 h2 fix blank joined.
    record { regs = rw (pair_0, ← joined.low, ← joined.high) refl; still = refl; kept = record { whole = refl; fixed = fix; blank = blank } }) w k

pub store_station_1 : (p : Lanes) (v y : ℕ) (w : List ℕ) → Kept w → Joined p v (word w 11) y → Sets (λ r. set_station (merged_at p v 2 r.receiving.station) r) w (set w 11 y)
unfolding Written
store_station_1 part v new w k = stored 11 new (λ r. set_station (merged_at part v 2 r.receiving.station) r) (λ old. Joined part v old new) (λ a b c d e f g h i j k l m n o p q r s t u x y z a2 b2 c2 d2 e2 f2 g2 h2 fix blank joined.
    record { regs = rw (pair_2, ← joined.low, ← joined.high) refl; still = refl; kept = record { whole = refl; fixed = fix; blank = blank } }) w k

pub store_station_2 : (p : Lanes) (v y : ℕ) (w : List ℕ) → Kept w → Joined p v (word w 12) y → Sets (λ r. set_station (merged_at p v 4 r.receiving.station) r) w (set w 12 y)
unfolding Written
store_station_2 part v new w k = stored 12 new (λ r. set_station (merged_at part v 4 r.receiving.station) r) (λ old. Joined part v old new) (λ a b c d e f g h i j k l m n o p q r s t u x y z a2 b2 c2 d2 e2 f2 g2 h2 fix blank joined.
    record { regs = rw (pair_4, ← joined.low, ← joined.high) refl; still = refl; kept = record { whole = refl; fixed = fix; blank = blank } }) w k

pub store_table_0 : (p : Lanes) (v y : ℕ) (w : List ℕ) → Kept w → Joined p v (word w 24) y → Sets (λ r. set_table (merged_at p v 0 r.receiving.table) r) w (set w 24 y)
unfolding Written
store_table_0 part v new w k = stored 24 new (λ r. set_table (merged_at part v 0 r.receiving.table) r) (λ old. Joined part v old new) (λ a b c d e f g h i j k l m n o p q r s t u x y z a2 b2 c2 d2 e2 f2 g2 h2 fix blank joined.
    record { regs = rw (pair_0, ← joined.low, ← joined.high) refl; still = refl; kept = record { whole = refl; fixed = fix; blank = blank } }) w k

pub store_table_1 : (p : Lanes) (v y : ℕ) (w : List ℕ) → Kept w → Joined p v (word w 25) y → Sets (λ r. set_table (merged_at p v 2 r.receiving.table) r) w (set w 25 y)
unfolding Written
store_table_1 part v new w k = stored 25 new (λ r. set_table (merged_at part v 2 r.receiving.table) r) (λ old. Joined part v old new) (λ a b c d e f g h i j k l m n o p q r s t u x y z a2 b2 c2 d2 e2 f2 g2 h2 fix blank joined.
    record { regs = rw (pair_2, ← joined.low, ← joined.high) refl; still = refl; kept = record { whole = refl; fixed = fix; blank = blank } }) w k

pub store_table_2 : (p : Lanes) (v y : ℕ) (w : List ℕ) → Kept w → Joined p v (word w 26) y → Sets (λ r. set_table (merged_at p v 4 r.receiving.table) r) w (set w 26 y)
unfolding Written
store_table_2 part v new w k = stored 26 new (λ r. set_table (merged_at part v 4 r.receiving.table) r) (λ old. Joined part v old new) (λ a b c d e f g h i j k l m n o p q r s t u x y z a2 b2 c2 d2 e2 f2 g2 h2 fix blank joined.
    record { regs = rw (pair_4, ← joined.low, ← joined.high) refl; still = refl; kept = record { whole = refl; fixed = fix; blank = blank } }) w k

pub store_table_3 : (p : Lanes) (v y : ℕ) (w : List ℕ) → Kept w → Joined p v (word w 27) y → Sets (λ r. set_table (merged_at p v 6 r.receiving.table) r) w (set w 27 y)
unfolding Written
store_table_3 part v new w k = stored 27 new (λ r. set_table (merged_at part v 6 r.receiving.table) r) (λ old. Joined part v old new) (λ a b c d e f g h i j k l m n o p q r s t u x y z a2 b2 c2 d2 e2 f2 g2 h2 fix blank joined.
    record { regs = rw (pair_6, ← joined.low, ← joined.high) refl; still = refl; kept = record { whole = refl; fixed = fix; blank = blank } }) w k

-- The figures: no register changes.
pub record Recounts (c w w' : List ℕ) : Type 0 where
  pub regs : registers_in w' ≡ registers_in w
  pub counted : figures w' ≡ c
  pub kept : Kept w'

abbrev Counted : (List ℕ → List ℕ) → (List ℕ → List ℕ) → List ℕ → Type 0
Counted store c w = FixedIn w → BlankIn w → Recounts (c w) w (store w)

counted : (store c : List ℕ → List ℕ) → Written 32 (Counted store c) → (w : List ℕ) → Kept w → Recounts (c w) w (store w)
counted store c p w k = written_out 32 (Counted store c) p w k.whole k.fixed k.blank

-- RX: how many entries it has, and its packets' bits; and TX.
pub store_rx : (y lower upper : ℕ) (w : List ℕ) → Kept w → Recounts (with_rx y lower upper (figures w)) w (set (set (set w 6 y) 28 lower) 29 upper)
unfolding Written
store_rx y lower upper = counted (λ w. set (set (set w 6 y) 28 lower) 29 upper) (λ w. with_rx y lower upper (figures w)) (λ a b c d e f g h i j k l m n o p q r s t u x y z a2 b2 c2 d2 e2 f2 g2 h2 fix blank.
    record { regs = refl; counted = refl; kept = record { whole = refl; fixed = fix; blank = blank } })

pub store_tx : (y lower upper : ℕ) (w : List ℕ) → Kept w → Recounts (with_tx y lower upper (figures w)) w (set (set (set w 8 y) 30 lower) 31 upper)
unfolding Written
store_tx y lower upper = counted (λ w. set (set (set w 8 y) 30 lower) 31 upper) (λ w. with_tx y lower upper (figures w)) (λ a b c d e f g h i j k l m n o p q r s t u x y z a2 b2 c2 d2 e2 f2 g2 h2 fix blank.
    record { regs = refl; counted = refl; kept = record { whole = refl; fixed = fix; blank = blank } })

-- How many entries completion has.
pub store_completion : (y : ℕ) (w : List ℕ) → Kept w → Recounts (with_completion y (figures w)) w (set w 9 y)
unfolding Written
store_completion y = counted (λ w. set w 9 y) (λ w. with_completion y (figures w)) (λ a b c d e f g h i j k l m n o p q r s t u x y z a2 b2 c2 d2 e2 f2 g2 h2 fix blank.
    record { regs = refl; counted = refl; kept = record { whole = refl; fixed = fix; blank = blank } })

-- MIR.
pub store_mir : (y : ℕ) (w : List ℕ) → Kept w → Recounts (with_mir y (figures w)) w (set w 4 y)
unfolding Written
store_mir y = counted (λ w. set w 4 y) (λ w. with_mir y (figures w)) (λ a b c d e f g h i j k l m n o p q r s t u x y z a2 b2 c2 d2 e2 f2 g2 h2 fix blank.
    record { regs = refl; counted = refl; kept = record { whole = refl; fixed = fix; blank = blank } })

-- All of them, where no packet has pages and no queue has entries, of the part with n packets.
pub store_none : (n m : ℕ) → m ≡ word_of n n → (w : List ℕ) → Kept w → Recounts (no_figures n) w (set (set (set (set (set (set (set (set w 6 0) 8 0) 9 0) 4 m) 28 0) 29 0) 30 0) 31 0)
unfolding Written
store_none size mir told = counted (λ w. set (set (set (set (set (set (set (set w 6 0) 8 0) 9 0) 4 mir) 28 0) 29 0) 30 0) 31 0) (λ w. no_figures size) (λ a b c d e f g h i j k l m n o p q r s t u x y z a2 b2 c2 d2 e2 f2 g2 h2 fix blank.
    record { regs = refl; counted = λ ι. 0 ∷ 0 ∷ 0 ∷ told ι ∷ 0 ∷ 0 ∷ 0 ∷ 0 ∷ []; kept = record { whole = refl; fixed = fix; blank = blank } })
