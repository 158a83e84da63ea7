-- The two values that show the link, EPHSR and the interrupt status: bit by bit, and that all else in them is the same whatever the link.
use Rattle.std.specs.Prelude.{◌≡◌, Bool, true, false, not, ℕ, ◌+◌, ◌-◌, ◌*◌, ◌/◌, ◌%◌, ◌^◌, ◌≤◌, ◌<◌, eqb}
use Rattle.std.proofs.Common.{ap, sym, subst, ◌∙◌, arith, eq-eqb, shr-shr}
use Rattle.std.proofs.Math.Decide.{dec_le}
use Rattle.std.proofs.Math.Pow.{mod-mod-pow, field}
use Rattle.rules.specs.Bits.{bit, clear_bit, flag, low_byte, high_byte, word_of}
use Rattle.rules.specs.Lists.{some?}
use Rattle.rules.specs.Chip.{Link, Chip}
use Rattle.rules.specs.Interrupts.{eph, status}
use Rattle.rules.specs.Link.{shown}
use Rattle.rules.specs.Registers.{Lanes, low, high, both, EPHSR, INTERRUPT, taken}
use Rattle.laws.specs.Line.{flag_small}
use Rattle.laws.specs.LinkApart.{beside_link, linked}

-- Bit 14 of EPHSR as it is shown is the link.
pub shown_bit : (up : Bool) (e : ℕ) → bit 14 (shown up e) ≡ up
unfolding bit shown clear_bit flag
shown_bit true e = eq-eqb ((e - e / 2 ^ 14 % 2 * 2 ^ 14 + 2 ^ 14 * 1) / 2 ^ 14 % 2) 1 (omega arith)
shown_bit false e = let z : (e - e / 2 ^ 14 % 2 * 2 ^ 14 + 2 ^ 14 * 0) / 2 ^ 14 % 2 ≡ 0 = omega arith in rw z

-- All above bit 14, and all below it, is the stored word.
shown_above : (up : Bool) (e : ℕ) → shown up e / 2 ^ 15 ≡ e / 2 ^ 15
unfolding shown clear_bit flag
shown_above true e = omega arith
shown_above false e = omega arith

shown_below : (up : Bool) (e : ℕ) → shown up e % 2 ^ 14 ≡ e % 2 ^ 14
unfolding shown clear_bit flag
shown_below true e = omega arith
shown_below false e = omega arith

-- Every other bit of it is that of the stored word.
pub shown_others : (k : ℕ) (up : Bool) (e : ℕ) → (k ≡ 14 → ⊥) → bit k (shown up e) ≡ bit k e
unfolding bit
shown_others k up e n = go (dec_le k 14)
  where
    higher : (i : ℕ) → k ≡ 15 + i → bit k (shown up e) ≡ bit k e
    higher i f = rw (f, ← shr-shr e 15 i, ← shr-shr (shown up e) 15 i, shown_above up e)

    of_low : (i x : ℕ) → x / 2 ^ k % 2 ≡ x % 2 ^ (i + (1 + k)) % 2 ^ (1 + k) / 2 ^ k
    of_low i x = sym (field x 1 k) ∙ ap (λ (m : ℕ). m / 2 ^ k) (sym (mod-mod-pow x i (1 + k)))

    lower : (i : ℕ) → 14 ≡ i + (1 + k) → bit k (shown up e) ≡ bit k e
    lower i f =
        ap (λ (x : ℕ). eqb x 1)
        (of_low i (shown up e) ∙ ap (λ (x : ℕ). x % 2 ^ (1 + k) / 2 ^ k) (subst (λ (x : ℕ). shown up e % 2 ^ x ≡ e % 2 ^ x) f (shown_below up e)) ∙ sym (of_low i e))

    go : Dec (k ≤ 14) → bit k (shown up e) ≡ bit k e
    go (yes h) = lower (14 - (1 + k)) (omega arith)
    go (no h) = higher (k - 15) (omega arith)

-- So but for bit 14 two links show the same: in the word,
pub shown_word : (up down : Bool) (e : ℕ) → clear_bit 14 (shown up e) ≡ clear_bit 14 (shown down e)
unfolding shown clear_bit flag
shown_word up down e = stored up ∙ sym (stored down)
  where
    stored : (b : Bool) → clear_bit 14 (shown b e) ≡ clear_bit 14 e
    stored true = omega arith
    stored false = omega arith

-- in its high byte, where it is bit 6, with the same above it and below it,
clear_alike : (x y : ℕ) → x / 128 ≡ y / 128 → x % 64 ≡ y % 64 → clear_bit 6 x ≡ clear_bit 6 y
unfolding clear_bit
clear_alike x y a b = omega arith

high_above : (x : ℕ) → x / 256 % 256 / 128 ≡ x / 2 ^ 15 % 2
high_above x = omega arith

high_below : (x : ℕ) → x / 256 % 256 % 64 ≡ x % 2 ^ 14 / 256
high_below x = omega arith

pub shown_high : (up down : Bool) (e : ℕ) → clear_bit 6 (high_byte (shown up e)) ≡ clear_bit 6 (high_byte (shown down e))
unfolding high_byte
shown_high up down e = stored up ∙ sym (stored down)
  where
    stored : (b : Bool) → clear_bit 6 (high_byte (shown b e)) ≡ clear_bit 6 (high_byte e)
    stored b =
        clear_alike _ _ (high_above (shown b e) ∙ ap (λ (x : ℕ). x % 2) (shown_above b e) ∙ sym (high_above e))
        (high_below (shown b e) ∙ ap (λ (x : ℕ). x / 256) (shown_below b e) ∙ sym (high_below e))

-- and in its low byte without exception.
pub shown_low : (up down : Bool) (e : ℕ) → low_byte (shown up e) ≡ low_byte (shown down e)
unfolding shown clear_bit flag low_byte
shown_low up down e = stored up ∙ sym (stored down)
  where
    stored : (b : Bool) → low_byte (shown b e) ≡ low_byte e
    stored true = omega arith
    stored false = omega arith

-- The interrupt status but for EPH, which is bit 5: five bits.
abbrev but_eph : Chip → ℕ
but_eph c =
    flag (some? c.pool.rx) + 2 * flag (some? c.pool.completion) + 4 * flag c.regs.sending.tx_empty
    + 8 * flag (not (bit 7 c.regs.numbers.result)) + 16 * flag c.regs.receiving.overrun

five_bits : (c : Chip) → but_eph c < 32
five_bits c =
    omega (
      arith,
      flag_small (some? c.pool.rx),
      flag_small (some? c.pool.completion),
      flag_small c.regs.sending.tx_empty,
      flag_small (not (bit 7 c.regs.numbers.result)),
      flag_small c.regs.receiving.overrun,
    )

-- EPH above these five bits is bit 5 alone, with the mask behind them or without.
eph_alone : (p : Lanes) (x m : ℕ) (b : Bool) → x < 32 → beside_link INTERRUPT p (taken p (word_of (x + 32 * flag b) m)) ≡ beside_link INTERRUPT p (taken p (word_of x m))
unfolding taken word_of clear_bit low_byte high_byte flag
eph_alone p x m false h = ap (λ (z : ℕ). beside_link INTERRUPT p (taken p (word_of z m))) (omega arith)
eph_alone low x m true h =
    let e : (x + 32 * 1 + m * 256) % 256 ≡ x + 32 = omega arith in
    let f : (x + m * 256) % 256 ≡ x = omega arith in
    rw (e, f) (omega arith)
eph_alone high x m true h = omega arith
eph_alone both x m true h = omega arith

-- The interrupt register on both.
pub interrupt_beside : (p : Lanes) (y : Link) (c : Chip)
    → beside_link INTERRUPT p (taken p (word_of (status (linked y c)) c.regs.mask)) ≡ beside_link INTERRUPT p (taken p (word_of (status c) c.regs.mask))
unfolding status
interrupt_beside p y c =
    eph_alone p (but_eph c) c.regs.mask (eph (linked y c).regs) (five_bits c) ∙ sym (eph_alone p (but_eph c) c.regs.mask (eph c.regs) (five_bits c))
