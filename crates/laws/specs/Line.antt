-- Document 01, "Registers": what each bit of the interrupt status says, what EPH is, and when the interrupt line is up. Of every chip, well formed or not.
-- (That the line changes nothing is said by its type: from a chip it gives a Bool and no chip.)
use Rattle.std.specs.Prelude.{◌≡◌, Bool, true, false, not, ◌&&◌, ◌||◌, ◌⊎◌, List, [], ◌∷◌, ℕ, zero, suc, ◌+◌, ◌*◌, ◌/◌, ◌%◌, ◌^◌, ◌<◌, get_or}
use Rattle.std.proofs.Common.{ap, sym, ◌∙◌, true≢false, ⊎_elim, div-one, one-add, arith, eq-eqb, shr-shr}
use Rattle.std.proofs.Math.Nat.{zero-div}
use Rattle.std.proofs.Math.Decide.{ℕ_discrete}
use Rattle.rules.specs.Bits.{bit, flag, share}
use Rattle.rules.specs.Lists.{some?}
use Rattle.rules.specs.Chip.{Registers, Chip}
use Rattle.rules.specs.Interrupts.{failed, eph, status, line_up}
use Rattle.lists.specs.Facts.{Decides, or_cases, or_true, is_true, is_false, ◌and◌, ◌or◌}

-- bit k is set in both numbers
pub record InBoth (k x y : ℕ) : Type 0 where
  pub first : bit k x ≡ true
  pub second : bit k y ≡ true

both_bits : (k x y : ℕ) → bit k x && bit k y ≡ true → InBoth k x y
both_bits k x y e = let w = (is_true (bit k x) and is_true (bit k y)).sound e in record { first = w.0; second = w.1 }

-- Numbers share one of their lowest n bits exactly when some bit below n is set in both.
share_by : (n k x y : ℕ) → k < n → InBoth k x y → share n x y ≡ true
unfolding share
share_by zero k x y h b = absurd (omega arith)
share_by (suc n) k x y h b = go (ℕ_discrete k n) (share_by n k x y)
  where
    go : Dec (k ≡ n) → (k < n → InBoth k x y → share n x y ≡ true) → share n x y || (bit n x && bit n y) ≡ true
    go (yes e) f = or_true (share n x y) (rw (← e, b.first, b.second))
    go (no e) f = let l : k < n = omega arith in rw (f l b)

share_why : (n x y : ℕ) → share n x y ≡ true → (k : ℕ) × (k < n) × InBoth k x y
unfolding share
share_why zero x y e = absurd (true≢false (sym e))
share_why (suc n) x y e =
    ⊎_elim (λ s. let w = share_why n x y s in (w.0, omega (arith, w.1), w.2)) (λ b. (n, omega arith, both_bits n x y b)) (or_cases (share n x y) (bit n x && bit n y) e)

-- "The line is up when status and mask share a bit": it is up where any of the eight bits is set in both, and where it is up, one is.
pub up_by : (c : Chip) (k : ℕ) → k < 8 → bit k (status c) ≡ true → bit k c.regs.mask ≡ true → line_up c ≡ true
unfolding line_up
up_by c k h a b = share_by 8 k (status c) c.regs.mask h (record { first = a; second = b })

pub up_why : (c : Chip) → line_up c ≡ true → (k : ℕ) × (k < 8) × InBoth k (status c) c.regs.mask
unfolding line_up
up_why c e = share_why 8 (status c) c.regs.mask e

-- The lowest bit of a number, and the bits above it.
bit_first : (b : Bool) (r : ℕ) → bit 0 (flag b + 2 * r) ≡ b
unfolding bit flag
bit_first true r = let e : (1 + 2 * r) % 2 ≡ 1 = omega arith in rw (div-one (1 + 2 * r)) (eq-eqb ((1 + 2 * r) % 2) 1 e)
bit_first false r = let e : (0 + 2 * r) % 2 ≡ 0 = omega arith in rw (div-one (0 + 2 * r), e)

pub flag_small : (b : Bool) → flag b < 2
unfolding flag
flag_small true = omega arith
flag_small false = omega arith

bit_next : (b : Bool) (r k : ℕ) → bit (suc k) (flag b + 2 * r) ≡ bit k r
unfolding bit
bit_next b r k = let e : (flag b + 2 * r) / 2 ^ 1 ≡ r = omega (arith, flag_small b) in rw (← one-add k, ← shr-shr (flag b + 2 * r) 1 k, e)

-- the number whose bits these are, the lowest first, with zeros above them
abbrev of_bits : List Bool → ℕ
of_bits [] = 0
of_bits (b ∷ bs) = flag b + 2 * of_bits bs

bit_of : (k : ℕ) (bs : List Bool) → bit k (of_bits bs) ≡ get_or bs k false
unfolding bit
bit_of k [] = rw zero-div
bit_of zero (b ∷ bs) = bit_first b (of_bits bs)
bit_of (suc k) (b ∷ bs) = bit_next b (of_bits bs) k ∙ bit_of k bs

-- what a read of the interrupt status shows, bit by bit
pub record StatusBits (c : Chip) : Type 0 where
  -- "0 RX not empty"
  pub received : bit 0 (status c) ≡ some? c.pool.rx
  -- "1 completion not empty"
  pub completed : bit 1 (status c) ≡ some? c.pool.completion
  -- "2 TX EMPTY, latched"
  pub tx_empty : bit 2 (status c) ≡ c.regs.sending.tx_empty
  -- "3 allocation result bit 7 clear"
  pub allocation : bit 3 (status c) ≡ not (bit 7 c.regs.numbers.result)
  -- "4 RX_OVRN, latched"
  pub overrun : bit 4 (status c) ≡ c.regs.receiving.overrun
  -- "5 EPH"
  pub handler : bit 5 (status c) ≡ eph c.regs
  -- "6, 7 zero"
  pub six : bit 6 (status c) ≡ false
  pub seven : bit 7 (status c) ≡ false

pub status_bits : (c : Chip) → StatusBits c
unfolding status
status_bits c =
    let bits = some? c.pool.rx ∷ some? c.pool.completion ∷ c.regs.sending.tx_empty ∷ not (bit 7 c.regs.numbers.result) ∷ c.regs.receiving.overrun ∷ eph c.regs ∷ [] in
    let e : status c ≡ of_bits bits = omega arith in
    let at : (k : ℕ) → bit k (status c) ≡ get_or bits k false = λ k. ap (bit k) e ∙ bit_of k bits in
    record { received = at 0; completed = at 1; tx_empty = at 2; allocation = at 3; overrun = at 4; handler = at 5; six = at 6; seven = at 7 }

-- "EPH is (EPHSR bit 12 and control bit 6) or (any of EPHSR 15, 10, 9, 5, 4 while bit 0 is clear, and control bit 5)."; or a change of the link, "while control bit 7 is set" (document 02, W8)
abbrev pub AnyFailure : ℕ → Type 0
AnyFailure e = ((((bit 15 e ≡ true) ⊎ (bit 10 e ≡ true)) ⊎ (bit 9 e ≡ true)) ⊎ (bit 5 e ≡ true)) ⊎ (bit 4 e ≡ true)

abbrev pub Eph : ℕ → ℕ → Bool → Type 0
Eph e control changed =
    (((bit 12 e ≡ true) × (bit 6 control ≡ true)) ⊎ ((AnyFailure e × (bit 0 e ≡ false)) × (bit 5 control ≡ true))) ⊎ ((changed ≡ true) × (bit 7 control ≡ true))

pub eph_exactly : (r : Registers) → Decides (eph r) (Eph r.sending.ephsr r.control r.link.changed)
unfolding eph failed
eph_exactly r =
    let e = r.sending.ephsr in
    let set : (k : ℕ) → Decides (bit k e) (bit k e ≡ true) = λ k. is_true (bit k e) in
    (set 12 and is_true (bit 6 r.control)) or (((set 15 or set 10 or set 9 or set 5 or set 4) and is_false (bit 0 e)) and is_true (bit 5 r.control))
    or (is_true r.link.changed and is_true (bit 7 r.control))
