-- Document 01, "A send finishes": EPHSR bit 12 after a send. "EPHSR bits other than 12 become ..", so that it stays where it was set; "any then at 15 sets EPHSR bit 12".
-- (No history from power-up can show that it stays: a nibble that is at 15 stays there until ECR is read, which clears the bit too.)
use Rattle.std.specs.Prelude.{◌≡◌, refl, Bool, true, false, ◌||◌, List, ℕ, zero, suc, ◌+◌, ◌*◌, ◌/◌, ◌%◌, ◌^◌, ◌≤◌, eqb, ltb}
use Rattle.std.proofs.Common.{arith, eq-eqb, ne_eqb}
use Rattle.rules.specs.Bits.{bit, flag}
use Rattle.rules.specs.Chip.{Registers}
use Rattle.rules.specs.Receive.{broadcast, group}
use Rattle.rules.specs.Send.{Send, failure_bit, collision_bits, outcome_bits, address_bits, tally, any_at15, new_ephsr}
use Rattle.wellformed.specs.Cases.{pick}

-- a number of bit 15 and of bits below 12, which make no more than `most`
record Around12 (most x : ℕ) : Type 0 where
  upper : ℕ
  lower : ℕ
  parts : x ≡ 32768 * upper + lower
  small : lower ≤ most

flag_one : (b : Bool) → flag b ≤ 1
unfolding flag
flag_one true = omega arith
flag_one false = omega arith

-- The bits of an outcome and of an address are such.
failure_around : (outcome : ℕ) → Around12 1024 (2 ^ failure_bit outcome)
unfolding failure_bit
failure_around zero = record { upper = 0; lower = 1; parts = refl; small = omega arith }
failure_around (suc zero) = record { upper = 0; lower = 16; parts = refl; small = omega arith }
failure_around (suc (suc zero)) = record { upper = 0; lower = 512; parts = refl; small = omega arith }
failure_around (suc (suc (suc zero))) = record { upper = 0; lower = 1024; parts = refl; small = omega arith }
failure_around (suc (suc (suc (suc zero)))) = record { upper = 0; lower = 32; parts = refl; small = omega arith }
failure_around (suc (suc (suc (suc (suc zero))))) = record { upper = 1; lower = 0; parts = refl; small = omega arith }
failure_around (suc (suc (suc (suc (suc (suc n)))))) = record { upper = 0; lower = 1; parts = refl; small = omega arith }

collisions_few : (n : ℕ) → collision_bits n ≤ 4
unfolding collision_bits
collisions_few n = pick (λ (x : ℕ). x ≤ 4) (eqb n 1) (omega arith) (pick (λ (x : ℕ). x ≤ 4) (ltb 1 n) (omega arith) (omega arith))

address_few : (a : List ℕ) → address_bits a ≤ 64
unfolding address_bits
address_few a = pick (λ (x : ℕ). x ≤ 64) (broadcast a) (omega arith) (omega (arith, flag_one (group a)))

around : (is_good : Bool) (s : Send) (a : List ℕ) → Around12 2000 (outcome_bits is_good s + address_bits a)
unfolding outcome_bits
around true s a = record {
  upper = 0;
  lower = 1 + 2 ^ 5 * flag (eqb s.outcome 4) + address_bits a;
  parts = omega arith;
  small = omega (arith, flag_one (eqb s.outcome 4), address_few a);
}
around false s a =
    let f = failure_around s.outcome in
    record {
      upper = f.upper;
      lower = f.lower + collision_bits s.collisions + address_bits a;
      parts = omega (arith, f.parts);
      small = omega (arith, f.small, collisions_few s.collisions, address_few a);
    }

bit_beside : (x : ℕ) → Around12 2000 x → (b : Bool) → bit 12 (x + 2 ^ 12 * flag b) ≡ b
unfolding bit flag
bit_beside x w true = eq-eqb ((x + 2 ^ 12 * 1) / 2 ^ 12 % 2) 1 (omega (arith, w.parts, w.small))
bit_beside x w false = ne_eqb ((x + 2 ^ 12 * 0) / 2 ^ 12 % 2) 1 (λ e. absurd (omega (arith, w.parts, w.small, e)))

pub bit_12 : (is_good : Bool) (s : Send) (address : List ℕ) (r : Registers) → bit 12 (new_ephsr is_good s address r) ≡ bit 12 r.sending.ephsr || any_at15 (tally is_good s r.sending.ecr)
unfolding new_ephsr
bit_12 is_good s address r = bit_beside (outcome_bits is_good s + address_bits address) (around is_good s address) _
