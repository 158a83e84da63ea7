-- Masks of one bit, within 16 bits: `x | 1 << k` and `x & !(1 << k)`.
use Rattle.std.proofs.Common.{◌≡◌, ℕ, ◌-◌, ◌*◌, ◌%◌, ◌^◌, ◌<◌, bit_and, bit_or, arith}
use Rattle.std.proofs.lemmas.Nat.{one_shl, pow_below, and-not, and_comm, and_le_l}
use Rattle.std.proofs.lemmas.Nat.Bits.{and_pow}
use Rattle.std.specs.Int.Bits.{or_add_and}
use Rattle.rules.specs.Bits.{clear_bit, set_bit}

pub filled : (k x : ℕ) → k < 16 → bit_or x (1 * 2 ^ k % 65536) ≡ set_bit k x
unfolding set_bit clear_bit
filled k x h = rw (one_shl k 16 h) (omega (arith, or_add_and x (2 ^ k), and_pow x k, and_le_l x (2 ^ k)))

pub cleared : (k x : ℕ) → k < 16 → x < 65536 → bit_and x (65535 - 1 * 2 ^ k % 65536) ≡ clear_bit k x
unfolding clear_bit
cleared k x h f = rw (one_shl k 16 h) (omega (arith, and-not 16 (2 ^ k) x (pow_below k 16 h) f, and_pow x k, and_comm x (2 ^ k), and_comm x (65535 - 2 ^ k)))
