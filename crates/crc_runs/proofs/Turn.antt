-- std's bits in the other order are the rules' mirror.
use Rattle.std.proofs.Common.{◌≡◌, ℕ, zero, suc, ◌+◌, ◌*◌, ◌/◌, ◌%◌, ◌^◌, sym, mul_assoc, pow-suc, arith}
use Rattle.std.proofs.Math.Nat.{mul_comm, add-mul}
use Rattle.std.specs.Int.{w32, reverse_bits, reverse_bits_onto}
use Rattle.rules.specs.Crc.{mirror}

onto : (k n a : ℕ) → reverse_bits_onto k n a ≡ mirror k n + a * 2 ^ k
unfolding mirror reverse_bits_onto
onto zero n a = omega arith
onto (suc k) n a =
    let twice : a * 2 ^ suc k ≡ a * 2 * 2 ^ k = rw (pow-suc 2 k, mul_comm (2 ^ k) 2) (sym (mul_assoc a 2 (2 ^ k))) in
    omega (arith, twice, add-mul (a * 2) (n % 2) (2 ^ k), onto k (n / 2) (a * 2 + n % 2))

pub reversed : (r : ℕ) → reverse_bits w32 r ≡ mirror 32 r
reversed r = omega (arith, onto 32 r 0)
