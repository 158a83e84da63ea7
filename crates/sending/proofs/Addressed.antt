-- The address that a packet is sent to: each of its bytes, and the bits of its kind.
use Rattle.std.specs.Prelude.{◌≡◌, refl, Bool, true, false, ◌&&◌, List, ℕ, ◌*◌, eqb, replicate}
use Rattle.std.specs.List.{list_all, range_with_len}
use Rattle.std.proofs.Common.{zero, suc, ap, ap₂, sym, ◌∙◌, add-one}
use Rattle.rules.specs.Bits.{bit, flag}
use Rattle.rules.specs.Packet.{get_bytes}
use Rattle.rules.specs.Data.{value_of}
use Rattle.rules.specs.Receive.{broadcast, group, same_bytes}
use Rattle.rules.specs.Send.{address_bits}
use Rattle.lists.specs.Bytes.{value_one}

-- An address is broadcast where each byte is FFh.
each_byte : (n a : ℕ) (pages m : List ℕ) → list_all (λ (at : ℕ). eqb (value_of (get_bytes 1 at pages m)) 255) (range_with_len a n) ≡ same_bytes (get_bytes n a pages m) (replicate n 255)
unfolding same_bytes get_bytes
each_byte zero a pages m = refl
each_byte (suc n) a pages m = rw add-one (ap₂ (λ (x : ℕ) (t : Bool). eqb x 255 && t) (value_one a pages m) (each_byte n (suc a) pages m))

pub broadcast_lem : (pages m : List ℕ) → list_all (λ (at : ℕ). eqb (value_of (get_bytes 1 at pages m)) 255) (range_with_len 4 6) ≡ broadcast (get_bytes 6 4 pages m)
unfolding broadcast
broadcast_lem = each_byte 6 4

-- The bits of its kind, by the tests of the code.
module _ (pages m : List ℕ) {all : Bool} (e : all ≡ broadcast (get_bytes 6 4 pages m)) where
  pub broadcast_bits : all ≡ true → 64 ≡ address_bits (get_bytes 6 4 pages m)
  unfolding address_bits
  broadcast_bits t = rw (sym e ∙ t)

  pub group_bits : all ≡ false → {first n : ℕ} {g : Bool} → first ≡ value_of (get_bytes 1 4 pages m) → g ≡ bit 0 first → n ≡ flag g → 8 * n ≡ address_bits (get_bytes 6 4 pages m)
  unfolding address_bits group get_bytes
  group_bits t f b n = rw (sym e ∙ t) (ap (λ (x : ℕ). 8 * x) (n ∙ ap flag (b ∙ ap (bit 0) (f ∙ value_one 4 pages m))))
