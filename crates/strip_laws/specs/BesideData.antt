-- Data accesses on two chips beside each other: the same refusals, for they look at the pointer and at how many pages there are; the same written bytes.
use Rattle.std.specs.Prelude.{◌≡◌, Bool, List, [], ltb, get_or}
use Rattle.std.proofs.Math.Path.{refl}
use Rattle.std.proofs.Common.{ap, sym, ◌∙◌, arith, add-zero, div-one, ltb-false}
use Rattle.std.proofs.Math.Bool.{true, false}
use Prim.Native.Nat.{ℕ, zero, suc, ◌+◌, ◌-◌, ◌*◌, ◌/◌, ◌%◌, ◌^◌, ◌≤◌, ◌<◌}
use Rattle.std.proofs.Math.ListN.{length}
use Rattle.rules.specs.Bits.{low_byte, high_byte, word_of}
use Rattle.rules.specs.Chip.{Layout, Chip, pages_at, allocated}
use Rattle.rules.specs.Answers.{Effect, refuse}
use Rattle.rules.specs.Packet.{place, get_bytes, put_bytes}
use Rattle.rules.specs.Data.{rcv, address, against, odd_fixed, past, if_packet, if_open, moved, value_of, read_data, write_data}
use Rattle.rules.specs.Registers.{Lanes, low, high, both, width, bytes_of, head_of}
use Rattle.lists.specs.Each.{Each}
use Rattle.laws.specs.Head.{byte_at}
use Rattle.laws.specs.DataAccesses.{meant}
use Rattle.strip_laws.specs.Written.{Marks, marked}
use Rattle.strip_laws.specs.Strips.{WrittenAt}
use Rattle.laws.specs.Placed.{Octets, get_alike}
use Rattle.strip_laws.specs.Beside.{on, stays, Answers, Effects, pick_both, unless_both, Beside, puts_alike}

-- A write's bytes.
pub width_written : (p : Lanes) (v : ℕ) → length (bytes_of p v) ≡ width p
unfolding bytes_of width
width_written low v = refl
width_written high v = refl
width_written both v = refl

pub width_few : (p : Lanes) → width p ≤ 2
unfolding width
width_few low = omega arith
width_few high = omega arith
width_few both = omega arith

pub bytes_written : (p : Lanes) (v : ℕ) → Each (λ b. b < 256) (bytes_of p v)
unfolding bytes_of low_byte high_byte
bytes_written low v = (omega arith, tt)
bytes_written high v = (omega arith, tt)
bytes_written both v = (omega arith, (omega arith, tt))
