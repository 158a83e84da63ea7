-- What lies in the pages of a packet of strips lies in its strip.
use Rattle.std.specs.Prelude.{Bool, true, false, cond, ℕ, List, ◌+◌, ◌*◌, ◌≤◌, ◌<◌, length}
use Rattle.std.proofs.Common.{arith}
use Rattle.rules.specs.Bits.{bit}
use Rattle.rules.specs.Lists.{up_from}
use Rattle.rules.specs.Receive.{count_of}
use Rattle.lists.specs.UpFrom.{length_up}
use Rattle.strip_bytes.specs.Strip.{InStrip}
use Rattle.stores.specs.Rooms.{StripFits}

module _ (k m end : ℕ) (inside : end ≤ 256 * length (up_from (8 * k) m)) where
  pub in_count : end ≤ 256 * m
  in_count = omega (arith, inside, length_up (8 * k) m)

  pub in_strip : {memory : List ℕ} → 0 < end → StripFits k m memory → InStrip end k memory
  in_strip some fits = record { there = fits.there (omega (arith, in_count, some)); within = omega (arith, in_count, fits.few) }

-- a stored frame has bytes
pub some_count : (n : ℕ) → 0 < count_of n
unfolding count_of
some_count n = go (bit 0 n)
  where
    go : (b : Bool) → 0 < cond b (n + 5) (n + 6)
    go true = omega arith
    go false = omega arith
