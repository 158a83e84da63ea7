-- What a packet's home asks of memory, in each layout; and that this goes by memory's length.
use Rattle.std.specs.Prelude.{◌≡◌, List, ℕ, ◌+◌, ◌*◌, ◌/◌, ◌≤◌, ◌<◌, length}
use Rattle.std.proofs.Common.{sym, subst, arith}
use Rattle.lists.specs.Bytes.{Below}

-- a packet with m pages has no more than its strip, which is in memory where it has some
pub record StripFits (k m : ℕ) (memory : List ℕ) : Type 0 where
  pub few : m ≤ 8
  pub there : 0 < m → 2048 * k + 2048 ≤ length memory

pub below_as : (pages m after : List ℕ) → length after ≡ length m → Below (length m / 256) pages → Below (length after / 256) pages
below_as pages m after e = subst (λ (n : ℕ). Below (n / 256) pages) (sym e)

pub strip_as : (k pages : ℕ) (m after : List ℕ) → length after ≡ length m → StripFits k pages m → StripFits k pages after
strip_as k pages m after e f = record { few = f.few; there = λ some. omega (arith, e, f.there some) }
