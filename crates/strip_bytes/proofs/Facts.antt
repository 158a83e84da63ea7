-- What the proofs of this crate, and of those above it, need of `InStrip`.
use mathlib.Core.Path.{◌≡◌, ap, sym, ◌∙◌}
use mathlib.Core.List.{List}
use Prim.Native.Nat.{ℕ, ◌+◌, ◌*◌, ◌≤◌, ◌<◌}
use native.Mathlib.Omega.{arith}
use lib.ListN.{length, get_or}
use Rattle.rules.specs.Data.{value_of}
use Rattle.rules.specs.Packet.{get_bytes, put_bytes}
use Rattle.lists.specs.Bytes.{length_put}
use Rattle.packet.proofs.Facts.{byte_at}
use Rattle.strip_bytes.specs.Strip.{strip_of, InStrip, strip_place}

module _ {end k : ℕ} {memory : List ℕ} (h : InStrip end k memory) where
  pub strip_less : (e : ℕ) → e ≤ end → InStrip e k memory
  strip_less e f = record { there = h.there; within = omega (arith, h.within) }

  -- bytes that are put leave it
  pub strip_after : {after : List ℕ} (bytes pages : List ℕ) (a : ℕ) → after ≡ put_bytes bytes a pages memory → InStrip end k after
  strip_after bytes pages a e = record { there = omega (arith, ap length e, length_put bytes a pages memory, h.there); within = h.within }

-- the byte that lies at i
pub strip_byte : (k a i : ℕ) (memory : List ℕ) → a < 2048 → i ≡ 2048 * k + a → get_or memory i 0 ≡ value_of (get_bytes 1 a (strip_of k) memory)
strip_byte k a i memory h e = byte_at a i (strip_of k) memory (e ∙ sym (strip_place k 8 a h))
