-- How many pages a frame needs, and what is known of one that is stored.
use Rattle.std.specs.Prelude.{◌≡◌, refl, Bool, true, false, cond, not, ◌&&◌, ◌||◌, ℕ, ◌+◌, ◌≤◌, ltb, length}
use Rattle.std.proofs.Common.{ap, arith, ltb-false}
use Rattle.rules.specs.Bits.{bit}
use Rattle.rules.specs.Chip.{Registers}
use Rattle.rules.specs.Receive.{Frame, bad_crc, stored, disabled, not_accepted, too_long, bad, no_room, value_for, data_length, count_of, pages_for, needed, accepted, destination, dropped, judge}
use Rattle.lists.specs.Bytes.{count_least}
use Rattle.wellformed.specs.Cases.{pick}

pub data_short : (r : Registers) (len : ℕ) → data_length r len ≤ len
unfolding data_length
data_short r len = pick (λ (x : ℕ). x ≤ len) (bit 9 r.receiving.rcr) (omega arith) (omega arith)

pub count_high : (n : ℕ) → count_of n ≤ n + 6
unfolding count_of
count_high n = pick (λ (x : ℕ). x ≤ n + 6) (bit 0 n) (omega arith) (omega arith)

pub needs_one : (r : Registers) (len : ℕ) → 1 ≤ needed r len
unfolding needed pages_for
needs_one r len = omega (arith, count_least (data_length r len))

pub needs_seven : (r : Registers) (len : ℕ) → len ≤ 1532 → needed r len ≤ 7
unfolding needed pages_for
needs_seven r len h = omega (arith, count_high (data_length r len), data_short r len)

-- what the judgement says of a stored frame
pub record Storable (r : Registers) (free_pages : ℕ) (f : Frame) : Type 0 where
  pub short : length f.bytes ≤ 1532
  pub kept : dropped r f ≡ false
  pub room : needed r (length f.bytes) + r.receiving.reserved ≤ free_pages

pub storable : (r : Registers) (free : ℕ) (f : Frame) → judge r free f ≡ stored → Storable r free f
unfolding judge value_for
storable r free f e =
    go (not (bit 8 r.receiving.rcr)) (not (accepted r (destination f))) (ltb 1532 (length f.bytes)) refl (dropped r f) refl (ltb free (needed r (length f.bytes) + r.receiving.reserved)) refl e
  where
    go : (a b x : Bool) → ltb 1532 (length f.bytes) ≡ x → (d : Bool) → dropped r f ≡ d → (y : Bool) → ltb free (needed r (length f.bytes) + r.receiving.reserved) ≡ y
        → cond a disabled (cond b not_accepted (cond x too_long (cond d bad (cond y no_room stored)))) ≡ stored → Storable r free f
    go true b x p d z y q e = absurd (omega (arith, ap value_for e))
    go false true x p d z y q e = absurd (omega (arith, ap value_for e))
    go false false true p d z y q e = absurd (omega (arith, ap value_for e))
    go false false false p true z y q e = absurd (omega (arith, ap value_for e))
    go false false false p false z true q e = absurd (omega (arith, ap value_for e))
    go false false false p false z false q e = record { short = ltb-false 1532 (length f.bytes) p; kept = z; room = ltb-false free _ q }

-- so its CRC is good where control bit 14 is clear
unflawed : (b c x y : Bool) → c ≡ false → (b || x || y) && not c ≡ false → b ≡ false
unflawed false c x y e k = refl
unflawed true false x y e k = k
unflawed true true x y e k = e

pub stored_good : {r : Registers} {free : ℕ} {f : Frame} → Storable r free f → bit 14 r.control ≡ false → bad_crc f.bytes ≡ false
unfolding dropped
stored_good {r} {f = f} s c = unflawed (bad_crc f.bytes) (bit 14 r.control) f.alignment (ltb (length f.bytes) 64) c s.kept
