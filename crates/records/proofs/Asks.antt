-- Which record is a send, and which asks for a part.
use mathlib.Core.Path.{◌≡◌, refl}
use mathlib.Core.Bool.{Bool, true, false, cond}
use mathlib.Core.List.{List}
use Prim.Native.Nat.{ℕ}
use native.Mathlib.Decide.{ℕ_discrete}
use borrow.Author.Tests.{ne_eqb}
use lib.Dec.{eqb}
use Rattle.rules.specs.Parts.{part_named}
use Rattle.rules.specs.Bench.{Event, event_of, at, asks_for}
use Rattle.rules.specs.Watch.{is_send}

-- Only kind 7 is a send.
neither : (t : Bool) (x y : Event) → is_send x ≡ false → is_send y ≡ false → is_send (cond t x y) ≡ false
neither true x y h k = h
neither false x y h k = k

pub send_kind : (b : List ℕ) → is_send (event_of b) ≡ eqb (at b 0) 7
unfolding is_send event_of
send_kind b = go (ℕ_discrete (at b 0) 7)
  where
    go : Dec (at b 0 ≡ 7) → is_send (event_of b) ≡ eqb (at b 0) 7
    go (yes e) = rw e
    go (no n) =
        let k = at b 0 in
        rw (ne_eqb k 7 n)
        (neither (eqb k 1) _ _ refl (neither (eqb k 2) _ _ refl (neither (eqb k 3) _ _ refl (neither (eqb k 4) _ _ refl (neither (eqb k 5) _ _ refl (neither (eqb k 6) _ _ refl (neither (eqb k 8) _ _ refl (neither (eqb k 9) _ _ refl refl))))))))

-- A record of kind 9 asks for the part that its byte 1 names, and any other for none.
pub asks_part_lem : (b : List ℕ) → at b 0 ≡ 9 → asks_for (event_of b) ≡ part_named (at b 1)
unfolding asks_for event_of
asks_part_lem b e = rw e

pub asks_none : (b : List ℕ) → (at b 0 ≡ 9 → ⊥) → asks_for (event_of b) ≡ 0
unfolding asks_for event_of
asks_none b n =
    let k = at b 0 in
    rw (ne_eqb k 9 n)
    (none (eqb k 1) _ _ refl (none (eqb k 2) _ _ refl (none (eqb k 3) _ _ refl (none (eqb k 4) _ _ refl (none (eqb k 5) _ _ refl (none (eqb k 6) _ _ refl (none (eqb k 7) _ _ refl (none (eqb k 8) _ _ refl refl))))))))
  where
    none : (t : Bool) (x y : Event) → asks_for x ≡ 0 → asks_for y ≡ 0 → asks_for (cond t x y) ≡ 0
    none true x y p q = p
    none false x y p q = q
