-- Which register stands at a place: data, and what is left of the 64 places for the last arm of a table, which is unused.
use Rattle.std.specs.Prelude.{◌≡◌, refl, Bool, true, false, ◌&&◌, ◌||◌, List, [], ℕ, ◌+◌, ◌-◌, ◌*◌, ◌/◌, ◌%◌, ◌≤◌, ◌<◌, eqb, leb, ltb, get_or, take, drop, replicate}
use Rattle.std.proofs.Common.{ap, sym, true≢false, arith, leb-true, ltb-true, ne_eqb, get_or-take, get_or-drop}
use Rattle.std.proofs.Math.Decide.{ℕ_discrete}
use Rattle.std.proofs.lemmas.List.{get_or-replicate}
use Rattle.rules.specs.Registers.{DATA, UNUSED, ABSENT, banks, register_at}
use Rattle.state.specs.Laws.{register_in}
use Rattle.state.specs.Keys.{left_true, right_true, passed, in_some, Left, left_over}

-- a stretch of a list, `count` entries from place `from` on, that are all x: each of its places holds x
along : {A : Type 0} {x : A} (l : List A) (i : ℕ) (d : A) («from» count : ℕ) → take count (drop «from» l) ≡ replicate count x → «from» ≤ i → i < «from» + count → x ≡ get_or l i d
along {A} {x} l i d «from» count e low high =
    let k = i - «from» in
    let back : «from» + k ≡ i = omega arith in
    let near : k < count = omega arith in
    rw (← back, ← get_or-drop, ← get_or-take count (drop «from» l) k d near, e) (sym (get_or-replicate count k x d near))

-- banks 5 to 7, but for offset E
abbrev pub in_unused : ℕ → Bool
in_unused at = leb 40 at && ltb (at % 8) 7

at_unused : (at : ℕ) → 40 ≤ at → at < 64 → at % 8 < 7 → register_in at ≡ UNUSED
unfolding register_in register_at
at_unused at l h n =
    let row : replicate 7 UNUSED ≡ get_or banks (at / 8) [] = along banks (at / 8) [] 5 3 refl (omega arith) (omega arith) in
    let half : at % 8 * 2 / 2 ≡ at % 8 = omega arith in
    rw (half, ne_eqb (at % 8) 7 (omega arith), ← row) (get_or-replicate 7 (at % 8) UNUSED ABSENT n)

pub unused_left : (arms : List (List ℕ)) → passed (λ (k : ℕ). in_some k arms || (eqb (k / 2) 10 || in_unused k)) 64 ≡ true → (at : ℕ) → at < 64 → (at / 2 ≡ 10 → ⊥) → Left arms at → register_in at ≡ UNUSED
unused_left arms e at h m l =
    let t = right_of (eqb (at / 2) 10) (in_unused at) (ne_eqb (at / 2) 10 m) (left_over (λ (k : ℕ). eqb (k / 2) 10 || in_unused k) arms 64 e at h l) in
    at_unused at (leb-true _ _ (left_true (leb 40 at) (ltb (at % 8) 7) t)) h (ltb-true _ _ (right_true (leb 40 at) (ltb (at % 8) 7) t))
  where
    right_of : (a b : Bool) → a ≡ false → a || b ≡ true → b ≡ true
    right_of true b x y = absurd (true≢false x)
    right_of false b x y = y

-- bank 2, offsets 8 to B
pub at_data : (at : ℕ) → at / 2 ≡ 10 → register_in at ≡ DATA
unfolding register_in register_at
at_data at e = go (ℕ_discrete at 20)
  where
    go : Dec (at ≡ 20) → register_in at ≡ DATA
    go (yes x) = ap register_in x
    go (no x) = ap register_in (let y : at ≡ 21 = omega (arith, e, x) in y)
