-- A data access on a chip of strips: its refusals are the rules' in their order, and where none holds its bytes lie in the packet's strip.
use Rattle.std.specs.Prelude.{◌≡◌, Bool, not, ◌||◌, ℕ, ◌+◌, ◌*◌, ◌≤◌, ◌<◌, eqb, get_or}
use Rattle.std.proofs.Math.Path.{refl}
use Rattle.std.proofs.Common.{ap, sym, ◌∙◌, true≢false, arith}
use Rattle.std.proofs.Math.Bool.{true, false, cond}
use mathlib.Core.List.{List, [], ◌∷◌}
use borrow.Author.Tests.{ltb-false}
use Rattle.std.proofs.Math.ListN.{length}
use Rattle.rules.specs.Lists.{some?}
use Rattle.rules.specs.Chip.{strips, Chip}
use Rattle.rules.specs.Answers.{Effect, refuse}
use Rattle.rules.specs.Packet.{get_bytes, put_bytes}
use Rattle.rules.specs.Data.{address, against, odd_fixed, past, rcv}
use Rattle.lists.specs.Facts.{or_left, or_right}
use Rattle.wellformed.specs.Pool.{has_small}
use Rattle.state.specs.View.{strips_from}
use Rattle.state.specs.Pages.{strip_at, strip_count, some_strip}
use Rattle.state.specs.Promise.{ReadyOf}
use Rattle.data.specs.Access.{width_of, bytes_for, refusal_if, refusal_of, if_any, unless_past}
use Rattle.strip_bytes.specs.Strip.{strip_of, InStrip, first_get, first_put}

-- is the access refused
abbrev pub stops : Bool → ℕ → ℕ → List ℕ → Bool
stops isRead width p pages = against isRead p || (odd_fixed p || past width p pages)

module _ (isRead : Bool) (width p : ℕ) (pages : List ℕ) where
  pub not_past : stops isRead width p pages ≡ false → past width p pages ≡ false
  not_past e = or_right (odd_fixed p) (past width p pages) (or_right (against isRead p) (odd_fixed p || past width p pages) e)

  -- the packet has pages, and all bytes lie in them
  pub in_pages : stops isRead width p pages ≡ false → address p + width ≤ 256 * length pages
  unfolding past
  in_pages e = ltb-false (256 * length pages) (address p + width) (not_past e)

module _ (isRead : Bool) (width p : ℕ) (pages : List ℕ) (c : Chip) (s : Effect) where
  pub stopped : stops isRead width p pages ≡ true → if_any isRead width p pages c s ≡ refuse (refusal_of isRead p pages) c
  unfolding if_any refusal_if
  stopped e = go (some? pages) (against isRead p) (odd_fixed p) (past width p pages) e
    where
      go : (n a o q : Bool) → a || (o || q) ≡ true
          → cond (not n) (refuse (cond (rcv p) 7 5) c) (cond a (refuse 8 c) (cond o (refuse 9 c) (cond q (refuse 10 c) s))) ≡ refuse (cond (not n) (cond (rcv p) 7 5) (cond a 8 (cond o 9 10))) c
      go false a o q h = refl
      go true true o q h = refl
      go true false true q h = refl
      go true false false true h = refl
      go true false false false h = absurd (true≢false (sym h))

  pub goes : 0 < width → stops isRead width p pages ≡ false → if_any isRead width p pages c s ≡ unless_past width p pages c s
  unfolding if_any unless_past some?
  goes some e =
      let f = or_right (against isRead p) (odd_fixed p || past width p pages) e in
      rw (has pages (in_pages isRead width p pages e), or_left (against isRead p) (odd_fixed p || past width p pages) e, or_left (odd_fixed p) (past width p pages) f)
    where
      has : (l : List ℕ) → address p + width ≤ 256 * length l → some? l ≡ true
      has [] h = absurd (omega (arith, some))
      has (x ∷ xs) h = refl

-- An access moves one byte or two.
pub some_width : (wide : Bool) → 0 < width_of wide
some_width true = omega arith
some_width false = omega arith

pub few_width : (wide : Bool) → width_of wide < 3
few_width true = omega arith
few_width false = omega arith

pub bytes_width : (wide : Bool) (v : ℕ) → length (bytes_for wide v) ≡ width_of wide
bytes_width true v = refl
bytes_width false v = refl

-- A packet has pages where its count is not 0.
pub has_pages : (s : List ℕ) (k : ℕ) → not (eqb (get_or s k 0) 0) ≡ some? (get_or (strips_from 0 s) k [])
has_pages s k = sym (ap some? (strip_at s k) ∙ some_strip (8 * k) (get_or s k 0))

-- The packet k of strips that counts s say.
module _ {w s q : List ℕ} (r : ReadyOf strips w s q) (k : ℕ) where
  pub count_few : get_or s k 0 ≤ 8
  count_few = omega (arith, strip_count s k, r.well.pages.at_most k)

  pub number_small : 0 < length (get_or (strips_from 0 s) k []) → k < length s
  unfolding some?
  number_small h = omega (arith, has_small (strips_from 0 s) k (has (get_or (strips_from 0 s) k []) h), r.well.count)
    where
      has : (l : List ℕ) → 0 < length l → some? l ≡ true
      has [] h = absurd (omega arith)
      has (x ∷ xs) h = refl

  -- bytes in its pages lie in its strip
  module _ (n a : ℕ) (memory : List ℕ) (inside : a + n ≤ 256 * length (get_or (strips_from 0 s) k [])) where
    pub in_strip : 0 < n → length memory ≡ 2048 * length s → InStrip (a + n) k memory
    in_strip some whole = record { there = omega (arith, whole, number_small (omega (arith, some, inside))); within = omega (arith, inside, strip_count s k, count_few) }

    pub strip_reads : get_bytes n a (strip_of k) memory ≡ get_bytes n a (get_or (strips_from 0 s) k []) memory
    strip_reads = first_get k (get_or s k 0) count_few n a memory (omega (arith, inside, strip_count s k)) ∙ sym (ap (λ (l : List ℕ). get_bytes n a l memory) (strip_at s k))

  pub strip_writes : (bytes : List ℕ) (a : ℕ) (memory : List ℕ) → a + length bytes ≤ 256 * length (get_or (strips_from 0 s) k [])
      → put_bytes bytes a (strip_of k) memory ≡ put_bytes bytes a (get_or (strips_from 0 s) k []) memory
  strip_writes bytes a memory inside =
      first_put k (get_or s k 0) count_few bytes a memory (omega (arith, inside, strip_count s k)) ∙ sym (ap (λ (l : List ℕ). put_bytes bytes a l memory) (strip_at s k))
