-- The packet that a data access means, of a chip of strips: its pages, and whether the access is refused.
use Rattle.std.specs.Prelude.{◌≡◌, Bool, false, not, ◌||◌, [], List, ℕ, ◌+◌, ◌*◌, ◌≤◌, ◌<◌, eqb, ltb, length, get_or}
use Rattle.std.proofs.Common.{ap, ap₂, sym, ◌∙◌, arith}
use Rattle.rules.specs.Lists.{some?}
use Rattle.rules.specs.Chip.{strips}
use Rattle.rules.specs.Data.{address, against, odd_fixed, past}
use Rattle.state.specs.View.{word, strips_from}
use Rattle.data.specs.Access.{width_of, meant_in, pages_meant_of}
use Rattle.strips.specs.Data.{stops, in_pages, has_pages}

-- the packet k, its m pages, an access of n bytes, and the test r
module _ (isRead wide : Bool) (w s q : List ℕ) {k m n : ℕ} {r : Bool} (means : k ≡ meant_in w q) (counts : m ≡ get_or s k 0) (holds : m ≡ length (get_or (strips_from 0 s) k []))
    (moves : n ≡ width_of wide) (tests : r ≡ against isRead (word w 19) || (odd_fixed (word w 19) || ltb (256 * m) (address (word w 19) + n))) where
  pub same_pages : get_or (strips_from 0 s) k [] ≡ pages_meant_of strips w s q
  same_pages = ap (λ (j : ℕ). get_or (strips_from 0 s) j []) means

  pub has : not (eqb m 0) ≡ some? (pages_meant_of strips w s q)
  has = ap (λ (i : ℕ). not (eqb i 0)) counts ∙ has_pages s k ∙ ap some? same_pages

  pub told : r ≡ stops isRead (width_of wide) (word w 19) (pages_meant_of strips w s q)
  unfolding past
  told = tests ∙ ap₂ (λ (i j : ℕ). against isRead (word w 19) || (odd_fixed (word w 19) || ltb (256 * i) (address (word w 19) + j))) (holds ∙ ap length same_pages) moves

  -- where it goes on
  pub inside : r ≡ false → address (word w 19) + width_of wide ≤ 256 * length (get_or (strips_from 0 s) k [])
  inside e = omega (arith, in_pages isRead (width_of wide) (word w 19) (pages_meant_of strips w s q) (sym told ∙ e), ap length same_pages)
