-- What is kept of the pages where they change, in both layouts: MIR, stored with the difference, counts the free pages again.
use Rattle.std.specs.Prelude.{◌≡◌, List, [], ℕ, ◌+◌, ◌*◌, ◌<◌, length, get_or, set}
use Rattle.std.proofs.Common.{ap, ap₂, sym, subst, ◌∙◌, arith}
use Rattle.rules.specs.Bits.{word_of}
use Rattle.rules.specs.Parts.{IsPart}
use Rattle.rules.specs.Chip.{Layout, free_for}
use Rattle.wellformed.specs.Layouts.{GoodLists, free_set}
use Rattle.state.specs.View.{word, figures, with_mir, lists_of}
use Rattle.state.specs.Pages.{numbers_length}
use Rattle.state.specs.Promise.{Small, PagesIn}
use Rattle.state.specs.Stores.{Recounts}
use Rattle.pages.specs.Pages.{RepagesOf}

-- One packet's pages are others.
module _ {l : Layout} (f : List (List ℕ) → List (List ℕ)) (k : ℕ) (x w w' s s' : List ℕ) (y : ℕ)
    (r : Recounts (with_mir y (figures w)) w w') (number : k < length s) (good : GoodLists l (length s) (lists_of l s)) (after : GoodLists l (length s) (set (lists_of l s) k x))
    (h : PagesIn l (figures w) s) (small : Small s') (pages : lists_of l s' ≡ f (lists_of l s)) (one : f (lists_of l s) ≡ set (lists_of l s) k x)
    (counted : y + 256 * length x ≡ word w 4 + 256 * length (get_or (lists_of l s) k [])) where
  mir : word w' 4 ≡ y
  mir = ap (λ (c : List ℕ). word c 3) r.counted

  free : y ≡ word_of (length s) (length (free_for l (set (lists_of l s) k x)))
  unfolding word_of
  free = omega (arith, counted, h.free, free_set l (length s) (lists_of l s) k x number good after)

  same_size : length s' ≡ length s
  same_size = sym (numbers_length l s') ∙ ap length (pages ∙ one) ∙ after.count

  pub repaged : RepagesOf l f w s w' s'
  repaged = record {
    regs = r.regs;
    pages = pages;
    still = r.counted ∙ ap (λ (z : ℕ). with_mir z (figures w)) (sym mir);
    kept = r.kept;
    sets = record {
      part = subst IsPart (sym same_size) h.part;
      free = mir ∙ free ∙ ap₂ (λ (n : ℕ) (ls : List (List ℕ)). word_of n (length (free_for l ls))) (sym same_size) (sym (pages ∙ one));
      small = small;
    };
  }
