-- Four words beside the zeros, and the link.
use mathlib.Core.Path.{refl}
use native.Mathlib.Omega.{arith}
use lib.ListN.{length-set}
use Rattle.reset.proofs.Reset.{reset_to}
use borrow.Author.Rules.{rules}
use Rattle.reset.proofs.resets.reset_words.Statement.{statement}
use Rattle.reset.proofs.resets.reset_words.Tie as tie

slice-write-words-4 : tie.Need-bounds-words-13
slice-write-words-4 c = simp length-set (omega (arith, c.cleared_words.ensures.1))

slice-write-words-5 : tie.Need-bounds-words-17
slice-write-words-5 c = simp length-set (omega (arith, c.cleared_words.ensures.1))

returns : tie.Need-returns
returns c = let d = c in rw c.cleared_words.ensures.0 (reset_to _ d.args.words.now d.requires refl)

pub reset_words_spec : {M : Type 1} → statement M
reset_words_spec =
    tie.close
    (tie.spec
    (λ c. search rules)
    (λ c κs. search rules)
    (λ c. search rules)
    (λ c. search rules)
    (λ c. search rules)
    slice-write-words-4
    slice-write-words-5
    (λ c. search rules)
    returns)
