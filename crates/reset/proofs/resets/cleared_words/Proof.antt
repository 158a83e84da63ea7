-- Two parts, of ten words and of nineteen.
use mathlib.Core.Path.{◌≡◌, ap, ap₂, ◌∙◌}
use mathlib.Core.List.{List, ◌++◌}
use Prim.Native.Nat.{ℕ}
use native.Mathlib.Omega.{arith}
use lib.ListN.{length, take, drop, replicate, length-append, length-take, length-drop}
use Rattle.reset.proofs.Reset.{zero_parts, zeros_long}
use borrow.Author.Rules.{rules}
use Rattle.reset.proofs.resets.cleared_words.Statement.{statement}
use Rattle.reset.proofs.resets.cleared_words.Tie as tie

returns : tie.Need-returns
returns c =
    let b = c in
    let a = c in
    let d = c in
    let w = d.args.words.now in
    let all = d.requires in
    let z = a.zeroed.new.words in
    let ten : length (take 10 w) ≡ 10 = simp length-take (omega arith) in
    let front : z ≡ replicate 10 0 = a.zeroed.ensures ∙ ap (λ (n : ℕ). replicate n 0) ten in
    let rest : length (take 19 (drop 13 (z ++ drop 10 w))) ≡ 19 = simp (length-take, length-drop, length-append) (omega (arith, ap length front)) in
    let back : b.zeroed-2.new.words ≡ replicate 19 0 = b.zeroed-2.ensures ∙ ap (λ (n : ℕ). replicate n 0) rest in
    let zeros = ap₂ (λ (x y : List ℕ). take 13 (x ++ drop 10 w) ++ (y ++ drop 19 (drop 13 (x ++ drop 10 w)))) front back ∙ zero_parts w all in
    (zeros, ap length zeros ∙ zeros_long w all)

pub cleared_words_spec : {M : Type 1} → statement M
cleared_words_spec =
    tie.close
    (tie.spec
    (λ c. search rules)
    (λ c. search rules)
    (λ c. search rules)
    (λ c κs. search rules)
    (λ c. search rules)
    (λ c. search rules)
    (λ c. search rules)
    (λ c. search rules)
    (λ c. search rules)
    (λ c κs. search rules)
    (λ c. search rules)
    returns)
