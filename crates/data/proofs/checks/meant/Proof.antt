-- By RCV, and by whether RX is empty.
use borrow.Author.Rules.{rules}
use mathlib.Core.Path.{◌≡◌, ap, sym, ◌∙◌}
use mathlib.Core.Bool.{true, false}
use mathlib.Core.List.{List}
use Prim.Native.Nat.{ℕ}
use native.Mathlib.Omega.{arith}
use Rattle.rules.specs.Bits.{low_byte}
use Rattle.rules.specs.Data.{rcv}
use Rattle.lists.specs.Facts.{head_and_rest}
use Rattle.state.specs.View.{word, queue_in}
use Rattle.pool.specs.Queues.{head_told}
use Rattle.data.specs.Access.{head_or24, meant_by}
use Rattle.data.proofs.checks.meant.Statement.{statement}
use Rattle.data.proofs.checks.meant.Tie as tie

-- by RCV
clear : (p k : ℕ) (rx : List ℕ) → rcv p ≡ false → meant_by p k rx ≡ k
unfolding meant_by
clear p k rx e = rw e

set : (p k : ℕ) (rx : List ℕ) → rcv p ≡ true → meant_by p k rx ≡ head_or24 rx
unfolding meant_by
set p k rx e = rw e

returns : tie.Need-returns-then-not-is_set
unfolding low_byte
returns c =
    let e = c in
    c.low_byte.ensures ∙ sym (clear _ _ _ (sym e.is_set.ensures ∙ e.if-not-is_set.true))

returns-2 : tie.Need-returns-then-words-eq0
returns-2 c =
    let e = c in
    let s = c in
    ap (λ (n : ℕ). head_or24 (queue_in 0 n s.args.queues.now)) (sym c.if-words-eq0.true) ∙ sym (set _ _ _ (sym e.is_set.ensures ∙ e.if-not-is_set.false))

returns-3 : tie.Need-returns
returns-3 c =
    let e = c in
    let s = c in
    let h = s.requires.1 in
    c.head.ensures ∙ head_told 0 _ s.args.queues.now h.rx (omega (arith, c.if-words-eq0.false))
    ∙ ap head_or24 (sym (head_and_rest (queue_in 0 (word s.args.words.now 6) s.args.queues.now) 0 (omega (arith, h.rx.many, c.if-words-eq0.false))))
    ∙ sym (set _ _ _ (sym e.is_set.ensures ∙ e.if-not-is_set.false))

pub meant_spec : {M : Type 1} → statement M
meant_spec = tie.close (tie.spec (λ c. search rules) (λ c κs. search rules) (λ c. search rules) (λ c κs. search rules) returns (λ c. search rules) returns-2 (λ c κs. search rules) returns-3)
