-- The words at reset, then no packets and empty queues in the places of the part; behind them all is 0.
use Rattle.std.specs.Prelude.{◌≡◌, List, [], ◌++◌, ℕ, ◌≤◌, length, take, drop, replicate}
use Rattle.std.proofs.Common.{ap, ap₂, sym, subst, ◌∙◌, arith}
use Rattle.std.proofs.Math.Seq.{length-take-le}
use Rattle.rules.specs.Parts.{IsPart}
use Rattle.wellformed.specs.Parts.{part_few}
use Rattle.pool.specs.Queues.{EmptiedOf}
use Rattle.reset.specs.Promises.{WordsReset}
use Rattle.reset.specs.Power.{powers_up}
use Rattle.state.specs.declared.part.Part.{Part}
use Rattle.state.specs.Meaning.{packets_of}
use Rattle.state.specs.Entry.{zeros}
use Rattle.chip.specs.Rights.{is_a_part, zeros_behind, cleared_zeros, starts}
use Rattle.chip.proofs.entries.powered.Goals as goal

-- all places are 0, and the part's are among them
fits : (p : Part) {n : ℕ} {s : List ℕ} → n ≡ packets_of p → s ≡ replicate 24 0 → n ≤ length s
fits p e zero = omega (arith, e, part_few (is_a_part p), ap length zero)

many : (p : Part) {n : ℕ} {s : List ℕ} → n ≡ packets_of p → s ≡ replicate 24 0 → n ≡ length (take n s)
many p {n} {s} e zero = sym (length-take-le n s (fits p e zero))

pub returns : goal.returns
returns c = λ l.
    let part = c.args.part in
    let p = packets_of part in
    let e = c.packets_of-n.ensures in
    let zero : c.cleared.new.sets ≡ replicate 24 0 = cleared_zeros (λ i. omega (arith, c.slice_known-6-1.given i)) (c.cleared.ensures ∙ ap (λ (k : ℕ). replicate k []) c.requires.1) in
    let size : length (take c.packets_of-n.result c.cleared.new.sets) ≡ p = sym (many part e zero) ∙ e in
    let from_zero = subst (λ (w : List ℕ). WordsReset w c.reset_words.new.words) (c.zeroed.ensures ∙ ap (λ (k : ℕ). replicate k 0) c.requires.0) c.reset_words.ensures in
    let none = subst (λ (k : ℕ). EmptiedOf l k c.reset_words.new.words c.reset.new.words c.reset.new.sets c.reset.new.queues) size (c.reset.ensures l) in
    starts p none.sound (powers_up from_zero none (zeros l p))
    (ap (λ (x : List ℕ). c.reset.new.sets ++ x) (ap₂ (λ (k : ℕ) (x : List ℕ). drop k x) e zero ∙ zeros_behind part))
