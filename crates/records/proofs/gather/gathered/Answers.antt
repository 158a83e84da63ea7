use Rattle.std.proofs.Common.{arith, ◌≡◌, ap, sym, ◌∙◌, List, ℕ, ◌+◌, ◌-◌, ◌<◌, add-one, length, take, drop, get_or, set, length-take, length-drop, length-take-le}
use Rattle.std.proofs.lemmas.List.{get_or-take}
use Rattle.std.proofs.Math.Seq.{paste, paste-suc}
use Rattle.records.proofs.Answered.{keeps, grows, joins_few}
use Rattle.records.proofs.gather.gathered.Goals as goal

pub returns-then-not-joins : goal.returns-then-not-joins
returns-then-not-joins c = keeps c.args.wire.now c.args.have c.args.bytes.now c.args.count c.requires.0 c.requires.1 (sym c.joins.ensures ∙ c.if-not-joins.true)

pub loop-k-preserved : goal.loop-k-preserved
loop-k-preserved c =
    let wire = c.args.wire.now in
    let have = c.args.have in
    let from = drop 2 c.args.bytes.now in
    let k = c.loop-k.k in
    let n = 2 + c.args.count - 2 in
    let few = joins_few have c.args.count (sym c.joins.ensures ∙ c.if-not-joins.false) in
    let more : k < c.args.count = omega (arith, c.loop-k-test.true, length-take n from) in
    let h : have + k < length wire = omega (arith, few.1, c.requires.0) in
    let l : k < length from = omega (arith, few.0, c.requires.2, length-drop 2 c.args.bytes.now) in
    ap (λ (x : List ℕ). set x (have + k) (get_or (take n from) k 0)) c.loop-k.invariant
    ∙ ap (set (paste wire have from k) (have + k)) (get_or-take n from k 0 (omega (arith, more)))
    ∙ paste-suc wire have from k 0 h l
    ∙ ap (paste wire have from) (sym (add-one k))

pub returns : goal.returns
returns c =
    let t = sym c.joins.ensures ∙ c.if-not-joins.false in
    let few = joins_few c.args.have c.args.count t in
    let from = drop 2 c.args.bytes.now in
    let all = length-take-le (2 + c.args.count - 2) from (omega (arith, few.0, c.requires.2, length-drop 2 c.args.bytes.now)) in
    let k : c.loop-k.k ≡ c.args.count = omega (arith, all, c.loop-k-test.false) in
    grows c.args.wire.now c.args.have c.args.bytes.now c.args.count c.requires.0 c.requires.1 t c.requires.2 c.loop-k.wire
    (c.loop-k.invariant ∙ ap (paste c.args.wire.now c.args.have (drop 2 c.args.bytes.now)) k)
