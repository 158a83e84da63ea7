-- ECR stands at place 3.
use borrow.Author.Rules.{rules}
use mathlib.Core.Path.{sym, subst, ◌∙◌}
use mathlib.Core.List.{List}
use Prim.Native.Nat.{ℕ}
use Rattle.rules.specs.Chip.{Layout}
use Rattle.rules.specs.Registers as rules
use Rattle.rules.specs.Registers.{lanes_at, register_at, read_register, access}
use Rattle.state.specs.Meaning.{Answer}
use Rattle.state.specs.Meaning.{width_of}
use Rattle.state.specs.View.{view_of}
use Rattle.state.specs.Promise.{MakesOf, does_makes}
use Rattle.state.specs.Laws.{register_in}
use Rattle.accesses.specs.Reach.{read_there, answered}
use Rattle.accesses.proofs.reads.read_ecr.Statement.{statement}
use Rattle.accesses.proofs.reads.read_ecr.Tie as tie

-- what is promised of the register at place 3 is promised of the access
reached : (s : tie.Start) {l : Layout} {n mem : List ℕ} {a : Answer} {w : List ℕ} → let c = view_of l s.args.words.now n s.args.queues.now mem in
    MakesOf l (read_register (register_in 3) (lanes_at (width_of s.args.width) s.args.offset) c) a w n s.args.queues.now mem
    → MakesOf l (access (rules.read (width_of s.args.width) s.args.offset) c) a w n s.args.queues.now mem
reached s {l} {n} {mem} {a} {w} p =
    let c = view_of l s.args.words.now n s.args.queues.now mem in
    read_there _ _ s.args.words.now n s.args.queues.now mem s.requires.0 s.requires.2
    (subst (λ (j : ℕ). MakesOf l (read_register (register_in j) (lanes_at (width_of s.args.width) s.args.offset) c) a w n s.args.queues.now mem) (sym s.requires.3) p)

returns : tie.Need-returns
unfolding register_in register_at
returns c =
    let r = c in
    let s = c.before.before.before.before.before.before.before in
    let e = r.read_ecr.ensures in
    let p = lanes_at (width_of s.args.width) s.args.offset in
    (λ l n mem h. answered c.gives.ensures (reached s (does_makes (e.1.0 p) (record { kept = s.requires.0; queues = s.requires.1; sets = h }) mem)), e.1.1)

pub read_ecr_spec : {M : Type 1} → statement M
read_ecr_spec =
    tie.close
    (tie.spec
    (λ c κs. search rules)
    (λ c κs. search rules)
    (λ c. let r = c in r.read_ecr.ensures.1.1 ∙ sym r.requires.0.whole)
    returns)
