-- The promise of strips beside pages, of the code: the public entries of `chip` at `Paged` and at `Strips`, of the part with n packets, on the same inputs from power-up.
use Rattle.std.specs.Prelude.{◌≡◌, List, [], ◌∷◌, ℕ}
use Rattle.std.proofs.Common.{ap, sym, subst, ◌∙◌}
use Rattle.rules.specs.Chip.{paged, strips, Chip, powered}
use Rattle.rules.specs.Answers.{Reply}
use Rattle.rules.specs.Step.{Input, step_of, run_of}
use Rattle.strip_laws.specs.Written.{Marks, unwritten, written, OnlyWritten}
use Rattle.strip_laws.specs.Strips.{Agree, SameReply, Alike}
use Rattle.strip_laws.proofs.StripsAlike.{strips_beside}
use Rattle.demands.specs.Boards.{Board, Left, reply_to, chip_of, GoodOf, Starts, Runs, serves_right, runs_right}
use Rattle.demands.proofs.OfCode.{starts_up}
use Rattle.demands.specs.BesideCode.{StepsBeside, BesideOn}

-- The chips of the rules are those that the boards stand for.
agree_on : {m : Marks} {c c' d d' : Chip} → c ≡ c' → d ≡ d' → Agree m c' d' → Agree m c d
agree_on {m} {c} {c'} {d} {d'} e f a = subst (λ (k : Chip). Agree m k d) (sym e) (subst (Agree m c') (sym f) a)

module _ (n : ℕ) where
  runs_steps : (is : List Input) (m : Marks) (b d : Board) (xs ys : List Left) → GoodOf n paged b → GoodOf n strips d → Alike n is m (chip_of paged b) (chip_of strips d)
      → Runs paged is b xs → Runs strips is d ys → StepsBeside n is m b xs ys
  runs_steps [] m b d [] [] g h a r s = tt
  runs_steps [] m b d [] (y ∷ ys) g h a r s = absurd s
  runs_steps [] m b d (x ∷ xs) ys g h a r s = absurd r
  runs_steps (i ∷ is) m b d [] ys g h a r s = absurd r
  runs_steps (i ∷ is) m b d (x ∷ xs) [] g h a r s = absurd s
  runs_steps (i ∷ is) m b d (x ∷ xs) (y ∷ ys) g h a r s =
      let u = serves_right n paged i b x g r.0 in
      let v = serves_right n strips i d y h s.0 in
      let k = written n i (chip_of paged b) m in
      let t = subst (λ (z : Reply). SameReply i (chip_of paged b) m z (step_of n i (chip_of strips d)).reply) (sym u.reply) a.0.reply in
      let alike : Alike n is k (chip_of paged x.board) (chip_of strips y.board) = subst (λ (c : Chip). Alike n is k c (chip_of strips y.board)) (sym u.chip) (subst (Alike n is k (step_of n i (chip_of paged b)).chip) (sym v.chip) a.1) in (
        record {
          reply = subst (SameReply i (chip_of paged b) m (reply_to x)) (sym v.reply) t;
          output = v.output ∙ a.0.output ∙ sym u.output;
          after = agree_on u.chip v.chip a.0.after;
        },
        runs_steps is k x.board y.board xs ys u.good v.good alike r.1 s.1,
      )

  pub runs_beside : (inputs : List Input) → OnlyWritten n inputs (powered paged n) unwritten → (u v : Left) → Starts paged n u → Starts strips n v
      → (xs ys : List Left) → Runs paged inputs u.board xs → Runs strips inputs v.board ys → BesideOn n inputs u.board xs v.board ys
  runs_beside inputs h u v p q xs ys r s =
      let b = u.board in
      let d = v.board in
      let c = starts_up n paged u p in
      let e = starts_up n strips v q in
      let t = strips_beside n inputs h in
      let steps : Alike n inputs unwritten (chip_of paged b) (chip_of strips d) = subst (λ (k : Chip). Alike n inputs unwritten k (chip_of strips d)) (sym c.0) (subst (Alike n inputs unwritten (powered paged n)) (sym e.0) t.steps) in
      record {
        steps = runs_steps inputs unwritten b d xs ys c.1 e.1 steps r s;
        end = agree_on ((runs_right n paged inputs b xs c.1 r).chip ∙ ap (λ (k : Chip). (run_of n inputs k).chip) c.0) ((runs_right n strips inputs d ys e.1 s).chip ∙ ap (λ (k : Chip). (run_of n inputs k).chip) e.0) t.end;
      }
