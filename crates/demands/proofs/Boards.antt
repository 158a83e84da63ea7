-- The code as its callers see it: a board is a record with its memory, and a public entry serves an input on it, `chip`'s at its layout: `Paged` where l is `paged`, `Strips` where it is `strips`.
-- What follows from the entries' promise alone, for one step and for runs.
use Rattle.std.specs.Prelude.{◌≡◌, refl}
use Rattle.std.proofs.Math.Path.{ap, ap₂}
use Rattle.std.proofs.Common.{subst, ◌∙◌}
use mathlib.Core.List.{List, [], ◌∷◌, map}
use Rattle.rules.specs.Chip.{Layout}
use Rattle.rules.specs.Answers.{refusal}
use Rattle.rules.specs.Step.{Input}
use Rattle.state.specs.Meaning.{reply_of}
use Rattle.demands.specs.Boards.{Board, Left, board_after, replies_of, Good, Serves, Runs, Refused16}

module _ (l : Layout) where
  pub serves_refused : (i : Input) (b : Board) (x : Left) → (Good l b → ⊥) → Serves l i b x → Refused16 l i b x
  serves_refused i b x bad a =
      let r = a.broken bad in
      record { reply = ap reply_of r.answer; board = λ j. record { words = r.words j; pages = r.pages j; queues = r.queues j; memory = r.memory j }; output = r.output }

  -- Inputs one after another, where the first board is not in order.
  pub runs_refused : (is : List Input) (b : Board) (xs : List Left) → (Good l b → ⊥) → Runs l is b xs → (replies_of xs ≡ map (λ i. refusal 16) is) × (board_after b xs ≡ b)
  runs_refused [] b [] bad r = (refl, refl)
  runs_refused [] b (x ∷ xs) bad r = absurd r
  runs_refused (i ∷ is) b [] bad r = absurd r
  runs_refused (i ∷ is) b (x ∷ xs) bad r =
      let s = serves_refused i b x bad r.0 in
      let t = runs_refused is x.board xs (λ g. bad (subst (Good l) s.board g)) r.1 in
      (ap₂ ◌∷◌ s.reply t.0, t.1 ∙ s.board)
