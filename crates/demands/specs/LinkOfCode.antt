-- What document 02's W8 says of frames and sends "whatever the link", carried over to the code: of any board, in order or not, whatever part it names.
use Rattle.std.specs.Prelude.{◌≡◌, ℕ}
use Rattle.std.proofs.Common.{ap, sym, subst, ◌∙◌}
use Rattle.rules.specs.Chip.{Layout, Chip, size}
use Rattle.rules.specs.Answers.{Turn}
use Rattle.rules.specs.Step.{Input, step_of}
use Rattle.laws.specs.LinkApart.{ByLink, TurnsApart}
use Rattle.laws.proofs.LinkPlaces.{link_apart}
use Rattle.demands.specs.Boards.{Board, part_in, Left, reply_to, chip_of, Good, GoodOf, Serves, good_size, own, serves_right}

-- A link event and another input in either order: u and v are left where the link event comes first, y and z where it comes last. Each is answered as if it came first.
pub record AnsweredAlike (u v y z : Left) : Type 0 where
  pub event : reply_to z ≡ reply_to u
  pub reply : reply_to v ≡ reply_to y
  pub output : v.output ≡ y.output

module _ (l : Layout) where
  -- the turn that an entry has made: its reply, the chip of the board that it left, and the output
  abbrev pub turn_of : Left → Turn
  turn_of x = record { reply = reply_to x; chip = chip_of l x.board; output = x.output }

  as_turn : {n : ℕ} (i : Input) (b : Board) (x : Left) → GoodOf n l b → Serves l i b x → turn_of x ≡ step_of n i (chip_of l b)
  as_turn {n} i b x g a = let r = serves_right n l i b x g a in λ j. record { reply = r.reply j; chip = r.chip j; output = r.output j }

  -- One input on two boards in order, whose chips differ at most in link and change seen.
  pub serves_apart : (i : Input) (b d : Board) (x y : Left) → Good l b → Good l d → ByLink (chip_of l b) (chip_of l d) → Serves l i b x → Serves l i d y → TurnsApart i (chip_of l b) (turn_of x) (turn_of y)
  serves_apart i b d x y g h e p q =
      let n = part_in b in
      let same : GoodOf n l d = record { good = h; part = sym (good_size l d h) ∙ ap (λ (c : Chip). size c) e ∙ good_size l b g } in
      subst (λ (u : Turn). TurnsApart i (chip_of l b) (turn_of x) u) (sym (as_turn i d y same q))
      (subst (λ (t : Turn). TurnsApart i (chip_of l b) t (step_of n i (chip_of l d))) (sym (as_turn i b x (own g) p)) (link_apart n i (chip_of l b) (chip_of l d) e))
