-- What document 02's W8 says of frames and sends "whatever the link", carried over to the code: of any board, in order or not, whatever part it names.
use Rattle.std.specs.Prelude.{◌≡◌, refl, List, ℕ}
use Rattle.std.proofs.Common.{ap, sym, subst, ◌∙◌}
use Rattle.rules.specs.Chip.{Layout, Chip}
use Rattle.rules.specs.Receive.{Frame}
use Rattle.rules.specs.Send.{Send}
use Rattle.rules.specs.Step.{Input, frame, sent, link, step_of}
use Rattle.state.specs.Decided.{decided}
use Rattle.laws.specs.Head.{head_pages}
use Rattle.laws.specs.LinkApart.{ByLink, but_status, SameAnswers, link_first, link_last}
use Rattle.laws.specs.LinkPlaces.{link_alone}
use Rattle.laws.proofs.LinkPlaces.{link_and_frame, link_and_send}
use Rattle.demands.specs.Boards.{Board, part_in, Left, chip_of, Good, GoodOf, Serves, AsRules, one_board, own, serves_right}
use Rattle.demands.proofs.Boards.{serves_refused}
use Rattle.demands.specs.LinkOfCode.{AnsweredAlike}

module _ (l : Layout) where
  -- A link event changes the link and its change, and nothing else, on any board.
  pub serves_alone : (x : ℕ) (b : Board) (u : Left) → Serves l (link x) b u → ByLink (chip_of l b) (chip_of l u.board)
  serves_alone x b u a = go (decided l b.words b.pages b.queues b.memory)
    where
      go : Dec (Good l b) → ByLink (chip_of l b) (chip_of l u.board)
      go (yes g) = subst (ByLink (chip_of l b)) (sym (serves_right (part_in b) l (link x) b u (own g) a).chip) (link_alone (part_in b) x (chip_of l b))
      go (no bad) = subst (λ (d : Board). ByLink (chip_of l b) (chip_of l d)) (sym (serves_refused l (link x) b u bad a).board) refl

  -- The link event x and the input i on the board b, in either order.
  module _ (x : ℕ) (i : Input) (b : Board) (u v y z : Left) (p : Serves l (link x) b u) (q : Serves l i u.board v) (r : Serves l i b y) (s : Serves l (link x) y.board z) where
    module _ {n : ℕ} (g : GoodOf n l b) where
      first : AsRules n l (step_of n i (chip_of l u.board)) v
      first = serves_right n l i u.board v (serves_right n l (link x) b u g p).good q

      last : AsRules n l (step_of n (link x) (chip_of l y.board)) z
      last = serves_right n l (link x) y.board z (serves_right n l i b y g r).good s

      pub first_chip : chip_of l v.board ≡ link_first n x i (chip_of l b)
      first_chip = first.chip ∙ ap (λ (c : Chip). (step_of n i c).chip) (serves_right n l (link x) b u g p).chip

      pub last_chip : chip_of l z.board ≡ link_last n x i (chip_of l b)
      last_chip = last.chip ∙ ap (λ (c : Chip). (step_of n (link x) c).chip) (serves_right n l i b y g r).chip

      pub as_answered : SameAnswers n x i (chip_of l b) → AnsweredAlike u v y z
      as_answered a =
          let event = serves_right n l (link x) b u g p in
          let alone = serves_right n l i b y g r in
          record {
            event = last.reply ∙ ap (λ (c : Chip). (step_of n (link x) c).reply) alone.chip ∙ a.event ∙ sym event.reply;
            reply = first.reply ∙ ap (λ (c : Chip). (step_of n i c).reply) event.chip ∙ a.reply ∙ sym alone.reply;
            output = first.output ∙ ap (λ (c : Chip). (step_of n i c).output) event.chip ∙ a.output ∙ sym alone.output;
          }

      pub same_board : link_first n x i (chip_of l b) ≡ link_last n x i (chip_of l b) → v.board ≡ z.board
      same_board e = one_board l v.board z.board first.good.good last.good.good (first_chip ∙ e ∙ sym last_chip)

    -- Where the board is not in order all four are 16, and nothing changes.
    pub refused_alike : (Good l b → ⊥) → AnsweredAlike u v y z × (v.board ≡ z.board)
    refused_alike bad =
        let event = serves_refused l (link x) b u bad p in
        let alone = serves_refused l i b y bad r in
        let other = serves_refused l i u.board v (λ g. bad (subst (Good l) event.board g)) q in
        let later = serves_refused l (link x) y.board z (λ g. bad (subst (Good l) alone.board g)) s in (
          record { event = later.reply ∙ sym event.reply; reply = other.reply ∙ sym alone.reply; output = other.output ∙ sym alone.output },
          other.board ∙ event.board ∙ sym (later.board ∙ alone.board),
        )

  -- A link event and a frame change places: the same answers, and the same board.
  pub frame_places_lem : (x : ℕ) (f : Frame) (b : Board) (u v y z : Left) → Serves l (link x) b u → Serves l (frame f) u.board v → Serves l (frame f) b y → Serves l (link x) y.board z
      → AnsweredAlike u v y z × (v.board ≡ z.board)
  frame_places_lem x f b u v y z p q r s = go (decided l b.words b.pages b.queues b.memory)
    where
      go : Dec (Good l b) → AnsweredAlike u v y z × (v.board ≡ z.board)
      go (yes g) = let w = link_and_frame (part_in b) x f (chip_of l b) in (as_answered x (frame f) b u v y z p q r s (own g) w.0, same_board x (frame f) b u v y z p q r s (own g) w.1)
      go (no bad) = refused_alike x (frame f) b u v y z p q r s bad

  -- A link event and a send do but for bit 14 of the status word that the send writes.
  pub send_places_lem : (x : ℕ) (k : Send) (out : List ℕ) (b : Board) (u v y z : Left) → Serves l (link x) b u → Serves l (sent k out) u.board v → Serves l (sent k out) b y → Serves l (link x) y.board z
      → AnsweredAlike u v y z × (but_status (head_pages (chip_of l b)) (chip_of l v.board) ≡ but_status (head_pages (chip_of l b)) (chip_of l z.board))
  send_places_lem x k out b u v y z p q r s = go (decided l b.words b.pages b.queues b.memory)
    where
      go : Dec (Good l b) → AnsweredAlike u v y z × (but_status (head_pages (chip_of l b)) (chip_of l v.board) ≡ but_status (head_pages (chip_of l b)) (chip_of l z.board))
      go (yes g) =
          let w = link_and_send (part_in b) x k out (chip_of l b) in (
            as_answered x (sent k out) b u v y z p q r s (own g) w.0,
            ap (but_status (head_pages (chip_of l b))) (first_chip x (sent k out) b u v y z p q r s (own g)) ∙ w.1 ∙ sym (ap (but_status (head_pages (chip_of l b))) (last_chip x (sent k out) b u v y z p q r s (own g))),
          )
      go (no bad) =
          let w = refused_alike x (sent k out) b u v y z p q r s bad in
          (w.0, ap (λ (d : Board). but_status (head_pages (chip_of l b)) (chip_of l d)) w.1)
