-- Document 02, W8: "Frames arrive and sends finish as before, whatever the link.": any input on two chips that differ at most in the link, and a link event that changes places with a frame or a send.
use Rattle.std.specs.Prelude.{◌≡◌, refl, Bool, true, false, cond, not, ◌||◌, List, [], ℕ, eqb, ltb}
use Rattle.std.proofs.Common.{ap, ap₂, sym, subst, ◌∙◌, true≢false}
use Rattle.std.specs.Bool.{xor}
use Rattle.std.proofs.Math.Decide.{ℕ_discrete}
use Rattle.rules.specs.Chip.{Link, Chip}
use Rattle.rules.specs.Answers.{Reply, Turn, did, done, refusal, refuse, refused, leaving}
use Rattle.rules.specs.Fields.{in_registers}
use Rattle.rules.specs.Link.{relink, plug}
use Rattle.rules.specs.Receive.{Frame}
use Rattle.rules.specs.Send.{Send}
use Rattle.rules.specs.Tests.{formed, fit}
use Rattle.rules.specs.Step.{Input, driver, frame, sent, link, lent, serve, step_of}
use Rattle.wellformed.proofs.Fit.{fit_decides, step_unfit}
use Rattle.wellformed.proofs.Keeps.{keeps}
use Rattle.laws.specs.Head.{head_pages}
use Rattle.laws.specs.LinkApart.{linked, ByLink, value_beside, but_status, ApartAfter, TurnsApart, LinkApart, SameAnswers, link_first, link_last}
use Rattle.laws.specs.LinkSteps.{pick_alike}
use Rattle.laws.proofs.LinkSteps.{accesses, arrives, plugs}
use Rattle.laws.specs.LinkSends.{finishes}
use Rattle.laws.specs.LinkKept.{frame_leaves_link, send_leaves_link}
use Rattle.laws.specs.LinkPlaces.{event_reply, event_link, event_is, link_alone}

module _ (y : Link) (c : Chip) where
  -- refusal 16 on both
  unfit_both : (i : Input) → TurnsApart i c (refused 16 c (lent i)) (refused 16 (linked y c) (lent i))
  unfit_both i = record { number = refl; value = refl; output = refl; after = leaves i }
    where
      leaves : (j : Input) → ApartAfter j c (refused 16 c (lent i)) (refused 16 (linked y c) (lent i))
      leaves (driver a) = refl
      leaves (frame f) = refl
      leaves (sent s out) = (λ e. refl, λ e. refl)
      leaves (link x) = refl

  serves : (i : Input) → TurnsApart i c (serve i c) (serve i (linked y c))
  unfolding serve
  serves (driver a) = let w = accesses y c a in record { number = w.number; value = w.value; output = refl; after = w.chips }
  serves (frame f) = let w = arrives y c f in record { number = w.number; value = w.value; output = refl; after = w.chips }
  serves (sent s out) = let w = finishes y c s out in record { number = w.number; value = w.value; output = w.output; after = (w.done, w.refused) }
  serves (link x) = let w = plugs y c x in record { number = w.number; value = w.value; output = refl; after = w.chips }

  -- whether 16 comes first looks at no link
  steps : (n : ℕ) (i : Input) → LinkApart n i c (linked y c)
  unfolding step_of fit formed
  steps n i = pick_alike (TurnsApart i c) (not (fit n c)) (unfit_both i) (serves i)

-- Any input to two chips that differ at most in link and change seen: they answer the same but for what shows the link, and differ as little afterwards.
pub link_apart : (n : ℕ) (i : Input) (c d : Chip) → ByLink c d → LinkApart n i c d
link_apart n i c d e = subst (LinkApart n i c) (sym e) (steps d.regs.link c n i)

-- A chip is in order after a step exactly where it was before.
fit_stays : (n : ℕ) (i : Input) (c : Chip) → fit n (step_of n i c).chip ≡ fit n c
fit_stays n i c = go (fit n c) refl
  where
    go : (b : Bool) → fit n c ≡ b → fit n (step_of n i c).chip ≡ fit n c
    go true e = (fit_decides n _).complete (keeps n c ((fit_decides n c).sound e) i) ∙ sym e
    go false e = ap (λ (t : Turn). fit n t.chip) (step_unfit n i c (λ w. true≢false (sym ((fit_decides n c).complete w) ∙ e)))

-- An input that leaves the link, and a link event.
module _ (n x : ℕ) (i : Input) (leaves : (d : Chip) → (step_of n i d).chip.regs.link ≡ d.regs.link) (c : Chip) where
  -- the link after the event on c
  abbrev new : Link
  new = event_link (fit n c) (ltb 1 x) (eqb x 1) c.regs.link

  event_chip : (step_of n (link x) c).chip ≡ linked new c
  event_chip = ap (λ (t : Turn). t.chip) (event_is n x c)

  -- The event comes first: the chip with that link takes the input.
  apart : LinkApart n i c (step_of n (link x) c).chip
  apart = link_apart n i c _ (link_alone n x c)

  first_link : (link_first n x i c).regs.link ≡ new
  first_link = leaves (step_of n (link x) c).chip ∙ ap (λ (d : Chip). d.regs.link) event_chip

  -- It comes last: it does the same to the link.
  last_chip : link_last n x i c ≡ linked new (step_of n i c).chip
  last_chip =
      let t = (step_of n i c).chip in
      ap (λ (u : Turn). u.chip) (event_is n x t) ∙ ap₂ (λ (b : Bool) (y : Link). linked (event_link b (ltb 1 x) (eqb x 1) y) t) (fit_stays n i c) (leaves c)

  answers : ((v : ℕ) → value_beside i c v ≡ v) → SameAnswers n x i c
  answers told = record {
    event = ap (λ (t : Turn). t.reply) (event_is n x (step_of n i c).chip) ∙ ap (λ (b : Bool). event_reply b (ltb 1 x)) (fit_stays n i c) ∙ sym (ap (λ (t : Turn). t.reply) (event_is n x c));
    reply = ap₂ (λ (k v : ℕ). record { number = k; value = v }) apart.number (sym (told _) ∙ apart.value ∙ told _);
    output = apart.output;
  }

  -- So where the chips differ by the link alone, they are equal after both.
  same_chip : ByLink (step_of n i c).chip (link_first n x i c) → link_first n x i c ≡ link_last n x i c
  same_chip e = e ∙ ap (λ (y : Link). linked y (step_of n i c).chip) first_link ∙ sym last_chip

-- A link event and a frame change places.
pub link_and_frame : (n x : ℕ) (f : Frame) (c : Chip) → SameAnswers n x (frame f) c × (link_first n x (frame f) c ≡ link_last n x (frame f) c)
link_and_frame n x f c =
    let leaves = frame_leaves_link n f in
    (answers n x (frame f) leaves c (λ v. refl), same_chip n x (frame f) leaves c (apart n x (frame f) leaves c).after)

-- A link event and a send that is refused change places.
pub link_and_refused_send : (n x : ℕ) (s : Send) (out : List ℕ) (c : Chip) → ((step_of n (sent s out) c).reply.number ≡ 0 → ⊥) → link_first n x (sent s out) c ≡ link_last n x (sent s out) c
link_and_refused_send n x s out c h =
    let leaves = send_leaves_link n s out in
    same_chip n x (sent s out) leaves c ((apart n x (sent s out) leaves c).after.1 h)

-- A link event and any send change places but for bit 14 of the status word that the send writes: it shows the link that it finds.
pub link_and_send : (n x : ℕ) (s : Send) (out : List ℕ) (c : Chip)
    → SameAnswers n x (sent s out) c × (but_status (head_pages c) (link_first n x (sent s out) c) ≡ but_status (head_pages c) (link_last n x (sent s out) c))
link_and_send n x s out c = (answers n x (sent s out) (send_leaves_link n s out) c (λ v. refl), go (ℕ_discrete (step_of n (sent s out) c).reply.number 0))
  where
    leaves : (d : Chip) → (step_of n (sent s out) d).chip.regs.link ≡ d.regs.link
    leaves = send_leaves_link n s out

    go : Dec ((step_of n (sent s out) c).reply.number ≡ 0) → but_status (head_pages c) (link_first n x (sent s out) c) ≡ but_status (head_pages c) (link_last n x (sent s out) c)
    go (yes e) =
        (apart n x (sent s out) leaves c).after.0 e
        ∙ ap (λ (y : Link). linked y (but_status (head_pages c) (step_of n (sent s out) c).chip)) (first_link n x (sent s out) leaves c)
        ∙ sym (ap (but_status (head_pages c)) (last_chip n x (sent s out) leaves c))
    go (no h) = ap (but_status (head_pages c)) (link_and_refused_send n x s out c h)
