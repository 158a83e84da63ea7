-- Document 02, W8: "Frames arrive and sends finish as before, whatever the link.": any input on two chips that differ at most in the link, and a link event that changes places with a frame or a send.
use Rattle.std.specs.Prelude.{◌≡◌, refl, Bool, true, false, cond, not, ◌||◌, List, [], ℕ, eqb, ltb}
use Rattle.std.proofs.Common.{ap, ap₂, sym, subst, ◌∙◌, true≢false}
use Rattle.std.specs.Bool.{xor}
use Rattle.std.proofs.Math.Decide.{ℕ_discrete}
use Rattle.rules.specs.Chip.{Link, Chip}
use Rattle.rules.specs.Answers.{Reply, Turn, did, done, refusal, refuse, refused, leaving}
use Rattle.rules.specs.Fields.{in_registers}
use Rattle.rules.specs.Link.{relink, plug}
use Rattle.rules.specs.Receive.{Frame}
use Rattle.rules.specs.Send.{Send}
use Rattle.rules.specs.Tests.{formed, fit}
use Rattle.rules.specs.Step.{Input, driver, frame, sent, link, lent, serve, step_of}
use Rattle.wellformed.proofs.Fit.{fit_decides, step_unfit}
use Rattle.wellformed.proofs.Keeps.{keeps}
use Rattle.laws.specs.Head.{head_pages}
use Rattle.laws.specs.LinkApart.{linked, ByLink, value_beside, but_status, ApartAfter, TurnsApart, LinkApart, SameAnswers, link_first, link_last}
use Rattle.laws.specs.LinkSteps.{pick_alike}
use Rattle.laws.specs.LinkSends.{finishes}
use Rattle.laws.specs.LinkKept.{frame_leaves_link, send_leaves_link}

-- what a link event answers, and the link after it: refusals 16 and 11, else it is set
abbrev pub event_reply : Bool → Bool → Reply
event_reply fits other = cond (not fits) (refusal 16) (cond other (refusal 11) done)

abbrev pub event_link : Bool → Bool → Bool → Link → Link
event_link fits other up x = cond (not fits) x (cond other x (record { up = up; changed = x.changed || xor up x.up }))

pub event_is : (n x : ℕ) (c : Chip)
    → step_of n (link x) c ≡ record { reply = event_reply (fit n c) (ltb 1 x); chip = linked (event_link (fit n c) (ltb 1 x) (eqb x 1) c.regs.link) c; output = [] }
unfolding step_of serve plug
event_is n x c = go (fit n c) (ltb 1 x)
  where
    go : (b o : Bool) → cond (not b) (refused 16 c []) (leaving [] (cond o (refuse 11 c) (did (in_registers (relink (eqb x 1)) c))))
        ≡ record { reply = event_reply b o; chip = linked (event_link b o (eqb x 1) c.regs.link) c; output = [] }
    go true true = refl
    go true false = refl
    go false o = refl

-- A link event changes the link and its change, and nothing else: no other register, no queue, no page list, no byte.
pub link_alone : (n x : ℕ) (c : Chip) → ByLink c (step_of n (link x) c).chip
link_alone n x c =
    let e = ap (λ (t : Turn). t.chip) (event_is n x c) in
    e ∙ sym (ap (λ (d : Chip). linked d.regs.link c) e)
