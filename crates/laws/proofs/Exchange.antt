-- A load and an arriving frame may change places: same chip, same answers. For any chip whose page lists are good.
use Rattle.std.specs.Prelude.{◌≡◌, ℕ}
use Rattle.std.proofs.Common.{ap, sym, ◌∙◌}
use Rattle.rules.specs.Chip.{Chip}
use Rattle.rules.specs.Answers.{Effect}
use Rattle.rules.specs.Registers.{Access, access}
use Rattle.rules.specs.Receive.{Frame, arrive}
use Rattle.wellformed.specs.Fit.{Fits}
use Rattle.wellformed.specs.Pool.{good_lists}
use Rattle.laws.specs.Reception.{Reception, receive, reception, seen, frame_is, frame_reads, frame_writes}
use Rattle.laws.specs.Loading.{Load}
use Rattle.laws.proofs.Loading.{load_reads, load_writes}
use Rattle.laws.specs.Exchange.{Exchanged}

pub exchange : {n : ℕ} (a : Access) (f : Frame) (c : Chip) → Fits n c → Load c c a → Exchanged a f c
exchange a f c fits l =
    let x = reception f c.regs c.pool in
    let d = (access a c).chip in
    let before = load_reads x c (frame_writes f c.regs c.pool (good_lists fits.0)) a l in
    let w = load_writes c c a l in
    let same : reception f d.regs d.pool ≡ x =
    frame_reads f d.regs d.pool ∙ (λ i. reception f (seen (w.registers i)) (w.pool i)) ∙ sym (frame_reads f c.regs c.pool) in
    record {
      chip =
          ap (λ (s : Effect). (access a s.chip).chip) (frame_is f c) ∙ before.chip
          ∙ ap (λ (y : Reception). receive y d) (sym same) ∙ sym (ap (λ (s : Effect). s.chip) (frame_is f d));
      access_reply = ap (λ (s : Effect). (access a s.chip).reply) (frame_is f c) ∙ before.reply;
      frame_reply = ap (λ (s : Effect). s.reply) (frame_is f d) ∙ ap (λ (y : Reception). y.reply) same ∙ sym (ap (λ (s : Effect). s.reply) (frame_is f c));
    }
