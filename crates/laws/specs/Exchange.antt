-- A load and an arriving frame may change places: same chip, same answers. For any chip whose page lists are good.
use Rattle.std.specs.Prelude.{◌≡◌, ℕ}
use Rattle.std.proofs.Common.{ap, sym, ◌∙◌}
use Rattle.rules.specs.Chip.{Chip}
use Rattle.rules.specs.Answers.{Effect}
use Rattle.rules.specs.Registers.{Access, access}
use Rattle.rules.specs.Receive.{Frame, arrive}
use Rattle.wellformed.specs.Fit.{Fits}
use Rattle.wellformed.specs.Pool.{good_lists}
use Rattle.laws.specs.Reception.{Reception, receive, reception, seen, frame_is, frame_reads, frame_writes}
use Rattle.laws.specs.Loading.{Load}

pub record Exchanged (a : Access) (f : Frame) (c : Chip) : Type 0 where
  pub chip : (access a (arrive f c).chip).chip ≡ (arrive f (access a c).chip).chip
  -- the access is answered after the frame as before it
  pub access_reply : (access a (arrive f c).chip).reply ≡ (access a c).reply
  -- the frame is answered after the access as before it
  pub frame_reply : (arrive f (access a c).chip).reply ≡ (arrive f c).reply
