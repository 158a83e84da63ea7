-- A run of loads, and that it is one after a frame too.
use Rattle.std.specs.Prelude.{◌≡◌, true, List, [], ◌∷◌, ℕ}
use Rattle.std.proofs.Common.{ap, sym, ◌∙◌}
use Rattle.rules.specs.Lists.{some?}
use Rattle.rules.specs.Chip.{Chip, allocated}
use Rattle.rules.specs.Registers.{Access, access}
use Rattle.rules.specs.Receive.{Frame, arrive}
use Rattle.wellformed.specs.Pool.{good_lists}
use Rattle.wellformed.specs.Fit.{Fits}
use Rattle.wellformed.proofs.Keeps.{keeps_access}
use Rattle.laws.specs.Reception.{reception, receive, kept, frame_is, frame_writes}
use Rattle.laws.specs.Loading.{Load, to_bank, to_packet, to_pointer, to_data}
use Rattle.laws.proofs.Loading.{load_writes}
use Rattle.laws.proofs.Exchange.{exchange}
use Rattle.laws.specs.Loads.{Loads}

-- Of the chip before the run the packets count, and nothing else.
module _ (start other : Chip) (same : (k : ℕ) → allocated k start ≡ true → allocated k other ≡ true) where
  load_from : (now : Chip) (a : Access) → Load start now a → Load other now a
  load_from now a (to_bank e) = to_bank e
  load_from now a (to_packet e) = to_packet e
  load_from now a (to_pointer e) = to_pointer e
  load_from now a (to_data e clear k) = to_data e clear (same now.regs.numbers.packet k)

  loads_from : (loads : List Access) (now : Chip) → Loads start now loads → Loads other now loads
  loads_from [] now l = tt
  loads_from (a ∷ rest) now l = (load_from now a l.0, loads_from rest (access a now).chip l.1)

-- After a load the rest is a run from there.
pub loads_after_load : (a : Access) (rest : List Access) (c : Chip) → Loads c c (a ∷ rest) → Loads (access a c).chip (access a c).chip rest
loads_after_load a rest c l = loads_from c (access a c).chip (λ k e. rw (load_writes c c a l.0).pool e) rest (access a c).chip l.1

-- After a frame it is a run still: bank, packet number and pointer stay, and allocated packets stay allocated.
module _ (n : ℕ) (f : Frame) where
  load_after_frame : (c : Chip) → Fits n c → (a : Access) → Load c c a → Load (arrive f c).chip (arrive f c).chip a
  load_after_frame c fits a l = rw (frame_is f c) (go (load_from c d (λ k e. ap some? (kept c.pool _ (frame_writes f c.regs c.pool (good_lists fits.0)) k e) ∙ e) c a l))
    where
      d : Chip
      d = receive (reception f c.regs c.pool) c

      go : Load d c a → Load d d a
      go (to_bank e) = to_bank e
      go (to_packet e) = to_packet e
      go (to_pointer e) = to_pointer e
      go (to_data e clear k) = to_data e clear k

  pub loads_after_frame : (loads : List Access) (c : Chip) → Fits n c → Loads c c loads → Loads (arrive f c).chip (arrive f c).chip loads
  loads_after_frame [] c fits l = tt
  loads_after_frame (a ∷ rest) c fits l =
      let d = (arrive f c).chip in
      let first = load_after_frame c fits a l.0 in
      let after : Loads (access a d).chip (access a d).chip rest = rw (exchange a f c fits l.0).chip (loads_after_frame rest (access a c).chip (keeps_access n c fits a) (loads_after_load a rest c l)) in
      (first, loads_from (access a d).chip d (λ k e. rw (sym (load_writes d d a first).pool) e) rest (access a d).chip after)
