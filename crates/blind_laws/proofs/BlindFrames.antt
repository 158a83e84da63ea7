-- What a frame decides depends only on its length, its first six bytes, its CRC verdict and its alignment flag: two frames alike, on two chips that are equal but for the bytes of memory.
use Rattle.std.specs.Prelude.{◌≡◌, refl, List, [], ◌∷◌, ◌++◌, ℕ, ltb, length}
use Rattle.std.proofs.Math.Path.{ap, sym}
use Rattle.std.proofs.Common.{subst, ◌∙◌}
use Rattle.rules.specs.Chip.{Registers, Chip, free}
use Rattle.rules.specs.Fields.{set_rx, in_pool}
use Rattle.rules.specs.Mmu.{lowest_number, allot}
use Rattle.rules.specs.Receive.{Frame, Arrival, destination, bad_crc, stored, disabled, not_accepted, too_long, bad, no_room, needed, dropped, judge, frame_status, after, verdict, arrive}
use Rattle.lists.specs.Bytes.{length_put}
use Rattle.laws.specs.LinkSteps.{pick_alike}
use Rattle.blind_laws.specs.Alike.{FrameAlike, ButBytes}
use Rattle.blind_laws.specs.BlindAccesses.{holding, is_holding, Effects}

module _ {f g : Frame} (e : FrameAlike f g) where
  -- What a frame is judged by: its address, its CRC, its flag, and its length.
  same_address : destination g ≡ destination f
  same_address = e.first_six

  same_crc : bad_crc g.bytes ≡ bad_crc f.bytes
  same_crc = e.crc

  same_flag : g.alignment ≡ f.alignment
  same_flag = e.alignment

  -- "The answer's value is the first that holds": on any registers, with any number of pages free.
  pub same_judge : (r : Registers) (pages : ℕ) → judge r pages g ≡ judge r pages f
  unfolding judge dropped
  same_judge r pages = rw (e.as_long, same_address, same_crc, same_flag)

  -- The status word that is stored.
  pub same_status : (n : ℕ) → frame_status g n ≡ frame_status f n
  unfolding frame_status
  same_status n = rw (e.as_long, same_address, same_crc, same_flag)

  module _ (c : Chip) (bytes : List ℕ) (long : length bytes ≡ length c.memory) where
    abbrev other : Chip
    other = holding bytes c

    -- As many pages go to the same number, and it joins RX; other bytes are put there.
    same_after : (v : Arrival) → ButBytes (after v f c) (after v g other)
    unfolding after
    same_after stored = record {
      registers = refl;
      pool = ap (λ (len : ℕ). (in_pool (set_rx (c.pool.rx ++ (lowest_number c ∷ []))) (allot (needed c.regs len) c)).pool) e.as_long;
      as_long = length_put _ 0 _ bytes ∙ long ∙ sym (length_put _ 0 _ c.memory);
    }
    same_after disabled = record { registers = refl; pool = refl; as_long = long }
    same_after not_accepted = record { registers = refl; pool = refl; as_long = long }
    same_after too_long = record { registers = refl; pool = refl; as_long = long }
    same_after bad = record { registers = refl; pool = refl; as_long = long }
    same_after no_room = record { registers = refl; pool = refl; as_long = long }

    arrives : Effects 0 (arrive f c) (arrive g other)
    unfolding arrive
    arrives =
        rw (e.as_long, same_judge c.regs (length (free c)))
        (pick_alike (Effects 0) (ltb (length f.bytes) 18) (record { number = refl; value = λ h. refl; chips = record { registers = refl; pool = refl; as_long = long } })
        (record { number = refl; value = λ h. refl; chips = same_after (verdict f c) }))

  pub same_arrive : {c d : Chip} → ButBytes c d → Effects 0 (arrive f c) (arrive g d)
  same_arrive {c} {d} b = subst (λ (x : Chip). Effects 0 (arrive f c) (arrive g x)) (sym (is_holding b)) (arrives c d.memory b.as_long)
