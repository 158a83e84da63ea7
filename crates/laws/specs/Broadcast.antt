-- The broadcast that the examples store, with an FCS by an independent program. (The standard's check value stands in `rules/proofs/Slips`.)
use Rattle.std.specs.Prelude.{◌≡◌, refl, false, [], ◌∷◌, ◌++◌, replicate}
use Rattle.rules.specs.Crc.{crc_bit, crc_bits, crc_from, crc, mirror, fcs_word, four_bytes}
use Rattle.rules.specs.Receive.{Frame, same_bytes, bad_crc}

-- 60 bytes FFh and their FCS
abbrev pub broadcasting : Frame
broadcasting = record { bytes = replicate 60 0xff ++ (0x4d ∷ 0xf1 ∷ 0x8c ∷ 0xf4 ∷ []); alignment = false }

pub broadcast_good : bad_crc broadcasting.bytes ≡ false
unfolding crc_bit crc_bits crc_from crc mirror fcs_word four_bytes same_bytes bad_crc
broadcast_good = refl
