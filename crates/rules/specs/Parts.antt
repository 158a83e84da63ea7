-- Document 02, W9: two parts of one family. A part is known by its number of packets, n, which is that of its pages too: "01 wherever it counts packets or pages" reads n for 24.
use Rattle.std.specs.Prelude.{cond, ◌≡◌, ◌⊎◌, ℕ, eqb}

-- "18 pages, packets 0 to 17, 4,608 bytes, MIR 1212h after reset; the completion FIFO holds 18 (ours)."
abbrev pub lan91c94 : ℕ
lan91c94 = 18

-- document 01's: 24 pages, packets 0 to 23, 6,144 bytes
abbrev pub lan91c96 : ℕ
lan91c96 = 24

-- so many packets have one of them
abbrev pub IsPart : ℕ → Type 0
IsPart n = (n ≡ lan91c94) ⊎ (n ≡ lan91c96)

-- "16 goes by the part's size": the part of a chip with n packets. One with neither number is none, and is asked to be document 01's, which it is not.
unfoldable pub part_of : ℕ → ℕ
part_of n = cond (eqb n lan91c94) lan91c94 lan91c96

-- "byte 1 being 94h or 96h": how many packets the part has that it names, 0 where it names none
unfoldable pub part_named : ℕ → ℕ
part_named x = cond (eqb x 0x94) lan91c94 (cond (eqb x 0x96) lan91c96 0)
