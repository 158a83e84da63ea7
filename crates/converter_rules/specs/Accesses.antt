-- The accesses that the driver makes, by the offsets of document 01's registers; and accesses one after another.
use Rattle.std.specs.Prelude.{List, [], ◌∷◌, ℕ}
use Rattle.rules.specs.Chip.{Chip}
use Rattle.rules.specs.Answers.{Reply}
use Rattle.rules.specs.Registers.{byte, word, Access, read, write, access}

-- offset E of every bank
abbrev pub select : ℕ → Access
select bank = write byte 0xe bank

-- bank 0: TCR and RCR; bank 1: control
abbrev pub set_tcr : ℕ → Access
set_tcr v = write word 0 v

abbrev pub set_rcr : ℕ → Access
set_rcr v = write word 4 v

abbrev pub set_control : ℕ → Access
set_control v = write word 0xc v

-- bank 2: an MMU command, the packet number, the pointer, acknowledge
abbrev pub command : ℕ → Access
command v = write byte 0 v

abbrev pub choose : ℕ → Access
choose packet = write byte 2 packet

abbrev pub point : ℕ → Access
point v = write word 6 v

abbrev pub acknowledge : ℕ → Access
acknowledge v = write byte 0xc v

-- the allocation result, the heads of completion and of RX: 80h where there is none
abbrev pub read_result : Access
read_result = read byte 3

abbrev pub read_completion : Access
read_completion = read byte 4

abbrev pub read_rx : Access
read_rx = read byte 5

-- data, where the pointer points
abbrev pub read_byte : Access
read_byte = read byte 8

abbrev pub read_word : Access
read_word = read word 8

abbrev pub write_byte : ℕ → Access
write_byte v = write byte 8 v

abbrev pub write_word : ℕ → Access
write_word v = write word 8 v

-- the value that an access answers, and the chip that it leaves
abbrev pub gives : Access → Chip → ℕ
gives a c = (access a c).reply.value

abbrev pub leaves : Access → Chip → Chip
leaves a c = (access a c).chip

-- accesses one after another: the chip that they leave, and their answers
unfoldable pub after : List Access → Chip → Chip
after [] c = c
after (a ∷ rest) c = after rest (leaves a c)

unfoldable pub answers : List Access → Chip → List Reply
answers [] c = []
answers (a ∷ rest) c = (access a c).reply ∷ answers rest (leaves a c)
