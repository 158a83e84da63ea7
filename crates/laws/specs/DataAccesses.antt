-- Data accesses, as the promises of document 02's W3 and W10 speak of them: which packet one means, and how many of its bytes an input reads into its value, which may be others on another chip.
use Rattle.std.specs.Prelude.{cond, ℕ}
use Rattle.rules.specs.Chip.{Chip}
use Rattle.rules.specs.Data.{rcv}
use Rattle.rules.specs.Registers.{Register, TCR, EPHSR, RCR, ECR, MIR, RESERVED, STATION, CONTROL, COMMAND, PACKET, HEADS, POINTER, DATA, INTERRUPT, TABLE, BANK, UNUSED, ABSENT, width, head_of, register_at, lanes_at, read, write}
use Rattle.rules.specs.Step.{Input, driver, frame, sent, link}

-- the packet that a data access means
abbrev pub meant : Chip → ℕ
meant c = cond (rcv c.regs.pointer) (head_of c.pool.rx) c.regs.numbers.packet

-- how many bytes of data an access of w bytes to this register moves
abbrev pub data_in : Register → ℕ → ℕ
data_in TCR w = 0
data_in EPHSR w = 0
data_in RCR w = 0
data_in ECR w = 0
data_in MIR w = 0
data_in RESERVED w = 0
data_in (STATION k) w = 0
data_in CONTROL w = 0
data_in COMMAND w = 0
data_in PACKET w = 0
data_in HEADS w = 0
data_in POINTER w = 0
data_in DATA w = w
data_in INTERRUPT w = 0
data_in (TABLE k) w = 0
data_in BANK w = 0
data_in UNUSED w = 0
data_in ABSENT w = 0

-- how many bytes of a packet an input reads into its value: the width of a data read, and of any other input none
abbrev pub data_read : Input → Chip → ℕ
data_read (driver (read w offset)) c = data_in (register_at c.regs.numbers.bank offset) (width (lanes_at w offset))
data_read (driver (write w offset v)) c = 0
data_read (frame f) c = 0
data_read (sent s out) c = 0
data_read (link x) c = 0
