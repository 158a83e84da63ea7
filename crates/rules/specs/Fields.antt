-- One field replaced, of the registers and of the pool (`proofs/Setters`: each leaves every other field); then a change of one part of the chip.
use Rattle.std.specs.Prelude.{Bool, List, ℕ}
use Rattle.rules.specs.Chip.{Sending, Receiving, Numbers, Link, Registers, Pool, Chip}

-- a change of one group of the registers
abbrev pub in_sending : (Sending → Sending) → Registers → Registers
in_sending f r = record { sending = f r.sending; receiving = r.receiving; numbers = r.numbers; pointer = r.pointer; control = r.control; mask = r.mask; link = r.link }

abbrev pub in_receiving : (Receiving → Receiving) → Registers → Registers
in_receiving f r = record { sending = r.sending; receiving = f r.receiving; numbers = r.numbers; pointer = r.pointer; control = r.control; mask = r.mask; link = r.link }

abbrev pub in_numbers : (Numbers → Numbers) → Registers → Registers
in_numbers f r = record { sending = r.sending; receiving = r.receiving; numbers = f r.numbers; pointer = r.pointer; control = r.control; mask = r.mask; link = r.link }

abbrev pub set_tcr : ℕ → Registers → Registers
set_tcr x = in_sending (λ s. record { tcr = x; ephsr = s.ephsr; ecr = s.ecr; tx_empty = s.tx_empty })

abbrev pub set_ephsr : ℕ → Registers → Registers
set_ephsr x = in_sending (λ s. record { tcr = s.tcr; ephsr = x; ecr = s.ecr; tx_empty = s.tx_empty })

abbrev pub set_ecr : ℕ → Registers → Registers
set_ecr x = in_sending (λ s. record { tcr = s.tcr; ephsr = s.ephsr; ecr = x; tx_empty = s.tx_empty })

abbrev pub set_tx_empty : Bool → Registers → Registers
set_tx_empty x = in_sending (λ s. record { tcr = s.tcr; ephsr = s.ephsr; ecr = s.ecr; tx_empty = x })

abbrev pub set_rcr : ℕ → Registers → Registers
set_rcr x = in_receiving (λ s. record { rcr = x; reserved = s.reserved; station = s.station; table = s.table; overrun = s.overrun })

abbrev pub set_reserved : ℕ → Registers → Registers
set_reserved x = in_receiving (λ s. record { rcr = s.rcr; reserved = x; station = s.station; table = s.table; overrun = s.overrun })

abbrev pub set_station : List ℕ → Registers → Registers
set_station x = in_receiving (λ s. record { rcr = s.rcr; reserved = s.reserved; station = x; table = s.table; overrun = s.overrun })

abbrev pub set_table : List ℕ → Registers → Registers
set_table x = in_receiving (λ s. record { rcr = s.rcr; reserved = s.reserved; station = s.station; table = x; overrun = s.overrun })

abbrev pub set_overrun : Bool → Registers → Registers
set_overrun x = in_receiving (λ s. record { rcr = s.rcr; reserved = s.reserved; station = s.station; table = s.table; overrun = x })

abbrev pub set_bank : ℕ → Registers → Registers
set_bank x = in_numbers (λ s. record { bank = x; packet = s.packet; result = s.result; waiting = s.waiting })

abbrev pub set_packet : ℕ → Registers → Registers
set_packet x = in_numbers (λ s. record { bank = s.bank; packet = x; result = s.result; waiting = s.waiting })

abbrev pub set_result : ℕ → Registers → Registers
set_result x = in_numbers (λ s. record { bank = s.bank; packet = s.packet; result = x; waiting = s.waiting })

abbrev pub set_waiting : ℕ → Registers → Registers
set_waiting x = in_numbers (λ s. record { bank = s.bank; packet = s.packet; result = s.result; waiting = x })

abbrev pub set_pointer : ℕ → Registers → Registers
set_pointer x r = record { sending = r.sending; receiving = r.receiving; numbers = r.numbers; pointer = x; control = r.control; mask = r.mask; link = r.link }

abbrev pub set_control : ℕ → Registers → Registers
set_control x r = record { sending = r.sending; receiving = r.receiving; numbers = r.numbers; pointer = r.pointer; control = x; mask = r.mask; link = r.link }

abbrev pub set_mask : ℕ → Registers → Registers
set_mask x r = record { sending = r.sending; receiving = r.receiving; numbers = r.numbers; pointer = r.pointer; control = r.control; mask = x; link = r.link }

abbrev pub set_link : Link → Registers → Registers
set_link x r = record { sending = r.sending; receiving = r.receiving; numbers = r.numbers; pointer = r.pointer; control = r.control; mask = r.mask; link = x }

abbrev pub set_pages : List (List ℕ) → Pool → Pool
set_pages x q = record { layout = q.layout; pages = x; rx = q.rx; tx = q.tx; completion = q.completion }

abbrev pub set_rx : List ℕ → Pool → Pool
set_rx x q = record { layout = q.layout; pages = q.pages; rx = x; tx = q.tx; completion = q.completion }

abbrev pub set_tx : List ℕ → Pool → Pool
set_tx x q = record { layout = q.layout; pages = q.pages; rx = q.rx; tx = x; completion = q.completion }

abbrev pub set_completion : List ℕ → Pool → Pool
set_completion x q = record { layout = q.layout; pages = q.pages; rx = q.rx; tx = q.tx; completion = x }

-- a change of the registers, of the pool or of the memory, and of nothing else
abbrev pub in_registers : (Registers → Registers) → Chip → Chip
in_registers f c = record { regs = f c.regs; pool = c.pool; memory = c.memory }

abbrev pub in_pool : (Pool → Pool) → Chip → Chip
in_pool f c = record { regs = c.regs; pool = f c.pool; memory = c.memory }

abbrev pub in_memory : (List ℕ → List ℕ) → Chip → Chip
in_memory f c = record { regs = c.regs; pool = c.pool; memory = f c.memory }
