-- The page ledger: what a driver can know of the pages granted and given back, counted since power-up or the last soft or MMU reset.
-- Nothing here looks at a page list, a free count or the request that waits: only at registers, at the ends of RX and TX (which a driver knows from what it enqueued and drained), at lengths and at replies.
use Rattle.std.specs.Prelude.{◌≡◌, cond, List, [], ◌∷◌, ℕ, ◌+◌, eqb, length, get_or, set, replicate}
use Rattle.rules.specs.Bits.{bit, low_byte}
use Rattle.rules.specs.Chip.{Chip}
use Rattle.rules.specs.Answers.{Turn}
use Rattle.rules.specs.Mmu.{Command, nothing, allocate, reset, remove_rx, remove_and_release, release, enqueue, reset_tx, unknown, decode}
use Rattle.rules.specs.Registers.{Register, TCR, EPHSR, RCR, ECR, MIR, RESERVED, STATION, CONTROL, COMMAND, PACKET, HEADS, POINTER, DATA, INTERRUPT, TABLE, BANK, UNUSED, ABSENT, head_of, register_at, read, write}
use Rattle.rules.specs.Receive.{needed}
use Rattle.rules.specs.Send.{good, auto_release}
use Rattle.rules.specs.Step.{Input, driver, frame, sent, link, step_of}

-- what happens to the ledger
pub data Entry : Type 0 where
  -- an allocate command asks for so many pages
  asks : ℕ → Entry
  -- a packet number is granted what was asked for last
  answers : ℕ → Entry
  -- a packet number is granted so many pages, for a frame
  grants : ℕ → ℕ → Entry
  -- a packet number gives back what it had been granted
  returns : ℕ → Entry
  -- soft or MMU reset
  restarts : Entry

abbrev pub just : Entry → List Entry
just e = e ∷ []

-- the last entry of a queue
unfoldable pub last_of : List ℕ → ℕ
last_of [] = 0x80
last_of (k ∷ []) = k
last_of (k ∷ j ∷ ks) = last_of (j ∷ ks)

-- The entries of a step, in the order in which they happen; [] where it leaves the ledger.
-- What was asked for last is granted where the result reads a packet number, and waits where it reads 80h.
unfoldable pub result_entries : ℕ → List Entry
result_entries result = cond (eqb result 0x80) [] (just (answers result))

-- In a step that gives pages back the same, where the result read 80h before it: "it completes when memory becomes free".
unfoldable pub answered : Chip → Chip → List Entry
answered c d = cond (eqb c.regs.numbers.result 0x80) (result_entries d.regs.numbers.result) []

-- A command that was done, by the chip before and after it.
unfoldable pub command_entries : Command → Chip → Chip → List Entry
command_entries nothing c d = []
command_entries (allocate m) c d = asks m ∷ result_entries d.regs.numbers.result
command_entries reset c d = just restarts
command_entries remove_rx c d = []
command_entries remove_and_release c d = returns (head_of c.pool.rx) ∷ answered c d
command_entries release c d = returns c.regs.numbers.packet ∷ answered c d
command_entries enqueue c d = []
command_entries reset_tx c d = []
command_entries unknown c d = []

-- A write that was done: a command, or a soft reset where RCR bit 15 is left set.
unfoldable pub write_entries : Register → ℕ → Chip → Chip → List Entry
write_entries COMMAND v c d = command_entries (decode (low_byte v)) c d
write_entries RCR v c d = cond (bit 15 d.regs.receiving.rcr) (just restarts) []
write_entries TCR v c d = []
write_entries EPHSR v c d = []
write_entries ECR v c d = []
write_entries MIR v c d = []
write_entries RESERVED v c d = []
write_entries (STATION k) v c d = []
write_entries CONTROL v c d = []
write_entries PACKET v c d = []
write_entries HEADS v c d = []
write_entries POINTER v c d = []
write_entries DATA v c d = []
write_entries INTERRUPT v c d = []
write_entries (TABLE k) v c d = []
write_entries BANK v c d = []
write_entries UNUSED v c d = []
write_entries ABSENT v c d = []

-- An input that was done: a stored frame (value 0) has its pages by its length, under the number that is last in RX; a good send with auto release gives back those of the TX head.
unfoldable pub input_entries : Input → Chip → ℕ → Chip → List Entry
input_entries (driver (read w o)) c v d = []
input_entries (driver (write w o x)) c v d = write_entries (register_at c.regs.numbers.bank o) x c d
input_entries (frame f) c v d = cond (eqb v 0) (just (grants (last_of d.pool.rx) (needed c.regs (length f.bytes)))) []
input_entries (sent s out) c v d = cond (auto_release (good c.regs.sending.tcr s.outcome) c.regs) (returns (head_of c.pool.tx) ∷ answered c d) []
input_entries (link x) c v d = []

-- A refusal leaves the ledger.
unfoldable pub entries_of : Input → Chip → Turn → List Entry
entries_of i c t = cond (eqb t.reply.number 0) (input_entries i c t.reply.value t.chip) []

-- the step is a soft reset or an MMU reset: the ledger starts anew by it
abbrev pub Resets : ℕ → Input → Chip → Type 0
Resets n i c = entries_of i c (step_of n i c) ≡ just restarts

-- pages granted and given back, what each packet number holds, remembered from its grant, and how many pages were asked for last
pub record Ledger : Type 0 where
  pub granted : ℕ
  pub back : ℕ
  pub holds : List ℕ
  pub asked : ℕ

-- nothing asked for or granted yet, of n packet numbers
abbrev pub blank : ℕ → Ledger
blank n = record { granted = 0; back = 0; holds = replicate n 0; asked = 0 }

-- with a packet number that is granted so many pages
abbrev pub granted_to : ℕ → ℕ → Ledger → Ledger
granted_to k m l = record { granted = l.granted + m; back = l.back; holds = set l.holds k m; asked = l.asked }

unfoldable pub entered : ℕ → Entry → Ledger → Ledger
entered n (asks m) l = record { granted = l.granted; back = l.back; holds = l.holds; asked = m }
entered n (answers k) l = granted_to k l.asked l
entered n (grants k m) l = granted_to k m l
entered n (returns k) l = record { granted = l.granted; back = l.back + get_or l.holds k 0; holds = set l.holds k 0; asked = l.asked }
entered n restarts l = blank n

unfoldable pub entered_all : ℕ → List Entry → Ledger → Ledger
entered_all n [] l = l
entered_all n (e ∷ es) l = entered_all n es (entered n e l)

-- the ledger after inputs that are run one after another from a chip
unfoldable pub ledger_from : ℕ → List Input → Chip → Ledger → Ledger
ledger_from n [] c l = l
ledger_from n (i ∷ is) c l = let t = step_of n i c in ledger_from n is t.chip (entered_all n (entries_of i c t) l)
