-- What the ledger enters for a step is what the step does to the page lists, to the allocation result and to an allocation that waits.
use Rattle.std.specs.Prelude.{◌≡◌, refl, Bool, cond, List, [], ◌∷◌, ◌++◌, ℕ, suc, ◌≤◌, ◌<◌, eqb, leb, ltb, length, set, take, replicate}
use Rattle.std.proofs.Common.{ap, sym, ◌∙◌, ⊎_elim, arith, lt-ltb, ne_eqb}
use Rattle.std.proofs.Math.Path.{subst}
use Rattle.std.proofs.Math.Bool.{true, false}
use Rattle.std.proofs.Math.Dec.{eqb-suc-zero}
use Rattle.rules.specs.Bits.{bit, low_byte}
use Rattle.rules.specs.Lists.{first_empty}
use Rattle.rules.specs.Chip.{Registers, Layout, Chip, free_for, free, allocated}
use Rattle.rules.specs.Fields.{set_rx, in_registers, in_pool}
use Rattle.rules.specs.Answers.{Reply, Effect, Turn, refuse, refused, did, done_with}
use Rattle.rules.specs.Mmu.{Command, nothing, allocate, reset, remove_rx, remove_and_release, release, enqueue, reset_tx, unknown, decode, perform, grant, pend, due, settle, freed, give_back}
use Rattle.rules.specs.Data.{read_data, write_data}
use Rattle.rules.specs.Registers.{Lanes, low, high, both, Register, TCR, EPHSR, RCR, ECR, MIR, RESERVED, STATION, CONTROL, COMMAND, PACKET, HEADS, POINTER, DATA, INTERRUPT, TABLE, BANK, UNUSED, ABSENT, bytes_of, merged, new_rcr, write_rcr, write_tcr, write_interrupt, read_register, write_register, head_of, register_at, misplaced, lanes_at, Access, read, write, access}
use Rattle.rules.specs.Receive.{Frame, Arrival, stored, disabled, not_accepted, too_long, bad, no_room, value_for, needed, after, verdict, arrive}
use Rattle.rules.specs.Send.{Send, good, auto_release, send_head, finish}
use Rattle.rules.specs.Step.{Input, driver, frame, sent, link, serve, step_of}
use Rattle.lists.specs.Facts.{member_first}
use Rattle.wellformed.specs.Layouts.{GoodLists, unallocated, back_lists}
use Rattle.wellformed.specs.Cases.{pick, pick_by, by_settle, by_head, by_idle, by_packet, by_tests, by_lanes, by_read, by_plug, by_send, by_step}
use Rattle.wellformed.specs.Pool.{has_small, good_lists}
use Rattle.wellformed.specs.Fit.{Fits}
use Rattle.wellformed.specs.Settle.{due_decides, not_due}
use Rattle.wellformed.specs.Keeps.{Valid, decode_valid}
use Rattle.wellformed.specs.Frames.{storable, needs_one}
use Rattle.laws.specs.Ledger.{Entry, asks, answers, grants, returns, restarts, just, last_of, result_entries, answered, command_entries, write_entries, input_entries, entries_of}

-- what the ledger follows of a chip: its layout and page lists, the allocation result, and for how many pages an allocation waits
pub record Held : Type 0 where
  pub layout : Layout
  pub pages : List (List ℕ)
  pub result : ℕ
  pub waiting : ℕ

abbrev pub held_by : Chip → Held
held_by c = record { layout = c.pool.layout; pages = c.pool.pages; result = c.regs.numbers.result; waiting = c.regs.numbers.waiting }

-- the free pages
abbrev pub free_of : Held → List ℕ
free_of a = free_for a.layout a.pages

-- there are m of them, and a number to give them to
pub record Room (m : ℕ) (l : Layout) (ls : List (List ℕ)) : Type 0 where
  pub enough : m ≤ length (free_for l ls)
  pub number : first_empty ls < length ls

abbrev pub RoomIn : ℕ → Held → Type 0
RoomIn m a = Room m a.layout a.pages

-- the lowest unallocated number has the first m of the free pages
abbrev pub allotted : ℕ → Layout → List (List ℕ) → List (List ℕ)
allotted m l ls = set ls (first_empty ls) (take m (free_for l ls))

-- what is held once an allocation waits for m pages, whatever waited before; once it is granted; once packet k has no pages; once there was a soft or MMU reset
abbrev pub asking : ℕ → Held → Held
asking m a = record { layout = a.layout; pages = a.pages; result = 0x80; waiting = m }

abbrev pub completed : Held → Held
completed a = record { layout = a.layout; pages = allotted a.waiting a.layout a.pages; result = first_empty a.pages; waiting = 0 }

abbrev pub without : ℕ → Held → Held
without k a = record { layout = a.layout; pages = set a.pages k []; result = a.result; waiting = a.waiting }

abbrev pub emptied : Layout → ℕ → Held
emptied l n = record { layout = l; pages = replicate n []; result = 0x80; waiting = 0 }

-- what an allocation that may wait comes to: none waits, or for more pages than are free, and all stays; or it is granted
pub data Settles (a : Held) : Held → List Entry → Type 0 where
  waits : (0 < a.waiting → length (free_of a) < a.waiting) → Settles a a []
  completes : 0 < a.waiting → RoomIn a.waiting a → Settles a (completed a) (just (answers (first_empty a.pages)))

-- all that a step may do to what is held, with its entries
pub data Moves (a : Held) : Held → List Entry → Type 0 where
  stays : Moves a a []
  -- a frame is stored
  takes : (m : ℕ) → RoomIn m a → Moves a (record { layout = a.layout; pages = allotted m a.layout a.pages; result = a.result; waiting = a.waiting }) (just (grants (first_empty a.pages) m))
  -- an allocate command; its request is settled
  requests : {b : Held} {es : List Entry} (m : ℕ) → (1 ≤ m) × (m ≤ 8) → Settles (asking m a) b es → Moves a b (asks m ∷ es)
  -- a packet gives its pages back; what waits is settled
  frees : {b : Held} {es : List Entry} (k : ℕ) → k < length a.pages → Settles (without k a) b es → Moves a b (returns k ∷ es)
  -- a soft or MMU reset
  empties : Moves a (emptied a.layout (length a.pages)) (just restarts)
