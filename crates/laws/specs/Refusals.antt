-- "A refusal returns value 0 and changes nothing", as document 02's W2 amends it: every refusal changes nothing, with no exception; its value is 0 but in 13, 18 and 19, where it is the byte count.
-- Both of every input, on every chip, well formed or not; and which numbers an input may get.
use Rattle.std.specs.Prelude.{◌≡◌, cond, List, [], ◌∷◌, ℕ, eqb, leb, ltb, length}
use Rattle.std.proofs.Math.Path.{refl}
use Rattle.std.proofs.Common.{ap, sym, ◌∙◌, true≢false}
use Rattle.std.proofs.Math.Bool.{true, false}
use Rattle.rules.specs.Bits.{low_byte}
use Rattle.rules.specs.Lists.{member}
use Rattle.rules.specs.Chip.{Chip, pages_at, free}
use Rattle.rules.specs.Answers.{Reply, Effect, Turn, refusal_with, refuse, refused_with, leaving}
use Rattle.rules.specs.Mmu.{Command, nothing, allocate, reset, remove_rx, remove_and_release, release, enqueue, reset_tx, unknown, decode, perform}
use Rattle.rules.specs.Data.{read_data, write_data}
use Rattle.rules.specs.Registers.{Lanes, Register, TCR, EPHSR, RCR, ECR, MIR, RESERVED, STATION, CONTROL, COMMAND, PACKET, HEADS, POINTER, DATA, INTERRUPT, TABLE, BANK, UNUSED, ABSENT, bytes_of, low_only, read_register, write_register, Width, read, write, misplaced, register_at, lanes_at, access}
use Rattle.rules.specs.Link.{plug}
use Rattle.rules.specs.Receive.{Frame, arrive}
use Rattle.rules.specs.Send.{Send, byte_count, send_head, finish}
use Rattle.rules.specs.Step.{Input, driver, frame, sent, link, lent, serve, step_of}
use Rattle.lists.specs.Facts.{or_true}
use Rattle.wellformed.specs.Cases.{pick, by_head, by_idle, by_packet, by_tests, by_lanes, by_read, by_plug, by_send, by_step}
use Rattle.wellformed.specs.Fit.{Fits}
use Rattle.wellformed.proofs.Fit.{step_fit, step_unfit}
use Rattle.laws.specs.Head.{head_count, count_is}

-- Document 01's numbers for each kind of input, besides 0 and 16: "accesses .. 1, 2, 3, then for commands 4, 7, 5, 6 and for data 7 or 5, 8, 9, 10. Frames .. 11. Sends .. 15, 11, 12,
-- 13, 14.", and document 02's 18 and 19 "where 13 stood".
-- A read meets neither 3 nor a command's 4 and 6. 17 is the bench program's alone.
abbrev pub read_refusals : List ℕ
read_refusals = 1 ∷ 2 ∷ 5 ∷ 7 ∷ 8 ∷ 9 ∷ 10 ∷ []

abbrev pub write_refusals : List ℕ
write_refusals = 1 ∷ 2 ∷ 3 ∷ 4 ∷ 5 ∷ 6 ∷ 7 ∷ 8 ∷ 9 ∷ 10 ∷ []

abbrev pub refusals : Input → List ℕ
refusals (driver (read w o)) = read_refusals
refusals (driver (write w o v)) = write_refusals
refusals (frame f) = 11 ∷ []
refusals (sent s out) = 11 ∷ 12 ∷ 13 ∷ 14 ∷ 15 ∷ 18 ∷ 19 ∷ []
refusals (link x) = 11 ∷ []

-- "the offending count as the answer's value in all three": document 02's "13 odd, 18 under 12, 19 past the pages"
abbrev pub count_refusals : List ℕ
count_refusals = 13 ∷ 18 ∷ 19 ∷ []

-- what a refusal leaves, on the chip c with the output buffer out: all of it
pub record Unchanged (c : Chip) (out : List ℕ) (t : Turn) : Type 0 where
  pub chip : t.chip ≡ c
  pub output : t.output ≡ out

-- and the value that it returns: in 13, 18 and 19 the word at addresses 2 and 3 of the packet at the head of TX, in every other 0
pub record Valued (c : Chip) (r : Reply) : Type 0 where
  pub count : member r.number count_refusals ≡ true → r.value ≡ head_count c
  pub none : member r.number count_refusals ≡ false → r.value ≡ 0

module _ (n : ℕ) (i : Input) (c : Chip) where
  pub sixteen_there : (Fits n c → ⊥) → (step_of n i c).reply.number ≡ 16
  sixteen_there h = ap (λ (t : Turn). t.reply.number) (step_unfit n i c h)
