-- Every step from a well-formed chip gives a well-formed chip: accesses, frames, sends and the link, refusals too. For any size n.
use Rattle.std.specs.Prelude.{◌≡◌, refl, Bool, not, ◌&&◌, List, [], ◌∷◌, ◌++◌, ℕ, zero, suc, ◌+◌, ◌*◌, ◌≤◌, ◌<◌, ◌/◌, ◌%◌, eqb, leb, ltb, get_or, set, take}
use Rattle.std.proofs.Common.{ap, sym, ◌∙◌, inl, inr, arith, get_or-set_same}
use Rattle.std.proofs.Math.Bool.{true, false, true≢false}
use borrow.Author.Tests.{leb-true, leb-false}
use Rattle.std.proofs.Math.ListN.{length}
use Rattle.std.proofs.lemmas.List.{length-replicate}
use Rattle.rules.specs.Bits.{bit, low_byte}
use Rattle.rules.specs.Lists.{member, some?, first_empty}
use Rattle.rules.specs.Chip.{Registers, Layout, Chip, size, page_numbers, free, powered}
use Rattle.rules.specs.Fields.{set_rx, set_completion, in_registers, in_pool, in_memory}
use Rattle.rules.specs.Answers.{Effect, Turn}
use Rattle.rules.specs.WellFormed.{Distinct, Waits, Formed}
use Rattle.rules.specs.Packet.{put_bytes}
use Rattle.rules.specs.Mmu.{Command, nothing, allocate, reset, remove_rx, remove_and_release, release, enqueue, reset_tx, unknown, decode, perform, allot}
use Rattle.rules.specs.Interrupts.{acknowledge}
use Rattle.rules.specs.Data.{read_data, write_data}
use Rattle.rules.specs.Registers.{Lanes, low, high, both, Register, TCR, EPHSR, RCR, ECR, MIR, RESERVED, STATION, CONTROL, COMMAND, PACKET, HEADS, POINTER, DATA, INTERRUPT, TABLE, BANK, UNUSED, ABSENT, bytes_of, merged, new_rcr, write_rcr, write_tcr, write_interrupt, read_register, write_register, register_at, misplaced, lanes_at, Access, read, write, access}
use Rattle.rules.specs.Receive.{Frame, Arrival, stored, disabled, not_accepted, too_long, bad, no_room, needed, after, verdict, arrive}
use Rattle.rules.specs.Send.{Send, good, auto_release, send_head, finish}
use Rattle.rules.specs.Step.{Input, driver, frame, sent, link, serve, step_of}
use Rattle.lists.specs.Bytes.{length_put}
use Rattle.lists.specs.Facts.{if_not, member_first}
use Rattle.wellformed.specs.Cases.{pick, pick_by, by_head, by_idle, by_packet, by_tests, by_lanes, by_read, by_plug, by_send, by_step}
use Rattle.wellformed.specs.Fit.{Fits}
use Rattle.wellformed.specs.Frames.{storable, needs_one, needs_seven}
use Rattle.wellformed.specs.Pool.{has_small, number_free, number_not_rx, number_not_tx, given, rx_popped, rx_joined, tx_popped, tx_joined, completion_joined, completion_popped, tx_and_completion_emptied, with_bank, with_packet, with_result, reset_numbers, beside, emptied}

-- MMU commands.
abbrev pub Valid : Command → Type 0
Valid nothing = Unit {0}
Valid (allocate n) = (1 ≤ n) × (n ≤ 8)
Valid reset = Unit {0}
Valid remove_rx = Unit {0}
Valid remove_and_release = Unit {0}
Valid release = Unit {0}
Valid enqueue = Unit {0}
Valid reset_tx = Unit {0}
Valid unknown = Unit {0}

pub decode_valid : (v : ℕ) → Valid (decode v)
unfolding decode
decode_valid v =
    pick Valid (eqb v 0x00) tt
    (pick Valid (eqb (v / 8) 4) {x = allocate (v % 8 + 1)} (omega arith)
    (pick Valid (eqb v 0x40) tt
    (pick Valid (eqb v 0x60) tt
    (pick Valid (eqb v 0x80) tt (pick Valid (eqb v 0xa0) tt (pick Valid (eqb v 0xc0) tt (pick Valid (eqb v 0xe0) tt tt)))))))

-- Power-up.
pub powered_fits : (l : Layout) (n : ℕ) → Fits n (powered l n)
powered_fits l n = (emptied l n (reset_numbers n) refl, length-replicate (256 * page_numbers l n) 0)
