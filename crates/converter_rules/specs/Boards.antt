-- "A driver alone on its chip from power-up": what may happen, one thing after another, and what is counted of it.
use Rattle.std.specs.Prelude.{Bool, false, cond, ◌&&◌, List, [], ◌∷◌, ◌++◌, map, ℕ, eqb, take}
use Rattle.rules.specs.Bits.{word_at}
use Rattle.rules.specs.Chip.{paged, Chip, pages_at, powered}
use Rattle.rules.specs.Answers.{Reply, Turn}
use Rattle.rules.specs.Packet.{get_bytes}
use Rattle.rules.specs.Registers.{Access}
use Rattle.rules.specs.Crc.{fcs}
use Rattle.rules.specs.Receive.{Frame}
use Rattle.rules.specs.Send.{Send, byte_count, control_byte, send_length}
use Rattle.rules.specs.Step.{frame, sent, link, step_of}
use Rattle.converter_rules.specs.Accesses.{after}
use Rattle.converter_rules.specs.Calls.{start, Called, offer, received, drain, tell}

-- the chip, and whether the driver asked for a request that it has not yet used
pub record Board : Type 0 where
  pub chip : Chip
  pub asked : Bool

-- the driver's own calls; frames of any kind, sends of every outcome, link events
pub data Event : Type 0 where
  -- a frame without its FCS
  offers : List ℕ → Event
  -- the caller's buffer
  drains : List ℕ → Event
  is_told : Event
  arrives : Frame → Event
  -- the output buffer that is lent for it
  sends : Send → List ℕ → Event
  plugs : ℕ → Event

-- what comes of an event: the answer, the accesses that were made, the board, and the buffer after it
pub record Happened : Type 0 where
  pub reply : Reply
  pub made : List Access
  pub board : Board
  pub buffer : List ℕ

-- of a call, and of an input of the chip
abbrev pub called : Called → Chip → Happened
called x c = record { reply = x.reply; made = x.made; board = record { chip = after x.made c; asked = x.asked }; buffer = x.buffer }

abbrev pub turned : Turn → Board → Happened
turned t b = record { reply = t.reply; made = []; board = record { chip = t.chip; asked = b.asked }; buffer = t.output }

-- on the part with n packets
unfoldable pub happens : ℕ → Event → Board → Happened
happens n (offers f) b = called (offer b.asked f b.chip) b.chip
happens n (drains buffer) b = called (drain b.asked buffer b.chip) b.chip
happens n is_told b = called (tell b.asked b.chip) b.chip
happens n (arrives f) b = turned (step_of n (frame f) b.chip) b
happens n (sends s out) b = turned (step_of n (sent s out) b.chip) b
happens n (plugs x) b = turned (step_of n (link x) b.chip) b

-- powered up and started; nothing was asked for
abbrev pub started : ℕ → Board
started n = record { chip = after start (powered paged n); asked = false }

-- the board after some events
unfoldable pub board_after : ℕ → List Event → Board → Board
board_after n [] b = b
board_after n (e ∷ es) b = board_after n es (happens n e b).board

-- what some events leave in a list, by what each leaves
unfoldable pub gathered : (Event → Happened → List (List ℕ)) → ℕ → List Event → Board → List (List ℕ)
gathered f n [] b = []
gathered f n (e ∷ es) b = f e (happens n e b) ++ gathered f n es (happens n e b).board

-- one entry where the test holds
unfoldable pub where? : Bool → List ℕ → List (List ℕ)
where? t x = cond t (x ∷ []) []

abbrev pub is_done : Reply → Bool
is_done r = eqb r.number 0

-- the frames taken: those whose offer is answered with 0
unfoldable pub taken : Event → Happened → List (List ℕ)
taken (offers f) h = where? (is_done h.reply) f
taken (drains buffer) h = []
taken is_told h = []
taken (arrives f) h = []
taken (sends s out) h = []
taken (plugs x) h = []

-- the frames stored: those that arrive with answer 0 and value 0, with their FCS
unfoldable pub stored : Event → Happened → List (List ℕ)
stored (offers f) h = []
stored (drains buffer) h = []
stored is_told h = []
stored (arrives f) h = where? (is_done h.reply && eqb h.reply.value 0) f.bytes
stored (sends s out) h = []
stored (plugs x) h = []

-- the frames drained: the bytes at the buffer's front, as many as the value says
unfoldable pub drained : Event → Happened → List (List ℕ)
drained (offers f) h = []
drained (drains buffer) h = where? (is_done h.reply) (take h.reply.value h.buffer)
drained is_told h = []
drained (arrives f) h = []
drained (sends s out) h = []
drained (plugs x) h = []

-- what finished sends put out, good or failed: the bytes at the output buffer's front
unfoldable pub put_out : Event → Happened → List (List ℕ)
put_out (offers f) h = []
put_out (drains buffer) h = []
put_out is_told h = []
put_out (arrives f) h = []
put_out (sends s out) h = where? (is_done h.reply) (take h.reply.value h.buffer)
put_out (plugs x) h = []

-- a taken frame as its send puts it out: with its FCS, and no padding
abbrev pub on_cable : List ℕ → List ℕ
on_cable f = f ++ fcs f

-- the frame in a packet of TX: its data, as a send reads them
abbrev pub to_send : List ℕ → List ℕ → List ℕ
to_send pages memory = let count = byte_count pages memory in get_bytes (send_length count (control_byte count pages memory)) 4 pages memory

-- the frame in a packet of RX: n data bytes
abbrev pub to_drain : List ℕ → List ℕ → List ℕ
to_drain pages memory = get_bytes (received (word_at 0 (get_bytes 2 0 pages memory)) (byte_count pages memory)) 4 pages memory

abbrev pub in_tx : Chip → List (List ℕ)
in_tx c = map (λ k. to_send (pages_at c k) c.memory) c.pool.tx

abbrev pub in_rx : Chip → List (List ℕ)
in_rx c = map (λ k. to_drain (pages_at c k) c.memory) c.pool.rx
