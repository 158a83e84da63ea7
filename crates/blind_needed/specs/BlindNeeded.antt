-- Why W10's promise asks what it asks: two runs from power-up that differ in one thing alone, and end in another answer. Computed, on the paged chip with one packet or two. Each FCS is zlib's.
use Rattle.std.specs.Prelude.{◌≡◌, refl, List, [], ◌∷◌, ◌++◌, map, true, false, ℕ, ◌-◌, length, get_or, take, set, replicate}
use Rattle.std.proofs.Common.{sym}
use Rattle.rules.specs.Bits.{bit, set_bit, clear_bit, flag, low_byte, high_byte, word_of, word_at}
use Rattle.rules.specs.Lists.{member, some?, owned, unless, free_below, first_empty}
use Rattle.rules.specs.Chip.{paged, powered}
use Rattle.rules.specs.Answers.{Reply, done, refusal_with}
use Rattle.rules.specs.Tests.{above, ascends, all_below, apart, none_owned, pages_good, laid_good, queue_good, queues_good, numbers_good, request_good, formed, fit}
use Rattle.rules.specs.Packet.{place, get_bytes, put_bytes}
use Rattle.rules.specs.Mmu.{decode, perform, due, settle}
use Rattle.rules.specs.Link.{shown}
use Rattle.rules.specs.Data.{address, advance, next, if_packet, against, odd_fixed, past, if_open, value_of, read_data, write_data}
use Rattle.rules.specs.Registers.{read, write, byte, word, register_at, misplaced, lanes_at, taken, merged, width, bytes_of, new_rcr, write_rcr, forgotten, write_tcr, low_only, read_register, write_register, access}
use Rattle.rules.specs.Crc.{crc_bit, crc_bits, crc_from, crc, hash, mirror, fcs_word, four_bytes}
use Rattle.rules.specs.Receive.{Frame, same_bytes, bad_crc, broadcast, group, in_table, accepted, data_length, count_of, pages_for, needed, value_for, dropped, judge, group_bits, frame_status, trailer, image, after, arrive}
use Rattle.rules.specs.Send.{in_limits, byte_count, send_length, appends, padded, ended, on_wire, control_byte, put_out, good, failure_bit, collision_bits, outcome_bits, address_bits, nibble, counted, tally, nibbles, any_at15, new_ecr, new_ephsr, auto_release, send_head, if_usable, if_sendable, finish}
use Rattle.rules.specs.Step.{Input, driver, frame, sent, serve, step_of, Ran, run_of}
use Rattle.laws.specs.Head.{head_pages, head_control}
use Rattle.blind_laws.specs.Alike.{FrameAlike}

-- a run of these inputs from power-up, on a chip of n packets
unfoldable pub ran_from : ℕ → List Input → Ran
unfolding bit set_bit clear_bit flag low_byte high_byte word_of word_at member some? owned unless free_below first_empty above ascends all_below apart none_owned pages_good laid_good queue_good queues_good numbers_good request_good formed fit place get_bytes put_bytes decode perform due settle address advance next if_packet against odd_fixed past if_open value_of read_data write_data register_at misplaced lanes_at taken merged width bytes_of forgotten write_tcr new_rcr write_rcr low_only read_register write_register access shown crc_bit crc_bits crc_from crc mirror hash fcs_word four_bytes same_bytes bad_crc broadcast group in_table accepted data_length count_of pages_for needed value_for dropped judge group_bits frame_status trailer image after arrive in_limits byte_count send_length appends padded ended on_wire control_byte put_out good failure_bit collision_bits outcome_bits address_bits nibble counted tally nibbles any_at15 new_ecr new_ephsr auto_release send_head if_usable if_sendable finish serve step_of run_of
ran_from n inputs = run_of n inputs (powered paged n)

-- the reply to the last input, and the first eleven bytes of its output buffer
abbrev pub last_reply : ℕ → List Input → Reply
last_reply n inputs = get_or (ran_from n inputs).replies (length inputs - 1) done

abbrev pub last_output : ℕ → List Input → List ℕ
last_output n inputs = take 11 (get_or (ran_from n inputs).outputs (length inputs - 1) [])

-- of the TX head after these inputs bytes 2 to 9, and its control byte
abbrev pub head_after : ℕ → List Input → List ℕ
head_after n inputs = let c = (ran_from n inputs).chip in get_bytes 8 2 (head_pages c) c.memory ++ (head_control c ∷ [])

-- one run ends in x, and the other in y
abbrev Seen : ℕ → List Input → List Input → Reply → Reply → Type 0
Seen n inputs others x y = (last_reply n inputs ≡ x) × (last_reply n others ≡ y)

abbrev gives : ℕ → Reply
gives v = record { number = 0; value = v }

-- a frame to this address, with these bytes behind it
abbrev to : List ℕ → List ℕ → Frame
to address rest = record { bytes = address ++ rest; alignment = false }

abbrev everyone : List ℕ
everyone = replicate 6 0xff

-- Arriving frames. A chip that receives stores a broadcast of 64 bytes,
abbrev pub plain : Frame
plain = to everyone (replicate 54 0 ++ (0x1f ∷ 0x94 ∷ 0xc0 ∷ 0x42 ∷ []))

abbrev arriving : Frame → List Input
arriving f = driver (write word 4 0x100) ∷ frame f ∷ []

-- and one of 63 bytes is too short for it: the length,
abbrev shorter : Frame
shorter = to everyone (replicate 53 0 ++ (0x0f ∷ 0x03 ∷ 0x66 ∷ 0x7d ∷ []))

pub length_needed : (take 6 shorter.bytes ≡ take 6 plain.bytes) × (bad_crc shorter.bytes ≡ bad_crc plain.bytes) × (shorter.alignment ≡ plain.alignment)
    × Seen 1 (arriving plain) (arriving shorter) (gives 0) (gives 4)
unfolding ran_from same_bytes bad_crc crc_bit crc_bits crc_from crc mirror fcs_word four_bytes
length_needed = (refl, refl, refl, (refl, refl))

-- one with FEh for an FFh is no broadcast, and is not accepted: each of the first six bytes,
abbrev Address : ℕ → List ℕ → Type 0
Address k fcs =
    let f = to (set everyone k 0xfe) (replicate 54 0 ++ fcs) in
    (length f.bytes ≡ length plain.bytes) × (bad_crc f.bytes ≡ bad_crc plain.bytes) × (f.alignment ≡ plain.alignment) × Seen 1 (arriving plain) (arriving f) (gives 0) (gives 2)

pub first_six_needed : Address 0 (0x90 ∷ 0x1a ∷ 0x13 ∷ 0x88 ∷ []) × Address 1 (0xee ∷ 0x91 ∷ 0x8c ∷ 0x2b ∷ []) × Address 2 (0x8c ∷ 0x9b ∷ 0x07 ∷ 0x08 ∷ [])
    × Address 3 (0x7b ∷ 0x46 ∷ 0x6a ∷ 0x5a ∷ []) × Address 4 (0xc8 ∷ 0x87 ∷ 0x55 ∷ 0x5f ∷ []) × Address 5 (0x0f ∷ 0x27 ∷ 0xc3 ∷ 0x60 ∷ [])
unfolding ran_from same_bytes bad_crc crc_bit crc_bits crc_from crc mirror fcs_word four_bytes
first_six_needed = ((refl, refl, refl, (refl, refl)), (refl, refl, refl, (refl, refl)), (refl, refl, refl, (refl, refl)), (refl, refl, refl, (refl, refl)), (refl, refl, refl, (refl, refl)), (refl, refl, refl, (refl, refl)))

-- one with a wrong FCS is bad: the verdict,
abbrev damaged : Frame
damaged = to everyone (replicate 54 0 ++ (0x1e ∷ 0x94 ∷ 0xc0 ∷ 0x42 ∷ []))

pub verdict_needed : (length damaged.bytes ≡ length plain.bytes) × (take 6 damaged.bytes ≡ take 6 plain.bytes) × (damaged.alignment ≡ plain.alignment)
    × Seen 1 (arriving plain) (arriving damaged) (gives 0) (gives 4)
unfolding ran_from
verdict_needed = (refl, refl, refl, (refl, refl))

-- and so is one that is flagged: the alignment flag.
abbrev flagged : Frame
flagged = record { bytes = plain.bytes; alignment = true }

pub alignment_needed : (flagged.bytes ≡ plain.bytes) × Seen 1 (arriving plain) (arriving flagged) (gives 0) (gives 4)
unfolding ran_from
alignment_needed = (refl, (refl, refl))

-- A send. A frame of 276 bytes takes two pages. It is released, and packets 0 and 1 get a page each: what packet 1 has at 2 to 9, and nobody wrote, are the frame's bytes 254 to 261. It joins TX, and is sent.
abbrev behind : List ℕ → List ℕ → Frame
behind head fcs = to everyone (replicate 248 0 ++ head ++ replicate 10 0 ++ fcs)

abbrev pub queued : Frame → List Input
queued f =
    map driver (write word 4 0x100 ∷ write word 0 1 ∷ []) ++ (frame f ∷ [])
    ++ map driver (write byte 0xe 2 ∷ write byte 0 0x80 ∷ write byte 0 0x20 ∷ write byte 0 0x20 ∷ write byte 2 1 ∷ write byte 0 0xc0 ∷ [])

abbrev pub finished : List Input
finished = sent (record { outcome = 0; collisions = 0; deferral = 0 }) (replicate 2052 0) ∷ []

-- two frames that are alike, and on n packets bytes 2 to 9 of the TX head in the two runs just before the send, with its control byte
pub record Before (n : ℕ) (run : Frame → List Input) (f g : Frame) (here there : List ℕ) : Type 0 where
  pub frames : FrameAlike f g
  pub mine : head_after n (run f) ≡ here
  pub yours : head_after n (run g) ≡ there

-- A count of 12, and an address of six FFh: ten bytes go out.
abbrev pub counted12 : Frame
counted12 = behind (12 ∷ 0 ∷ everyone) (0x93 ∷ 0xac ∷ 0xdb ∷ 0x61 ∷ [])

good12 : bad_crc counted12.bytes ≡ false
unfolding same_bytes bad_crc crc_bit crc_bits crc_from crc mirror fcs_word four_bytes
good12 = refl

abbrev head12 : List ℕ
head12 = 12 ∷ 0 ∷ everyone ++ (0 ∷ [])

is_head12 : head_after 2 (queued counted12) ≡ head12
unfolding ran_from get_bytes place
is_head12 = refl

sends12 : last_reply 2 (queued counted12 ++ finished) ≡ gives 10
unfolding ran_from
sends12 = refl

-- Of a count of 14 twelve do: byte 2,
abbrev counted14 : Frame
counted14 = behind (14 ∷ 0 ∷ everyone) (0x10 ∷ 0xc7 ∷ 0x0f ∷ 0x64 ∷ [])

pub count_low_needed : Before 2 queued counted12 counted14 head12 (set head12 0 14) × Seen 2 (queued counted12 ++ finished) (queued counted14 ++ finished) (gives 10) (gives 12)
unfolding ran_from get_bytes place same_bytes bad_crc crc_bit crc_bits crc_from crc mirror fcs_word four_bytes
count_low_needed = (record { frames = record { as_long = refl; first_six = refl; crc = sym good12; alignment = refl }; mine = is_head12; yours = refl }, (sends12, refl))

-- and one of 268 is past the page: byte 3. (It is not usable, so no control byte is asked for.)
abbrev counted268 : Frame
counted268 = behind (12 ∷ 1 ∷ everyone) (0xd0 ∷ 0x67 ∷ 0x7d ∷ 0xe6 ∷ [])

pub count_high_needed : Before 2 queued counted12 counted268 head12 (set head12 1 1) × Seen 2 (queued counted12 ++ finished) (queued counted268 ++ finished) (gives 10) (refusal_with 19 268)
unfolding ran_from get_bytes place same_bytes bad_crc crc_bit crc_bits crc_from crc mirror fcs_word four_bytes
count_high_needed = (record { frames = record { as_long = refl; first_six = refl; crc = sym good12; alignment = refl }; mine = is_head12; yours = refl }, (sends12, refl))

-- The send tells in EPHSR whether it was to a group or to everyone: each of bytes 4 to 9. (41h is a broadcast that was good, 9 a group address, 1 neither.)
abbrev shown_after : Frame → List Input
shown_after f = queued f ++ finished ++ map driver (write byte 0xe 0 ∷ read word 2 ∷ [])

shows12 : last_reply 2 (shown_after counted12) ≡ gives 0x41
unfolding ran_from
shows12 = refl

abbrev ToOther : ℕ → List ℕ → ℕ → Type 0
ToOther k fcs told =
    let f = behind (12 ∷ 0 ∷ set everyone k 0xfe) fcs in
    Before 2 queued counted12 f head12 (12 ∷ 0 ∷ set everyone k 0xfe ++ (0 ∷ [])) × Seen 2 (shown_after counted12) (shown_after f) (gives 0x41) (gives told)

to_0 : ToOther 0 (0x02 ∷ 0x3d ∷ 0xb3 ∷ 0xcf ∷ []) 1
unfolding ran_from get_bytes place same_bytes bad_crc crc_bit crc_bits crc_from crc mirror fcs_word four_bytes
to_0 = (record { frames = record { as_long = refl; first_six = refl; crc = sym good12; alignment = refl }; mine = is_head12; yours = refl }, (shows12, refl))

to_1 : ToOther 1 (0x7b ∷ 0x77 ∷ 0x20 ∷ 0xd8 ∷ []) 9
unfolding ran_from get_bytes place same_bytes bad_crc crc_bit crc_bits crc_from crc mirror fcs_word four_bytes
to_1 = (record { frames = record { as_long = refl; first_six = refl; crc = sym good12; alignment = refl }; mine = is_head12; yours = refl }, (shows12, refl))

to_2 : ToOther 2 (0xe5 ∷ 0x4d ∷ 0xd4 ∷ 0xfc ∷ []) 9
unfolding ran_from get_bytes place same_bytes bad_crc crc_bit crc_bits crc_from crc mirror fcs_word four_bytes
to_2 = (record { frames = record { as_long = refl; first_six = refl; crc = sym good12; alignment = refl }; mine = is_head12; yours = refl }, (shows12, refl))

to_3 : ToOther 3 (0x16 ∷ 0x75 ∷ 0x4d ∷ 0xbc ∷ []) 9
unfolding ran_from get_bytes place same_bytes bad_crc crc_bit crc_bits crc_from crc mirror fcs_word four_bytes
to_3 = (record { frames = record { as_long = refl; first_six = refl; crc = sym good12; alignment = refl }; mine = is_head12; yours = refl }, (shows12, refl))

to_4 : ToOther 4 (0xfc ∷ 0xe0 ∷ 0x7e ∷ 0xfa ∷ []) 9
unfolding ran_from get_bytes place same_bytes bad_crc crc_bit crc_bits crc_from crc mirror fcs_word four_bytes
to_4 = (record { frames = record { as_long = refl; first_six = refl; crc = sym good12; alignment = refl }; mine = is_head12; yours = refl }, (shows12, refl))

to_5 : ToOther 5 (0x53 ∷ 0x73 ∷ 0x55 ∷ 0xa0 ∷ []) 9
unfolding ran_from get_bytes place same_bytes bad_crc crc_bit crc_bits crc_from crc mirror fcs_word four_bytes
to_5 = (record { frames = record { as_long = refl; first_six = refl; crc = sym good12; alignment = refl }; mine = is_head12; yours = refl }, (shows12, refl))

pub address_needed : ToOther 0 (0x02 ∷ 0x3d ∷ 0xb3 ∷ 0xcf ∷ []) 1 × ToOther 1 (0x7b ∷ 0x77 ∷ 0x20 ∷ 0xd8 ∷ []) 9 × ToOther 2 (0xe5 ∷ 0x4d ∷ 0xd4 ∷ 0xfc ∷ []) 9
    × ToOther 3 (0x16 ∷ 0x75 ∷ 0x4d ∷ 0xbc ∷ []) 9 × ToOther 4 (0xfc ∷ 0xe0 ∷ 0x7e ∷ 0xfa ∷ []) 9 × ToOther 5 (0x53 ∷ 0x73 ∷ 0x55 ∷ 0xa0 ∷ []) 9
address_needed = (to_0, to_1, to_2, to_3, to_4, to_5)

-- A received packet is taken from RX, its count is written anew, and it joins TX: its control byte is the frame's byte 7, and says in bit 5 whether a byte more goes out.
abbrev pub shortened : Frame → List Input
shortened f =
    map driver (write word 4 0x100 ∷ write word 0 1 ∷ []) ++ (frame f ∷ [])
    ++ map driver (write byte 0xe 2 ∷ write byte 0 0x60 ∷ write word 6 0x4002 ∷ write word 8 12 ∷ write byte 0 0xc0 ∷ [])

abbrev pub marked : Frame
marked = to everyone (0 ∷ 0x20 ∷ replicate 52 0 ++ (0x76 ∷ 0xa8 ∷ 0x2f ∷ 0x99 ∷ []))

pub control_needed : Before 1 shortened plain marked head12 (set head12 8 0x20) × Seen 1 (shortened plain ++ finished) (shortened marked ++ finished) (gives 10) (gives 11)
unfolding ran_from get_bytes place same_bytes bad_crc crc_bit crc_bits crc_from crc mirror fcs_word four_bytes
control_needed = (record { frames = record { as_long = refl; first_six = refl; crc = refl; alignment = refl }; mine = refl; yours = refl }, (refl, refl))

-- What the promise leaves out: a data read of the payload returns another value,
abbrev read_back : Frame → List Input
read_back f = arriving f ++ map driver (write byte 0xe 2 ∷ write word 6 0xe00a ∷ read word 8 ∷ [])

pub read_differs : Seen 1 (read_back plain) (read_back marked) (gives 0) (gives 0x2000)
unfolding ran_from
read_differs = (refl, refl)

-- and a received packet that is sent on as it is, which the promise is about, puts other bytes out, as many.
abbrev pub sent_on : Frame → List Input
sent_on f = map driver (write word 4 0x100 ∷ write word 0 1 ∷ []) ++ (frame f ∷ []) ++ map driver (write byte 0xe 2 ∷ write byte 0 0x60 ∷ write byte 0 0xc0 ∷ [])

abbrev head70 : List ℕ
head70 = 70 ∷ 0 ∷ everyone ++ (0x40 ∷ [])

pub put_out_differs : Before 1 sent_on plain marked head70 head70 × Seen 1 (sent_on plain ++ finished) (sent_on marked ++ finished) (gives 68) (gives 68)
    × (last_output 1 (sent_on plain ++ finished) ≡ everyone ++ (0 ∷ 0 ∷ 0 ∷ 0 ∷ 0 ∷ [])) × (last_output 1 (sent_on marked ++ finished) ≡ everyone ++ (0 ∷ 0x20 ∷ 0 ∷ 0 ∷ 0 ∷ []))
unfolding ran_from get_bytes place same_bytes bad_crc crc_bit crc_bits crc_from crc mirror fcs_word four_bytes
put_out_differs = (record { frames = record { as_long = refl; first_six = refl; crc = refl; alignment = refl }; mine = refl; yours = refl }, (refl, refl), refl, refl)
