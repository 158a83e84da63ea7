-- What each input puts into memory: only a data write, a stored frame and the status word of a send change a byte of it. Of every chip, well formed or not.
use Rattle.std.specs.Prelude.{◌≡◌, Bool, true, cond, not, eqb, ltb, length, take}
use Rattle.std.proofs.Math.Path.{refl, sym, subst}
use Rattle.std.proofs.Common.{◌∙◌}
use Rattle.std.proofs.Math.Bool.{false}
use mathlib.Core.List.{List, [], ◌∷◌}
use Prim.Native.Nat.{ℕ}
use Rattle.rules.specs.Bits.{bit, low_byte, high_byte}
use Rattle.rules.specs.Lists.{some?}
use Rattle.rules.specs.Chip.{Chip, pages_at, allocated, free}
use Rattle.rules.specs.Fields.{set_tx, in_registers, in_pool, in_memory}
use Rattle.rules.specs.Answers.{Effect, Turn, did, refuse}
use Rattle.rules.specs.Packet.{get_bytes, put_bytes}
use Rattle.rules.specs.Mmu.{decode, freed, if_head}
use Rattle.rules.specs.Data.{rcv, address, if_packet, if_open, moved, write_data}
use Rattle.rules.specs.Registers.{Lanes, low, high, both, Register, TCR, EPHSR, RCR, ECR, MIR, RESERVED, STATION, CONTROL, COMMAND, PACKET, HEADS, POINTER, DATA, INTERRUPT, TABLE, BANK, UNUSED, ABSENT, width, bytes_of, head_of, new_rcr, write_rcr, read_register, write_register, register_at, misplaced, lanes_at, Access, read, write, access}
use Rattle.rules.specs.Receive.{Frame, Arrival, stored, disabled, not_accepted, too_long, bad, no_room, data_length, needed, image, after, verdict, arrive}
use Rattle.rules.specs.Send.{Send, good, sent_registers, auto_release, retire, status_word, status_written, send_head, finish}
use Rattle.rules.specs.Link.{plug}
use Rattle.rules.specs.Step.{Input, driver, frame, sent, link, serve, step_of}
use Rattle.rules.specs.Tests.{fit}
use Rattle.wellformed.specs.Cases.{pick, by_settle, by_tests, by_lanes, by_read, by_plug, by_send}
use Rattle.laws.specs.Head.{head_pages}
use Rattle.laws.specs.DataAccesses.{meant, data_in}
use Rattle.laws.specs.Untouched.{performs, reads_data, writes_interrupt}

-- bytes, from which packet address on, and into which pages
pub record Put : Type 0 where
  pub bytes : List ℕ
  pub at : ℕ
  pub pages : List ℕ

abbrev pub put_into : Put → List ℕ → List ℕ
put_into x m = put_bytes x.bytes x.at x.pages m

abbrev pub no_put : Put
no_put = record { bytes = []; at = 0; pages = [] }

-- "Stored from packet address 0"
abbrev pub frame_put : Arrival → Frame → Chip → Put
frame_put stored f c =
    record { bytes = image f (data_length c.regs (length f.bytes)); at = 0; pages = take (needed c.regs (length f.bytes)) (free c) }
frame_put disabled f c = no_put
frame_put not_accepted f c = no_put
frame_put too_long f c = no_put
frame_put bad f c = no_put
frame_put no_room f c = no_put

-- "EPHSR is written to addresses 0 and 1."
abbrev pub status_put : Send → Chip → Put
status_put s c =
    let e = status_word (good c.regs.sending.tcr s.outcome) s (get_bytes 6 4 (head_pages c) c.memory) c.regs in
    record { bytes = low_byte e ∷ high_byte e ∷ []; at = 0; pages = head_pages c }

-- what an input puts where it is done; a write puts data alone, and to another register none
abbrev pub put_by : Input → Chip → Put
put_by (driver (read w offset)) c = no_put
put_by (driver (write w offset v)) c =
    let p = lanes_at w offset in
    record { bytes = take (data_in (register_at c.regs.numbers.bank offset) (width p)) (bytes_of p v); at = address c.regs.pointer; pages = pages_at c (meant c) }
put_by (frame f) c = frame_put (verdict f c) f c
put_by (sent s out) c = status_put s c
put_by (link x) c = no_put

-- the memory after an answer: a refusal puts nothing
abbrev pub memory_by : ℕ → Put → List ℕ → List ℕ
memory_by number x m = cond (eqb number 0) (put_into x m) m

-- A packet that retires leaves memory as it is.
retired : (y : Bool) (k : ℕ) (d : Chip) → (retire y k d).memory ≡ d.memory
retired true k d = by_settle (λ (x : Chip). x.memory ≡ d.memory) (freed k d) (λ e. refl) (λ e. refl)
retired false k d = refl

module _ (c : Chip) where
  -- nothing is put
  abbrev Kept : Effect → Type 0
  Kept e = e.chip.memory ≡ c.memory

  reads : (r : Register) (p : Lanes) → Kept (read_register r p c)
  reads r p = by_read c Kept refl (λ v. refl) (λ v. refl) (λ w. (reads_data c w).2) r p

  -- these bytes are put into these pages where the pointer says, if the access is done
  record PutsAt (pages bytes : List ℕ) (e : Effect) : Type 0 where
    is : e.chip.memory ≡ memory_by e.reply.number (record { bytes = bytes; at = address c.regs.pointer; pages = pages }) c.memory

  abbrev Puts : List ℕ → Effect → Type 0
  Puts bytes e = PutsAt (pages_at c (meant c)) bytes e

  -- refusals 8, 9 and 10 put nothing
  opened : (bytes pages : List ℕ) → PutsAt pages bytes (if_open false (length bytes) pages c (did (in_memory (put_bytes bytes (address c.regs.pointer) pages) (moved (length bytes) c))))
  opened bytes pages = by_tests c (PutsAt pages bytes) false (length bytes) pages _ (record { is = refl }) (record { is = refl }) (record { is = refl }) (record { is = refl })

  writes_data : (bytes : List ℕ) → Puts bytes (write_data bytes c)
  unfolding write_data if_packet head_of
  writes_data bytes = go (rcv c.regs.pointer) c.pool.rx
    where
      put : List ℕ → Effect
      put pages = if_open false (length bytes) pages c (did (in_memory (put_bytes bytes (address c.regs.pointer) pages) (moved (length bytes) c)))

      go : (b : Bool) (rx : List ℕ) → PutsAt (pages_at c (cond b (head_of rx) c.regs.numbers.packet)) bytes
          (cond b (if_head c rx (λ k ks. put (pages_at c k))) (cond (not (allocated c.regs.numbers.packet c)) (refuse 5 c) (put (pages_at c c.regs.numbers.packet))))
      go true [] = record { is = refl }
      go true (k ∷ ks) = opened bytes (pages_at c k)
      go false rx = let pages = pages_at c c.regs.numbers.packet in pick (PutsAt pages bytes) (not (allocated c.regs.numbers.packet c)) (record { is = refl }) (opened bytes pages)

  kept_puts : {e : Effect} → Kept e → Puts [] e
  unfolding put_bytes
  kept_puts {e} h = record { is = h ∙ sym (pick (λ (m : List ℕ). m ≡ c.memory) (eqb e.reply.number 0) refl refl) }

  writes_rcr : (x : ℕ) → (write_rcr x c).memory ≡ c.memory
  unfolding write_rcr
  writes_rcr x = pick (λ (d : Chip). d.memory ≡ c.memory) (bit 15 x) refl refl

  all_taken_lem : (p : Lanes) (v : ℕ) → take (width p) (bytes_of p v) ≡ bytes_of p v
  unfolding width bytes_of
  all_taken_lem low v = refl
  all_taken_lem high v = refl
  all_taken_lem both v = refl

  writes : (r : Register) (p : Lanes) (v : ℕ) → Puts (take (data_in r (width p)) (bytes_of p v)) (write_register r p v c)
  unfolding write_register
  writes TCR p v = kept_puts refl
  writes EPHSR p v = kept_puts refl
  writes RCR p v = kept_puts (writes_rcr (new_rcr p v c.regs.receiving.rcr))
  writes ECR p v = kept_puts refl
  writes MIR p v = kept_puts refl
  writes RESERVED p v = kept_puts (by_lanes c Kept p _ refl refl)
  writes (STATION k) p v = kept_puts refl
  writes CONTROL p v = kept_puts refl
  writes COMMAND p v = kept_puts (by_lanes c Kept p _ refl (performs c (decode (low_byte v))).2)
  writes PACKET p v = kept_puts (by_lanes c Kept p _ refl refl)
  writes HEADS p v = kept_puts refl
  writes POINTER p v = kept_puts refl
  writes DATA p v = subst (λ (bytes : List ℕ). Puts bytes (write_data (bytes_of p v) c)) (sym (all_taken_lem p v)) (writes_data (bytes_of p v))
  writes INTERRUPT p v = kept_puts (writes_interrupt c p v).2
  writes (TABLE k) p v = kept_puts refl
  writes BANK p v = kept_puts (by_lanes c Kept p _ refl refl)
  writes UNUSED p v = kept_puts refl
  writes ABSENT p v = kept_puts refl

  kept_nothing : (e : Effect) → Kept e → e.chip.memory ≡ memory_by e.reply.number no_put c.memory
  unfolding put_bytes
  kept_nothing e h = h ∙ sym (pick (λ (m : List ℕ). m ≡ c.memory) (eqb e.reply.number 0) refl refl)

  accesses : (a : Access) → (access a c).chip.memory ≡ memory_by (access a c).reply.number (put_by (driver a) c) c.memory
  unfolding access
  accesses (read w o) =
      let r = register_at c.regs.numbers.bank o in
      pick (λ (e : Effect). e.chip.memory ≡ memory_by e.reply.number no_put c.memory) (misplaced w o) refl (kept_nothing (read_register r (lanes_at w o) c) (reads r (lanes_at w o)))
  accesses (write w o v) =
      let r = register_at c.regs.numbers.bank o in
      (pick (Puts (take (data_in r (width (lanes_at w o))) (bytes_of (lanes_at w o) v))) (misplaced w o) (record { is = refl }) (writes r (lanes_at w o) v)).is

  afters : (v : Arrival) (f : Frame) → (after v f c).memory ≡ put_into (frame_put v f c) c.memory
  unfolding after put_bytes
  afters stored f = refl
  afters disabled f = refl
  afters not_accepted f = refl
  afters too_long f = refl
  afters bad f = refl
  afters no_room f = refl

  arrives : (f : Frame) → (arrive f c).chip.memory ≡ memory_by (arrive f c).reply.number (frame_put (verdict f c) f c) c.memory
  unfolding arrive
  arrives f = pick (λ (e : Effect). e.chip.memory ≡ memory_by e.reply.number (frame_put (verdict f c) f c) c.memory) (ltb (length f.bytes) 18) refl (afters (verdict f c) f)

  plugs : (x : ℕ) → (plug x c).chip.memory ≡ memory_by (plug x c).reply.number no_put c.memory
  unfolding put_bytes
  plugs x = by_plug c (λ (e : Effect). e.chip.memory ≡ memory_by e.reply.number no_put c.memory) x refl (λ up. refl)

  finishes : (s : Send) (out : List ℕ) → (finish s c out).chip.memory ≡ memory_by (finish s c out).reply.number (status_put s c) c.memory
  unfolding send_head
  finishes s out =
      by_send c out (λ (t : Turn). t.chip.memory ≡ memory_by t.reply.number (status_put s c) c.memory) s refl refl refl (λ k rest e. refl) (λ k rest e. refl) (λ k rest e. refl) refl
      (λ k rest e f. let is_good = good c.regs.sending.tcr s.outcome in
      let address = get_bytes 6 4 (pages_at c k) c.memory in
      rw e
      (retired (auto_release is_good c.regs) k
      (status_written (pages_at c k) (status_word is_good s address c.regs) (in_pool (set_tx rest) (in_registers (sent_registers is_good s address (not (some? rest))) c)))))

-- The memory after every step: what the input puts where it is done, and else what it was.
served : (i : Input) (c : Chip) → (serve i c).chip.memory ≡ memory_by (serve i c).reply.number (put_by i c) c.memory
unfolding serve
served (driver a) c = accesses c a
served (frame f) c = arrives c f
served (sent s out) c = finishes c s out
served (link x) c = plugs c x

pub memory_after : (n : ℕ) (i : Input) (c : Chip) → (step_of n i c).chip.memory ≡ memory_by (step_of n i c).reply.number (put_by i c) c.memory
unfolding step_of
memory_after n i c = pick (λ (t : Turn). t.chip.memory ≡ memory_by t.reply.number (put_by i c) c.memory) (not (fit n c)) refl (served i c)
