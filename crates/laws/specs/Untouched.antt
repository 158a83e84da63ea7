-- What no command, no data access, no frame and no send touches: the layout, and the link; and of these a command, a data read and a write of interrupts leave the memory too. Of every chip, well formed or not.
use Rattle.std.specs.Prelude.{◌≡◌, refl, List, ℕ, leb, ltb, length}
use Rattle.rules.specs.Chip.{Chip, free}
use Rattle.rules.specs.Answers.{Effect, Turn}
use Rattle.rules.specs.Mmu.{Command, nothing, allocate, reset, remove_rx, remove_and_release, release, enqueue, reset_tx, unknown, perform, settle}
use Rattle.rules.specs.Data.{read_data, write_data}
use Rattle.rules.specs.Registers.{Lanes, low, high, both, write_interrupt}
use Rattle.rules.specs.Receive.{Frame, Arrival, stored, disabled, not_accepted, too_long, bad, no_room, after, verdict, arrive}
use Rattle.rules.specs.Send.{Send, good, auto_release, send_head, finish}
use Rattle.wellformed.specs.Cases.{pick, by_settle, by_head, by_idle, by_packet, by_tests, by_send}

module _ (c : Chip) where
  -- layout and link are those of c
  abbrev pub Untouched : Chip → Type 0
  Untouched d = (d.pool.layout ≡ c.pool.layout) × (d.regs.link ≡ c.regs.link)

  abbrev In : Effect → Type 0
  In e = Untouched e.chip

  -- and the memory is
  abbrev pub Kept : Chip → Type 0
  Kept d = (d.pool.layout ≡ c.pool.layout) × (d.regs.link ≡ c.regs.link) × (d.memory ≡ c.memory)

  abbrev KeptIn : Effect → Type 0
  KeptIn e = Kept e.chip

  abbrev By : Turn → Type 0
  By t = Untouched t.chip

  same : Untouched c
  same = (refl, refl)

  kept : Kept c
  kept = (refl, refl, refl)

  -- a grant of what waits
  settled : (d : Chip) → Untouched d → Untouched (settle d)
  settled d h = by_settle Untouched d (λ e. h) (λ e. h)

  settled_kept : (d : Chip) → Kept d → Kept (settle d)
  settled_kept d h = by_settle Kept d (λ e. h) (λ e. h)

  pub performs : (k : Command) → Kept (perform k c).chip
  unfolding perform
  performs nothing = kept
  performs (allocate m) = pick KeptIn (leb m (length (free c))) kept kept
  performs reset = kept
  performs remove_rx = by_head c KeptIn _ c.pool.rx kept (λ k ks e. kept)
  performs remove_and_release = by_head c KeptIn _ c.pool.rx kept (λ k ks e. settled_kept _ kept)
  performs release = by_idle c KeptIn _ kept kept (λ a r t. settled_kept _ kept)
  performs enqueue = by_idle c KeptIn _ kept kept (λ a r t. kept)
  performs reset_tx = kept
  performs unknown = kept

  pub reads_data : (wide : ℕ) → Kept (read_data wide c).chip
  unfolding read_data
  reads_data wide = by_packet c KeptIn _ kept kept (λ pages. by_tests c KeptIn _ wide pages _ kept kept kept kept)

  pub writes_data : (bytes : List ℕ) → Untouched (write_data bytes c).chip
  unfolding write_data
  writes_data bytes = by_packet c In _ same same (λ pages. by_tests c In _ (length bytes) pages _ same same same same)

  -- an acknowledge, and a write of the mask
  pub writes_interrupt : (p : Lanes) (v : ℕ) → Kept (write_interrupt p v c)
  unfolding write_interrupt
  writes_interrupt low v = kept
  writes_interrupt high v = kept
  writes_interrupt both v = kept

  afters : (v : Arrival) (f : Frame) → Untouched (after v f c)
  unfolding after
  afters stored f = same
  afters disabled f = same
  afters not_accepted f = same
  afters too_long f = same
  afters bad f = same
  afters no_room f = same

  pub arrives : (f : Frame) → Untouched (arrive f c).chip
  unfolding arrive
  arrives f = pick In (ltb (length f.bytes) 18) same (afters (verdict f c) f)

  pub finishes : (s : Send) (out : List ℕ) → Untouched (finish s c out).chip
  unfolding send_head
  finishes s out =
      by_send c out By s same same same (λ k rest e. same) (λ k rest e. same) (λ k rest e. same) same
      (λ k rest e f. pick Untouched (auto_release (good c.regs.sending.tcr s.outcome) c.regs) (settled _ same) same)
