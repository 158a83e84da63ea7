-- A send that finishes on a chip and on the same with another link: the same refusals and the same bytes put out; the status words that they write differ in bit 14 alone.
use Rattle.std.specs.Prelude.{◌≡◌, Bool, true, false, not, ℕ, zero, suc, ◌*◌, ltb, length, get_or, set}
use Rattle.std.proofs.Math.Path.{refl}
use Rattle.std.proofs.Common.{ap}
use mathlib.Core.List.{List, [], ◌∷◌}
use Rattle.rules.specs.Bits.{bit, clear_bit, low_byte, high_byte}
use Rattle.rules.specs.Lists.{some?}
use Rattle.rules.specs.Chip.{Link, Chip, pages_at}
use Rattle.rules.specs.Fields.{set_link, set_tx, in_registers, in_pool}
use Rattle.rules.specs.Answers.{Reply, Turn}
use Rattle.rules.specs.Packet.{place, get_bytes, put_bytes}
use Rattle.rules.specs.Mmu.{due, settle, freed}
use Rattle.rules.specs.Link.{shown}
use Rattle.rules.specs.Send.{Send, in_limits, byte_count, good, new_ephsr, sent_registers, auto_release, retire, status_written, no_place, send_head, if_usable, if_sendable, by_tx_head, finish}
use Rattle.laws.specs.Head.{byte_at, head_pages}
use Rattle.laws.specs.LinkApart.{linked, ByLink, but_status}
use Rattle.laws.specs.LinkReads.{shown_high, shown_low}
use Rattle.laws.specs.LinkSteps.{pick_alike}

-- a memory but for bit 14 of the status word in these pages
abbrev but_word : List ℕ → List ℕ → List ℕ
but_word pages m = put_bytes (clear_bit 6 (byte_at pages m 1) ∷ []) 1 pages m

-- Two bytes set in the same place, alike but for bit 6: with it cleared they are alike, also where the place is past the end.
cleared_alike : (m : List ℕ) (i x y : ℕ) → clear_bit 6 x ≡ clear_bit 6 y
    → set (set m i x) i (clear_bit 6 (get_or (set m i x) i 0)) ≡ set (set m i y) i (clear_bit 6 (get_or (set m i y) i 0))
cleared_alike [] i x y e = refl
cleared_alike (z ∷ zs) zero x y e = ap (λ (b : ℕ). b ∷ zs) e
cleared_alike (z ∷ zs) (suc i) x y e = ap (λ (l : List ℕ). z ∷ l) (cleared_alike zs i x y e)

-- Two status words written into the same pages, alike but for bit 14.
words_alike : (up down : Bool) (e : ℕ) (pages m : List ℕ)
    → but_word pages (put_bytes (low_byte (shown up e) ∷ high_byte (shown up e) ∷ []) 0 pages m) ≡ but_word pages (put_bytes (low_byte (shown down e) ∷ high_byte (shown down e) ∷ []) 0 pages m)
unfolding put_bytes place
words_alike up down e pages m =
    rw (shown_low up down e) (cleared_alike (set m (place pages 0) (low_byte (shown down e))) (place pages 1) (high_byte (shown up e)) (high_byte (shown down e)) (shown_high up down e))

-- a chip with this link and this memory
abbrev dressed : Link → List ℕ → Chip → Chip
dressed y m c = record { regs = set_link y c.regs; pool = c.pool; memory = m }

-- A packet retires by pool and numbers, whatever link and memory are.
module _ (y : Link) (m : List ℕ) where
  settles_dressed : (d : Chip) → settle (dressed y m d) ≡ dressed y m (settle d)
  unfolding settle due
  settles_dressed d = pick_alike (λ (e u : Chip). u ≡ dressed y m e) (due d) refl refl

  retires_dressed : (released : Bool) (k : ℕ) (d : Chip) → retire released k (dressed y m d) ≡ dressed y m (retire released k d)
  retires_dressed true k d = settles_dressed (freed k d)
  retires_dressed false k d = refl

-- So a status word is written and the packet retires on both, alike but for the link and bit 14 of that word.
retires_alike : (y : Link) (released : Bool) (k e : ℕ) (pages : List ℕ) (d : Chip)
    → ByLink (but_status pages (retire released k (status_written pages (shown d.regs.link.up e) d))) (but_status pages (retire released k (status_written pages (shown y.up e) (linked y d))))
retires_alike y released k e pages d =
    rw (retires_dressed y (noted y.up) released k d, retires_dressed d.regs.link (noted d.regs.link.up) released k d)
    (ap (λ (m : List ℕ). dressed y m (retire released k d)) (words_alike y.up d.regs.link.up e pages d.memory))
  where
    noted : Bool → List ℕ
    noted up = put_bytes (low_byte (shown up e) ∷ high_byte (shown up e) ∷ []) 0 pages d.memory

-- the two turns of a send whose packet has these pages: the replies and what is put out agree, and the chips but for the link and, where it is done, bit 14 of the status word
pub record Turns (pages : List ℕ) (t u : Turn) : Type 0 where
  pub number : u.reply.number ≡ t.reply.number
  pub value : u.reply.value ≡ t.reply.value
  pub output : u.output ≡ t.output
  pub done : t.reply.number ≡ 0 → ByLink (but_status pages t.chip) (but_status pages u.chip)
  pub refused : (t.reply.number ≡ 0 → ⊥) → ByLink t.chip u.chip

module _ (y : Link) (c : Chip) (s : Send) (out : List ℕ) where
  abbrev other : Chip
  other = linked y c

  -- A refusal leaves both, and tells the same.
  refuses : {pages : List ℕ} (r : Reply) → Turns pages (record { reply = r; chip = c; output = out }) (record { reply = r; chip = other; output = out })
  refuses r = record { number = refl; value = refl; output = refl; done = λ e. refl; refused = λ e. refl }

  -- The head of TX is sent on both: its status word shows each one's link.
  sends_head : (k : ℕ) (rest : List ℕ) → Turns (pages_at c k) (send_head s k rest c out) (send_head s k rest other out)
  unfolding send_head new_ephsr auto_release
  sends_head k rest =
      let is_good = good c.regs.sending.tcr s.outcome in
      let address = get_bytes 6 4 (pages_at c k) c.memory in
      record {
        number = refl;
        value = refl;
        output = refl;
        done = λ z. retires_alike y (auto_release is_good c.regs) k (new_ephsr is_good s address c.regs) (pages_at c k)
            (in_pool (set_tx rest) (in_registers (sent_registers is_good s address (not (some? rest))) c));
        refused = λ z. absurd (z refl);
      }

  -- refusals 13, 18 and 19 on both, then 14
  by_count_both : (pages : List ℕ) (count pageCount : ℕ) (t u : Turn) → Turns pages t u → Turns pages (if_usable count pageCount c out t) (if_usable count pageCount other out u)
  unfolding if_usable
  by_count_both pages count pageCount t u h =
      let R = Turns pages in pick_alike R (bit 0 count) (refuses _) (pick_alike R (ltb count 12) (refuses _) (pick_alike R (ltb (256 * pageCount) count) (refuses _) h))

  sends : (k : ℕ) (rest : List ℕ) → Turns (pages_at c k) (if_sendable s k rest c out) (if_sendable s k rest other out)
  unfolding if_sendable auto_release
  sends k rest =
      by_count_both (pages_at c k) (byte_count (pages_at c k) c.memory) (length (pages_at c k)) _ _ (pick_alike (Turns (pages_at c k)) (no_place s c) (refuses _) (sends_head k rest))

  -- refusals 15, 11 and 12 on both, else by the head of TX
  pub finishes : Turns (head_pages c) (finish s c out) (finish s other out)
  unfolding finish
  finishes =
      let R = Turns (head_pages c) in
      pick_alike R (ltb (length out) 2052) (refuses _)
      (pick_alike R (not (in_limits s)) (refuses _) (pick_alike R (not (bit 0 c.regs.sending.tcr)) (refuses _) (by_tx_head_lem c.pool.tx)))
    where
      by_tx_head_lem : (l : List ℕ) → Turns (pages_at c (get_or l 0 0)) (by_tx_head s l c out) (by_tx_head s l other out)
      by_tx_head_lem [] = refuses _
      by_tx_head_lem (k ∷ rest) = sends k rest
