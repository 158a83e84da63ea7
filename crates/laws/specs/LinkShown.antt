-- What a send shows of the link: EPHSR afterwards, and the status word in its packet, which is EPHSR as it is shown afterwards.
use Rattle.std.specs.Prelude.{◌≡◌, Bool, not, List, [], ◌∷◌, ℕ, ◌*◌, ◌/◌, ◌%◌, ◌^◌, ◌≤◌, eqb, length, get_or}
use Rattle.std.proofs.Common.{ap, sym, subst, ◌∙◌, true≢false, arith}
use Rattle.std.proofs.Math.Bool.{true}
use Rattle.rules.specs.Bits.{bit, low_byte, high_byte}
use Rattle.rules.specs.Lists.{some?}
use Rattle.rules.specs.Chip.{Link, Chip, pages_at, page_numbers}
use Rattle.rules.specs.Fields.{set_tx, in_registers, in_pool}
use Rattle.rules.specs.Answers.{Turn}
use Rattle.rules.specs.Packet.{get_bytes, put_bytes}
use Rattle.rules.specs.Link.{shown_ephsr}
use Rattle.rules.specs.Send.{Send, good, sent_registers, auto_release, retire, status_written, send_head, finish}
use Rattle.rules.specs.Step.{sent, serve, step_of}
use Rattle.rules.specs.Tests.{fit}
use Rattle.lists.specs.Facts.{member_first}
use Rattle.wellformed.specs.Cases.{pick, pick_unless, by_settle, by_send}
use Rattle.wellformed.specs.Fit.{Fits}
use Rattle.wellformed.proofs.Fit.{fit_decides}
use Rattle.laws.specs.Head.{byte_at, head_pages}
use Rattle.laws.specs.Placed.{Placed, placed, put_there}
use Rattle.laws.specs.LinkReads.{shown_bit}
use Rattle.laws.specs.LinkKept.{send_leaves_link}

-- After a send, EPHSR as it is shown has the link of before at bit 14.
pub status_shows_link : (n : ℕ) (s : Send) (out : List ℕ) (c : Chip) → bit 14 (shown_ephsr (step_of n (sent s out) c).chip.regs) ≡ c.regs.link.up
status_shows_link n s out c = shown_bit _ _ ∙ ap (λ (x : Link). x.up) (send_leaves_link n s out c)

-- "EPHSR is written to addresses 0 and 1.": the status word in these pages is EPHSR as it is shown
abbrev pub Noted : List ℕ → Chip → Type 0
Noted pages d = (byte_at pages d.memory 0 ≡ low_byte (shown_ephsr d.regs)) × (byte_at pages d.memory 1 ≡ high_byte (shown_ephsr d.regs))

-- A word put into pages that lie in memory is there.
word_put : (x y : ℕ) (pages memory : List ℕ) → Placed pages memory → 2 ≤ 256 * length pages
    → (byte_at pages (put_bytes (x ∷ y ∷ []) 0 pages memory) 0 ≡ x) × (byte_at pages (put_bytes (x ∷ y ∷ []) 0 pages memory) 1 ≡ y)
word_put x y pages memory p h =
    let at = put_there pages p.ascend (x ∷ y ∷ []) 0 memory p h in
    (at 0 (omega arith), at 1 (omega arith))

-- Written before the packet retires, which leaves it and EPHSR.
retires_noted : (released : Bool) (k : ℕ) (pages : List ℕ) (d : Chip) → Placed pages d.memory → 2 ≤ 256 * length pages → Noted pages (retire released k (status_written pages (shown_ephsr d.regs) d))
retires_noted released k pages d p h =
    let w = word_put (low_byte (shown_ephsr d.regs)) (high_byte (shown_ephsr d.regs)) pages d.memory p h in
    pick (Noted pages) released (by_settle (Noted pages) _ (λ e. w) (λ e. w)) w

-- An allocated packet has room for it.
some_long : (l : List ℕ) → some? l ≡ true → 2 ≤ 256 * length l
unfolding some?
some_long [] e = absurd (true≢false (sym e))
some_long (x ∷ xs) e = omega arith

-- where it is done, it is written into the packet at the head of TX
abbrev Notes : Chip → Turn → Type 0
Notes c t = t.reply.number ≡ 0 → Noted (head_pages c) t.chip

module _ {n : ℕ} (c : Chip) (w : Fits n c) (s : Send) (out : List ℕ) where
  head_noted : (k : ℕ) (rest : List ℕ) → c.pool.tx ≡ k ∷ rest → Noted (pages_at c k) (send_head s k rest c out).chip
  unfolding send_head
  head_noted k rest e =
      let pages = pages_at c k in
      let is_good = good c.regs.sending.tcr s.outcome in
      let there : some? pages ≡ true = w.0.queues.tx_allocated k (rw e (member_first k rest)) in
      retires_noted (auto_release is_good c.regs) k pages (in_pool (set_tx rest) (in_registers (sent_registers is_good s (get_bytes 6 4 pages c.memory) (not (some? rest))) c))
      (placed (page_numbers c.pool.layout n) pages c.memory (w.0.pages.ascend k) (w.0.pages.within k) w.1) (some_long pages there)

  finish_noted : Notes c (finish s c out)
  finish_noted =
      by_send c out (Notes c) s (λ z. absurd (omega (arith, z))) (λ z. absurd (omega (arith, z))) (λ z. absurd (omega (arith, z)))
      (λ k rest e z. absurd (omega (arith, z))) (λ k rest e z. absurd (omega (arith, z))) (λ k rest e z. absurd (omega (arith, z)))
      (λ z. absurd (omega (arith, z)))
      (λ k rest e f z. subst (λ (l : List ℕ). Noted (pages_at c (get_or l 0 0)) (send_head s k rest c out).chip) (sym e) (head_noted k rest e))

-- A send that is done writes EPHSR as it is shown afterwards.
pub send_notes : (n : ℕ) (s : Send) (out : List ℕ) (c : Chip) → (step_of n (sent s out) c).reply.number ≡ 0 → Noted (head_pages c) (step_of n (sent s out) c).chip
unfolding step_of serve
send_notes n s out c = pick_unless (Notes c) (fit n c) (λ f z. absurd (omega (arith, z))) (λ f. finish_noted c ((fit_decides n c).sound f) s out)

-- Bit 14 of a word is bit 6 of its high byte.
high_bit : (x : ℕ) → bit 6 (high_byte x) ≡ bit 14 x
unfolding bit high_byte
high_bit x = let e : x / 256 % 256 / 2 ^ 6 % 2 ≡ x / 2 ^ 14 % 2 = omega arith in ap (λ (y : ℕ). eqb y 1) e

-- So its packet shows the link: at bit 14 of the status word, which is bit 6 of the byte at 1.
pub word_shows_link : (n : ℕ) (s : Send) (out : List ℕ) (c : Chip) → (step_of n (sent s out) c).reply.number ≡ 0
    → bit 6 (byte_at (head_pages c) (step_of n (sent s out) c).chip.memory 1) ≡ c.regs.link.up
word_shows_link n s out c z = ap (bit 6) (send_notes n s out c z).1 ∙ high_bit _ ∙ status_shows_link n s out c
