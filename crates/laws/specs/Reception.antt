-- What an arriving frame reads, for any chip, and what it writes, where the page lists are good.
use Rattle.std.specs.Prelude.{◌≡◌, refl, Bool, true, false, cond, not, ◌||◌, ℕ, suc, ◌+◌, ◌*◌, ◌≤◌, ◌/◌, ltb, length, get_or, take}
use Rattle.std.proofs.Common.{ap, sym, ◌∙◌, true≢false, ltb-false, length-append}
use mathlib.Core.List.{List, [], ◌∷◌, ◌++◌}
use native.Mathlib.Omega.{arith}
use Rattle.std.proofs.Math.ListN.{length-take}
use Rattle.std.proofs.Math.Seq.{get_or-set_other}
use Rattle.rules.specs.Bits.{bit}
use Rattle.rules.specs.Lists.{member, some?, owned, first_empty}
use Rattle.rules.specs.Chip.{Registers, Pool, Chip, free, reset_registers}
use Rattle.rules.specs.Fields.{set_rcr, set_overrun, set_control, in_receiving}
use Rattle.rules.specs.Answers.{Reply, Effect, done_with, refusal, refuse}
use Rattle.rules.specs.Packet.{put_bytes}
use Rattle.rules.specs.Receive.{Frame, Arrival, stored, disabled, not_accepted, too_long, bad, no_room, value_for, accepted, dropped, data_length, count_of, pages_for, needed, destination, judge, trailer, image, stow, abort, after, arrive}
use Rattle.laws.specs.Apart.{Within}
use Rattle.wellformed.specs.Cases.{pick_by}
use Rattle.wellformed.specs.Pages.{first_empty_lem}
use Rattle.wellformed.specs.Layouts.{GoodLists, taken_apart}
use Rattle.wellformed.specs.Frames.{needs_seven}

-- what a frame does: it writes RCR, a latch, the pool, and bytes of memory
pub record Reception : Type 0 where
  pub reply : Reply
  -- RCR after it
  pub rcr : ℕ
  -- is RX_OVRN set
  pub overrun : Bool
  -- the pool after it
  pub pool : Pool
  -- the bytes stored from packet address 0 on, and the pages that take them
  pub image : List ℕ
  pub pages : List ℕ

-- a chip on which it is done
abbrev pub receive : Reception → Chip → Chip
receive x c = record {
  regs = set_rcr x.rcr (set_overrun (x.overrun || c.regs.receiving.overrun) c.regs);
  pool = x.pool;
  memory = put_bytes x.image 0 x.pages c.memory;
}

-- a chip whose memory nobody asks for
abbrev bare : Registers → Pool → Chip
bare r q = record { regs = r; pool = q; memory = [] }

-- pool and memory stay
abbrev nothing_stored : Reply → ℕ → Bool → Pool → Reception
nothing_stored x y b q = record { reply = x; rcr = y; overrun = b; pool = q; image = []; pages = [] }

abbrev answering : ℕ → Reply
answering v = record { number = 0; value = v }

unfoldable pub judged : Arrival → Frame → Registers → Pool → Reception
judged stored f r q = record {
  reply = answering (value_for stored);
  rcr = r.receiving.rcr;
  overrun = false;
  pool = (stow f (bare r q)).pool;
  image = image f (data_length r (length f.bytes));
  pages = take (needed r (length f.bytes)) (free (bare r q));
}
judged disabled f r q = nothing_stored (answering (value_for disabled)) r.receiving.rcr false q
judged not_accepted f r q = nothing_stored (answering (value_for not_accepted)) r.receiving.rcr false q
judged too_long f r q = nothing_stored (answering (value_for too_long)) (abort r).receiving.rcr false q
judged bad f r q = nothing_stored (answering (value_for bad)) r.receiving.rcr false q
judged no_room f r q = nothing_stored (answering (value_for no_room)) (abort r).receiving.rcr true q

-- from registers and pool alone: a frame reads no byte of memory
unfoldable pub reception : Frame → Registers → Pool → Reception
reception f r q = cond (ltb (length f.bytes) 18) (nothing_stored (refusal 11) r.receiving.rcr false q) (judged (judge r (length (free (bare r q))) f) f r q)

-- an effect that is a reception
abbrev pub Received : Effect → Reception → Chip → Type 0
Received s x c = s ≡ record { reply = x.reply; chip = receive x c }

-- An arrival is its reception, and writes nothing else.
pub frame_is : (f : Frame) (c : Chip) → Received (arrive f c) (reception f c.regs c.pool) c
unfolding arrive after reception judged put_bytes
frame_is f c = early (ltb (length f.bytes) 18) _ (judged (judge c.regs (length (free c)) f) f c.regs c.pool) (late (judge c.regs (length (free c)) f))
  where
    late : (v : Arrival) → Received (done_with (value_for v) (after v f c)) (judged v f c.regs c.pool) c
    late stored = refl
    late disabled = refl
    late not_accepted = refl
    late too_long = refl
    late bad = refl
    late no_room = refl

    early : (b : Bool) (s : Effect) (x : Reception) → Received s x c → Received (cond b (refuse 11 c) s) (cond b (nothing_stored (refusal 11) c.regs.receiving.rcr false c.pool) x) c
    early true s x e = refl
    early false s x e = e

-- what a frame reads of the registers, and all else as after a reset
abbrev pub seen : Registers → Registers
seen r = set_overrun false (set_control r.control (in_receiving (λ x. r.receiving) (reset_registers [] false)))

-- A frame reads RCR, the reserved pages, the station address, control and the table, and the pool.
pub frame_reads : (f : Frame) (r : Registers) (q : Pool) → reception f r q ≡ reception f (seen r) q
unfolding reception judged judge accepted dropped needed data_length
frame_reads f r q = ap (cond (ltb (length f.bytes) 18) (nothing_stored (refusal 11) r.receiving.rcr false q)) (late (judge r (length (free (bare r q))) f))
  where
    late : (v : Arrival) → judged v f r q ≡ judged v f (seen r) q
    late stored = refl
    late disabled = refl
    late not_accepted = refl
    late too_long = refl
    late bad = refl
    late no_room = refl

-- what a frame changes of the pool, and where in memory it writes
pub record Spares (q : Pool) (x : Reception) : Type 0 where
  -- of the page lists only that of the lowest unallocated number, of the queues only RX
  pub others : (k : ℕ) → (k ≡ first_empty q.pages → ⊥) → get_or x.pool.pages k [] ≡ get_or q.pages k []
  pub tx : x.pool.tx ≡ q.tx
  pub completion : x.pool.completion ≡ q.completion
  -- the bytes go into pages that were free: no packet had them
  pub fresh : (p : ℕ) → member p x.pages ≡ true → owned p q.pages ≡ false
  -- which hold them all
  pub fits : Within 0 (length x.image) x.pages

-- So an allocated packet keeps its pages.
pub kept : (q : Pool) (x : Reception) → Spares q x → (k : ℕ) → some? (get_or q.pages k []) ≡ true → get_or x.pool.pages k [] ≡ get_or q.pages k []
unfolding some?
kept q x w k a = w.others k (λ e. true≢false (sym a ∙ ap (λ (j : ℕ). some? (get_or q.pages j [])) e ∙ ap some? (first_empty_lem q.pages)))

-- The pages for a count hold the image that has this count.
pub image_fits : (f : Frame) (n : ℕ) → length (image f n) ≤ 256 * pages_for (count_of n)
unfolding image trailer count_of pages_for
image_fits f n = go (bit 0 n)
  where
    go : (b : Bool) → suc (suc (suc (suc (length (take n f.bytes ++ cond b (0x60 ∷ []) (0 ∷ 0x40 ∷ [])))))) ≤ 256 * ((cond b (n + 5) (n + 6) + 255) / 256)
    go true = simp (length-append, length-take) (omega arith)
    go false = simp (length-append, length-take) (omega arith)

module _ (f : Frame) (r : Registers) (q : Pool) {n : ℕ} (lists : GoodLists q.layout n q.pages) where
  abbrev len : ℕ
  len = length f.bytes

  abbrev free_pages : ℕ
  free_pages = length (free (bare r q))

  nothing_taken : (x : Reply) (y : ℕ) (b : Bool) → Spares q (nothing_stored x y b q)
  unfolding member
  nothing_taken x y b = record { others = λ k h. refl; tx = refl; completion = refl; fresh = λ p m. absurd (true≢false (sym m)); fits = omega arith }

  some_taken : len ≤ 1532 → needed r len ≤ free_pages → Spares q (judged stored f r q)
  unfolding judged needed
  some_taken short h = record {
    others = λ k h. get_or-set_other q.pages (first_empty q.pages) k _ [] h;
    tx = refl;
    completion = refl;
    fresh = λ p m. taken_apart q.layout n q.pages lists (needed r len) (omega (arith, needs_seven r len short)) p m;
    fits = rw length-take (omega (arith, h, image_fits f (data_length r len)));
  }

  -- Of the pool a frame writes the pages of the lowest unallocated number and RX; of memory, pages that were free.
  pub frame_writes : Spares q (reception f r q)
  unfolding reception judged judge
  frame_writes = early (ltb len 18)
    where
      P : Arrival → Type 0
      P v = Spares q (judged v f r q)

      early : (b : Bool) → Spares q (cond b (nothing_stored (refusal 11) r.receiving.rcr false q) (judged (judge r free_pages f) f r q))
      early true = nothing_taken _ _ _
      early false =
          pick_by P (not (bit 8 r.receiving.rcr)) (λ e. nothing_taken _ _ _)
          (λ e. pick_by P (not (accepted r (destination f))) (λ e. nothing_taken _ _ _)
          (λ e. pick_by P (ltb 1532 len) (λ e. nothing_taken _ _ _)
          (λ short. pick_by P (dropped r f) (λ e. nothing_taken _ _ _)
          (λ e. pick_by P (ltb free_pages (needed r len + r.receiving.reserved)) (λ e. nothing_taken _ _ _)
          (λ e. some_taken (ltb-false 1532 len short) (omega (arith, ltb-false free_pages (needed r len + r.receiving.reserved) e)))))))
