-- The TX head: where it lies, its byte count, and what a send of it is with its tests answered.
use Rattle.std.specs.Prelude.{◌≡◌, Bool, true, false, not, ◌&&◌, List, [], ℕ, ◌*◌, ◌≤◌, ◌<◌, leb, ltb, length, get_or}
use Rattle.std.proofs.Common.{ap, ap₂, sym, ◌∙◌, arith}
use borrow.Author.Tests.{leb-false, ltb-false}
use Rattle.rules.specs.Bits.{bit}
use Rattle.rules.specs.Chip.{Layout, Chip, pages_at}
use Rattle.rules.specs.Answers.{refusal, refusal_with}
use Rattle.rules.specs.Packet.{get_bytes}
use Rattle.rules.specs.Data.{value_of}
use Rattle.rules.specs.Send.{Send, byte_count, good, auto_release, no_place}
use Rattle.lists.specs.Bytes.{value_word}
use Rattle.wellformed.specs.Parts.{part_few}
use Rattle.queues.specs.Parts.{slots}
use Rattle.state.specs.Meaning.{Answer, reply_of}
use Rattle.state.specs.View.{word, queue_in, registers_in, lists_of, view_of}
use Rattle.state.specs.Promise.{ReadyOf}
use Rattle.pool.specs.Queues.{head_told}
use Rattle.sending.specs.After.{head_few, refuses, refuses_with}
use Rattle.sending.specs.Laws.{Usable, odd_count, short_count, long_count, done, completion_full, finishes}
use Rattle.sending.specs.Sends.{SendsOf, head_sent}

-- Its byte count as it is read; and the tests of it, of which none may refuse.
pub count_told : (pages m : List ℕ) {n : ℕ} → n ≡ value_of (get_bytes 2 2 pages m) → n ≡ byte_count pages m
unfolding byte_count
count_told pages m e = e ∙ value_word 2 pages m

module _ (pages : List ℕ) (n : ℕ) {m : ℕ} {b : Bool} (e : m ≡ length pages) (t : b ≡ ltb (256 * m) n) where
  past_told : b ≡ ltb (256 * length pages) n
  past_told = t ∙ ap (λ (k : ℕ). ltb (256 * k) n) e

  pub usable_told : {o : Bool} → o ≡ bit 0 n → o ≡ false → 12 ≤ n → b ≡ false → Usable n (length pages)
  usable_told t o least past = record { even = sym t ∙ o; least = least; within = ltb-false _ _ (sym past_told ∙ past) }

-- It has the pages, which are 1 to 8.
module _ {l : Layout} {w s q : List ℕ} (r : ReadyOf l w s q) (h : 0 < word w 8) {k : ℕ} {pages : List ℕ} (e : k ≡ get_or (slots 1 q) 0 0) (p : pages ≡ get_or (lists_of l s) k []) where
  pub head_there : k ≡ get_or (queue_in 1 (word w 8) q) 0 0
  head_there = e ∙ head_told 1 _ q r.sound.queues.tx h

  pub few : (1 ≤ length pages) × (length pages ≤ 8)
  few =
      let same = p ∙ ap (λ (i : ℕ). get_or (lists_of l s) i []) head_there in
      let f = head_few r h in
      (omega (arith, ap length same, f.0), omega (arith, ap length same, f.1))

  module _ (sd : Send) (mem out : List ℕ) where
    abbrev chip : Chip
    chip = view_of l w s q mem

    pub head_pages : pages ≡ pages_at chip (get_or chip.pool.tx 0 0)
    head_pages = p ∙ ap (pages_at chip) head_there

    -- Its byte count decides: 13, 18, 19.
    module _ {n : ℕ} (c : n ≡ value_of (get_bytes 2 2 pages mem)) {o : Bool} (t : o ≡ bit 0 n) {a : Answer} where
      pub refuses_odd : o ≡ true → reply_of a ≡ refusal_with 13 n → SendsOf l (head_sent sd chip out) a w s q mem out
      refuses_odd o = refuses_with 13 n r.sound (odd_count sd chip out pages n head_pages (count_told pages mem c) (sym t ∙ o))

      pub refuses_short : o ≡ false → n < 12 → reply_of a ≡ refusal_with 18 n → SendsOf l (head_sent sd chip out) a w s q mem out
      refuses_short o low = refuses_with 18 n r.sound (short_count sd chip out pages n head_pages (count_told pages mem c) (sym t ∙ o) low)

      pub refuses_long : o ≡ false → 12 ≤ n → {m : ℕ} {b : Bool} → m ≡ length pages → b ≡ ltb (256 * m) n → b ≡ true → reply_of a ≡ refusal_with 19 n → SendsOf l (head_sent sd chip out) a w s q mem out
      refuses_long o least e u past =
          refuses_with 19 n r.sound (long_count sd chip out pages n head_pages (count_told pages mem c) (sym t ∙ o) least (sym (past_told pages n e u) ∙ past))

    module _ {n : ℕ} (c : n ≡ value_of (get_bytes 2 2 pages mem)) (u : Usable n (length pages)) {full : Bool} (t : full ≡ no_place sd chip) where
      pub refuses_full : {a : Answer} → full ≡ true → reply_of a ≡ refusal 14 → SendsOf l (head_sent sd chip out) a w s q mem out
      refuses_full f = refuses 14 r.sound (completion_full sd chip out pages n head_pages (count_told pages mem c) u (sym t ∙ f))

      pub finishes_head : full ≡ false → head_sent sd chip out ≡ done sd chip out pages n
      finishes_head f = finishes sd chip out pages n head_pages (count_told pages mem c) u (sym t ∙ f)

-- Is the packet to be released, and is completion full?
module _ {l : Layout} {w s q : List ℕ} (r : ReadyOf l w s q) (sd : Send) (mem : List ℕ) {g released : Bool} (b : g ≡ good (word w 0) sd.outcome) (e : released ≡ (g && bit 11 (word w 14))) where
  pub release_told : released ≡ auto_release (good (word w 0) sd.outcome) (registers_in w)
  unfolding auto_release
  release_told = e ∙ ap (λ (x : Bool). x && bit 11 (word w 14)) b

  pub full_told : {full : Bool} → full ≡ (not released && leb (length s) (word w 9)) → full ≡ no_place sd (view_of l w s q mem)
  full_told f = f ∙ ap₂ (λ (x t : Bool). not x && t) release_told (ap₂ leb (sym r.well.count) r.sound.queues.completion.many)

-- Where it is not, a packet that is kept has room there.
module _ {l : Layout} {w s q : List ℕ} (r : ReadyOf l w s q) {released full : Bool} (t : full ≡ (not released && leb (length s) (word w 9))) where
  pub room_left : full ≡ false → released ≡ false → word w 9 < 24
  room_left f kept =
      let open_still = sym (ap (λ (x : Bool). not x && leb (length s) (word w 9)) kept) ∙ sym t ∙ f in
      omega (arith, part_few r.sound.sets.part, leb-false (length s) (word w 9) open_still)
