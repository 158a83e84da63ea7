-- The chip after each part of a send, in both layouts; and what is known before it.
use Rattle.std.specs.Prelude.{◌≡◌, refl, Bool, true, not, ◌||◌, ℕ, ◌+◌, ◌*◌, ◌^◌, ◌≤◌, ◌<◌, leb, length, get_or, drop}
use Rattle.std.proofs.Math.Path.{ap, ap₂}
use Rattle.std.proofs.Common.{sym, subst, ◌∙◌, true≢false, arith}
use mathlib.Core.List.{List, [], ◌∷◌}
use Rattle.rules.specs.Bits.{bit, flag, low_byte, high_byte}
use Rattle.rules.specs.Lists.{some?}
use Rattle.rules.specs.Chip.{Layout, paged, Chip}
use Rattle.rules.specs.Fields.{set_tx, in_registers, in_pool}
use Rattle.rules.specs.Answers.{Turn, refusal, refusal_with, refused, refused_with}
use Rattle.rules.specs.Packet.{get_bytes, put_bytes}
use Rattle.rules.specs.Link.{shown, shown_ephsr}
use Rattle.rules.specs.Send.{Send, in_limits, outcome_bits, address_bits, any_at15, tally, new_ephsr, sent_registers, retire, status_word, status_written}
use Rattle.lists.specs.Facts.{is_true, le_decides, ◌and◌, member_at}
use Rattle.wellformed.specs.Pool.{has_small}
use Rattle.state.specs.Meaning.{Answer}
use Rattle.state.specs.Meaning.{reply_of}
use Rattle.state.specs.View.{word, registers_in, figures, queue_in, lists_of, view_of}
use Rattle.state.specs.Promise.{QueuesIn, SoundOf, ReadyOf}
use Rattle.outcomes.specs.Sent.{head_gone, Sent}
use Rattle.outcomes.specs.Retired.{RetiresOf}
use Rattle.sending.specs.Sends.{SendsOf, CompletesOf}

-- What is known of the state once the registers are set and the head has left TX.
module _ {is_good : Bool} {s : Send} {bits : ℕ} {w q w' q' : List ℕ} (t : Sent is_good s bits w q w' q') where
  -- completion has as many entries as before
  pub same_completion : QueuesIn (figures w) q → word w' 9 ≡ word w 9
  same_completion o = t.queues.completion.many ∙ ap (λ (c : Chip). length c.pool.completion) (t.chip paged [] []) ∙ sym o.completion.many

  -- as many pages are waited for, and the state is in order beside any packets' pages
  pub same_waiting : word w' 23 ≡ word w 23
  same_waiting = ap (λ (c : Chip). c.regs.numbers.waiting) (t.chip paged [] [])

  pub sent_sound : {l : Layout} {sets : List ℕ} → SoundOf l w sets q → SoundOf l w' sets q'
  sent_sound o = record { kept = t.kept; queues = t.queues; sets = record { part = o.sets.part; free = t.free ∙ o.sets.free; small = o.sets.small } }

  -- the status word: EPHSR as it is shown
  abbrev status_in : ℕ
  status_in = shown (bit 0 (word w' 15)) (word w' 1)

  -- the chip, once it is in memory
  pub sent_view : (l : Layout) (sets pages mem address : List ℕ) {mem' : List ℕ} {x : ℕ} → bits ≡ address_bits address → x ≡ status_in → mem' ≡ put_bytes (low_byte x ∷ high_byte x ∷ []) 0 pages mem
      → let rest = drop 1 (queue_in 1 (word w 8) q) in
      view_of l w' sets q' mem'
      ≡ status_written pages (status_word is_good s address (registers_in w)) (in_pool (set_tx rest) (in_registers (sent_registers is_good s address (not (some? rest))) (view_of l w sets q mem)))
  unfolding new_ephsr
  sent_view l sets pages mem address {mem'} e told m =
      let status = told ∙ ap (λ (c : Chip). shown_ephsr c.regs) (t.chip l sets mem)
      ∙ ap (λ (b : ℕ). shown (bit 0 (word w 15)) (outcome_bits is_good s + b + 2 ^ 12 * flag (bit 12 (word w 1) || any_at15 (tally is_good s (word w 3))))) e in
      t.chip l sets mem'
      ∙ ap₂ (λ (b : ℕ) (m : List ℕ). head_gone is_good s b (view_of l w sets q m)) e (m ∙ ap (λ (x : ℕ). put_bytes (low_byte x ∷ high_byte x ∷ []) 0 pages mem) status)

  -- and then the packet is retired
  pub completes : {l : Layout} {sets pages mem w'' s'' q'' mem'' : List ℕ} {released : Bool} {k x : ℕ} → k ≡ get_or (queue_in 1 (word w 8) q) 0 0 → bits ≡ address_bits (get_bytes 6 4 pages mem)
      → x ≡ status_in → mem'' ≡ put_bytes (low_byte x ∷ high_byte x ∷ []) 0 pages mem → RetiresOf l released k w' sets q' w'' s'' q''
      → CompletesOf l released is_good s pages (view_of l w sets q mem) w'' s'' q'' mem''
  completes {l} {sets} {pages} {mem} {mem'' = mem''} {released = released} h e told m r = record {
    chip = r.chip mem'' ∙ ap₂ (λ (i : ℕ) (d : Chip). retire released i d) h (sent_view l sets pages mem (get_bytes 6 4 pages mem) e told m);
    sound = r.sound;
  }

-- What a well-formed chip gives a send: the head of TX is allocated, and has 1 to 8 pages.
some_length : (l : List ℕ) → some? l ≡ true → 1 ≤ length l
unfolding some?
some_length [] e = absurd (true≢false (sym e))
some_length (x ∷ xs) e = omega arith

module _ {l : Layout} {w s q : List ℕ} (r : ReadyOf l w s q) (h : 0 < word w 8) where
  abbrev pub head : ℕ
  head = get_or (queue_in 1 (word w 8) q) 0 0

  head_allocated : some? (get_or (lists_of l s) head []) ≡ true
  head_allocated = r.well.queues.tx_allocated head (member_at (queue_in 1 (word w 8) q) 0 (omega (arith, h, r.sound.queues.tx.many)))

  pub head_small : head < length s
  head_small = omega (arith, has_small (lists_of l s) head head_allocated, r.well.count)

  pub head_few : (1 ≤ length (get_or (lists_of l s) head [])) × (length (get_or (lists_of l s) head []) ≤ 8)
  head_few = (some_length (get_or (lists_of l s) head []) head_allocated, r.well.pages.at_most head)

-- An outcome within the limits is at most 5.
pub within_few : (s : Send) → in_limits s ≡ true → s.outcome ≤ 5
unfolding in_limits
within_few s w = ((le_decides s.outcome 5 and is_true _ and is_true (leb s.deferral 2)).sound w).0.0

-- A refusal: nothing changes, whatever its value.
pub refuses_with : {l : Layout} {t : Turn} {a : Answer} {w s q mem out : List ℕ} (n v : ℕ) → SoundOf l w s q → t ≡ refused_with n v (view_of l w s q mem) out → reply_of a ≡ refusal_with n v → SendsOf l t a w s q mem out
refuses_with n v o e p = rw e (record { chip = refl; reply = p; output = refl; sound = o })

pub refuses : {l : Layout} {t : Turn} {a : Answer} {w s q mem out : List ℕ} (n : ℕ) → SoundOf l w s q → t ≡ refused n (view_of l w s q mem) out → reply_of a ≡ refusal n → SendsOf l t a w s q mem out
refuses n o e p = refuses_with n 0 o e p

-- the same turn in other words
pub sends_as : {l : Layout} {t u : Turn} {a : Answer} {w s q mem out : List ℕ} → t ≡ u → SendsOf l u a w s q mem out → SendsOf l t a w s q mem out
sends_as {l} {a = a} {w} {s} {q} {mem} {out} e = subst (λ (x : Turn). SendsOf l x a w s q mem out) (sym e)
