-- Document 01, "A send finishes", and document 02's W2: which sends are done, which are refused, and by which number. Of every chip, well formed or not.
use Rattle.std.specs.Prelude.{◌≡◌, Bool, false, cond, ℕ, ◌*◌, ◌≤◌, ◌<◌, ltb, get_or, drop}
use Rattle.std.proofs.Math.Path.{refl, ap, subst}
use Rattle.std.proofs.Common.{sym, ◌∙◌, true≢false, arith}
use Rattle.std.proofs.Math.Bool.{true}
use mathlib.Core.List.{List, [], ◌∷◌}
use borrow.Author.Tests.{ltb-false, lt-ltb, le-ltb}
use Rattle.std.proofs.Math.ListN.{length}
use Rattle.rules.specs.Bits.{bit}
use Rattle.rules.specs.Chip.{Chip}
use Rattle.rules.specs.Answers.{Reply, Turn, refusal, refusal_with, refused, refused_with}
use Rattle.rules.specs.Send.{Send, in_limits, byte_count, no_place, send_head, if_usable, if_sendable, by_tx_head, finish}
use Rattle.rules.specs.Step.{sent, serve, step_of}
use Rattle.lists.specs.Facts.{Decides, le_decides, eq_decides, ◌and◌, no_head, head_and_rest}
use Rattle.wellformed.specs.Cases.{pick_by, pick_unless, by_count}
use Rattle.wellformed.specs.Fit.{Fits}
use Rattle.wellformed.proofs.Fit.{step_fit}
use Rattle.laws.specs.Head.{head_pages, head_count, count_is}

-- an event within its limits: outcome 0 to 5, "collisions (16 with outcome 1, else 0 to 15), deferral (0, 1 deferred, 2 excessive)"
pub record Within (s : Send) : Type 0 where
  pub known : s.outcome ≤ 5
  pub sixteen : s.outcome ≡ 1 → s.collisions ≡ 16
  pub fewer : (s.outcome ≡ 1 → ⊥) → s.collisions ≤ 15
  pub deferred : s.deferral ≤ 2

-- a send that comes to the byte count of the packet at the head of TX: neither 15, 11 nor 12
pub record Reaches (s : Send) (c : Chip) (out : List ℕ) : Type 0 where
  -- refusal 15: the output buffer is under 2,052 bytes (W4)
  pub room : 2052 ≤ length out
  -- refusal 11: "event outside its limits"
  pub limits : Within s
  -- refusal 12: "TXENA clear, or TX FIFO empty"
  pub enabled : bit 0 c.regs.sending.tcr ≡ true
  pub waiting : 1 ≤ length c.pool.tx

-- what a send is done with, and refused without: the count "must be even, at least 12, within the pages", else 13, 18 or 19
pub record Sendable (s : Send) (c : Chip) (out : List ℕ) : Type 0 where
  pub reaches : Reaches s c out
  pub even_count : bit 0 (head_count c) ≡ false
  pub least : 12 ≤ head_count c
  pub within : head_count c ≤ 256 * length (head_pages c)

-- The limits of an event, as what they ask.
pub within_decides : (s : Send) → Decides (in_limits s) (Within s)
unfolding in_limits
within_decides s =
    let d = le_decides s.outcome 5 and by_one (eq_decides s.outcome 1) (eq_decides s.collisions 16) (le_decides s.collisions 15) and le_decides s.deferral 2 in
    record {
      sound = λ t. let w = d.sound t in record { known = w.0.0; sixteen = w.0.1.0; fewer = w.0.1.1; deferred = w.1 };
      complete = λ w. d.complete ((w.known, (w.sixteen, w.fewer)), w.deferred);
    }
  where
    by_one : {a b d : Bool} {P Q R : Type 0} → Decides a P → Decides b Q → Decides d R → Decides (cond a b d) ((P → Q) × ((P → ⊥) → R))
    by_one {a = true} p q r = record { sound = λ t. (λ x. q.sound t, λ n. absurd (n (p.sound refl))); complete = λ w. q.complete (w.0 (p.sound refl)) }
    by_one {a = false} p q r = record { sound = λ t. (λ x. absurd (true≢false (sym (p.complete x))), λ n. r.sound t); complete = λ w. r.complete (w.1 (λ x. true≢false (sym (p.complete x)))) }

outside_limits : (s : Send) → (Within s → ⊥) → in_limits s ≡ false
outside_limits s n = go (in_limits s) (within_decides s)
  where
    go : (b : Bool) → Decides b (Within s) → b ≡ false
    go true d = absurd (n (d.sound refl))
    go false d = refl

-- what is known of a turn that is done: it sent the head of TX
pub record Served (s : Send) (c : Chip) (out : List ℕ) (t : Turn) : Type 0 where
  pub head : t ≡ send_head s (get_or c.pool.tx 0 0) (drop 1 c.pool.tx) c out
  pub sendable : Sendable s c out

module _ (s : Send) (c : Chip) (out : List ℕ) where
  -- what is left to show of a property of turns: of those whose send does not come to the count, and of the head of TX
  by_reach : (P : Turn → Type 0) → P (refused 15 c out) → P (refused 11 c out) → P (refused 12 c out)
      → (Reaches s c out → P (if_sendable s (get_or c.pool.tx 0 0) (drop 1 c.pool.tx) c out)) → P (finish s c out)
  unfolding finish
  by_reach P r15 r11 r12 h =
      pick_by P (ltb (length out) 2052) (λ e. r15)
      (λ e. pick_unless P (in_limits s) (λ l. r11) (λ l. pick_unless P (bit 0 c.regs.sending.tcr) (λ b. r12) (λ b. go (ltb-false (length out) 2052 e) l b c.pool.tx refl)))
    where
      go : 2052 ≤ length out → in_limits s ≡ true → bit 0 c.regs.sending.tcr ≡ true → (l : List ℕ) → c.pool.tx ≡ l → P (by_tx_head s l c out)
      go room i b [] e = r12
      go room i b (k ∷ ks) e =
          subst (λ (m : List ℕ). P (if_sendable s (get_or m 0 0) (drop 1 m) c out)) e (h (record { room = room; limits = (within_decides s).sound i; enabled = b; waiting = rw e (omega arith) }))

  -- One that does not come to the count gets 15, 11 or 12, in that order.
  short_output : length out < 2052 → finish s c out ≡ refused 15 c out
  unfolding finish
  short_output l = rw (lt-ltb (length out) 2052 l)

  module _ (room : 2052 ≤ length out) where
    outside : (Within s → ⊥) → finish s c out ≡ refused 11 c out
    unfolding finish
    outside n = rw (le-ltb (length out) 2052 room, outside_limits s n)

    module _ (w : Within s) where
      not_enabled : bit 0 c.regs.sending.tcr ≡ false → finish s c out ≡ refused 12 c out
      unfolding finish
      not_enabled e = rw (le-ltb (length out) 2052 room, (within_decides s).complete w, e)

      none_queued : bit 0 c.regs.sending.tcr ≡ true → length c.pool.tx ≡ 0 → finish s c out ≡ refused 12 c out
      unfolding finish
      none_queued e h =
          rw (le-ltb (length out) 2052 room, (within_decides s).complete w, e) (ap (λ (l : List ℕ). by_tx_head s l c out) (no_head c.pool.tx h))

  -- A send that is done was sendable, and sent the head of TX.
  pub served : (finish s c out).reply.number ≡ 0 → Served s c out (finish s c out)
  unfolding if_sendable
  served =
      let P : Turn → Type 0 = λ t. t.reply.number ≡ 0 → Served s c out t in
      let count = byte_count (head_pages c) c.memory in
      by_reach P (λ d. absurd (omega arith)) (λ d. absurd (omega arith)) (λ d. absurd (omega arith))
      (λ r. by_count c out P count (length (head_pages c)) _ (λ d. absurd (omega arith)) (λ d. absurd (omega arith)) (λ d. absurd (omega arith))
      (λ o l m. pick_by P (no_place s c) (λ f d. absurd (omega arith))
      (λ f d. let e = count_is (head_pages c) c.memory in
      record {
        head = refl;
        sendable = record {
          reaches = r;
          even_count = ap (bit 0) (sym e) ∙ o;
          least = omega (arith, e, ltb-false count 12 l);
          within = omega (arith, e, ltb-false (256 * length (head_pages c)) count m);
        };
      })))

  pub done_sendable : (finish s c out).reply.number ≡ 0 → Sendable s c out
  done_sendable d = (served d).sendable

  -- One that comes to the count goes by it: "13 odd, 18 under 12, 19 past the pages; in that order", then 14, else it is done.
  module _ (r : Reaches s c out) where
    reached : finish s c out ≡ if_sendable s (get_or c.pool.tx 0 0) (drop 1 c.pool.tx) c out
    unfolding finish
    reached =
        rw (le-ltb (length out) 2052 r.room, (within_decides s).complete r.limits, r.enabled)
        (ap (λ (l : List ℕ). by_tx_head s l c out) (head_and_rest c.pool.tx 0 r.waiting))

    odd_count : bit 0 (head_count c) ≡ true → finish s c out ≡ refused_with 13 (head_count c) c out
    unfolding if_sendable if_usable
    odd_count o = reached ∙ rw (count_is (head_pages c) c.memory, o)

    module _ (even : bit 0 (head_count c) ≡ false) where
      short_count : head_count c < 12 → finish s c out ≡ refused_with 18 (head_count c) c out
      unfolding if_sendable if_usable
      short_count l = reached ∙ rw (count_is (head_pages c) c.memory, even, lt-ltb (head_count c) 12 l)

      module _ (least : 12 ≤ head_count c) where
        past_count : 256 * length (head_pages c) < head_count c → finish s c out ≡ refused_with 19 (head_count c) c out
        unfolding if_sendable if_usable
        past_count m = reached ∙ rw (count_is (head_pages c) c.memory, even, le-ltb (head_count c) 12 least, lt-ltb (256 * length (head_pages c)) (head_count c) m)

        within_count : head_count c ≤ 256 * length (head_pages c)
            → finish s c out ≡ cond (no_place s c) (refused 14 c out) (send_head s (get_or c.pool.tx 0 0) (drop 1 c.pool.tx) c out)
        unfolding if_sendable if_usable
        within_count m = reached ∙ rw (count_is (head_pages c) c.memory, even, le-ltb (head_count c) 12 least, le-ltb (256 * length (head_pages c)) (head_count c) m)

  pub sendable_done : Sendable s c out → no_place s c ≡ false → (finish s c out).reply.number ≡ 0
  unfolding send_head
  sendable_done w f = ap (λ (t : Turn). t.reply.number) (within_count w.reaches w.even_count w.least w.within) ∙ rw f refl

-- The reply to a send that comes to the count, by the count that stands in the packet: the whole of its 16 bits is the value of 13, 18 and 19.
pub record ByCount (s : Send) (c : Chip) (r : Reply) : Type 0 where
  -- "13 odd", whatever else it is
  pub odd : bit 0 (head_count c) ≡ true → r ≡ refusal_with 13 (head_count c)
  -- "18 under 12"
  pub short : bit 0 (head_count c) ≡ false → head_count c < 12 → r ≡ refusal_with 18 (head_count c)
  -- "19 past the pages", whether or not completion is full
  pub past : bit 0 (head_count c) ≡ false → 12 ≤ head_count c → 256 * length (head_pages c) < head_count c → r ≡ refusal_with 19 (head_count c)
  -- a usable one is refused with 14 alone
  pub full : bit 0 (head_count c) ≡ false → 12 ≤ head_count c → head_count c ≤ 256 * length (head_pages c) → no_place s c ≡ true → r ≡ refusal 14
  pub sends : bit 0 (head_count c) ≡ false → 12 ≤ head_count c → head_count c ≤ 256 * length (head_pages c) → no_place s c ≡ false → r.number ≡ 0

-- The reply to any other send: "Sends 16, 15, 11, 12", in that order, whatever the count.
pub record Before (s : Send) (c : Chip) (out : List ℕ) (r : Reply) : Type 0 where
  -- each send lends its own buffer, and a short one gets 15
  pub short : length out < 2052 → r ≡ refusal 15
  pub outside : 2052 ≤ length out → (Within s → ⊥) → r ≡ refusal 11
  pub disabled : 2052 ≤ length out → Within s → bit 0 c.regs.sending.tcr ≡ false → r ≡ refusal 12
  pub empty : 2052 ≤ length out → Within s → bit 0 c.regs.sending.tcr ≡ true → length c.pool.tx ≡ 0 → r ≡ refusal 12

-- Of a step, at any part size n: it goes by the count where the send comes to it, and else it is refused with a number that stands before.
module _ (n : ℕ) (s : Send) (out : List ℕ) (c : Chip) (w : Fits n c) where
  as_finish : step_of n (sent s out) c ≡ finish s c out
  unfolding serve
  as_finish = step_fit n (sent s out) c w

  reply_is : {t : Turn} → finish s c out ≡ t → (step_of n (sent s out) c).reply ≡ t.reply
  reply_is e = ap (λ (t : Turn). t.reply) (as_finish ∙ e)

  pub told_by_count : Reaches s c out → ByCount s c (step_of n (sent s out) c).reply
  told_by_count r = record {
    odd = λ o. reply_is (odd_count s c out r o);
    short = λ e l. reply_is (short_count s c out r e l);
    past = λ e l m. reply_is (past_count s c out r e l m);
    full = λ e l m f. reply_is (within_count s c out r e l m) ∙ rw f refl;
    sends = λ e l m f. ap (λ (t : Turn). t.reply.number) as_finish ∙ sendable_done s c out (record { reaches = r; even_count = e; least = l; within = m }) f;
  }

  pub told_before : Before s c out (step_of n (sent s out) c).reply
  told_before = record {
    short = λ l. reply_is (short_output s c out l);
    outside = λ l m. reply_is (outside s c out l m);
    disabled = λ l w e. reply_is (not_enabled s c out l w e);
    empty = λ l w e h. reply_is (none_queued s c out l w e h);
  }
