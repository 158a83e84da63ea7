-- What a send does, with its tests answered: what the proofs of the code cite in place of the text of `finish`.
use Rattle.std.specs.Prelude.{◌≡◌, Bool, true, false, cond, ℕ, ◌*◌, ◌≤◌, ◌<◌, ltb, get_or, drop, Ok}
use Rattle.std.proofs.Common.{ap, ap₂, ◌∙◌}
use Rattle.std.proofs.Math.Path.{sym}
use mathlib.Core.List.{List}
use borrow.Author.Tests.{lt-ltb, le-ltb}
use Rattle.std.proofs.Math.ListN.{length}
use Rattle.rules.specs.Bits.{bit}
use Rattle.rules.specs.Chip.{Layout, Chip, pages_at}
use Rattle.rules.specs.Answers.{Turn, refused, refused_with, over}
use Rattle.lists.specs.Facts.{no_head, head_and_rest}
use Rattle.rules.specs.Send.{Send, in_limits, byte_count, good, put_out, auto_release, no_place, send_head, if_usable, if_sendable, by_tx_head, finish}
use Rattle.state.specs.Meaning.{reply_of}
use Rattle.on_wire.specs.PutsOut.{PutsOut}
use Rattle.sending.specs.Sends.{SendsOf, completed, CompletesOf, head_sent}

module _ (s : Send) (c : Chip) (out : List ℕ) where
  pub short_output : length out < 2052 → finish s c out ≡ refused 15 c out
  unfolding finish
  short_output h = rw (lt-ltb _ _ h)

  module _ (long : 2052 ≤ length out) where
    pub outside : in_limits s ≡ false → finish s c out ≡ refused 11 c out
    unfolding finish
    outside w = rw (le-ltb _ _ long, w)

    module _ (w : in_limits s ≡ true) where
      pub not_enabled : bit 0 c.regs.sending.tcr ≡ false → finish s c out ≡ refused 12 c out
      unfolding finish
      not_enabled e = rw (le-ltb _ _ long, w, e)

      module _ (e : bit 0 c.regs.sending.tcr ≡ true) where
        pub nothing_queued : length c.pool.tx ≡ 0 → finish s c out ≡ refused 12 c out
        unfolding finish
        nothing_queued h = rw (le-ltb _ _ long, w, e) (ap (λ (l : List ℕ). by_tx_head s l c out) (no_head c.pool.tx h))

        pub head_sent_lem : 0 < length c.pool.tx → finish s c out ≡ head_sent s c out
        unfolding finish
        head_sent_lem h = rw (le-ltb _ _ long, w, e) (ap (λ (l : List ℕ). by_tx_head s l c out) (head_and_rest c.pool.tx 0 h))

-- a count that a send is done with: neither 13, 18 nor 19
pub record Usable (count pageCount : ℕ) : Type 0 where
  pub even : bit 0 count ≡ false
  pub least : 12 ≤ count
  pub within : count ≤ 256 * pageCount

-- The head with its pages and its byte count.
module _ (s : Send) (c : Chip) (out : List ℕ) where
  abbrev is_good : Bool
  is_good = good c.regs.sending.tcr s.outcome

  abbrev head : ℕ
  head = get_or c.pool.tx 0 0

  -- all that a send does
  abbrev pub done : List ℕ → ℕ → Turn
  done pages count = record {
    reply = record { number = 0; value = length (put_out c.regs.sending.tcr count pages c.memory) };
    chip = completed (auto_release is_good c.regs) is_good s pages c;
    output = over (put_out c.regs.sending.tcr count pages c.memory) out;
  }

  module _ (pages : List ℕ) (count : ℕ) (p : pages ≡ pages_at c head) (n : count ≡ byte_count pages c.memory) where
    same_count : count ≡ byte_count (pages_at c head) c.memory
    same_count = n ∙ ap (λ (l : List ℕ). byte_count l c.memory) p

    -- it goes by its count
    by_its_count : head_sent s c out ≡ if_usable count (length pages) c out (cond (no_place s c) (refused 14 c out) (send_head s head (drop 1 c.pool.tx) c out))
    unfolding if_sendable
    by_its_count = sym (ap₂ (λ (n : ℕ) (l : List ℕ). if_usable n (length l) c out (cond (no_place s c) (refused 14 c out) (send_head s head (drop 1 c.pool.tx) c out))) same_count p)

    pub odd_count : bit 0 count ≡ true → head_sent s c out ≡ refused_with 13 count c out
    unfolding if_usable
    odd_count o = by_its_count ∙ rw o

    pub short_count : bit 0 count ≡ false → count < 12 → head_sent s c out ≡ refused_with 18 count c out
    unfolding if_usable
    short_count e l = by_its_count ∙ rw (e, lt-ltb count 12 l)

    pub long_count : bit 0 count ≡ false → 12 ≤ count → ltb (256 * length pages) count ≡ true → head_sent s c out ≡ refused_with 19 count c out
    unfolding if_usable
    long_count e l m = by_its_count ∙ rw (e, le-ltb count 12 l, m)

    module _ (u : Usable count (length pages)) where
      usable : head_sent s c out ≡ cond (no_place s c) (refused 14 c out) (send_head s head (drop 1 c.pool.tx) c out)
      unfolding if_usable
      usable = by_its_count ∙ rw (u.even, le-ltb count 12 u.least, le-ltb (256 * length pages) count u.within)

      pub completion_full : no_place s c ≡ true → head_sent s c out ≡ refused 14 c out
      completion_full f = usable ∙ rw f

      pub finishes : no_place s c ≡ false → head_sent s c out ≡ done pages count
      unfolding send_head
      finishes f = usable ∙ rw f (sym (ap₂ done p same_count))

  -- what is put out, and what is done to the chip, are what a send does
  pub sends_all : {l : Layout} (count : ℕ) {w s' q mem out' pages : List ℕ} {n : ℕ} {released g : Bool} → released ≡ auto_release is_good c.regs → g ≡ is_good
      → PutsOut (put_out c.regs.sending.tcr count pages c.memory) out out' n → CompletesOf l released g s pages c w s' q mem → SendsOf l (done pages count) (Ok n) w s' q mem out'
  sends_all count {pages = pages} e f p d = record {
    chip = d.chip ∙ ap₂ (λ (b i : Bool). completed b i s pages c) e f;
    reply = ap (λ (i : ℕ). reply_of (Ok i)) p.value;
    output = p.output;
    sound = d.sound;
  }
