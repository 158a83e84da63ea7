-- Document 01, "A send finishes", and document 02's W4: how many bytes a send that is done puts out, and which bytes, one by one. Of every chip, well formed or not.
use Rattle.std.specs.Prelude.{◌≡◌, Bool, cond, ◌&&◌, ℕ, zero, suc, ◌+◌, ◌-◌, ◌*◌, ◌≤◌, ◌<◌, max, take}
use Rattle.std.proofs.Math.Path.{refl, ap, ap₂}
use Rattle.std.proofs.Common.{sym, ◌∙◌, add-zero, get_or-drop}
use Rattle.std.proofs.Math.Bool.{true, false, not}
use mathlib.Core.List.{List, ◌++◌, append_assoc}
use native.Mathlib.Omega.{arith}
use Rattle.std.proofs.Math.ListN.{length, get_or, drop, replicate, length-append, get_or-replicate, get_or-append}
use Rattle.std.proofs.lemmas.List.{length-replicate}
use Rattle.std.proofs.Math.Seq.{take-append_seam, drop-append_seam, get_or-append-add}
use Rattle.rules.specs.Bits.{bit}
use Rattle.rules.specs.Chip.{Chip}
use Rattle.rules.specs.Answers.{Turn, over}
use Rattle.rules.specs.Packet.{place, get_bytes}
use Rattle.rules.specs.Crc.{four_bytes, fcs}
use Rattle.rules.specs.Send.{Send, byte_count, send_length, appends, padded, ended, on_wire, control_byte, put_out, send_head, finish}
use Rattle.rules.specs.Tests.{fit}
use Rattle.rules.specs.Step.{sent, serve, step_of}
use Rattle.lists.specs.Bytes.{length_get, length_over}
use Rattle.wellformed.specs.Cases.{pick, pick_unless}
use Rattle.wellformed.specs.Fit.{Fits}
use Rattle.wellformed.proofs.Fit.{fit_decides}
use Rattle.laws.specs.Head.{byte_at, count_at, control_at, head_pages, count_is}
use Rattle.laws.specs.Sendable.{served}
use Rattle.laws.specs.PutOut.{PutsOut, step_done}

-- A packet's bytes one by one, and those of a buffer that is written over.
get_at : (n a : ℕ) (pages memory : List ℕ) (j : ℕ) → j < n → get_or (get_bytes n a pages memory) j 0 ≡ byte_at pages memory (a + j)
unfolding get_bytes place
get_at zero a pages memory j h = absurd (omega arith)
get_at (suc n) a pages memory zero h = rw add-zero
get_at (suc n) a pages memory (suc j) h = let e : a + suc j ≡ suc a + j = omega arith in rw e (get_at n (suc a) pages memory j (omega arith))

module _ (bytes out : List ℕ) (j : ℕ) where
  over_front : j < length bytes → get_or (over bytes out) j 0 ≡ get_or bytes j 0
  over_front h = get_or-append bytes (drop (length bytes) out) 0 j h

  over_behind : length bytes ≤ j → get_or (over bytes out) j 0 ≡ get_or out j 0
  over_behind h =
      let e : j ≡ length bytes + (j - length bytes) = omega arith in
      ap (λ (i : ℕ). get_or (over bytes out) i 0) e ∙ get_or-append-add bytes (drop (length bytes) out) (j - length bytes) 0
      ∙ get_or-drop (length bytes) out (j - length bytes) 0 ∙ ap (λ (i : ℕ). get_or out i 0) (sym e)

over_two : (bytes more out : List ℕ) (j : ℕ) → j < length bytes → get_or (over (bytes ++ more) out) j 0 ≡ get_or bytes j 0
over_two bytes more out j h = over_front (bytes ++ more) out j (simp length-append (omega arith)) ∙ get_or-append bytes more 0 j h

-- How long the data is when it is padded, and what stands where in it then.
module _ (w : Bool) (tcr : ℕ) (bytes : List ℕ) where
  padded_length : bit 7 tcr ≡ true → length (padded w tcr bytes) ≡ max (cond w 60 64) (length bytes)
  unfolding padded
  padded_length e = rw e (simp (length-append, length-replicate) (omega arith))

  plain_length : bit 7 tcr ≡ false → length (padded w tcr bytes) ≡ length bytes
  unfolding padded
  plain_length e = rw e

  padded_room : length bytes ≤ 2043 → length (padded w tcr bytes) ≤ 2043
  unfolding padded
  padded_room h =
      pick (λ (l : List ℕ). length l ≤ 2043) (bit 7 tcr) (simp (length-append, length-replicate) (pick (λ (n : ℕ). length bytes + (n - length bytes) ≤ 2043) w (omega arith) (omega arith))) h

  padded_longer : length bytes ≤ length (padded w tcr bytes)
  unfolding padded
  padded_longer = pick (λ (l : List ℕ). length bytes ≤ length l) (bit 7 tcr) (simp length-append (omega arith)) (omega arith)

  module _ (j : ℕ) where
    padded_front : j < length bytes → get_or (padded w tcr bytes) j 0 ≡ get_or bytes j 0
    unfolding padded
    padded_front h = pick (λ (l : List ℕ). get_or l j 0 ≡ get_or bytes j 0) (bit 7 tcr) (get_or-append bytes _ 0 j h) refl

    padded_zeros : length bytes ≤ j → j < length (padded w tcr bytes) → get_or (padded w tcr bytes) j 0 ≡ 0
    unfolding padded
    padded_zeros h = pick (λ (l : List ℕ). j < length l → get_or l j 0 ≡ 0) (bit 7 tcr) (λ k. behind (cond w 60 64 - length bytes) (rw (length-append, length-replicate) at k)) (λ k. absurd (omega arith))
      where
        behind : (n : ℕ) → j < length bytes + n → get_or (bytes ++ replicate n 0) j 0 ≡ 0
        behind n k =
            let i : j ≡ length bytes + (j - length bytes) = omega arith in
            ap (λ (x : ℕ). get_or (bytes ++ replicate n 0) x 0) i
            ∙ get_or-append-add bytes (replicate n 0) (j - length bytes) 0
            ∙ get_or-replicate n (j - length bytes) 0 0 (omega arith)

-- How long it is with its FCS, and what stands where in the buffer then.
four : (bytes more : List ℕ) → take 4 (fcs bytes ++ more) ≡ fcs bytes
unfolding four_bytes
four bytes more = refl

module _ (w : Bool) (bytes out : List ℕ) where
  ended_with : w ≡ true → length (ended w bytes) ≡ length bytes + 4
  unfolding ended four_bytes
  ended_with e = rw e (simp length-append refl)

  ended_without : w ≡ false → length (ended w bytes) ≡ length bytes
  unfolding ended
  ended_without e = rw e

  ended_room : length (ended w bytes) ≤ length bytes + 4
  unfolding ended four_bytes
  ended_room = pick (λ (l : List ℕ). length l ≤ length bytes + 4) w (simp length-append (omega arith)) (omega arith)

  ended_front : (j : ℕ) → j < length bytes → get_or (over (ended w bytes) out) j 0 ≡ get_or bytes j 0
  unfolding ended
  ended_front j h = pick (λ (l : List ℕ). get_or (over l out) j 0 ≡ get_or bytes j 0) w (over_two bytes (fcs bytes) out j h) (over_front bytes out j h)

  -- the four bytes behind all others are the FCS of these
  ended_fcs : w ≡ true → take 4 (drop (length bytes) (over (ended w bytes) out)) ≡ fcs (take (length bytes) (over (ended w bytes) out))
  unfolding ended
  ended_fcs e =
      let more = drop (length (bytes ++ fcs bytes)) out in
      rw (e, append_assoc bytes (fcs bytes) more, take-append_seam bytes (fcs bytes ++ more), drop-append_seam bytes (fcs bytes ++ more)) (four bytes more)

-- The packet's bytes as the rules name them.
module _ (pages memory : List ℕ) where
  pub control_is : control_byte (byte_count pages memory) pages memory ≡ control_at pages memory
  unfolding control_byte get_bytes place
  control_is = ap (λ (x : ℕ). byte_at pages memory (x - 1)) (count_is pages memory)

  abbrev data_length : ℕ
  data_length = send_length (byte_count pages memory) (control_byte (byte_count pages memory) pages memory)

  length_is : data_length ≡ cond (bit 5 (control_at pages memory)) (count_at pages memory - 5) (count_at pages memory - 6)
  unfolding send_length
  length_is = rw (control_is, count_is pages memory)

  length_below : data_length ≤ count_at pages memory - 5
  length_below = rw length_is (pick (λ (n : ℕ). n ≤ count_at pages memory - 5) (bit 5 (control_at pages memory)) (omega arith) (omega arith))

-- "unless TCR bit 8 (NOCRC) is set and bit 4 of the packet's control byte is clear"
module _ (tcr control : ℕ) where
  without_nocrc : bit 8 tcr ≡ false → appends tcr control ≡ true
  unfolding appends
  without_nocrc e = ap (λ (b : Bool). not (b && not (bit 4 control))) e

  with_bit_4 : bit 4 control ≡ true → appends tcr control ≡ true
  unfolding appends
  with_bit_4 e = ap (λ (b : Bool). not (bit 8 tcr && not b)) e ∙ go (bit 8 tcr)
    where
      go : (b : Bool) → not (b && false) ≡ true
      go true = refl
      go false = refl

  with_neither : bit 8 tcr ≡ true → bit 4 control ≡ false → appends tcr control ≡ false
  unfolding appends
  with_neither e f = ap₂ (λ (a b : Bool). not (a && not b)) e f

-- A turn with these bytes and this value puts out what document 01 says, and W4 of document 02.
turn_puts_out : (tcr : ℕ) (pages memory out : List ℕ) (t : Turn) → t.reply.value ≡ length (put_out tcr (byte_count pages memory) pages memory)
    → t.output ≡ over (put_out tcr (byte_count pages memory) pages memory) out → 2052 ≤ length out → count_at pages memory ≤ 256 * length pages → PutsOut tcr pages memory out t
unfolding put_out on_wire
turn_puts_out tcr pages memory out t value output room within =
    let control = control_byte (byte_count pages memory) pages memory in
    let is : control ≡ control_at pages memory = control_is pages memory in
    let w = appends tcr control in
    let bytes = get_bytes (data_length pages memory) 4 pages memory in
    let n = length_get (data_length pages memory) 4 pages memory in
    let filled = padded w tcr bytes in
    let at : (j : ℕ) → get_or t.output j 0 ≡ get_or (over (ended w filled) out) j 0 = λ j. ap (λ (l : List ℕ). get_or l j 0) output in
    let few : length pages ≤ 8 → length (ended w filled) ≤ 2047 =
    λ h. omega (arith, ended_room w filled out, padded_room w tcr bytes (omega (arith, n, length_below pages memory))) in
    record {
      many = data_length pages memory;
      odd = λ e. length_is pages memory ∙ rw e;
      even = λ e. length_is pages memory ∙ rw e;
      from4 = λ j h. at j ∙ ended_front w filled out j (omega (arith, n, padded_longer w tcr bytes)) ∙ padded_front w tcr bytes j (omega (arith, n)) ∙ get_at (data_length pages memory) 4 pages memory j h;
      with_fcs = w;
      unless_no_crc = without_nocrc tcr control;
      unless_clear = λ e. with_bit_4 tcr control (ap (bit 4) is ∙ e);
      no_fcs = λ e f. with_neither tcr control e (ap (bit 4) is ∙ f);
      before = length filled;
      to60 = λ e f. padded_length w tcr bytes e ∙ rw (f, n) refl;
      to64 = λ e f. padded_length w tcr bytes e ∙ rw (f, n) refl;
      plain = λ e. plain_length w tcr bytes e ∙ n;
      zeros = λ j h k. at j ∙ ended_front w filled out j k ∙ padded_zeros w tcr bytes j (omega (arith, n)) k;
      appended = λ e. rw output (ended_fcs w filled out e);
      value_with = λ e. value ∙ ended_with w filled out e;
      value_without = λ e. value ∙ ended_without w filled out e;
      stay = λ j h. at j ∙ over_behind (ended w filled) out j (omega (arith, value));
      most = λ h. omega (arith, value, few h);
      whole = λ h. ap length output ∙ length_over (ended w filled) out (omega (arith, few h));
    }

module _ (s : Send) (c : Chip) (out : List ℕ) where
  -- A send that is done puts out the packet at the head of TX, on every chip and whatever its outcome.
  pub finish_puts_out : (finish s c out).reply.number ≡ 0 → PutsOut c.regs.sending.tcr (head_pages c) c.memory out (finish s c out)
  unfolding send_head
  finish_puts_out d =
      let w = served s c out d in
      let q = w.sendable in
      turn_puts_out c.regs.sending.tcr (head_pages c) c.memory out (finish s c out) (ap (λ (t : Turn). t.reply.value) w.head) (ap (λ (t : Turn). t.output) w.head) q.reaches.room q.within

pub puts_out : (n : ℕ) (s : Send) (c : Chip) (out : List ℕ) → (step_of n (sent s out) c).reply.number ≡ 0
    → PutsOut c.regs.sending.tcr (head_pages c) c.memory out (step_of n (sent s out) c) × (length (step_of n (sent s out) c).output ≡ length out)
puts_out n s c out d =
    let w = step_done n s c out d in
    let p = finish_puts_out s c out (rw w.1 at d) in
    rw w.1 (p, p.whole (w.0.0.pages.at_most (get_or c.pool.tx 0 0)))
