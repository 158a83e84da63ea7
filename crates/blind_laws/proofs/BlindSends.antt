-- What a send decides depends only on bytes 2 to 9 of the TX head and its control byte: a send on two chips that are equal but for the bytes of memory, where these agree.
use Rattle.std.specs.Prelude.{◌≡◌, refl, Bool, true, cond, ℕ, ◌-◌, ◌*◌, ◌≤◌, ltb, get_or, drop, replicate}
use Rattle.std.proofs.Math.Path.{ap, sym, subst}
use Rattle.std.proofs.Common.{◌∙◌, arith, length-append, length-drop}
use Rattle.std.proofs.Math.Bool.{false, not}
use mathlib.Core.List.{List, [], ◌∷◌, ◌++◌}
use borrow.Author.Tests.{ltb-false, not-false}
use Rattle.std.proofs.Math.ListN.{length}
use Rattle.rules.specs.Bits.{bit, low_byte, high_byte}
use Rattle.rules.specs.Lists.{some?}
use Rattle.rules.specs.Chip.{Registers, Pool, Chip}
use Rattle.rules.specs.Fields.{set_tx}
use Rattle.rules.specs.Answers.{Turn, Reply, over}
use Rattle.rules.specs.Packet.{get_bytes, put_bytes}
use Rattle.rules.specs.Crc.{fcs, four_bytes}
use Rattle.rules.specs.Send.{Send, in_limits, byte_count, send_length, appends, padded, ended, on_wire, control_byte, put_out, good, sent_registers, auto_release, retire, status_word, status_written, no_place, send_head, if_usable, if_sendable, by_tx_head, finish}
use Rattle.lists.specs.Bytes.{length_get, length_put}
use Rattle.laws.specs.Head.{head_pages, head_count, count_is}
use Rattle.laws.specs.Placed.{get_alike}
use Rattle.laws.proofs.PutOut.{control_is}
use Rattle.laws.specs.Sendable.{Reaches, within_decides}
use Rattle.blind_laws.specs.Alike.{Usable, HeadAlike, ButBytes}
use Rattle.blind_laws.specs.BlindAccesses.{holding, is_holding, beside, settles}
use Rattle.blind_laws.specs.BlindSends.{Sends}

-- One test on both, with what it tells.
pick_known : {A : Type 0} (R : A → A → Type 0) (b : Bool) {x y x' y' : A} → (b ≡ true → R x x') → (b ≡ false → R y y') → R (cond b x y) (cond b x' y')
pick_known R true p q = p refl
pick_known R false p q = q refl

-- How long a packet's data is as it goes out depends only on its length, TCR and the control byte.
wire_long : (tcr control : ℕ) (x y : List ℕ) → length y ≡ length x → length (on_wire tcr control y) ≡ length (on_wire tcr control x)
unfolding on_wire padded ended four_bytes
wire_long tcr control x y e = go (appends tcr control) (bit 7 tcr)
  where
    go : (b p : Bool) → length (cond b (cond p (y ++ replicate (cond b 60 64 - length y) 0) y ++ fcs (cond p (y ++ replicate (cond b 60 64 - length y) 0) y)) (cond p (y ++ replicate (cond b 60 64 - length y) 0) y))
        ≡ length (cond b (cond p (x ++ replicate (cond b 60 64 - length x) 0) x ++ fcs (cond p (x ++ replicate (cond b 60 64 - length x) 0) x)) (cond p (x ++ replicate (cond b 60 64 - length x) 0) x))
    go true true = simp length-append (rw e refl)
    go true false = simp length-append (rw e refl)
    go false true = simp length-append (rw e refl)
    go false false = e

over_long : (x y out room : List ℕ) → length y ≡ length x → length room ≡ length out → length (over y room) ≡ length (over x out)
over_long x y out room e f = simp (length-append, length-drop) (rw (e, f) refl)

module _ (c : Chip) (bytes : List ℕ) (long : length bytes ≡ length c.memory) (s : Send) (out room : List ℕ) (lent : length room ≡ length out) where
  abbrev other : Chip
  other = holding bytes c

  -- A refusal leaves both, and tells the same.
  refuses : {r : Reply} → Sends (record { reply = r; chip = c; output = out }) (record { reply = r; chip = other; output = room })
  refuses = record { reply = refl; as_long = lent; chips = beside bytes c.memory long }

  -- refusals 13, 18 and 19 on both
  by_count_both : (count pageCount : ℕ) (t u : Turn) → (bit 0 count ≡ false → 12 ≤ count → count ≤ 256 * pageCount → Sends t u) → Sends (if_usable count pageCount c out t) (if_usable count pageCount other room u)
  unfolding if_usable
  by_count_both count pageCount t u h =
      pick_known Sends (bit 0 count) (λ o. refuses)
      (λ o. pick_known Sends (ltb count 12) (λ l. refuses)
      (λ l. pick_known Sends (ltb (256 * pageCount) count) (λ p. refuses) (λ p. h o (ltb-false count 12 l) (ltb-false (256 * pageCount) count p))))

  -- A status word is written into both, and the packet retires on both.
  module _ (k word : ℕ) (pages : List ℕ) (r : Registers) (q : Pool) where
    abbrev put : List ℕ → List ℕ
    put = put_bytes (low_byte word ∷ high_byte word ∷ []) 0 pages

    put_long : length (put bytes) ≡ length (put c.memory)
    put_long = length_put _ 0 pages bytes ∙ long ∙ sym (length_put _ 0 pages c.memory)

    retires : (y : Bool) → ButBytes (retire y k (status_written pages word (record { regs = r; pool = q; memory = c.memory }))) (retire y k (status_written pages word (record { regs = r; pool = q; memory = bytes })))
    retires true = settles (put bytes) (put c.memory) put_long _ _
    retires false = beside (put bytes) (put c.memory) put_long

  module _ (a : HeadAlike c other) where
    abbrev k : ℕ
    k = get_or c.pool.tx 0 0

    abbrev P : List ℕ
    P = head_pages c

    count_alike : head_count other ≡ head_count c
    count_alike = omega (arith, a.bytes 2 (omega arith) (omega arith), a.bytes 3 (omega arith) (omega arith))

    told_alike : byte_count P bytes ≡ byte_count P c.memory
    told_alike = count_is P bytes ∙ count_alike ∙ sym (count_is P c.memory)

    address_alike : get_bytes 6 4 P bytes ≡ get_bytes 6 4 P c.memory
    address_alike = get_alike 6 4 P c.memory P bytes (λ j h i. a.bytes j (omega (arith, h)) (omega (arith, i)))

    module _ (u : Usable c) where
      control_alike : control_byte (byte_count P bytes) P bytes ≡ control_byte (byte_count P c.memory) P c.memory
      control_alike = control_is P bytes ∙ a.control u ∙ sym (control_is P c.memory)

      -- As many bytes are put out.
      as_many : (tcr : ℕ) → length (put_out tcr (byte_count P bytes) P bytes) ≡ length (put_out tcr (byte_count P c.memory) P c.memory)
      unfolding put_out
      as_many tcr =
          rw (control_alike, told_alike)
          (wire_long tcr (control_byte (byte_count P c.memory) P c.memory) _ _
          (length_get (send_length (byte_count P c.memory) (control_byte (byte_count P c.memory) P c.memory)) 4 P bytes
          ∙ sym (length_get (send_length (byte_count P c.memory) (control_byte (byte_count P c.memory) P c.memory)) 4 P c.memory)))

      same_sent : (rest : List ℕ) → Sends (send_head s k rest c out) (send_head s k rest other room)
      unfolding send_head
      same_sent rest =
          let tcr = c.regs.sending.tcr in
          let is_good = good tcr s.outcome in
          let address = get_bytes 6 4 P c.memory in
          rw address_alike
          (record {
            reply = ap (λ (n : ℕ). record { number = 0; value = n }) (as_many tcr);
            as_long = over_long (put_out tcr (byte_count P c.memory) P c.memory) (put_out tcr (byte_count P bytes) P bytes) out room (as_many tcr) lent;
            chips = retires k (status_word is_good s address c.regs) P (sent_registers is_good s address (not (some? rest)) c.regs) (set_tx rest c.pool) (auto_release is_good c.regs);
          })

    same_sendable : (rest : List ℕ) → Sends (if_sendable s k rest c out) (if_sendable s k rest other room)
    unfolding if_sendable
    same_sendable rest =
        let told = count_is P c.memory in
        rw told_alike
        (by_count_both (byte_count P c.memory) (length P) _ _
        (λ o least within. pick_known Sends (no_place s c) (λ f. refuses)
        (λ f. same_sent (record { even_count = ap (bit 0) (sym told) ∙ o; least = omega (arith, least, told); within = omega (arith, within, told) }) rest)))

  -- refusals 15, 11 and 12 on both, else as the count says
  finishes : (Reaches s c out → HeadAlike c other) → Sends (finish s c out) (finish s other room)
  unfolding finish
  finishes h =
      rw lent
      (pick_known Sends (ltb (length out) 2052) (λ e. refuses)
      (λ e. pick_known Sends (not (in_limits s)) (λ i. refuses)
      (λ i. pick_known Sends (not (bit 0 c.regs.sending.tcr)) (λ t. refuses)
      (λ t. go (ltb-false (length out) 2052 e) i t c.pool.tx refl))))
    where
      go : 2052 ≤ length out → not (in_limits s) ≡ false → not (bit 0 c.regs.sending.tcr) ≡ false → (tx : List ℕ) → c.pool.tx ≡ tx → Sends (by_tx_head s tx c out) (by_tx_head s tx other room)
      go big i t [] e = refuses
      go big i t (j ∷ js) e =
          let r : Reaches s c out = record { room = big; limits = (within_decides s).sound (not-false (in_limits s) i); enabled = not-false (bit 0 c.regs.sending.tcr) t; waiting = rw e (omega arith) } in
          subst (λ (x : List ℕ). Sends (if_sendable s (get_or x 0 0) (drop 1 x) c out) (if_sendable s (get_or x 0 0) (drop 1 x) other room)) e (same_sendable (h r) (drop 1 c.pool.tx))

pub same_finish : {c d : Chip} → ButBytes c d → (s : Send) (out room : List ℕ) → length room ≡ length out → (Reaches s c out → HeadAlike c d) → Sends (finish s c out) (finish s d room)
same_finish {c} {d} b s out room e =
    subst (λ (x : Chip). (Reaches s c out → HeadAlike c x) → Sends (finish s c out) (finish s x room)) (sym (is_holding b)) (finishes c d.memory b.as_long s out room e)
