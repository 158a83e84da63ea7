-- Document 02, W4: what a frame check sequence is for. A frame that a send puts out with one never has a bad CRC by the rule of arrival, and of two frames that differ in one byte one always has. Of every chip, well formed or not.
use Rattle.std.specs.Prelude.{◌≡◌, refl, ◌≢◌, Bool, true, false, not, ◌&&◌, List, [], ◌∷◌, ◌++◌, ℕ, suc, ◌-◌, ◌<◌, length, get_or, take, set}
use Rattle.std.proofs.Common.{ap, ap₂, sym, ◌∙◌, true≢false, arith, length-append, length-set, take-add, get_or-set_same, get_or-set_other}
use Rattle.std.proofs.Math.Decide.{ℕ_discrete}
use Rattle.std.proofs.Math.Seq.{take-append_seam, drop-append_seam}
use Rattle.rules.specs.Bits.{bit}
use Rattle.rules.specs.Chip.{Chip}
use Rattle.rules.specs.Answers.{Turn}
use Rattle.rules.specs.Crc.{crc, four_bytes, fcs}
use Rattle.rules.specs.Receive.{bad_crc}
use Rattle.rules.specs.Send.{Send, appends, finish}
use Rattle.rules.specs.Step.{sent, step_of}
use Rattle.lists.specs.Each.{Each, each_at}
use Rattle.remainders.specs.OneToOne.{same_changed}
use Rattle.laws.specs.Head.{head_control}
use Rattle.laws.specs.Residue.{ends_good, good_has_residue}
use Rattle.laws.specs.PutOut.{step_done}
use Rattle.laws.proofs.PutOut.{finish_puts_out}
use Rattle.laws.specs.Fcs.{appended_good, bytes_out, AppendsFcs, OneByteApart}

with_fcs_lem : (tcr control : ℕ) → appends tcr control ≡ true → (P : Type 0) → (bit 8 tcr ≡ false → P) → (bit 4 control ≡ true → P) → P
unfolding appends
with_fcs_lem tcr control a P unless set = go (bit 8 tcr) (bit 4 control) refl refl a
  where
    go : (x y : Bool) → bit 8 tcr ≡ x → bit 4 control ≡ y → not (x && not y) ≡ true → P
    go false y e f t = unless e
    go true true e f t = set f
    go true false e f t = absurd (true≢false (sym t))

-- A frame put out with FCS, by a good or a failed send, never has a bad CRC by the rule of arrival, for all bytes: of every send that is done, whatever its outcome,
pub sent_is_good : (s : Send) (c : Chip) (out : List ℕ) → (finish s c out).reply.number ≡ 0 → AppendsFcs c → bad_crc (bytes_out (finish s c out)) ≡ false
sent_is_good s c out d a =
    let p = finish_puts_out s c out d in
    let has = with_fcs_lem c.regs.sending.tcr (head_control c) a (p.with_fcs ≡ true) p.unless_no_crc p.unless_clear in
    let o = (finish s c out).output in
    let all : bytes_out (finish s c out) ≡ take p.before o ++ fcs (take p.before o) =
    ap (λ (n : ℕ). take n o) (p.value_with has) ∙ take-add p.before 4 o ∙ ap (λ (l : List ℕ). take p.before o ++ l) (p.appended has) in
    ap bad_crc all ∙ appended_good (take p.before o)

-- and so of a step, at any part size n.
pub step_sends_good : (n : ℕ) (s : Send) (c : Chip) (out : List ℕ) → (step_of n (sent s out) c).reply.number ≡ 0 → AppendsFcs c → bad_crc (bytes_out (step_of n (sent s out) c)) ≡ false
step_sends_good n s c out d a =
    let w = (step_done n s c out d).1 in
    rw w (sent_is_good s c out (rw w at d) a)

-- Lists of one length that have the same at every place are the same.
same_places : (f g : List ℕ) → length f ≡ length g → ((j : ℕ) → get_or f j 0 ≡ get_or g j 0) → f ≡ g
same_places [] [] e h = refl
same_places [] (y ∷ ys) e h = absurd (omega arith)
same_places (x ∷ xs) [] e h = absurd (omega arith)
same_places (x ∷ xs) (y ∷ ys) e h = ap₂ ◌∷◌ (h 0) (same_places xs ys (omega arith) (λ j. h (suc j)))

apart_set : (f g : List ℕ) (w : OneByteApart f g) → g ≡ set f w.place (get_or g w.place 0)
apart_set f g w = same_places g (set f k x) (sym w.as_long ∙ sym (length-set f k x)) (λ j. go j (ℕ_discrete j k))
  where
    k : ℕ
    k = w.place

    x : ℕ
    x = get_or g k 0

    go : (j : ℕ) → Dec (j ≡ k) → get_or g j 0 ≡ get_or (set f k x) j 0
    go j (yes e) = rw e (sym (get_or-set_same f k x 0 w.within))
    go j (no d) = sym (w.elsewhere j d) ∙ sym (get_or-set_other f k j x 0 d)

-- Two such frames never both have a good CRC, whether the byte is in the data or in the last four: both would have the residue, and another byte makes another remainder. (A frame under four bytes never has one.)
pub one_byte_changed_is_found : (f g : List ℕ) → Each (λ b. b < 256) f → Each (λ b. b < 256) g → OneByteApart f g → bad_crc f ≡ false → bad_crc g ≡ false → ⊥
unfolding crc
one_byte_changed_is_found f g small small' w good good' =
    let byte : (l : List ℕ) → Each (λ b. b < 256) l → get_or l w.place 0 < 256 = λ l e. each_at (λ b. b < 256) l w.place 0 e (omega arith) in
    w.there
    (same_changed f w.place (get_or g w.place 0) 0xffffffff w.within (byte f small) (byte g small') (omega arith)
    (good_has_residue f good ∙ sym (good_has_residue g good') ∙ ap crc (apart_set f g w)))
