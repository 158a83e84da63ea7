-- Two runs alike agree in every byte of memory that is not private: so in what each send looks at, where that is none, and in what a data read of such bytes gives.
use Rattle.std.specs.Prelude.{◌≡◌, Bool, cond, not, ltb, length, get_or, take, drop, set, replicate}
use Rattle.std.proofs.Math.Path.{refl, ap}
use Rattle.std.proofs.Common.{sym, subst, ◌∙◌, true≢false, arith, eqb-true, ltb-false, length-set, length-take, length-drop, length-take-le, take-add, get_or-set_other}
use Rattle.std.proofs.Math.Bool.{true, false}
use mathlib.Core.List.{List, [], ◌∷◌, ◌++◌}
use Prim.Native.Nat.{ℕ, zero, suc, ◌+◌, ◌-◌, ◌≤◌, ◌<◌}
use Rattle.std.proofs.lemmas.Bool.{eqb-false}
use Rattle.std.proofs.Math.Dec.{eqb}
use Rattle.rules.specs.Bits.{bit}
use Rattle.rules.specs.Chip.{Layout, Registers, Chip, pages_at, allocated, free, powered}
use Rattle.rules.specs.Answers.{Effect, Turn, done_with, refuse}
use Rattle.rules.specs.Tests.{fit}
use Rattle.rules.specs.Mmu.{if_head}
use Rattle.rules.specs.Data.{rcv, address, against, odd_fixed, past, if_packet, if_open, moved, value_of, read_data}
use Rattle.rules.specs.Registers.{head_of, read, write}
use Rattle.rules.specs.Packet.{place, get_bytes, put_bytes}
use Rattle.rules.specs.Receive.{Frame, Arrival, stored, disabled, not_accepted, too_long, bad, no_room, data_length, image, trailer, verdict, arrive}
use Rattle.rules.specs.Send.{Send}
use Rattle.rules.specs.Step.{Input, driver, frame, sent, link, serve, step_of}
use Rattle.wellformed.specs.Cases.{pick, pick_by}
use Rattle.wellformed.specs.Frames.{data_short}
use Rattle.laws.specs.Head.{byte_at, head_pages, head_count}
use Rattle.laws.specs.Placed.{get_alike}
use Rattle.laws.specs.Sendable.{done_sendable}
use Rattle.laws.specs.PutOut.{step_done}
use Rattle.laws.specs.DataAccesses.{meant}
use Rattle.laws.specs.LinkSteps.{pick_alike}
use Rattle.blind_laws.specs.Alike.{FrameAlike, InputAlike, accessed, linked, finished, arrived, InputsAlike, none, next, HeadAlike, SendAlike, SendsAlike, ButBytes}
use Rattle.blind_laws.specs.BlindAccesses.{holding, is_holding}
use Rattle.blind_laws.proofs.BlindFrames.{same_judge, same_status}
use Rattle.blind_laws.specs.Puts.{put_into, frame_put, status_put, put_by, memory_after}
use Rattle.blind_laws.specs.Private.{Private, none_private, noted, noted_all, hidden, hidden_in, hidden_by, private_after, HeadOpen, SendOpen, SendsOpen}
use Rattle.blind_laws.proofs.Blindness.{same_step}
use Rattle.blind_laws.specs.PrivateKept.{Known, Bytes, OpenRuns, end, shown, hid}

append_bytes : {bs ds : List Bool} {xs ys us vs : List ℕ} → Bytes bs xs ys → Bytes ds us vs → Bytes (bs ++ ds) (xs ++ us) (ys ++ vs)
append_bytes end t = t
append_bytes (shown x s) t = shown x (append_bytes s t)
append_bytes (hid x y s) t = hid x y (append_bytes s t)

same_bytes_lem : (xs : List ℕ) → Bytes (replicate (length xs) false) xs xs
same_bytes_lem [] = end
same_bytes_lem (x ∷ xs) = shown x (same_bytes_lem xs)

other_bytes : (k : ℕ) (xs ys : List ℕ) → length xs ≡ k → length ys ≡ k → Bytes (replicate k true) xs ys
other_bytes zero [] [] e f = end
other_bytes zero [] (y ∷ ys) e f = absurd (omega arith)
other_bytes zero (x ∷ xs) ys e f = absurd (omega arith)
other_bytes (suc k) [] ys e f = absurd (omega arith)
other_bytes (suc k) (x ∷ xs) [] e f = absurd (omega arith)
other_bytes (suc k) (x ∷ xs) (y ∷ ys) e f = hid x y (other_bytes k xs ys (omega arith) (omega arith))

-- One byte is put at a place of both.
set_alike : (m others : List ℕ) → length others ≡ length m → (k b : ℕ) → get_or (set others k b) k 0 ≡ get_or (set m k b) k 0
set_alike [] [] e k b = refl
set_alike [] (y ∷ ys) e k b = absurd (omega arith)
set_alike (x ∷ xs) [] e k b = absurd (omega arith)
set_alike (x ∷ xs) (y ∷ ys) e zero b = refl
set_alike (x ∷ xs) (y ∷ ys) e (suc k) b = set_alike xs ys (omega arith) k b

module _ {p : Private} {m others : List ℕ} (known : Known p m others) where
  set_known : (k x y : ℕ) (isPrivate : Bool) → (isPrivate ≡ false → y ≡ x) → Known (noted k isPrivate p) (set m k x) (set others k y)
  set_known k x y isPrivate h = record {
    as_long = length-set others k y ∙ known.as_long ∙ sym (length-set m k x);
    same = λ z. go z (eqb z k) refl;
  }
    where
      go : (z : ℕ) (t : Bool) → eqb z k ≡ t → cond t isPrivate (p z) ≡ false → get_or (set others k y) z 0 ≡ get_or (set m k x) z 0
      go z true e f = rw (eqb-true z k e, h f) (set_alike m others known.as_long k x)
      go z false e f = get_or-set_other others k z y 0 (eqb-false z k e) ∙ known.same z f ∙ sym (get_or-set_other m k z x 0 (eqb-false z k e))

-- Bytes are put into the same pages of both.
put_known : {bs : List Bool} {xs ys : List ℕ} → Bytes bs xs ys → (a : ℕ) (pages : List ℕ) {p : Private} {m others : List ℕ} → Known p m others
    → Known (noted_all bs a pages p) (put_bytes xs a pages m) (put_bytes ys a pages others)
unfolding noted_all put_bytes
put_known end a pages k = k
put_known (shown x s) a pages k = put_known s (suc a) pages (set_known k (place pages a) x x false (λ e. refl))
put_known (hid x y s) a pages k = put_known s (suc a) pages (set_known k (place pages a) x y true (λ e. absurd (true≢false e)))

-- What is stored of two frames alike: status, count, first six bytes and trailer are the same.
image_bytes : {f g : Frame} → FrameAlike f g → (n : ℕ) → 6 ≤ n → n ≤ length f.bytes → Bytes (hidden n) (image f n) (image g n)
unfolding image
image_bytes {f} {g} e n least most =
    rw (same_status e n)
    (shown _ (shown _ (shown _ (shown _ (append_bytes behind (same_bytes_lem (trailer n)))))))
  where
    split : (l : List ℕ) → take n l ≡ take 6 l ++ take (n - 6) (drop 6 l)
    split l = let e : n ≡ 6 + (n - 6) = omega (arith, least) in ap (λ (k : ℕ). take k l) e ∙ take-add 6 (n - 6) l

    six : Bytes (replicate 6 false) (take 6 f.bytes) (take 6 g.bytes)
    six = rw e.first_six (subst (λ (k : ℕ). Bytes (replicate k false) (take 6 f.bytes) (take 6 f.bytes)) (length-take-le 6 f.bytes (omega (arith, least, most))) (same_bytes_lem (take 6 f.bytes)))

    behind : Bytes (replicate 6 false ++ replicate (n - 6) true) (take n f.bytes) (take n g.bytes)
    behind =
        rw (split f.bytes, split g.bytes)
        (append_bytes six
        (other_bytes (n - 6) (take (n - 6) (drop 6 f.bytes)) (take (n - 6) (drop 6 g.bytes)) (simp (length-take, length-drop) (omega (arith, most))) (simp (length-take, length-drop) (omega (arith, most, e.as_long)))))

-- A frame that is done has 18 bytes at least, and so six of data.
arrived_long : (n : ℕ) (f : Frame) (c : Chip) → (step_of n (frame f) c).reply.number ≡ 0 → 18 ≤ length f.bytes
unfolding step_of serve arrive
arrived_long n f c =
    pick (λ (t : Turn). t.reply.number ≡ 0 → 18 ≤ length f.bytes) (not (fit n c)) (λ e. absurd (omega arith))
    (pick_by (λ (e : Effect). e.reply.number ≡ 0 → 18 ≤ length f.bytes) (ltb (length f.bytes) 18) (λ t e. absurd (omega arith)) (λ t e. ltb-false (length f.bytes) 18 t))

six_of_data : (r : Registers) (len : ℕ) → 18 ≤ len → 6 ≤ data_length r len
unfolding data_length
six_of_data r len h = pick (λ (x : ℕ). 6 ≤ x) (bit 9 r.receiving.rcr) (omega arith) (omega arith)

module _ (n : ℕ) (c : Chip) {p : Private} (bytes : List ℕ) (known : Known p c.memory bytes) where
  abbrev other : Chip
  other = holding bytes c

  -- after what i puts into c, and j into the other
  abbrev After : Input → Input → Type 0
  After i j = Known (noted_all (hidden_by i c) (put_by i c).at (put_by i c).pages p) (put_into (put_by i c) c.memory) (put_into (put_by j other) bytes)

  frame_known : {f g : Frame} → FrameAlike f g → 18 ≤ length f.bytes → After (frame f) (frame g)
  unfolding noted_all put_bytes
  frame_known {f} {g} e long = rw (same_judge e c.regs (length (free c))) (go (verdict f c))
    where
      go : (v : Arrival) → Known (noted_all (hidden_in v f c) (frame_put v f c).at (frame_put v f c).pages p) (put_into (frame_put v f c) c.memory) (put_into (frame_put v g other) bytes)
      go stored = rw e.as_long (put_known (image_bytes e (data_length c.regs (length f.bytes)) (six_of_data c.regs (length f.bytes) long) (data_short c.regs (length f.bytes))) 0 _ known)
      go disabled = known
      go not_accepted = known
      go too_long = known
      go bad = known
      go no_room = known

  status_known : (s : Send) (out room : List ℕ) → HeadAlike c other → After (sent s out) (sent s room)
  status_known s out room h =
      let P = head_pages c in
      rw (get_alike 6 4 P c.memory P bytes (λ a l k. h.bytes a (omega (arith, l)) (omega (arith, k)))) (put_known (same_bytes_lem (status_put s c).bytes) 0 P known)

  input_known : {i j : Input} → InputAlike i j → SendAlike i c other → (step_of n i c).reply.number ≡ 0 → After i j
  unfolding noted_all put_bytes
  input_known (accessed (read w o)) h d = known
  input_known (accessed (write w o v)) h d = put_known (same_bytes_lem (put_by (driver (write w o v)) c).bytes) (address c.regs.pointer) (pages_at c (meant c)) known
  input_known (linked x) h d = known
  input_known (finished s {out} {room} e) h d = status_known s out room (h (done_sendable s c out (rw (step_done n s c out d).1 at d)).reaches)
  input_known (arrived {f} {g} e) h d = frame_known e (arrived_long n f c d)

  -- Every step, on a chip and on the other.
  step_known : {i j : Input} → InputAlike i j → SendAlike i c other → (step_of n j other).reply.number ≡ (step_of n i c).reply.number
      → Known (private_after n i c p) (step_of n i c).chip.memory (step_of n j other).chip.memory
  unfolding private_after
  step_known {i} {j} a h same = rw (memory_after n i c, memory_after n j other, same) (go (eqb (step_of n i c).reply.number 0) refl)
    where
      go : (b : Bool) → eqb (step_of n i c).reply.number 0 ≡ b
          → Known (cond b (noted_all (hidden_by i c) (put_by i c).at (put_by i c).pages p) p) (cond b (put_into (put_by i c) c.memory) c.memory) (cond b (put_into (put_by j other) bytes) bytes)
      go true e = input_known a h (eqb-true (step_of n i c).reply.number 0 e)
      go false e = known

  -- Where the TX head is open, it is the same in both.
  head_alike : HeadOpen c p → HeadAlike c other
  unfolding place
  head_alike o =
      let P = head_pages c in
      let at : (a : ℕ) → 2 ≤ a → a ≤ 9 → byte_at P bytes a ≡ byte_at P c.memory a = λ a l m. known.same _ (o.bytes a l m) in
      let count : head_count other ≡ head_count c = omega (arith, at 2 (omega arith) (omega arith), at 3 (omega arith) (omega arith)) in
      record { bytes = at; control = λ u. ap (λ (x : ℕ). byte_at P bytes (x - 1)) count ∙ known.same _ (o.control u) }

  send_alike : (i : Input) → SendOpen i c p → SendAlike i c other
  send_alike (driver a) o = tt
  send_alike (frame f) o = tt
  send_alike (sent s out) o = λ r. head_alike (o r)
  send_alike (link x) o = tt

pub open_runs : (n : ℕ) {is js : List Input} → InputsAlike is js → {p : Private} {c d : Chip} → ButBytes c d → Known p c.memory d.memory → SendsOpen n is c p → OpenRuns n is js c d p
open_runs n none b k o = record { sends = tt; known = k }
open_runs n (next {i} {j} {is} {js} a more) {p} {c} {d} b k o =
    let h : SendAlike i c (holding d.memory c) = send_alike n c d.memory k i o.0 in
    let t = same_step n a (record { registers = refl; pool = refl; as_long = b.as_long }) h in
    let r = open_runs n more t.after (step_known n c d.memory k a h t.number) o.1 in
    subst (λ (x : Chip). OpenRuns n (i ∷ is) (j ∷ js) c x p) (sym (is_holding b)) (record { sends = (h, r.sends); known = (k, r.known) })

-- and so of two runs from power-up, where of one of them it is known that no send looks at a private byte.
pub open_alike : (n : ℕ) (l : Layout) {is js : List Input} → InputsAlike is js → SendsOpen n is (powered l n) none_private → OpenRuns n is js (powered l n) (powered l n) none_private
open_alike n l a o = open_runs n a (record { registers = refl; pool = refl; as_long = refl }) (record { as_long = refl; same = λ x e. refl }) o

-- A data read of bytes that are not private gives the same on both: only one that shows a private byte may give another value.
module _ (c : Chip) {p : Private} (bytes : List ℕ) (known : Known p c.memory bytes) (w : ℕ) where
  abbrev at : ℕ
  at = address c.regs.pointer

  abbrev gives : List ℕ → Chip → List ℕ → Effect
  gives m x pages = if_open true w pages x (done_with (value_of (get_bytes w at pages m)) (moved w x))
