-- Two runs alike agree in every byte of memory that is not private: so in what each send looks at, where that is none, and in what a data read of such bytes gives.
use Rattle.std.specs.Prelude.{◌≡◌, Bool, cond, not, ltb, length, get_or, take, drop, set, replicate}
use Rattle.std.proofs.Math.Path.{refl, ap}
use Rattle.std.proofs.Common.{sym, subst, ◌∙◌, true≢false, arith, eqb-true, ltb-false, length-set, length-take, length-drop, length-take-le, take-add, get_or-set_other}
use Rattle.std.proofs.Math.Bool.{true, false}
use mathlib.Core.List.{List, [], ◌∷◌, ◌++◌}
use Prim.Native.Nat.{ℕ, zero, suc, ◌+◌, ◌-◌, ◌≤◌, ◌<◌}
use Rattle.std.proofs.lemmas.Bool.{eqb-false}
use Rattle.std.proofs.Math.Dec.{eqb}
use Rattle.rules.specs.Bits.{bit}
use Rattle.rules.specs.Chip.{Layout, Registers, Chip, pages_at, allocated, free, powered}
use Rattle.rules.specs.Answers.{Effect, Turn, done_with, refuse}
use Rattle.rules.specs.Tests.{fit}
use Rattle.rules.specs.Mmu.{if_head}
use Rattle.rules.specs.Data.{rcv, address, against, odd_fixed, past, if_packet, if_open, moved, value_of, read_data}
use Rattle.rules.specs.Registers.{head_of, read, write}
use Rattle.rules.specs.Packet.{place, get_bytes, put_bytes}
use Rattle.rules.specs.Receive.{Frame, Arrival, stored, disabled, not_accepted, too_long, bad, no_room, data_length, image, trailer, verdict, arrive}
use Rattle.rules.specs.Send.{Send}
use Rattle.rules.specs.Step.{Input, driver, frame, sent, link, serve, step_of}
use Rattle.wellformed.specs.Cases.{pick, pick_by}
use Rattle.wellformed.specs.Frames.{data_short}
use Rattle.laws.specs.Head.{byte_at, head_pages, head_count}
use Rattle.laws.specs.Placed.{get_alike}
use Rattle.laws.specs.Sendable.{done_sendable}
use Rattle.laws.specs.PutOut.{step_done}
use Rattle.laws.specs.DataAccesses.{meant}
use Rattle.laws.specs.LinkSteps.{pick_alike}
use Rattle.blind_laws.specs.Alike.{FrameAlike, InputAlike, accessed, linked, finished, arrived, InputsAlike, none, next, HeadAlike, SendAlike, SendsAlike, ButBytes}
use Rattle.blind_laws.specs.BlindAccesses.{holding, is_holding}
use Rattle.blind_laws.specs.Puts.{put_into, frame_put, status_put, put_by, memory_after}
use Rattle.blind_laws.specs.Private.{Private, none_private, noted, noted_all, hidden, hidden_in, hidden_by, private_after, HeadOpen, SendOpen, SendsOpen}

-- two memories that agree in every byte that is not private
pub record Known (p : Private) (m others : List ℕ) : Type 0 where
  pub as_long : length others ≡ length m
  pub same : (x : ℕ) → p x ≡ false → get_or others x 0 ≡ get_or m x 0

-- bytes that are put into one and into the other: the same where they are not private
pub data Bytes : List Bool → List ℕ → List ℕ → Type 0 where
  end : Bytes [] [] []
  shown : {bs : List Bool} {xs ys : List ℕ} (x : ℕ) → Bytes bs xs ys → Bytes (false ∷ bs) (x ∷ xs) (x ∷ ys)
  hid : {bs : List Bool} {xs ys : List ℕ} (x y : ℕ) → Bytes bs xs ys → Bytes (true ∷ bs) (x ∷ xs) (y ∷ ys)

-- before each input the memories agree in every byte that is not private
abbrev pub KnownThroughout : ℕ → List Input → List Input → Chip → Chip → Private → Type 0
KnownThroughout n [] js c d p = Known p c.memory d.memory
KnownThroughout n (i ∷ is) [] c d p = Unit {0}
KnownThroughout n (i ∷ is) (j ∷ js) c d p = Known p c.memory d.memory × KnownThroughout n is js (step_of n i c).chip (step_of n j d).chip (private_after n i c p)

-- So they agree throughout, and so does what each send looks at;
pub record OpenRuns (n : ℕ) (is js : List Input) (c d : Chip) (p : Private) : Type 0 where
  pub sends : SendsAlike n is js c d
  pub known : KnownThroughout n is js c d p

-- A data read of bytes that are not private gives the same on both: only one that shows a private byte may give another value.
module _ (c : Chip) {p : Private} (bytes : List ℕ) (known : Known p c.memory bytes) (w : ℕ) where
  abbrev at : ℕ
  at = address c.regs.pointer

  -- the bytes that it would read in these pages are not private
  abbrev pub ReadOpen : List ℕ → Type 0
  ReadOpen pages = (j : ℕ) → at ≤ j → j < at + w → p (place pages j) ≡ false

  abbrev gives : List ℕ → Chip → List ℕ → Effect
  gives m x pages = if_open true w pages x (done_with (value_of (get_bytes w at pages m)) (moved w x))

  opened : (pages : List ℕ) → ReadOpen pages → (gives bytes (holding bytes c) pages).reply ≡ (gives c.memory c pages).reply
  unfolding if_open place
  opened pages o =
      let R : Effect → Effect → Type 0 = λ e u. u.reply ≡ e.reply in
      let q = c.regs.pointer in
      pick_alike R (against true q) refl
      (pick_alike R (odd_fixed q) refl
      (pick_alike R (past w q pages) refl (ap (λ (l : List ℕ). record { number = 0; value = value_of l }) (get_alike w at pages c.memory pages bytes (λ j l h. known.same _ (o j l h))))))

  pub read_known : ReadOpen (pages_at c (meant c)) → (read_data w (holding bytes c)).reply ≡ (read_data w c).reply
  unfolding read_data if_packet head_of
  read_known o = go (rcv c.regs.pointer) c.pool.rx o
    where
      k : ℕ
      k = c.regs.numbers.packet

      go : (b : Bool) (rx : List ℕ) → ReadOpen (pages_at c (cond b (head_of rx) k))
          → (cond b (if_head (holding bytes c) rx (λ j js. gives bytes (holding bytes c) (pages_at c j))) (cond (not (allocated k c)) (refuse 5 (holding bytes c)) (gives bytes (holding bytes c) (pages_at c k)))).reply
          ≡ (cond b (if_head c rx (λ j js. gives c.memory c (pages_at c j))) (cond (not (allocated k c)) (refuse 5 c) (gives c.memory c (pages_at c k)))).reply
      go true [] o = refl
      go true (j ∷ js) o = opened (pages_at c j) o
      go false rx o = pick_alike (λ (e u : Effect). u.reply ≡ e.reply) (not (allocated k c)) refl (opened (pages_at c k) o)
