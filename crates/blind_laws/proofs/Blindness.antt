-- Document 02, W10: every step of two runs, and so both runs; from power-up, of either layout and any number of packets. No chip need be well formed: 16 is given on both, or on neither.
use Rattle.std.specs.Prelude.{◌≡◌, refl, Bool, true, false, cond, not, List, [], ℕ, length}
use Rattle.std.proofs.Common.{ap, sym, subst, arith, length-take}
use Rattle.rules.specs.Chip.{Layout, Chip, powered}
use Rattle.rules.specs.Interrupts.{status, line_up}
use Rattle.rules.specs.Answers.{Reply, Effect, Turn, refused, leaving}
use Rattle.rules.specs.Tests.{formed, fit}
use Rattle.rules.specs.Step.{Input, driver, frame, link, lent, serve, step_of, run_of}
use Rattle.laws.specs.DataAccesses.{data_read}
use Rattle.blind_laws.specs.Alike.{InputAlike, accessed, linked, finished, arrived, InputsAlike, none, next, SendAlike, SendsAlike, ButBytes, TurnsAlike, RunsAlike, StepsAlike}
use Rattle.blind_laws.specs.BlindAccesses.{is_holding, Effects, same_access, same_plug}
use Rattle.blind_laws.proofs.BlindFrames.{same_arrive}
use Rattle.blind_laws.specs.BlindSends.{Sends}
use Rattle.blind_laws.proofs.BlindSends.{same_finish}

-- The line is of registers and queues.
same_line : {c d : Chip} → ButBytes c d → line_up d ≡ line_up c
unfolding line_up status
same_line {c} {d} b = subst (λ (x : Chip). line_up x ≡ line_up c) (sym (is_holding b)) refl

-- Whether a chip is refused with 16 goes by the length of its memory, and by none of its bytes.
same_fit : (n : ℕ) {c d : Chip} → ButBytes c d → fit n d ≡ fit n c
unfolding fit formed
same_fit n {c} {d} b = subst (λ (x : Chip). fit n x ≡ fit n c) (sym (is_holding b)) (rw b.as_long refl)

-- The turns of an access, a frame or a link event, which lend no buffer.
by_effects : (i : Input) {c : Chip} {e u : Effect} → Effects (data_read i c) e u → TurnsAlike i c (leaving [] e) (leaving [] u)
by_effects i {c} {e} {u} x = record { number = x.number; value = x.value; put_out = simp length-take (omega arith); after = x.chips; line = same_line x.chips }

-- The turns of a send.
by_sends : {i : Input} {c : Chip} {t u : Turn} → Sends t u → TurnsAlike i c t u
by_sends {i} {c} {t} {u} x = record {
  number = ap (λ (r : Reply). r.number) x.reply;
  value = λ h. ap (λ (r : Reply). r.value) x.reply;
  put_out = simp length-take (rw (x.reply, x.as_long) refl);
  after = x.chips;
  line = same_line x.chips;
}

same_lent : {i j : Input} → InputAlike i j → length (lent j) ≡ length (lent i)
same_lent (accessed a) = refl
same_lent (linked x) = refl
same_lent (finished s e) = e
same_lent (arrived e) = refl

same_serve : {i j : Input} → InputAlike i j → {c d : Chip} → ButBytes c d → SendAlike i c d → TurnsAlike i c (serve i c) (serve j d)
unfolding serve
same_serve (accessed a) b h = by_effects (driver a) (same_access b a)
same_serve (linked x) b h = by_effects (link x) (same_plug b x)
same_serve (finished s {out} {room} e) b h = by_sends (same_finish b s out room e h)
same_serve (arrived {f} {g} e) b h = by_effects (frame f) (same_arrive e b)

-- Every step.
pub same_step : (n : ℕ) {i j : Input} → InputAlike i j → {c d : Chip} → ButBytes c d → SendAlike i c d → TurnsAlike i c (step_of n i c) (step_of n j d)
unfolding step_of
same_step n {i} {j} a {c} {d} b h =
    rw (same_fit n b)
    (go (fit n c))
  where
    go : (x : Bool) → TurnsAlike i c (cond (not x) (refused 16 c (lent i)) (serve i c)) (cond (not x) (refused 16 d (lent j)) (serve j d))
    go true = same_serve a b h
    go false = by_sends (record { reply = refl; as_long = same_lent a; chips = b })

-- Every step of two runs, and their ends.
pub same_steps : (n : ℕ) {is js : List Input} → InputsAlike is js → {c d : Chip} → ButBytes c d → SendsAlike n is js c d → StepsAlike n is js c d
same_steps n none b h = tt
same_steps n (next a more) b h = let t = same_step n a b h.0 in (t, same_steps n more t.after h.1)

pub same_end : (n : ℕ) {is js : List Input} → InputsAlike is js → {c d : Chip} → ButBytes c d → SendsAlike n is js c d → ButBytes (run_of n is c).chip (run_of n js d).chip
unfolding run_of
same_end n none b h = b
same_end n (next a more) b h = same_end n more (same_step n a b h.0).after h.1

pub same_runs : (n : ℕ) {is js : List Input} → InputsAlike is js → {c d : Chip} → ButBytes c d → SendsAlike n is js c d → RunsAlike n is js c d
same_runs n a b h = record { steps = same_steps n a b h; end = same_end n a b h }

-- "two runs from power-up"
pub blind : (n : ℕ) (l : Layout) {is js : List Input} → InputsAlike is js → SendsAlike n is js (powered l n) (powered l n) → RunsAlike n is js (powered l n) (powered l n)
blind n l a h = same_runs n a (record { registers = refl; pool = refl; as_long = refl }) h
