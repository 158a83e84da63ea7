-- What the parts of an arrival ask and promise: the rules' definitions at what each part is given.
use Rattle.std.specs.Prelude.{◌≡◌, refl, Bool, true, false, List, [], ℕ, ◌/◌, ◌≤◌, length}
use Rattle.std.proofs.Common.{sym, true≢false}
use Rattle.rules.specs.Chip.{Layout, Chip, paged}
use Rattle.rules.specs.Answers.{Effect, done_with}
use Rattle.rules.specs.Receive.{Frame, Arrival, stored, disabled, not_accepted, too_long, bad, no_room, value_for, judge, after}
use Rattle.state.specs.View.{word, registers_in}
use Rattle.state.specs.Promise.{ReadyOf}
use Rattle.judging.specs.Frames.{frame_of}

-- is the frame stored
abbrev pub is_stored : Arrival → Bool
is_stored stored = true
is_stored disabled = false
is_stored not_accepted = false
is_stored too_long = false
is_stored bad = false
is_stored no_room = false

pub is_stored_lem : (a : Arrival) → is_stored a ≡ true → a ≡ stored
is_stored_lem stored e = refl
is_stored_lem disabled e = absurd (true≢false (sym e))
is_stored_lem not_accepted e = absurd (true≢false (sym e))
is_stored_lem too_long e = absurd (true≢false (sym e))
is_stored_lem bad e = absurd (true≢false (sym e))
is_stored_lem no_room e = absurd (true≢false (sym e))

-- what becomes of a frame that is not stored, the same of every frame
abbrev pub turned_away : Arrival → Chip → Effect
turned_away a c = done_with (value_for a) (after a (frame_of [] false) c)

pub any_frame : (a : Arrival) → is_stored a ≡ false → (f : Frame) (c : Chip) → turned_away a c ≡ done_with (value_for a) (after a f c)
unfolding after
any_frame stored e f c = absurd (true≢false e)
any_frame disabled e f c = refl
any_frame not_accepted e f c = refl
any_frame too_long e f c = refl
any_frame bad e f c = refl
any_frame no_room e f c = refl

-- a frame that is long enough and judged to be stored, in a state that is in order
pub record StowableOf (l : Layout) (w s q : List ℕ) (f : Frame) : Type 0 where
  pub ready : ReadyOf l w s q
  pub long : 18 ≤ length f.bytes
  pub told : judge (registers_in w) (word w 4 / 256) f ≡ stored

abbrev pub Stowable : List ℕ → List ℕ → List ℕ → Frame → Type 0
Stowable = StowableOf paged
