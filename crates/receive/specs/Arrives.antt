-- An arrival goes by its length and its verdict.
use Rattle.std.specs.Prelude.{◌≡◌, refl, true, false, Result, Ok, Err, List, ℕ, ◌/◌, ◌≤◌, ◌<◌, length}
use Rattle.std.proofs.Common.{sym, ◌∙◌, lt-ltb, le-ltb}
use Rattle.rules.specs.Chip.{Layout}
use Rattle.rules.specs.Answers.{done_with, refuse}
use Rattle.rules.specs.Receive.{Frame, value_for, stow, after, judge, arrive}
use Rattle.state.specs.Meaning.{Answer, reply_of}
use Rattle.state.specs.View.{word, registers_in, view_of}
use Rattle.state.specs.Promise.{ReadyOf, Does, MakesOf, does_makes}
use Rattle.pages.specs.Pages.{free_told}
use Rattle.judging.specs.declared.Rejection.{Rejection}
use Rattle.judging.specs.declared.Rejection.TheVariants.{Disabled, NotAccepted, TooLong, Bad, NoRoom}
use Rattle.judging.specs.Verdicts.{arrival_of}
use Rattle.receive.specs.Arrivals.{is_stored, turned_away, is_stored_lem, any_frame, StowableOf}

-- a frame that is rejected is not stored
pub rejected : (e : Rejection) → is_stored (arrival_of (Err e)) ≡ false
rejected Disabled = refl
rejected NotAccepted = refl
rejected TooLong = refl
rejected Bad = refl
rejected NoRoom = refl

module _ {l : Layout} {w s q : List ℕ} (r : ReadyOf l w s q) (mem : List ℕ) where
  pub refuses : (f : Frame) → length f.bytes < 18 → arrive f (view_of l w s q mem) ≡ refuse 11 (view_of l w s q mem)
  unfolding arrive
  refuses f h = rw (lt-ltb _ _ h)

  pub goes : (f : Frame) → 18 ≤ length f.bytes → (v : Result Unit Rejection) → arrival_of v ≡ judge (registers_in w) (word w 4 / 256) f
      → arrive f (view_of l w s q mem) ≡ done_with (value_for (arrival_of v)) (after (arrival_of v) f (view_of l w s q mem))
  unfolding arrive
  goes f h v e = rw (le-ltb _ _ h, ← free_told w s r.sound.sets, ← e)

  -- nothing changes but the answer
  pub stays : (a : Answer) → MakesOf l (record { reply = reply_of a; chip = view_of l w s q mem }) a w s q mem
  stays a = record { chip = refl; reply = refl; sound = r.sound }

  -- a frame that is turned away, and one that is stored
  pub away : (f : Frame) → 18 ≤ length f.bytes → (v : Result Unit Rejection) → arrival_of v ≡ judge (registers_in w) (word w 4 / 256) f → is_stored (arrival_of v) ≡ false
      → {a : Answer} {w' : List ℕ} → Does (turned_away (arrival_of v)) w a w' → MakesOf l (arrive f (view_of l w s q mem)) a w' s q mem
  away f h v e n d = rw (goes f h v e, ← any_frame (arrival_of v) n f (view_of l w s q mem)) (does_makes d r.sound mem)

  pub kept : (f : Frame) → StowableOf l w s q f → {a : Answer} {w' s' q' mem' : List ℕ} → MakesOf l (done_with 0 (stow f (view_of l w s q mem))) a w' s' q' mem' → MakesOf l (arrive f (view_of l w s q mem)) a w' s' q' mem'
  unfolding value_for after
  kept f o t = rw (goes f o.long (Ok tt) (sym o.told)) t

  -- what is long enough and judged to be stored
  pub stowable : (f : Frame) → 18 ≤ length f.bytes → (v : Result Unit Rejection) → arrival_of v ≡ judge (registers_in w) (word w 4 / 256) f → is_stored (arrival_of v) ≡ true → StowableOf l w s q f
  stowable f h v e y = record { ready = r; long = h; told = sym e ∙ is_stored_lem (arrival_of v) y }
