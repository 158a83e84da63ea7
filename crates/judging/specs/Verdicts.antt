-- What a verdict stands for.
use Rattle.std.specs.Prelude.{◌≡◌, refl, Result, Ok, Err}
use Rattle.std.proofs.Common.{ap, sym, ◌∙◌}
use Rattle.rules.specs.Receive.{Arrival, stored, disabled, not_accepted, too_long, bad, no_room}
use Rattle.judging.specs.declared.Rejection.{Rejection}
use Rattle.judging.specs.declared.Rejection.TheVariants.{Disabled, NotAccepted, TooLong, Bad, NoRoom}

-- the arrival of the rules that a verdict is
abbrev pub arrival_of : Result Unit Rejection → Arrival
arrival_of (Ok _) = stored
arrival_of (Err Disabled) = disabled
arrival_of (Err NotAccepted) = not_accepted
arrival_of (Err TooLong) = too_long
arrival_of (Err Bad) = bad
arrival_of (Err NoRoom) = no_room

-- so a verdict is known from its arrival
verdict_of : Arrival → Result Unit Rejection
verdict_of stored = Ok tt
verdict_of disabled = Err Disabled
verdict_of not_accepted = Err NotAccepted
verdict_of too_long = Err TooLong
verdict_of bad = Err Bad
verdict_of no_room = Err NoRoom

verdict_back : (v : Result Unit Rejection) → verdict_of (arrival_of v) ≡ v
unfolding verdict_of
verdict_back (Ok _) = refl
verdict_back (Err Disabled) = refl
verdict_back (Err NotAccepted) = refl
verdict_back (Err TooLong) = refl
verdict_back (Err Bad) = refl
verdict_back (Err NoRoom) = refl

pub verdict_once : (a b : Result Unit Rejection) → arrival_of a ≡ arrival_of b → a ≡ b
verdict_once a b e = sym (verdict_back a) ∙ ap verdict_of e ∙ verdict_back b
