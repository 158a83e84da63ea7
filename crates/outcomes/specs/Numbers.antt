-- What the numbers of a send stand for.
use Rattle.std.specs.Prelude.{List, [], ◌∷◌, ℕ, ◌≤◌}
use Rattle.rules.specs.Send as rules
use Rattle.outcomes.specs.declared.Send.{Send}
use Rattle.outcomes.specs.declared.event.Outcome.{Outcome}
use Rattle.outcomes.specs.declared.event.Outcome.TheVariants.{Good, SixteenCollisions, LateCollision, LostCarrier, SqeMissing, Underrun}
use Rattle.outcomes.specs.declared.event.Ending.{Ending}
use Rattle.outcomes.specs.declared.Tally.{Tally}

abbrev pub send_of : Send → rules.Send
send_of s = record { outcome = s.outcome; collisions = s.collisions; deferral = s.deferral }

-- the number that the input has for an outcome
abbrev pub number_of : Outcome → ℕ
number_of Good = 0
number_of SixteenCollisions = 1
number_of LateCollision = 2
number_of LostCarrier = 3
number_of SqeMissing = 4
number_of Underrun = 5

abbrev pub ending_of : Ending → rules.Send
ending_of e = record { outcome = number_of e.outcome; collisions = e.collisions; deferral = e.deferral }

-- the nibbles, lowest first
abbrev pub tally_of : Tally → List ℕ
tally_of t = t.single ∷ t.several ∷ t.deferred ∷ t.excessive ∷ []

-- each nibble is one
pub record Small (t : Tally) : Type 0 where
  pub single : t.single ≤ 15
  pub several : t.several ≤ 15
  pub deferred : t.deferred ≤ 15
  pub excessive : t.excessive ≤ 15
