-- What an event of the code means: the event of `rules`, with the record's bytes beside it.
use Rattle.std.specs.Prelude.{List, ℕ, drop}
use Rattle.rules.specs.Bench as rules
use Rattle.rules.specs.Bench.{access, wire, frame_ends, send, link_set, part, unknown}
use Rattle.rules.specs.Registers.{read, write}
use Rattle.state.specs.Meaning.{width_of}
use Rattle.records.specs.declared.event.Event.{Event}
use Rattle.records.specs.declared.event.Event.TheVariants.{Read, Write, Wire, Ends, Send, Link, Part, Unknown}

abbrev pub meant : Event → List ℕ → rules.Event
meant (Read w o) b = access (read (width_of w) o)
meant (Write w o v) b = access (write (width_of w) o v)
meant (Wire c) b = wire c (drop 2 b)
meant (Ends align) b = frame_ends align
meant (Send o c d) b = send (record { outcome = o; collisions = c; deferral = d })
meant (Link x) b = link_set x
meant (Part x) b = part x
meant Unknown b = unknown
