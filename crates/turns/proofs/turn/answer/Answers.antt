-- By the event that the record is.
use Rattle.turns.specs.Steps.{told, turns_as, access_turns, frame_turns, send_turns, link_turns, wire_turns, part_turns, unknown_turns}
use Rattle.turns.proofs.turn.answer.Goals as goal

pub returns-in-Read : goal.returns-in-Read
returns-in-Read g c = turns_as _ (told c.args.bytes.now c.event_of-event.ensures c.in-Read.is) (access_turns _ c.requires.0 _ c.read.ensures)

pub returns-in-Write : goal.returns-in-Write
returns-in-Write g c = turns_as _ (told c.args.bytes.now c.event_of-event.ensures c.in-Write.is) (access_turns _ c.requires.0 _ c.write.ensures)

pub returns-in-Wire : goal.returns-in-Wire
returns-in-Wire g c = turns_as _ (told c.args.bytes.now c.event_of-event.ensures c.in-Wire.is) (wire_turns _ c.requires.0 c.gather_more.ensures)

pub returns-in-Ends : goal.returns-in-Ends
returns-in-Ends g c = turns_as _ (told c.args.bytes.now c.event_of-event.ensures c.in-Ends.is) (frame_turns _ c.requires.0 _ c.frame_ends.ensures)

pub returns-in-Send : goal.returns-in-Send
returns-in-Send g c = turns_as _ (told c.args.bytes.now c.event_of-event.ensures c.in-Send.is) (send_turns c.args.out.now c.requires.0 _ c.finished.ensures)

pub returns-in-Link : goal.returns-in-Link
returns-in-Link g c = turns_as _ (told c.args.bytes.now c.event_of-event.ensures c.in-Link.is) (link_turns _ c.requires.0 _ c.linked.ensures)

pub returns-in-Part : goal.returns-in-Part
returns-in-Part g c = turns_as _ (told c.args.bytes.now c.event_of-event.ensures c.in-Part.is) (part_turns _ c.requires.0 _)

pub returns-in-Unknown : goal.returns-in-Unknown
returns-in-Unknown g c = turns_as _ (told c.args.bytes.now c.event_of-event.ensures c.in-Unknown.is) (unknown_turns _ c.requires.0)
