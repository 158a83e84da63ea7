-- What leads to the client's demands, which `demands` states; what leads to the promise of strips is in `strip_laws`. The modules tell the story in this order. No code rests on this crate.
-- Laws are over the number n of packets and pages, and a part only cites them (document 02, W9). Computed examples stand at a part, or at a few packets.
-- What the rules compute: the worked example, the LAN91C94 and how the bench is asked for it, the table of document 01, the hash examples of the data sheet, and a broadcast with its FCS.
pub mod Example
pub mod OtherPart
pub mod EitherSide
pub mod Broadcast
-- Sentences of document 01 said of what is seen, and not of how it is made: which sends are done and which fault in a byte count refuses one, the bytes that a send puts out, the interrupt status and the line.
pub mod Head
pub mod Sendable
pub mod PutOut
pub mod Counters
pub mod Line
-- Document 02, W4, the frame check sequence: the residue of a good frame; what is sent is good, and one byte changed is found.
pub mod Residue
pub mod Fcs
-- Demand 1: a refusal changes nothing, and which numbers an input may get.
pub mod Refusals
-- Demand 2: each page is free or in one packet, and the free count is accounted for; no step changes layout or part. (`wellformed` has that each step keeps a chip well formed.)
pub mod Untouched
pub mod Layout
pub mod Accounted
pub mod Ledger
pub mod Reading
pub mod Told
pub mod Balance
pub mod Theorems
pub mod Restarts
-- An allocation that waits: granted in the very step that leaves enough pages free, never waiting in vain, and ended by nothing but a grant, a new request or a reset.
pub mod Waiting
-- A packet's bytes one by one, after bytes were put into it; and which inputs read them into their value.
pub mod Placed
pub mod DataAccesses
-- The link: the two values that show it, who changes it, and that loading, frames and sends are as before, whatever it is.
pub mod LinkApart
pub mod LinkReads
pub mod LinkSteps
pub mod LinkSends
pub mod LinkKept
pub mod LinkShown
pub mod LinkPlaces
-- Demand 3: loading and reception do not disturb each other.
pub mod Apart
pub mod Reception
pub mod Loading
pub mod Exchange
pub mod Loads
pub mod Merge
pub mod Needed
pub mod Meanwhile
