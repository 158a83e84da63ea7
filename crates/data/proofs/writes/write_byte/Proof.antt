-- The first byte is within the packet, and the pointer moves on by one.
use borrow.Author.Rules.{rules}
use mathlib.Core.Path.{ap₂}
use mathlib.Core.Bool.{false}
use Prim.Native.Nat.{ℕ}
use lib.ListN.{set}
use Rattle.rules.specs.Packet.{put_bytes}
use Rattle.data.specs.Access.{bytes_for}
use Rattle.data.specs.Behind.{first_goes, writes}
use Rattle.data.proofs.writes.write_byte.Statement.{statement}
use Rattle.data.proofs.writes.write_byte.Tie as tie

returns : tie.Need-returns
unfolding put_bytes
returns c =
    let a = c in
    let s = c in
    let mem = s.args.memory.now in (
      λ pages state queues h o.
          writes (bytes_for false s.args.value) pages s.args.words.now state queues mem o (first_goes h) a.advance.ensures
          (ap₂ (λ (i b : ℕ). set mem i b) h.lies c.low_byte.ensures),
      (search rules, search rules),
    )

pub write_byte_spec : {M : Type 1} → statement M
write_byte_spec = tie.close (tie.spec (λ c κs. search rules) (λ c κs. search rules) (λ c. search rules) (λ c. search rules) (λ c. search rules) returns)
