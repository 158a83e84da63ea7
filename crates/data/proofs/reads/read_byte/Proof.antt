-- The first byte is within the packet, and the pointer moves on by one.
use borrow.Author.Rules.{rules}
use mathlib.Core.Path.{ap, ◌∙◌}
use Prim.Native.Nat.{ℕ}
use lib.ListN.{get_or}
use Rattle.rules.specs.Bits.{word_of}
use Rattle.rules.specs.Packet.{get_bytes}
use Rattle.rules.specs.Data.{value_of}
use Rattle.data.specs.Behind.{first_goes, reads}
use Rattle.data.proofs.reads.read_byte.Statement.{statement}
use Rattle.data.proofs.reads.read_byte.Tie as tie

returns : tie.Need-returns
unfolding value_of get_bytes
returns c =
    let a = c in
    let s = c in
    let mem = s.args.memory.now in (
      λ pages state queues h o.
          reads 1 pages s.args.words.now state queues mem o (first_goes h) a.advance.ensures _ (c.word.ensures ∙ ap (λ (i : ℕ). word_of (get_or mem i 0) 0) h.lies),
      search rules,
    )

pub read_byte_spec : {M : Type 1} → statement M
read_byte_spec = tie.close (tie.spec (λ c κs. search rules) (λ c. search rules) (λ c κs. search rules) (λ c. search rules) returns)
