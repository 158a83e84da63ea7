-- Two bytes that lie next to each other, or `write_across`.
use borrow.Author.Rules.{rules}
use mathlib.Core.Path.{sym}
use mathlib.Core.Bool.{true}
use native.Mathlib.Omega.{arith}
use lib.ListN.{length-set}
use Rattle.data.specs.Access.{bytes_for}
use Rattle.data.specs.Behind.{next_goes, next_lies, two_written, writes}
use Rattle.data.proofs.writes.write_word.Statement.{statement}
use Rattle.data.proofs.writes.write_word.Tie as tie

inside : tie.Need-bounds-memory-i-2
inside c =
    let e = c in
    let s = c in
    rw (length-set s.args.memory.now s.args.i c.low_byte.result) (omega (arith, s.requires.full, s.requires.inside, e.if-i-eq255.false))

returns-2 : tie.Need-returns
returns-2 c =
    let b = c in
    let a = c in
    let e = c in
    let s = c in
    let mem = s.args.memory.now in (
      λ pages state queues h o.
          writes (bytes_for true s.args.value) pages s.args.words.now state queues mem o (next_goes h e.if-i-eq255.false) a.advance.ensures
          (two_written mem pages _ s.args.value b.low_byte.ensures c.high_byte.ensures h.lies (sym (next_lies h e.if-i-eq255.false))),
      (search rules, search rules),
    )

pub write_word_spec : {M : Type 1} → statement M
write_word_spec = tie.close (tie.spec (λ c κs. search rules) (λ c. search rules) (λ c. search rules) (λ c. search rules) (λ c κs. search rules) (λ c κs. search rules) (λ c. search rules) (λ c κs. search rules) (λ c. search rules) inside (λ c. search rules) (λ c. search rules) returns-2)
