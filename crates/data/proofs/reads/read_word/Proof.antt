-- Two bytes that lie next to each other, or `read_across`.
use borrow.Author.Rules.{rules}
use mathlib.Core.Path.{sym}
use Rattle.data.specs.Behind.{next_goes, next_lies, two_read, reads}
use Rattle.data.proofs.reads.read_word.Statement.{statement}
use Rattle.data.proofs.reads.read_word.Tie as tie

returns-2 : tie.Need-returns
returns-2 c =
    let a = c in
    let e = c in
    let s = c in
    let mem = s.args.memory.now in (
      λ pages state queues h o.
          reads 2 pages s.args.words.now state queues mem o (next_goes h e.if-i-eq255.false) a.advance.ensures _
          (two_read mem pages _ c.word.ensures h.lies (sym (next_lies h e.if-i-eq255.false))),
      search rules,
    )

pub read_word_spec : {M : Type 1} → statement M
read_word_spec = tie.close (tie.spec (λ c κs. search rules) (λ c. search rules) (λ c. search rules) (λ c κs. search rules) (λ c. search rules) (λ c. search rules) (λ c. search rules) (λ c κs. search rules) (λ c. search rules) returns-2)
