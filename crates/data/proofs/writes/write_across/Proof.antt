-- The second byte is the first of the next page; where there is none it is past the packet's pages.
use borrow.Author.Rules.{rules}
use mathlib.Core.Path.{refl, sym, ◌∙◌}
use mathlib.Core.Bool.{true}
use native.Mathlib.Omega.{arith}
use lib.ListN.{length-set}
use Rattle.data.specs.Access.{bytes_for}
use Rattle.data.specs.Behind.{none_past, over_goes, over_lies, over_inside, two_written, is_past, writes}
use Rattle.data.proofs.writes.write_across.Statement.{statement}
use Rattle.data.proofs.writes.write_across.Tie as tie

returns : tie.Need-returns-then-more-eq0
returns c =
    let f = c in
    let s = c in (
      λ pages state queues h o.
          is_past 2 pages s.args.words.now state queues s.args.memory.now o _ (none_past h s.requires.1 f.without-more.result f.without-more.ensures c.if-more-eq0.true),
      (refl, refl),
    )

inside : tie.Need-bounds-memory-place_in
inside c =
    let b = c in
    let f = c in
    let s = c in
    rw (length-set s.args.memory.now s.args.i b.low_byte.result)
    (omega (arith, c.place_in.ensures, s.requires.0.full, over_inside s.args.rest f.without-more.result f.without-more.ensures (search rules) (search rules) s.requires.0.below))

returns-2 : tie.Need-returns
returns-2 c =
    let b = c in
    let a = c in
    let f = c in
    let s = c in
    let mem = s.args.memory.now in (
      λ pages state queues h o.
          writes (bytes_for true s.args.value) pages s.args.words.now state queues mem o
          (over_goes h s.requires.1 f.without-more.result f.without-more.ensures (search rules) (search rules)) a.advance.ensures
          (two_written mem pages _ s.args.value b.low_byte.ensures c.high_byte.ensures h.lies
          (c.place_in.ensures ∙ sym (over_lies h s.requires.1 f.without-more.result f.without-more.ensures))),
      (search rules, search rules),
    )

pub write_across_spec : {M : Type 1} → statement M
write_across_spec = tie.close (tie.spec (λ c κs. search rules) returns (λ c κs. search rules) (λ c κs. search rules) (λ c. search rules) (λ c κs. search rules) (λ c κs. search rules) inside (λ c. search rules) (λ c. search rules) returns-2)
