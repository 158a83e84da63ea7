use Rattle.std.proofs.Common.{◌≡◌, min, length, drop, refl, ap, ◌∙◌, arith, length-take, length-drop, length-append, ℕ, ◌+◌, ◌/◌}
use Rattle.rules.specs.Answers.{over}
use Rattle.rules.specs.Packet.{get_bytes}
use Rattle.sets.specs.Views.{pages_of}
use Rattle.packet.proofs.Facts.{room_rest}
use Rattle.packet.proofs.Pages.{next_page, first_copied, page_copied}
use Rattle.packet.proofs.fill.copy_out.Goals as goal

pub loop-from-init : goal.loop-from-init
loop-from-init c = record {
  next = refl;
  left = refl;
  done = first_copied (pages_of c.args.pages) c.args.memory.now c.args.out.now c.copy_page.new.out c.min.result _ c.min.ensures (omega (arith, c.min.ensures, c.requires.0)) c.copy_page.ensures;
}

pub copy_page-requires-in-loop-from : goal.copy_page-requires-in-loop-from
copy_page-requires-in-loop-from c =
    let l = c.loop-from in (
      simp (length-take, length-drop) (omega (arith, c.min-n.ensures)),
      room_rest c.requires.1 c.without-rest.result (l.from + 4)
          (next_page l.from (l.from + 4) (pages_of c.args.pages) (pages_of l.rest) _ (omega (arith, l.invariant.next)) l.invariant.left c.without-rest.ensures) (omega (arith, c.loop-from-test.true)),
    )

pub loop-from-preserved : goal.loop-from-preserved
loop-from-preserved c =
    let l = c.loop-from in
    let v = l.invariant in
    let pages = pages_of c.args.pages in
    let long : length l.out ≡ length c.args.out.now = omega (arith, simp (length-append, length-drop) at l.auto.out, simp length-take at c.copy_page.auto.out, c.min.ensures, c.requires.0) in
    let next = next_page l.from (l.from + 4) pages (pages_of l.rest) (pages_of c.without-rest.result) (omega (arith, v.next)) v.left c.without-rest.ensures in
    let k : (l.from + 4) / 256 ≡ (l.from + 256) / 256 = omega (arith, v.next) in
    record {
      next = omega (arith, v.next);
      left = next ∙ ap (λ (n : ℕ). drop n pages) k;
      done =
          page_copied pages (pages_of c.without-rest.result) c.args.memory.now c.args.out.now l.out _ l.from c.min-n.result c.args.len v.next next c.loop-from-test.true c.min-n.ensures
          c.requires.0 long v.done c.copy_page-in-loop-from.ensures;
    }

pub returns : goal.returns
returns c =
    let l = c.loop-from in
    let e : min c.args.len l.from ≡ c.args.len = omega (arith, c.loop-from-test.false) in
    l.invariant.done ∙ ap (λ (n : ℕ). over (get_bytes n 4 (pages_of c.args.pages) c.args.memory.now) c.args.out.now) e

pub returns-2 : goal.returns-2
returns-2 c =
    let l = c.loop-from in
    let v = l.invariant in
    let pages = pages_of c.args.pages in
    let long : length l.out ≡ length c.args.out.now = omega (arith, simp (length-append, length-drop) at l.auto.out, simp length-take at c.copy_page.auto.out, c.min.ensures, c.requires.0) in
    let next = next_page l.from (l.from + 4) pages (pages_of l.rest) (pages_of c.without-rest.result) (omega (arith, v.next)) v.left c.without-rest.ensures in
    let e : min c.args.len (l.from + 256) ≡ c.args.len = omega arith in
    page_copied pages (pages_of c.without-rest.result) c.args.memory.now c.args.out.now l.out _ l.from c.min-n.result c.args.len v.next next c.loop-from-test.true c.min-n.ensures
    c.requires.0 long v.done c.copy_page-in-loop-from.ensures
    ∙ ap (λ (n : ℕ). over (get_bytes n 4 pages c.args.memory.now) c.args.out.now) e
