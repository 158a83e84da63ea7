use Rattle.std.proofs.Common.{◌≡◌, length, take, drop, ap, sym, ◌∙◌, arith, ℕ, List, ◌-◌, ◌+◌, ◌/◌, ◌%◌}
use Rattle.std.proofs.lemmas.List.{drop-drop}
use Rattle.std.proofs.Math.Seq.{length-take-le, take-length}
use Rattle.rules.specs.Packet.{put_bytes}
use Rattle.sets.specs.Views.{pages_of}
use Rattle.packet.proofs.Facts.{room_put, room_rest}
use Rattle.packet.proofs.Pages.{next_page, part_filled}
use Rattle.packet.proofs.frame.store_data.Goals as goal

pub loop-part-init : goal.loop-part-init
unfolding put_bytes
loop-part-init c =
    let pages = pages_of c.args.pages in
    let bytes = take c.args.n c.args.frame.now in
    let all : length bytes ≡ c.args.n = length-take-le c.args.n c.args.frame.now c.requires.0 in
    let e : 0 ≡ c.args.n - length bytes = omega arith in
    let f : 0 ≡ (c.args.n - length bytes + 4) / 256 = omega arith in
    record {
      within = omega (arith, all);
      ahead = ap (λ (k : ℕ). drop k bytes) e;
      place = omega (arith, all);
      pages = ap (λ (k : ℕ). drop k pages) f;
      done = ap (λ (k : ℕ). put_bytes (take k bytes) 4 pages c.args.memory.now) e;
    }

pub fill_page-requires : goal.fill_page-requires
fill_page-requires c =
    let l = c.loop-part in
    let h = c.in-Some.ensures.cases in (
      omega (arith, l.invariant.place, h.3),
      room_rest (room_put c.requires.1 _ _ _ l.invariant.done) l.rest (c.args.n - length l.left.now + 4) l.invariant.pages (omega (arith, l.invariant.within)),
    )

pub loop-part-preserved : goal.loop-part-preserved
loop-part-preserved c =
    let l = c.loop-part in
    let v = l.invariant in
    let h = c.in-Some.ensures.cases in
    let pages = pages_of c.args.pages in
    let m = c.args.memory.now in
    let bytes = take c.args.n c.args.frame.now in
    let all : length bytes ≡ c.args.n = length-take-le c.args.n c.args.frame.now c.requires.0 in
    let i = c.args.n - length l.left.now in
    let k = 256 - l.at in
    let j = c.args.n - length c.in-Some.more.now in
    let e : i + k ≡ j = omega (arith, h.0, h.4, v.within) in
    let a : l.at % 256 ≡ (i + 4) % 256 = omega (arith, v.place) in
    record {
      within = omega (arith, h.4, v.within);
      ahead = h.2 ∙ ap (drop k) v.ahead ∙ drop-drop k i bytes ∙ ap (λ (x : ℕ). drop x bytes) e;
      place = omega (arith, e, v.place);
      pages = next_page (i + 4) (j + 4) pages (pages_of l.rest) _ (omega (arith, e, v.place)) v.pages c.without-rest.ensures;
      done =
          part_filled pages (pages_of l.rest) m i v.pages bytes l.left.now l.memory _ (l.at % 256) k a (omega (arith, e, all)) v.ahead v.done
          (c.fill_page.ensures ∙ ap (λ (x : List ℕ). put_bytes x (l.at % 256) (pages_of l.rest) l.memory) h.1)
          ∙ ap (λ (x : ℕ). put_bytes (take x bytes) 4 pages m) e;
    }

pub fill_page-requires-2 : goal.fill_page-requires-2
fill_page-requires-2 c =
    let l = c.loop-part in
    let h = c.in_default.ensures.cases in (
      omega (arith, l.invariant.place, h),
      room_rest (room_put c.requires.1 _ _ _ l.invariant.done) l.rest (c.args.n - length l.left.now + 4) l.invariant.pages (omega (arith, l.invariant.within)),
    )

pub returns : goal.returns
returns c =
    let l = c.loop-part in
    let v = l.invariant in
    let h = c.in_default.ensures.cases in
    let pages = pages_of c.args.pages in
    let m = c.args.memory.now in
    let bytes = take c.args.n c.args.frame.now in
    let all : length bytes ≡ c.args.n = length-take-le c.args.n c.args.frame.now c.requires.0 in
    let k = length l.left.now in
    let i = c.args.n - k in
    let e : i + k ≡ length bytes = omega (arith, all, v.within) in
    let f : (i + 4) / 256 ≡ (c.args.n + 4) / 256 = omega (arith, h, v.within, v.place) in
    let a : l.at % 256 ≡ (i + 4) % 256 = omega (arith, v.place) in
    record {
      stored =
          part_filled pages (pages_of l.rest) m i v.pages bytes l.left.now l.memory _ (l.at % 256) k a (omega (arith, e)) v.ahead v.done
          (c.fill_page-2.ensures ∙ ap (λ (x : List ℕ). put_bytes x (l.at % 256) (pages_of l.rest) l.memory) (sym (take-length l.left.now)))
          ∙ ap (λ (x : List ℕ). put_bytes x 4 pages m) (ap (λ (x : ℕ). take x bytes) e ∙ take-length bytes);
      last = v.pages ∙ ap (λ (x : ℕ). drop x pages) f;
    }
