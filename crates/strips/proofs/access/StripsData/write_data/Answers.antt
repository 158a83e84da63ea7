-- Refused by the first of the rules' tests that holds; else the bytes go into the packet's strip, and the pointer moves on.
use Rattle.std.specs.Prelude.{refl, Bool, false, List, ℕ, length}
use Rattle.std.proofs.Common.{ap, sym, ◌∙◌, arith}
use Rattle.rules.specs.Answers as rules
use Rattle.rules.specs.Chip.{strips}
use Rattle.rules.specs.Packet.{put_bytes}
use Rattle.rules.specs.Data.{address, write_data}
use Rattle.state.specs.View.{word, registers_in}
use Rattle.state.specs.Promise.{sets_as}
use Rattle.data.specs.Access.{width_of, bytes_for, pages_meant_of, refusal_if, moves}
use Rattle.data.specs.Gates.{enters}
use Rattle.data.specs.Behind.{writes, makes_as}
use Rattle.strips.specs.Data.{stops, stopped, not_past, goes, some_width, bytes_width, in_strip, strip_writes}
use Rattle.strips.proofs.Meant.{same_pages, has, told, inside}
use Rattle.strips.proofs.access.StripsData.write_data.Goals as goal

pub returns-then-is_refused : goal.returns-then-is_refused
unfolding write_data
returns-then-is_refused c =
    let w = c.args.words.now in
    let s = c.args.counts.now in
    let q = c.args.queues.now in
    let p = c.pages_of-pages.ensures in
    let n = bytes_width c.args.wide c.args.value in
    makes_as (enters c.requires.0 c.args.memory.now false (length (bytes_for c.args.wide c.args.value)) _
    ∙ stopped false _ (word w 19) (pages_meant_of strips w s q) _ _ (ap (λ (j : ℕ). stops false j (word w 19) (pages_meant_of strips w s q)) n ∙ sym (told false c.args.wide w s q c.meant-packet.ensures p.count p.pages c.width_of-width.ensures c.is_refused.ensures) ∙ c.if-is_refused.true))
    (record { chip = refl; reply = c.refusal.ensures ∙ ap (λ (b : Bool). rules.refusal (refusal_if b false (word w 19))) (has false c.args.wide w s q c.meant-packet.ensures p.count p.pages c.width_of-width.ensures c.is_refused.ensures); sound = c.requires.0.sound })

pub put_at-requires : goal.put_at-requires
unfolding address
put_at-requires c =
    let p = c.pages_of-pages.ensures in
    in_strip c.requires.0 c.meant-packet.result.0 (width_of c.args.wide) _ c.args.memory.now (inside false c.args.wide c.args.words.now c.args.counts.now c.args.queues.now c.meant-packet.ensures p.count p.pages c.width_of-width.ensures c.is_refused.ensures c.if-is_refused.false) (some_width c.args.wide) (omega (arith, c.requires.1))

pub returns : goal.returns
unfolding write_data address
returns c =
    let w = c.args.words.now in
    let s = c.args.counts.now in
    let q = c.args.queues.now in
    let mem = c.args.memory.now in
    let bytes = bytes_for c.args.wide c.args.value in
    let k = c.meant-packet.result.0 in
    let a = address (word w 19) in
    let pages = pages_meant_of strips w s q in
    let p = c.pages_of-pages.ensures in
    let n = bytes_width c.args.wide c.args.value in
    let o = ap (λ (j : ℕ). stops false j (word w 19) pages) n ∙ sym (told false c.args.wide w s q c.meant-packet.ensures p.count p.pages c.width_of-width.ensures c.is_refused.ensures) ∙ c.if-is_refused.false in
    makes_as (enters c.requires.0 mem false (length bytes) _ ∙ goes false (length bytes) (word w 19) pages _ _ (omega (arith, n, some_width c.args.wide)) o)
    (writes bytes pages w s q mem c.requires.0.sound (not_past false (length bytes) (word w 19) pages o)
    (sets_as c.advance.ensures (ap (λ (j : ℕ). moves j (registers_in w)) (c.width_of-width.ensures ∙ sym n)))
    (c.put_at.ensures ∙ strip_writes c.requires.0 k bytes a mem (omega (arith, inside false c.args.wide w s q c.meant-packet.ensures p.count p.pages c.width_of-width.ensures c.is_refused.ensures c.if-is_refused.false, n))
    ∙ ap (λ (l : List ℕ). put_bytes bytes a l mem) (same_pages false c.args.wide w s q c.meant-packet.ensures p.count p.pages c.width_of-width.ensures c.is_refused.ensures)))
