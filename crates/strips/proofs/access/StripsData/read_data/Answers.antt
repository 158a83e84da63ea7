-- Refused by the first of the rules' tests that holds; else the bytes are those of the packet's strip, and the pointer moves on.
use Rattle.std.specs.Prelude.{refl, Bool, true, List, ℕ}
use Rattle.std.proofs.Common.{ap, sym, ◌∙◌, arith}
use Rattle.rules.specs.Answers as rules
use Rattle.rules.specs.Packet.{get_bytes}
use Rattle.rules.specs.Data.{address, value_of, read_data}
use Rattle.state.specs.View.{word, registers_in}
use Rattle.state.specs.Promise.{sets_as}
use Rattle.data.specs.Access.{width_of, pages_meant_of, refusal_if, moves}
use Rattle.data.specs.Gates.{enters}
use Rattle.data.specs.Behind.{reads, makes_as}
use Rattle.rules.specs.Chip.{strips}
use Rattle.strips.specs.Data.{stopped, not_past, goes, some_width, in_strip, strip_reads}
use Rattle.strips.proofs.Meant.{same_pages, has, told, inside}
use Rattle.strips.proofs.access.StripsData.read_data.Goals as goal

pub returns-then-is_refused : goal.returns-then-is_refused
unfolding read_data
returns-then-is_refused c =
    let w = c.args.words.now in
    let s = c.args.counts.now in
    let q = c.args.queues.now in
    let n = width_of c.args.wide in
    let p = c.pages_of-pages.ensures in
    makes_as (enters c.requires.0 c.args.memory.now true n _ ∙ stopped true n (word w 19) (pages_meant_of strips w s q) _ _ (sym (told true c.args.wide w s q c.meant-packet.ensures p.count p.pages c.width_of-width.ensures c.is_refused.ensures) ∙ c.if-is_refused.true))
    (record { chip = refl; reply = c.refusal.ensures ∙ ap (λ (b : Bool). rules.refusal (refusal_if b true (word w 19))) (has true c.args.wide w s q c.meant-packet.ensures p.count p.pages c.width_of-width.ensures c.is_refused.ensures); sound = c.requires.0.sound })

pub value_at-value-requires : goal.value_at-value-requires
unfolding address
value_at-value-requires c =
    let p = c.pages_of-pages.ensures in
    in_strip c.requires.0 c.meant-packet.result.0 (width_of c.args.wide) _ c.args.memory.now (inside true c.args.wide c.args.words.now c.args.counts.now c.args.queues.now c.meant-packet.ensures p.count p.pages c.width_of-width.ensures c.is_refused.ensures c.if-is_refused.false) (some_width c.args.wide) (omega (arith, c.requires.1))

pub returns : goal.returns
unfolding read_data address
returns c =
    let w = c.args.words.now in
    let s = c.args.counts.now in
    let q = c.args.queues.now in
    let mem = c.args.memory.now in
    let n = width_of c.args.wide in
    let k = c.meant-packet.result.0 in
    let a = address (word w 19) in
    let pages = pages_meant_of strips w s q in
    let p = c.pages_of-pages.ensures in
    let o = sym (told true c.args.wide w s q c.meant-packet.ensures p.count p.pages c.width_of-width.ensures c.is_refused.ensures) ∙ c.if-is_refused.false in
    makes_as (enters c.requires.0 mem true n _ ∙ goes true n (word w 19) pages _ _ (some_width c.args.wide) o)
    (reads n pages w s q mem c.requires.0.sound (not_past true n (word w 19) pages o)
    (sets_as c.advance.ensures (ap (λ (j : ℕ). moves j (registers_in w)) c.width_of-width.ensures)) _
    (c.value_at-value.ensures ∙ ap value_of (strip_reads c.requires.0 k n a mem (inside true c.args.wide w s q c.meant-packet.ensures p.count p.pages c.width_of-width.ensures c.is_refused.ensures c.if-is_refused.false)
    ∙ ap (λ (l : List ℕ). get_bytes n a l mem) (same_pages true c.args.wide w s q c.meant-packet.ensures p.count p.pages c.width_of-width.ensures c.is_refused.ensures))))
