-- Each function that the crate exports has one result: two that meet its promise are equal.
use Rattle.std.specs.Prelude.{◌≡◌, refl, List, [], ◌++◌, ℕ, Option, None, Some, length, take, drop}
use Rattle.std.proofs.Common.{ap, ap₂, sym, ◌∙◌, arith, take-append-drop, length-take-le}
use Rattle.rules.specs.Chip.{paged, powered}
use Rattle.rules.specs.Answers.{Reply}
use Rattle.rules.specs.Registers.{read, write, byte, word}
use Rattle.rules.specs.Registers as registers
use Rattle.rules.specs.Bench as rules
use Rattle.rules.specs.Bench.{access, wire, frame_ends, send, link_set, part, unknown, event_of}
use Rattle.state.specs.declared.Width.{Width}
use Rattle.state.specs.declared.Width.TheVariants as width
use Rattle.records.specs.declared.event.Event.{Event}
use Rattle.records.specs.declared.event.Event.TheVariants.{Read, Write, Wire, Ends, Send, Link, Part, Unknown}
use Rattle.records.specs.Event.{meant}
use Rattle.records.specs.Gathers.{Gathers, reply_to, held, holding}

-- An event is known from what it means.
width_back : registers.Width → Width
width_back byte = width.Byte
width_back word = width.Word

event_back : rules.Event → Event
event_back (access (read w o)) = Read (width_back w) o
event_back (access (write w o v)) = Write (width_back w) o v
event_back (wire c l) = Wire c
event_back (frame_ends align) = Ends align
event_back (send s) = Send s.outcome s.collisions s.deferral
event_back (link_set x) = Link x
event_back (part x) = Part x
event_back unknown = Unknown

event_back_lem : (e : Event) (bytes : List ℕ) → event_back (meant e bytes) ≡ e
unfolding width_back event_back
event_back_lem (Read width.Byte o) bytes = refl
event_back_lem (Read width.Word o) bytes = refl
event_back_lem (Write width.Byte o v) bytes = refl
event_back_lem (Write width.Word o v) bytes = refl
event_back_lem (Wire c) bytes = refl
event_back_lem (Ends align) bytes = refl
event_back_lem (Send o c d) bytes = refl
event_back_lem (Link x) bytes = refl
event_back_lem (Part x) bytes = refl
event_back_lem Unknown bytes = refl

pub event_once : (bytes : List ℕ) (x y : Event) → meant x bytes ≡ event_of bytes → meant y bytes ≡ event_of bytes → x ≡ y
event_once bytes x y e f = sym (event_back_lem x bytes) ∙ ap event_back (e ∙ sym f) ∙ event_back_lem y bytes

-- Gathering is known from its reply and from how many bytes count then.
gathering_known : (have : ℕ) (g h : Option ℕ) → reply_to g ≡ reply_to h → held have g ≡ held have h → g ≡ h
gathering_known have (Some n) (Some m) e f = ap Some f
gathering_known have None None e f = refl
gathering_known have (Some n) None e f = absurd (omega (arith, ap (λ (r : Reply). r.number) e))
gathering_known have None (Some n) e f = absurd (omega (arith, ap (λ (r : Reply). r.number) e))

module _ {before bytes after after' : List ℕ} {have count : ℕ} {g h : Option ℕ} (long : length before ≡ 2048) (p : Gathers before have bytes count after g) (q : Gathers before have bytes count after' h) where
  told : {A : Type 0} (f : rules.Answered → A) → f (record { reply = reply_to g; after = holding (powered paged 24) (take (held have g) after) [] }) ≡ f (record { reply = reply_to h; after = holding (powered paged 24) (take (held have h) after') [] })
  told f = sym (ap f (p.rule (powered paged 24) [])) ∙ ap f (q.rule (powered paged 24) [])

  same_gathered : take (held have g) after ≡ take (held have h) after'
  same_gathered = told (λ a. a.after.gathered)

  same_held : held have g ≡ held have h
  same_held =
      sym (length-take-le (held have g) after (omega (arith, p.room, p.size, long)))
      ∙ ap length same_gathered
      ∙ length-take-le (held have h) after' (omega (arith, q.room, q.size, long))

  same_buffer : after ≡ after'
  same_buffer =
      sym (take-append-drop (held have g) after)
      ∙ ap₂ (λ (a b : List ℕ). a ++ b) same_gathered (p.rest ∙ ap (λ (n : ℕ). drop n before) same_held ∙ sym q.rest)
      ∙ take-append-drop (held have h) after'

  pub gathers_once : (g ≡ h) × (after ≡ after')
  gathers_once = (gathering_known have g h (told (λ a. a.reply)) same_held, same_buffer)
