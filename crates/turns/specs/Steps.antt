-- From what the steps of a chip promise to one step of the bench.
use Rattle.std.specs.Prelude.{◌≡◌, Bool, List, [], ℕ, ◌≤◌, take, drop, Err}
use Rattle.std.proofs.Math.Path.{refl}
use Rattle.std.proofs.Common.{ap, sym, subst, ◌∙◌, arith}
use Rattle.rules.specs.Chip.{Layout}
use Rattle.rules.specs.Answers.{Turn}
use Rattle.rules.specs.Registers.{Access}
use Rattle.rules.specs.Send.{Send}
use Rattle.rules.specs.Step.{driver, frame, sent, link, step}
use Rattle.rules.specs.Bench as rules
use Rattle.judging.specs.Frames.{frame_of}
use Rattle.state.specs.Meaning.{Answer}
use Rattle.state.specs.declared.Refusal.TheVariants.{OutsideLimits, CutShort}
use Rattle.state.specs.View.{view_of}
use Rattle.state.specs.Entry.{RightOf}
use Rattle.records.specs.declared.event.Event.{Event}
use Rattle.records.specs.Event.{meant}
use Rattle.records.specs.Gathers.{holding}
use Rattle.turns.specs.Turns.{HeldOf, TurnsOf, Gathered}

module _ {l : Layout} {w s q mem wire : List ℕ} {have : ℕ} (out : List ℕ) (h : HeldOf l w s q mem wire have) where
  -- a turn of the chip, after which so many wire bytes are held, with the output buffer then
  turning : (t : Turn) (left : ℕ) {a : Answer} {w' s' q' mem' put kept output : List ℕ} → left ≤ 2048 → RightOf l t a w' s' q' mem' put → output ≡ kept
      → TurnsOf l (rules.told t (take left wire) kept) a w' s' q' mem' wire left output
  turning t left few p e = record {
    reply = p.reply;
    bench = λ j. holding (p.chip j) (take left wire) (e j);
    held = record { chip = p.ready; room = h.room; few = few };
  }

  -- accesses, frames and link events are lent no output buffer, and the bench's stays
  pub access_turns : (i : Access) {a : Answer} {w' s' q' mem' : List ℕ} → RightOf l (step (driver i) (view_of l w s q mem)) a w' s' q' mem' []
      → TurnsOf l (rules.answer (rules.access i) (holding (view_of l w s q mem) (take have wire) out)) a w' s' q' mem' wire have out
  unfolding rules.answer
  access_turns i p = turning (step (driver i) (view_of l w s q mem)) have h.few p refl

  pub frame_turns : (align : Bool) {a : Answer} {w' s' q' mem' : List ℕ} {left : ℕ}
      → RightOf l (step (frame (frame_of (take have wire) align)) (view_of l w s q mem)) a w' s' q' mem' [] × (left ≡ 0)
      → TurnsOf l (rules.answer (rules.frame_ends align) (holding (view_of l w s q mem) (take have wire) out)) a w' s' q' mem' wire left out
  unfolding rules.answer
  frame_turns align p = rw p.1 (turning _ 0 (omega arith) p.0 refl)

  pub link_turns : (x : ℕ) {a : Answer} {w' s' q' mem' : List ℕ} → RightOf l (step (link x) (view_of l w s q mem)) a w' s' q' mem' []
      → TurnsOf l (rules.answer (rules.link_set x) (holding (view_of l w s q mem) (take have wire) out)) a w' s' q' mem' wire have out
  unfolding rules.answer
  link_turns x p = turning (step (link x) (view_of l w s q mem)) have h.few p refl

  -- a send is lent it
  pub send_turns : (x : Send) {a : Answer} {w' s' q' mem' out' : List ℕ} → RightOf l (step (sent x out) (view_of l w s q mem)) a w' s' q' mem' out'
      → TurnsOf l (rules.answer (rules.send x) (holding (view_of l w s q mem) (take have wire) out)) a w' s' q' mem' wire have out'
  unfolding rules.answer
  send_turns x p = turning _ have h.few p p.output

  -- a part is asked for too late, or not at all
  pub part_turns : (x : ℕ) → TurnsOf l (rules.answer (rules.part x) (holding (view_of l w s q mem) (take have wire) out)) (Err OutsideLimits) w s q mem wire have out
  unfolding rules.answer
  part_turns x = record { reply = refl; bench = refl; held = h }

  pub unknown_turns : TurnsOf l (rules.answer rules.unknown (holding (view_of l w s q mem) (take have wire) out)) (Err CutShort) w s q mem wire have out
  unfolding rules.answer
  unknown_turns = record { reply = refl; bench = refl; held = h }

  pub wire_turns : {count : ℕ} {bytes : List ℕ} {a : Answer} {wire' : List ℕ} {have' : ℕ} → Gathered wire have bytes count a wire' have'
      → TurnsOf l (rules.answer (rules.wire count (drop 2 bytes)) (holding (view_of l w s q mem) (take have wire) out)) a w s q mem wire' have' out
  unfolding rules.answer
  wire_turns g = rw (g.rule (view_of l w s q mem) out) (record { reply = refl; bench = refl; held = record { chip = h.chip; room = g.room; few = g.few } })

-- The event of a record is what the code took it for,
pub told : {r k : Event} (bytes : List ℕ) → meant r bytes ≡ rules.event_of bytes → r ≡ k → rules.event_of bytes ≡ meant k bytes
told bytes e q = sym e ∙ ap (λ (j : Event). meant j bytes) q

-- and an event said otherwise is the same event.
pub turns_as : {l : Layout} {e k : rules.Event} (b : rules.Bench) {a : Answer} {w s q mem wire : List ℕ} {have : ℕ} {out : List ℕ}
    → e ≡ k → TurnsOf l (rules.answer k b) a w s q mem wire have out → TurnsOf l (rules.answer e b) a w s q mem wire have out
turns_as {l} b {a} {w} {s} {q} {mem} {wire} {have} {out} x = subst (λ (k : rules.Event). TurnsOf l (rules.answer k b) a w s q mem wire have out) (sym x)
