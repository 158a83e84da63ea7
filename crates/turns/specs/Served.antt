-- What serving one record promises, of either chip: the rules' bench after it, and the rules' line. It has one result. And how a record is answered by its number: only the first may ask for a part.
use Rattle.std.specs.Prelude.{◌≡◌, refl, Bool, true, false, cond, List, ℕ, ◌≤◌, ◌<◌, eqb, ltb, length, take}
use Rattle.std.proofs.Common.{sym, ◌∙◌, arith, lt-ltb, le-ltb, ne_eqb}
use Rattle.rules.specs.Chip.{Layout}
use Rattle.rules.specs.Answers.{done}
use Rattle.rules.specs.Bench.{Event, unknown, Bench, answer, asks_for, started_as, answer_first, answer_to, event_of, plain}
use Rattle.state.specs.View.{view_of}
use Rattle.records.specs.Gathers.{holding}
use Rattle.turns.specs.Turns.{HeldOf}
use Rattle.turns.specs.Once.{same_place, Same, bench_once}

-- what a record asks for; one that the input's end cuts short, to fewer than eight bytes, is answered as one of unknown kind
unfoldable pub asked : List ℕ → Event
asked bytes = cond (ltb (length bytes) 8) unknown (event_of bytes)

pub asked_short : (bytes : List ℕ) → length bytes < 8 → asked bytes ≡ unknown
unfolding asked
asked_short bytes h = rw (lt-ltb (length bytes) 8 h)

pub asked_whole : (bytes : List ℕ) → 8 ≤ length bytes → asked bytes ≡ event_of bytes
unfolding asked
asked_whole bytes h = rw (le-ltb (length bytes) 8 h)

-- Behind the first record, and where no part is asked for, the number does not count.
pub answered_later : (number : ℕ) (e : Event) (b : Bench) → 1 < number → answer_to number e b ≡ answer e b
unfolding answer_to
answered_later number e b h = rw (ne_eqb number 1 (λ q. omega (arith, h, q)))

pub answered_none : (number : ℕ) (e : Event) (b : Bench) → asks_for e ≡ 0 → answer_to number e b ≡ answer e b
unfolding answer_to answer_first
answered_none number e b none = go (eqb number 1)
  where
    go : (t : Bool) → cond t (cond (ltb 0 (asks_for e)) (record { reply = done; after = started_as (asks_for e) b }) (answer e b)) (answer e b) ≡ answer e b
    go true = rw none
    go false = refl

pub answered_unknown : (number : ℕ) (b : Bench) → answer_to number unknown b ≡ answer unknown b
unfolding asks_for
answered_unknown number b = answered_none number unknown b refl

-- The first record that asks for one starts it.
pub answered_part : (e : Event) (b : Bench) → 0 < asks_for e → answer_to 1 e b ≡ record { reply = done; after = started_as (asks_for e) b }
unfolding answer_to answer_first
answered_part e b h = rw (lt-ltb 0 (asks_for e) h)

-- the record of this number is answered on the bench b: state, memory, wire bytes and output are then these, and its line stands before `end`
pub record ServedOf (l : Layout) (number : ℕ) (bytes : List ℕ) (b : Bench) (w s q mem wire : List ℕ) (have : ℕ) (out line : List ℕ) (end : ℕ) : Type 0 where
  pub held : HeldOf l w s q mem wire have
  pub bench : holding (view_of l w s q mem) (take have wire) out ≡ (answer_to number (asked bytes) b).after
  pub text : take end line ≡ plain number (asked bytes) (answer_to number (asked bytes) b)
  pub fits : end ≤ length line

-- One result, but for bytes that nobody reads: those of the wire buffer behind the gathered ones, and of the line's buffer behind the line.
pub served_once : {l : Layout} {number : ℕ} {bytes : List ℕ} {b : Bench} {w s q mem wire : List ℕ} {have : ℕ} {out line w' s' q' mem' wire' : List ℕ} {have' : ℕ} {out' line' : List ℕ} {end end' : ℕ}
    → ServedOf l number bytes b w s q mem wire have out line end → ServedOf l number bytes b w' s' q' mem' wire' have' out' line' end'
    → Same w s q mem wire have out w' s' q' mem' wire' have' out' × (take end line ≡ take end' line') × (end ≡ end')
served_once {line = line} {line' = line'} p r =
    let t = p.text ∙ sym r.text in
    (bench_once p.held r.held (p.bench ∙ sym r.bench), t, same_place line line' p.fits r.fits t)
