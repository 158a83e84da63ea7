-- What answering the records of an input promises: the rules' bench after them, and the rules' lines in the program's form.
use Rattle.std.specs.Prelude.{◌≡◌, Bool, true, false, List, [], ◌++◌, ℕ, zero, suc, ◌+◌, ◌*◌, take, drop}
use Rattle.rules.specs.Chip.{Chip}
use Rattle.rules.specs.Interrupts.{line_up}
use Rattle.rules.specs.Bench.{Event, Bench, Form, plain, answer, event_of}
use Rattle.rules.specs.Watch.{is_send, watched}
use Rattle.lists.specs.Written.{Writes}
use Rattle.state.specs.Meaning.{Answer}
use Rattle.state.specs.Meaning.{reply_of}
use Rattle.state.specs.View.{view}
use Rattle.records.specs.Gathers.{holding}
use Rattle.turns.specs.Turns.{Held}

-- the form of a program's lines: that of `watch`, or the bench's
abbrev pub form_of : Bool → Form
form_of true = watched
form_of false = plain

-- how long a line is at the most, and the room for n of them
abbrev pub widest : Bool → ℕ
widest true = 4144
widest false = 30

unfoldable pub room_for : Bool → ℕ → ℕ
room_for watching n = widest watching * n + 10

-- the line of a reply, of any chip whose interrupt line is this, and of any event that is a send where `sent` says so
abbrev pub Prints : Bool → ℕ → Answer → Bool → Bool → List ℕ → List ℕ → ℕ → List ℕ → ℕ → Type 0
Prints watching number a sent up out before at after end =
    (c : Chip) (wire : List ℕ) (e : Event) → up ≡ line_up c → sent ≡ is_send e
    → Writes before at (form_of watching number e (record { reply = reply_of a; after = holding c wire out })) after end

-- record n of the input, from 0 on
abbrev pub record_at : ℕ → List ℕ → List ℕ
record_at n input = take 8 (drop (8 * n) input)

-- the bench after the first n records
unfoldable pub bench_after : ℕ → List ℕ → Bench → Bench
bench_after zero input b = b
bench_after (suc n) input b = (answer (event_of (record_at n input)) (bench_after n input b)).after

-- and the lines printed for them, of which the first has number k
unfoldable pub lines_for : Form → ℕ → ℕ → List ℕ → Bench → List ℕ
lines_for form zero k input b = []
lines_for form (suc n) k input b =
    let e = event_of (record_at n input) in
    lines_for form n k input b ++ form (k + n) e (answer e (bench_after n input b))

-- state, memory, wire bytes, output and lines after the first n records of the input, answered from the bench b on
pub record Answered (form : Form) (n k : ℕ) (input : List ℕ) (b : Bench) (w s q mem wire : List ℕ) (have : ℕ) (out lines : List ℕ) (end number : ℕ) : Type 0 where
  pub held : Held w s q mem wire have
  pub bench : holding (view w s q mem) (take have wire) out ≡ bench_after n input b
  pub text : take end lines ≡ lines_for form n k input b
  pub counted : number ≡ k + n
