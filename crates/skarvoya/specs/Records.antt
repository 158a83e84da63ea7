-- What a record of the bench promises, whatever was lent: the rules' bench after it, and the rules' line.
use Rattle.std.specs.Prelude.{◌≡◌, cond, List, ℕ, ◌+◌, ◌*◌, ◌≤◌, ◌<◌, eqb, length, take, drop}
use Rattle.rules.specs.Chip.{paged}
use Rattle.rules.specs.Answers.{refusal}
use Rattle.rules.specs.Bench.{Event, Bench, Answered, asks_for, answer_to, plain}
use Rattle.records.specs.Gathers.{holding}
use Rattle.state.specs.Meaning.{Answer}
use Rattle.state.specs.Meaning.{reply_of}
use Rattle.state.specs.Entry.{size_in, record_view, Holds}
use Rattle.turns.specs.Served.{asked}
use Rattle.lent.specs.Lent.{told}

-- A bench is lent room for the memory of either part: that of its part is the first bytes of it.
abbrev pub of_memory : List ℕ → List ℕ → List ℕ
of_memory w mem = take (256 * size_in w) mem

-- the bytes behind them, which nobody looks at
abbrev pub behind_memory : List ℕ → List ℕ → List ℕ
behind_memory w mem = drop (256 * size_in w) mem

-- the rules' bench that this one stands for
abbrev pub bench_of : List ℕ → List ℕ → List ℕ → List ℕ → List ℕ → ℕ → List ℕ → Bench
bench_of w s q mem wire have out = holding (record_view paged w s q (of_memory w mem)) (take have wire) out

-- what a bench keeps from record to record: a chip's record in order, room for the memory of either part, and wire bytes within their buffer
pub record BenchHeld (w s q mem wire : List ℕ) (have : ℕ) : Type 0 where
  pub chip : Holds w s q
  pub full : length mem ≡ 6144
  pub room : length wire ≡ 2048
  pub few : have ≤ 2048

-- and a count of records that has a next one
pub record BenchInOrder (w s q mem wire : List ℕ) (have count : ℕ) : Type 0 where
  pub held : BenchHeld w s q mem wire have
  pub next : count < 0xffffffffffffffff

-- room for what a send puts out, and for a line
abbrev pub Roomy : List ℕ → List ℕ → Type 0
Roomy out line = (2052 ≤ length out) × (40 ≤ length line)

-- how many packets the part has that the record of this number starts, 0 where it starts none: the first alone may
abbrev pub part_started : ℕ → Event → ℕ
part_started number e = cond (eqb number 1) (asks_for e) 0

-- a is returned, and the bench is then the rules'; of the memory the bytes behind those of the part, which may be another part now, are as before
pub record TurnsBench (x : Answered) (mem : List ℕ) (a : Answer) (w s q mem' wire : List ℕ) (have : ℕ) (out : List ℕ) : Type 0 where
  pub reply : reply_of a ≡ x.reply
  pub bench : bench_of w s q mem' wire have out ≡ x.after
  pub held : BenchHeld w s q mem' wire have
  pub rest : behind_memory w mem' ≡ behind_memory w mem

-- the record of this number is answered with a, as the rules' bench answers it; its line is at the front of the buffer, and the rest of that stays
pub record Serves (number : ℕ) (bytes : List ℕ) (b : Bench) (mem line : List ℕ) (a : Answer) (w s q mem' wire : List ℕ) (have : ℕ) (out line' : List ℕ) (end : ℕ) : Type 0 where
  pub turns : TurnsBench (answer_to number (asked bytes) b) mem a w s q mem' wire have out
  pub text : take end line' ≡ plain number (asked bytes) (answer_to number (asked bytes) b)
  pub fits : end ≤ length line'
  pub behind : drop end line' ≡ drop end line

-- so is the record of the next number: its first eight bytes, or those that are there. It is counted, and the answer told
pub record ServesNext (bytes w s q mem wire : List ℕ) (have : ℕ) (out : List ℕ) (count : ℕ) (line : List ℕ) (n : ℕ) (w' s' q' mem' wire' : List ℕ) (have' : ℕ) (out' : List ℕ) (count' : ℕ) (line' : List ℕ) (end : ℕ) : Type 0 where
  pub given : Answer
  pub serves : Serves (count + 1) (take 8 bytes) (bench_of w s q mem wire have out) mem line given w' s' q' mem' wire' have' out' line' end
  pub returned : n ≡ told (reply_of given)
  pub counted : count' ≡ count + 1

-- a refusal of what was lent: nothing changes, and no line is there
pub record RefusesRecord (number : ℕ) (w s q mem wire : List ℕ) (have : ℕ) (out : List ℕ) (count : ℕ) (line : List ℕ) (n : ℕ) (w' s' q' mem' wire' : List ℕ) (have' : ℕ) (out' : List ℕ) (count' : ℕ) (line' : List ℕ) (end : ℕ) : Type 0 where
  pub returned : n ≡ told (refusal number)
  pub words : w' ≡ w
  pub sets : s' ≡ s
  pub queues : q' ≡ q
  pub memory : mem' ≡ mem
  pub gathered : wire' ≡ wire
  pub many : have' ≡ have
  pub output : out' ≡ out
  pub counted : count' ≡ count
  pub printed : line' ≡ line
  pub none : end ≡ 0

-- 16 where the bench is not in order, then 15 where there is no room, else the record is answered
pub record AnswersRecord (bytes w s q mem wire : List ℕ) (have : ℕ) (out : List ℕ) (count : ℕ) (line : List ℕ) (n : ℕ) (w' s' q' mem' wire' : List ℕ) (have' : ℕ) (out' : List ℕ) (count' : ℕ) (line' : List ℕ) (end : ℕ) : Type 0 where
  pub done : BenchInOrder w s q mem wire have count → Roomy out line → ServesNext bytes w s q mem wire have out count line n w' s' q' mem' wire' have' out' count' line' end
  pub short : BenchInOrder w s q mem wire have count → (Roomy out line → ⊥) → RefusesRecord 15 w s q mem wire have out count line n w' s' q' mem' wire' have' out' count' line' end
  pub broken : (BenchInOrder w s q mem wire have count → ⊥) → RefusesRecord 16 w s q mem wire have out count line n w' s' q' mem' wire' have' out' count' line' end
