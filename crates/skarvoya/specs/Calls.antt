-- What the functions of the chip promise, whatever was lent: what its public entries do, told by one number.
use Rattle.std.specs.Prelude.{◌≡◌, List, ℕ, ◌<◌, Ok}
use Rattle.rules.specs.Bits.{flag}
use Rattle.rules.specs.Parts.{part_named}
use Rattle.rules.specs.Chip.{paged}
use Rattle.rules.specs.Answers.{refusal}
use Rattle.rules.specs.Interrupts.{line_up}
use Rattle.rules.specs.Step.{Input}
use Rattle.state.specs.Meaning.{Answer}
use Rattle.state.specs.Meaning.{reply_of}
use Rattle.state.specs.Entry.{record_view, Holds, AnswersOf, zeros, StartedOf}
use Rattle.lent.specs.Lent.{told, LongAs}

-- the input i on a lent record w, s, q and memory: the promise of a public entry, and its answer is told
pub record Calls (i : Input) (w s q mem : List ℕ) (n : ℕ) (w' s' q' mem' out' : List ℕ) : Type 0 where
  pub answer : Answer
  pub entry : AnswersOf paged i w s q mem answer w' s' q' mem' out'
  pub returned : n ≡ told (reply_of answer)

-- a refusal, and nothing changes
pub record Refuses (number : ℕ) (w s q mem : List ℕ) (n : ℕ) (w' s' q' mem' : List ℕ) : Type 0 where
  pub returned : n ≡ told (refusal number)
  pub words : w' ≡ w
  pub sets : s' ≡ s
  pub queues : q' ≡ q
  pub memory : mem' ≡ mem

-- power-up of the part that the byte x names. 11 where it names none: that is asked first, for how long the memory must be is known of a part alone. Then 16 where a length is another one;
-- else the part's record at power-up, and zeros as its memory, whatever was there
pub record PowersUp (x : ℕ) (w s q mem : List ℕ) (n : ℕ) (w' s' q' mem' : List ℕ) : Type 0 where
  pub unknown : part_named x ≡ 0 → Refuses 11 w s q mem n w' s' q' mem'
  pub refused : 0 < part_named x → (LongAs (part_named x) w s q mem → ⊥) → Refuses 16 w s q mem n w' s' q' mem'
  pub started : 0 < part_named x → LongAs (part_named x) w s q mem → StartedOf paged (part_named x) (Ok 0) w' s' q' × (mem' ≡ zeros paged (part_named x)) × (n ≡ 0)

-- the line of a record that is in order, as 1 or 0; of any other 16
pub record ShowsLine (w s q : List ℕ) (n : ℕ) : Type 0 where
  pub up : Holds w s q → (mem : List ℕ) → n ≡ flag (line_up (record_view paged w s q mem))
  pub refused : (Holds w s q → ⊥) → n ≡ told (refusal 16)
