-- A line that stands by itself at the front of the buffer: what it is, of any chip with these registers, for of the chip a line shows the interrupt line alone.
use Rattle.std.specs.Prelude.{◌≡◌, Bool, false, List, ℕ, take}
use Rattle.rules.specs.Bench.{Event}
use Rattle.rules.specs.Watch.{is_send}
use Rattle.state.specs.Meaning.{Answer}
use Rattle.state.specs.Meaning.{reply_of}
use Rattle.state.specs.View.{view, figures}
use Rattle.state.specs.Promise.{QueuesIn}
use Rattle.records.specs.Gathers.{holding}
use Rattle.batches.specs.Batch.{form_of}
use Rattle.batches.specs.Printed.{last_line}

-- that of a record that is no send
abbrev pub LoneLine : Bool → ℕ → Answer → List ℕ → List ℕ → List ℕ → ℕ → Type 0
LoneLine watching number answer words out lines end =
    (e : Event) (s q mem wire : List ℕ) → is_send e ≡ false → QueuesIn (figures words) q → take end lines ≡ form_of watching number e (record { reply = reply_of answer; after = holding (view words s q mem) wire out })

-- that of a record which the input's end cuts short after `kept` bytes
abbrev pub LastLine : Bool → ℕ → ℕ → List ℕ → List ℕ → List ℕ → ℕ → Type 0
LastLine watching kept number words out lines end =
    (s q mem wire : List ℕ) → QueuesIn (figures words) q → take end lines ≡ last_line (form_of watching) kept number (holding (view words s q mem) wire out)
