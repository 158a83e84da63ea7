-- What one step of the bench promises: the rules' answer, on a chip that is in order again. The layout l says which chip.
use Rattle.std.specs.Prelude.{◌≡◌, List, ℕ, ◌≤◌, length, take, drop}
use Rattle.rules.specs.Chip.{Layout, paged, Chip}
use Rattle.rules.specs.Bench as rules
use Rattle.rules.specs.Bench.{gather}
use Rattle.state.specs.Meaning.{Answer}
use Rattle.state.specs.Meaning.{reply_of}
use Rattle.state.specs.View.{view_of}
use Rattle.state.specs.Entry.{InOrderOf}
use Rattle.records.specs.Gathers.{holding}

-- a chip in order, and wire bytes within their buffer
pub record HeldOf (l : Layout) (w s q mem wire : List ℕ) (have : ℕ) : Type 0 where
  pub chip : InOrderOf l w s q mem
  pub room : length wire ≡ 2048
  pub few : have ≤ 2048

-- a is returned, and state, memory, wire bytes and output are then these
pub record TurnsOf (l : Layout) (x : rules.Answered) (a : Answer) (w s q mem wire : List ℕ) (have : ℕ) (out : List ℕ) : Type 0 where
  pub reply : reply_of a ≡ x.reply
  pub bench : holding (view_of l w s q mem) (take have wire) out ≡ x.after
  pub held : HeldOf l w s q mem wire have

-- the same of the paged chip
abbrev pub Held : List ℕ → List ℕ → List ℕ → List ℕ → List ℕ → ℕ → Type 0
Held = HeldOf paged

abbrev pub Turns : rules.Answered → Answer → List ℕ → List ℕ → List ℕ → List ℕ → List ℕ → ℕ → List ℕ → Type 0
Turns = TurnsOf paged

-- wire bytes are gathered: for any chip and output beside them the rules' `gather` says this
pub record Gathered (wire : List ℕ) (have : ℕ) (bytes : List ℕ) (count : ℕ) (a : Answer) (wire' : List ℕ) (have' : ℕ) : Type 0 where
  pub rule : (c : Chip) (out : List ℕ) → gather count (drop 2 bytes) (holding c (take have wire) out) ≡ record { reply = reply_of a; after = holding c (take have' wire') out }
  pub room : length wire' ≡ 2048
  pub few : have' ≤ 2048
