-- Wire bytes gathered in a buffer of which the first `have` bytes count.
use Rattle.std.specs.Prelude.{◌≡◌, List, ℕ, Option, None, Some, ◌≤◌, length, take, drop}
use Rattle.rules.specs.Chip.{Chip}
use Rattle.rules.specs.Answers.{Reply, done, refusal}
use Rattle.rules.specs.Bench.{Bench, gather}

-- document 01's answer, and how many bytes count then
abbrev pub reply_to : Option ℕ → Reply
reply_to (Some n) = done
reply_to None = refusal 11

abbrev pub held : ℕ → Option ℕ → ℕ
held have (Some n) = n
held have None = have

abbrev pub holding : Chip → List ℕ → List ℕ → Bench
holding c bytes out = record { chip = c; gathered = bytes; output = out }

-- What gathering `count` of a record's bytes promises: what the rules gather and answer, whatever chip and output buffer
-- stand beside it; no more than 2,048; and every byte behind stays, in a buffer that is as long as before.
pub record Gathers (wire : List ℕ) (have : ℕ) (bytes : List ℕ) (count : ℕ) (after : List ℕ) (g : Option ℕ) : Type 0 where
  pub rule : (c : Chip) (out : List ℕ)
      → gather count (drop 2 bytes) (holding c (take have wire) out) ≡ record { reply = reply_to g; after = holding c (take (held have g) after) out }
  pub room : held have g ≤ 2048
  pub rest : drop (held have g) after ≡ drop (held have g) wire
  pub size : length after ≡ length wire
