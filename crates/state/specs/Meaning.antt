-- What the enums of this crate stand for in `rules`, and the parts of a word.
use Rattle.std.specs.Prelude.{◌≡◌, Bool, true, false, ℕ, ◌/◌, ◌%◌, Option, None, Some, Result, Ok, Err}
use Rattle.rules.specs.Answers.{Reply, refusal, refusal_with}
use Rattle.rules.specs.Parts.{lan91c94, lan91c96}
use Rattle.rules.specs.Registers as rules
use Rattle.state.specs.declared.Width.{Width}
use Rattle.state.specs.declared.Width.TheVariants as width
use Rattle.state.specs.declared.part.Part.{Part}
use Rattle.state.specs.declared.part.Part.TheVariants as part
use Rattle.state.specs.declared.Refusal.{Refusal}
use Rattle.state.specs.declared.Refusal.TheVariants.{Misplaced, NotModelled, ReadOnly, Reserved, NotAllocated, StillQueued, RxEmpty, AgainstRead, OddPointer, PastPages, OutsideLimits, NothingToSend, OddCount, CompletionFull, ShortOutput, Damaged, CutShort, ShortCount, LongCount}

abbrev pub width_of : Width → rules.Width
width_of width.Byte = rules.byte
width_of width.Word = rules.word

-- how many packets the part has (document 02, W9)
abbrev pub packets_of : Part → ℕ
packets_of part.Lan91c94 = lan91c94
packets_of part.Lan91c96 = lan91c96

-- how many packets the part has that is named, 0 where none is
abbrev pub packets_named : Option Part → ℕ
packets_named (Some p) = packets_of p
packets_named None = 0

-- what a step answers: done, with a value, or a refusal
abbrev pub Answer : Type 0
Answer = Result ℕ Refusal

-- document 01's number and value of an answer; 13, 18 and 19 have the byte count as their value (document 02, W2)
abbrev pub reply_of : Answer → Reply
reply_of (Ok v) = record { number = 0; value = v }
reply_of (Err Misplaced) = refusal 1
reply_of (Err NotModelled) = refusal 2
reply_of (Err ReadOnly) = refusal 3
reply_of (Err Reserved) = refusal 4
reply_of (Err NotAllocated) = refusal 5
reply_of (Err StillQueued) = refusal 6
reply_of (Err RxEmpty) = refusal 7
reply_of (Err AgainstRead) = refusal 8
reply_of (Err OddPointer) = refusal 9
reply_of (Err PastPages) = refusal 10
reply_of (Err OutsideLimits) = refusal 11
reply_of (Err NothingToSend) = refusal 12
reply_of (Err (OddCount v)) = refusal_with 13 v
reply_of (Err CompletionFull) = refusal 14
reply_of (Err ShortOutput) = refusal 15
reply_of (Err Damaged) = refusal 16
reply_of (Err CutShort) = refusal 17
reply_of (Err (ShortCount v)) = refusal_with 18 v
reply_of (Err (LongCount v)) = refusal_with 19 v

-- no refusal 1
abbrev pub Placed : Width → ℕ → Type 0
Placed w offset = rules.misplaced (width_of w) offset ≡ false

-- is it the high byte alone
abbrev pub is_high : rules.Lanes → Bool
is_high rules.low = false
is_high rules.high = true
is_high rules.both = false

-- the low and the high byte of a word x after a write of v
abbrev pub low_after : rules.Lanes → ℕ → ℕ → ℕ
low_after rules.low v x = v % 256
low_after rules.high v x = x % 256
low_after rules.both v x = v % 256

abbrev pub high_after : rules.Lanes → ℕ → ℕ → ℕ
high_after rules.low v x = x / 256
high_after rules.high v x = v % 256
high_after rules.both v x = v / 256 % 256

-- y is the word x after a write of v: as rules have it, and byte by byte
pub record Joined (p : rules.Lanes) (v x y : ℕ) : Type 0 where
  pub word : y ≡ rules.merged p v x
  pub low : y % 256 ≡ low_after p v x
  pub high : y / 256 ≡ high_after p v x
