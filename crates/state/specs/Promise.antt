-- What a step over the lent state promises.
use Rattle.std.specs.Prelude.{◌≡◌, List, ℕ, ◌/◌, ◌%◌, ◌^◌, ◌<◌, length, get_or, Ok}
use Rattle.std.proofs.Common.{ap, sym, subst, ◌∙◌}
use Rattle.rules.specs.Bits.{word_of}
use Rattle.rules.specs.Parts.{IsPart}
use Rattle.rules.specs.Chip.{Registers, Layout, paged, Chip, free_for}
use Rattle.rules.specs.Answers.{Effect, did}
use Rattle.rules.specs.Fields.{in_registers}
use Rattle.rules.specs.WellFormed.{Formed}
use Rattle.sets.specs.Members.{set_of}
use Rattle.queues.specs.Slots.{Slots}
use Rattle.queues.specs.Parts.{slots}
use Rattle.state.specs.Meaning.{Answer}
use Rattle.state.specs.Meaning.{reply_of}
use Rattle.state.specs.View.{word, registers_in, figures, queue_in, lists_of, pool_of, view_of, Kept}

-- the lower 16 bits of a number, and the others
pub record Halves (low high x : ℕ) : Type 0 where
  pub lower : low ≡ x % 65536
  pub upper : high ≡ x / 65536

-- 72 bytes of queues: each has its entries, and 0 behind them; and the bits "in RX" and "in TX" are those of their entries
pub record QueuesIn (c q : List ℕ) : Type 0 where
  pub long : length q ≡ 72
  pub rx : Slots (slots 0 q) (word c 0) (queue_in 0 (word c 0) q)
  pub tx : Slots (slots 1 q) (word c 1) (queue_in 1 (word c 1) q)
  pub completion : Slots (slots 2 q) (word c 2) (queue_in 2 (word c 2) q)
  pub in_rx : Halves (word c 4) (word c 5) (set_of (queue_in 0 (word c 0) q))
  pub in_tx : Halves (word c 6) (word c 7) (set_of (queue_in 1 (word c 1) q))

-- Numbers of 32 bits, as sets of pages are: so these are known from their pages.
abbrev pub Small : List ℕ → Type 0
Small s = (i : ℕ) → get_or s i 0 < 2 ^ 32

-- as many numbers as a part has packets; MIR has so many and, above it, how many pages are free by them
pub record PagesIn (l : Layout) (c s : List ℕ) : Type 0 where
  pub part : IsPart (length s)
  pub free : word c 3 ≡ word_of (length s) (length (free_for l (lists_of l s)))
  pub small : Small s

-- the state is laid out as it must be: one state for each chip
pub record SoundOf (l : Layout) (w s q : List ℕ) : Type 0 where
  pub kept : Kept w
  pub queues : QueuesIn (figures w) q
  pub sets : PagesIn l (figures w) s

-- and it stands for a well-formed chip, whatever its memory
pub record ReadyOf (l : Layout) (w s q : List ℕ) : Type 0 where
  pub sound : SoundOf l w s q
  pub well : Formed (length s) (registers_in w) (pool_of l (figures w) s q)

-- the answer a, and the state after it, are the effect e of the rules
pub record MakesOf (l : Layout) (e : Effect) (a : Answer) (w s q mem : List ℕ) : Type 0 where
  pub chip : view_of l w s q mem ≡ e.chip
  pub reply : reply_of a ≡ e.reply
  pub sound : SoundOf l w s q

-- the same with page sets
abbrev pub SetsIn : List ℕ → List ℕ → Type 0
SetsIn = PagesIn paged

abbrev pub Sound : List ℕ → List ℕ → List ℕ → Type 0
Sound = SoundOf paged

abbrev pub Ready : List ℕ → List ℕ → List ℕ → Type 0
Ready = ReadyOf paged

abbrev pub Makes : Effect → Answer → List ℕ → List ℕ → List ℕ → List ℕ → Type 0
Makes = MakesOf paged

-- A change of the registers alone: from the words w to w'.
pub record Sets (f : Registers → Registers) (w w' : List ℕ) : Type 0 where
  pub regs : registers_in w' ≡ f (registers_in w)
  pub still : figures w' ≡ figures w
  pub kept : Kept w'

-- one after another
pub sets_both : {f g : Registers → Registers} {w w' w'' : List ℕ} → Sets f w w' → Sets g w' w'' → Sets (λ r. g (f r)) w w''
sets_both {f} {g} a b = record { regs = b.regs ∙ ap g a.regs; still = b.still ∙ a.still; kept = b.kept }

-- the same change in other words
pub sets_as : {f g : Registers → Registers} {w w' : List ℕ} → Sets f w w' → f (registers_in w) ≡ g (registers_in w) → Sets g w w'
sets_as a e = record { regs = a.regs ∙ e; still = a.still; kept = a.kept }

-- the chip after it, beside any packets' numbers, queues and memory; and the state is sound
pub sets_chip : {f : Registers → Registers} {w w' : List ℕ} → Sets f w w' → (l : Layout) (s q mem : List ℕ) → view_of l w' s q mem ≡ in_registers f (view_of l w s q mem)
sets_chip {f} {w} {w'} a l s q mem =
    ap (λ (r : Registers). record { regs = r; pool = pool_of l (figures w') s q; memory = mem }) a.regs
    ∙ ap (λ (c : List ℕ). record { regs = f (registers_in w); pool = pool_of l c s q; memory = mem }) a.still

pub sets_sound : {l : Layout} {f : Registers → Registers} {w w' s q : List ℕ} → Sets f w w' → SoundOf l w s q → SoundOf l w' s q
sets_sound {l} {s = s} {q = q} a o = record { kept = a.kept; queues = subst (λ (c : List ℕ). QueuesIn c q) (sym a.still) o.queues; sets = subst (λ (c : List ℕ). PagesIn l c s) (sym a.still) o.sets }

-- A step that looks at the registers alone, and changes no more.
pub record Does (f : Chip → Effect) (w : List ℕ) (a : Answer) (w' : List ℕ) : Type 0 where
  pub step : (l : Layout) (s q mem : List ℕ) → record { reply = reply_of a; chip = view_of l w' s q mem } ≡ f (view_of l w s q mem)
  pub still : figures w' ≡ figures w
  pub kept : Kept w'

pub does_sets : {f : Registers → Registers} {w w' : List ℕ} → Sets f w w' → Does (λ c. did (in_registers f c)) w (Ok 0) w'
does_sets a = record { step = λ l s q mem. ap did (sets_chip a l s q mem); still = a.still; kept = a.kept }

pub does_makes : {l : Layout} {f : Chip → Effect} {w w' s q : List ℕ} {a : Answer} → Does f w a w' → SoundOf l w s q → (mem : List ℕ) → MakesOf l (f (view_of l w s q mem)) a w' s q mem
does_makes {l} {s = s} {q = q} d o mem = record {
  chip = ap (λ (e : Effect). e.chip) (d.step l s q mem);
  reply = ap (λ (e : Effect). e.reply) (d.step l s q mem);
  sound = record { kept = d.kept; queues = subst (λ (c : List ℕ). QueuesIn c q) (sym d.still) o.queues; sets = subst (λ (c : List ℕ). PagesIn l c s) (sym d.still) o.sets };
}
