-- How answer and state after a command are shown to be what document 01 says of it.
use Rattle.std.specs.Prelude.{◌≡◌, refl, Bool, true, false, ◌||◌, List, [], ℕ, ◌%◌, length, get_or, Ok, Err}
use Rattle.std.proofs.Common.{ap, ap₂, sym, ◌∙◌}
use Rattle.rules.specs.Lists.{member, some?}
use Rattle.rules.specs.Chip.{Registers, Layout, Pool, Chip, size, empty_pool}
use Rattle.rules.specs.Answers.{Effect, did}
use Rattle.rules.specs.Fields.{set_result, set_waiting, in_registers, in_pool}
use Rattle.rules.specs.Mmu.{Command, reset, perform, if_idle}
use Rattle.state.specs.Meaning.{Answer}
use Rattle.state.specs.declared.Refusal.TheVariants.{NotAllocated, StillQueued}
use Rattle.state.specs.Meaning.{reply_of}
use Rattle.state.specs.View.{word, queue_in, lists_of, view_of}
use Rattle.state.specs.Pages.{numbers_length}
use Rattle.state.specs.Promise.{Sets, sets_chip, sets_sound, SoundOf, MakesOf}
use Rattle.pool.specs.Queues.{EmptiedOf}
use Rattle.commands.specs.Orders.{PerformsOf}
use Rattle.commands.specs.Steps.{idle_5, idle_6, idle_done}

module _ {l : Layout} (k : Command) (w s q mem : List ℕ) where
  -- done: the command is `f` on the chip, and the state after stands for `f` of what it stood for
  pub performs : (f : Chip → Chip) {w' s' q' : List ℕ} → perform k (view_of l w s q mem) ≡ did (f (view_of l w s q mem))
      → view_of l w' s' q' mem ≡ f (view_of l w s q mem) → SoundOf l w' s' q' → MakesOf l (perform k (view_of l w s q mem)) (Ok 0) w' s' q' mem
  performs f p e o = rw p (record { chip = e; reply = refl; sound = o })

  -- nothing changes: a refusal, and 00h
  pub unchanged : (a : Answer) → SoundOf l w s q → perform k (view_of l w s q mem) ≡ record { reply = reply_of a; chip = view_of l w s q mem } → MakesOf l (perform k (view_of l w s q mem)) a w s q mem
  unchanged a o p = rw p (record { chip = refl; reply = refl; sound = o })

-- A command on the packet number register, which names packet n.
module _ (l : Layout) (k : Command) (f : Chip → Effect) (p : (c : Chip) → perform k c ≡ if_idle c (f c)) (w s q : List ℕ) (n : ℕ) (named : n ≡ word w 17 % 256) where
  has : {b : Bool} → some? (get_or (lists_of l s) n []) ≡ b → some? (get_or (lists_of l s) (word w 17 % 256) []) ≡ b
  has e = sym (ap (λ (j : ℕ). some? (get_or (lists_of l s) j [])) named) ∙ e

  waits : {b t : Bool} → b ≡ member n (queue_in 0 (word w 6) q) || member n (queue_in 1 (word w 8) q) → b ≡ t
      → member (word w 17 % 256) (queue_in 0 (word w 6) q) || member (word w 17 % 256) (queue_in 1 (word w 8) q) ≡ t
  waits e u = sym (e ∙ ap (λ (j : ℕ). member j (queue_in 0 (word w 6) q) || member j (queue_in 1 (word w 8) q)) named) ∙ u

  pub refuses_5 : SoundOf l w s q → some? (get_or (lists_of l s) n []) ≡ false → PerformsOf l k w s q (Err NotAllocated) w s q
  refuses_5 o a mem = let c = view_of l w s q mem in unchanged k w s q mem (Err NotAllocated) o (p c ∙ idle_5 c (f c) (has a))

  pub refuses_6 : SoundOf l w s q → some? (get_or (lists_of l s) n []) ≡ true → {b : Bool} → b ≡ member n (queue_in 0 (word w 6) q) || member n (queue_in 1 (word w 8) q) → b ≡ true
      → PerformsOf l k w s q (Err StillQueued) w s q
  refuses_6 o a b u mem = let c = view_of l w s q mem in unchanged k w s q mem (Err StillQueued) o (p c ∙ idle_6 c (f c) (has a) (waits b u))

  pub goes_ahead : some? (get_or (lists_of l s) n []) ≡ true → {b : Bool} → b ≡ member n (queue_in 0 (word w 6) q) || member n (queue_in 1 (word w 8) q) → b ≡ false
      → (mem : List ℕ) → perform k (view_of l w s q mem) ≡ f (view_of l w s q mem)
  goes_ahead a b u mem = let c = view_of l w s q mem in p c ∙ idle_done c (f c) (has a) (waits b u)

-- 40h: the pool is empty, and then the result is stored, and that nothing waits.
pub resets : {l : Layout} (w s q mem : List ℕ) {w₁ w₂ s' q' : List ℕ} → EmptiedOf l (length s) w w₁ s' q' → Sets (λ r. set_waiting 0 (set_result 0x80 r)) w₁ w₂ → MakesOf l (perform reset (view_of l w s q mem)) (Ok 0) w₂ s' q' mem
unfolding perform
resets {l} w s q mem {s' = s'} {q' = q'} e g =
    performs reset w s q mem (λ x. in_registers (λ r. set_waiting 0 (set_result 0x80 r)) (in_pool (λ p. empty_pool x.pool.layout (size x)) x)) refl
    (sets_chip g l s' q' mem
    ∙ ap₂ (λ (r : Registers) (p : Pool). in_registers (λ x. set_waiting 0 (set_result 0x80 x)) (record { regs = r; pool = p; memory = mem })) e.regs (e.pool ∙ ap (empty_pool l) (sym (numbers_length l s))))
    (sets_sound g e.sound)
