-- The words of MIR, of the heads and of interrupt status, as the rules read them: for the match that answers a read.
use Rattle.std.specs.Prelude.{◌≡◌, List, ℕ, length, Ok}
use Rattle.std.proofs.Math.Path.{ap}
use Rattle.std.proofs.Common.{sym, ◌∙◌}
use Rattle.rules.specs.Bits.{word_of}
use Rattle.rules.specs.Chip.{Layout, free_for}
use Rattle.rules.specs.Answers.{Effect, done_with}
use Rattle.rules.specs.Interrupts.{status}
use Rattle.rules.specs.Registers.{Register, Lanes, MIR, HEADS, INTERRUPT, head_of, taken, read_register}
use Rattle.state.specs.View.{word, registers_in, figures, queue_in, lists_of, view_of}
use Rattle.state.specs.Pages.{numbers_length}
use Rattle.state.specs.Promise.{QueuesIn, SoundOf, MakesOf}

module _ {l : Layout} (p : Lanes) (w s q : List ℕ) (o : SoundOf l w s q) where
  -- a read that gives a word and changes nothing
  reads : (k : Register) (x : ℕ) (mem : List ℕ) → done_with (taken p x) (view_of l w s q mem) ≡ read_register k p (view_of l w s q mem) → MakesOf l (read_register k p (view_of l w s q mem)) (Ok (taken p x)) w s q mem
  reads k x mem e = record { chip = ap (λ (f : Effect). f.chip) e; reply = ap (λ (f : Effect). f.reply) e; sound = o }

  -- MIR is kept, and read as it stands
  pub reads_mir : (mem : List ℕ) → MakesOf l (read_register MIR p (view_of l w s q mem)) (Ok (taken p (word w 4))) w s q mem
  unfolding read_register
  reads_mir mem =
      let size = numbers_length l s in
      reads MIR (word w 4) mem (ap (λ (x : ℕ). done_with (taken p x) (view_of l w s q mem)) (o.sets.free ∙ ap (λ (n : ℕ). word_of n (length (free_for l (lists_of l s)))) (sym size)))

  pub reads_heads : (r : ℕ) → r ≡ word_of (head_of (queue_in 2 (word w 9) q)) (head_of (queue_in 0 (word w 6) q)) → (mem : List ℕ) → MakesOf l (read_register HEADS p (view_of l w s q mem)) (Ok (taken p r)) w s q mem
  unfolding read_register
  reads_heads r e mem = reads HEADS r mem (ap (λ (x : ℕ). done_with (taken p x) (view_of l w s q mem)) e)

  pub reads_interrupt : (r : ℕ) → ((l' : Layout) (s' q' mem' : List ℕ) → QueuesIn (figures w) q' → r ≡ word_of (status (view_of l' w s' q' mem')) (registers_in w).mask)
      → (mem : List ℕ) → MakesOf l (read_register INTERRUPT p (view_of l w s q mem)) (Ok (taken p r)) w s q mem
  unfolding read_register
  reads_interrupt r e mem = reads INTERRUPT r mem (ap (λ (x : ℕ). done_with (taken p x) (view_of l w s q mem)) (e l s q mem o.queues))
