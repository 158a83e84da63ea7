-- The chip after a reset of its words and then of its pool: at power-up, and by a soft reset.
use Rattle.std.specs.Prelude.{◌≡◌, refl, true, false, List, [], ℕ, length, set, replicate, Ok}
use Rattle.std.proofs.Common.{ap, sym, ◌∙◌, length-set}
use Rattle.std.proofs.lemmas.List.{length-replicate}
use Rattle.rules.specs.Bits.{bit}
use Rattle.rules.specs.Chip.{Registers, Layout, Pool, Chip, size, reset_registers, empty_pool}
use Rattle.rules.specs.Fields.{set_rcr, in_registers}
use Rattle.rules.specs.Registers.{Lanes, RCR, new_rcr, write_rcr, write_register}
use Rattle.state.specs.View.{word, registers_in, figures, lists_of, pool_of, view_of}
use Rattle.state.specs.Pages.{numbers_length}
use Rattle.state.specs.Promise.{PagesIn, SoundOf, sets_chip, sets_sound, MakesOf}
use Rattle.state.specs.Stores.{store_rcr}
use Rattle.pool.specs.Queues.{EmptiedOf}
use Rattle.reset.specs.Promises.{WordsReset, SoftResetsOf}

pub resets_chip : {l : Layout} {n : ℕ} {w w' w'' s'' q'' : List ℕ} → WordsReset w w' → EmptiedOf l n w' w'' s'' q''
    → (mem : List ℕ) → view_of l w'' s'' q'' mem ≡ record { regs = reset_registers (registers_in w).receiving.station (registers_in w).link.up; pool = empty_pool l n; memory = mem }
resets_chip {l} {w = w} {w'' = w''} {s'' = s''} {q'' = q''} r e mem =
    ap (λ (g : Registers). record { regs = g; pool = pool_of l (figures w'') s'' q''; memory = mem }) (e.regs ∙ r.regs)
    ∙ ap (λ (p : Pool). record { regs = reset_registers (registers_in w).receiving.station (registers_in w).link.up; pool = p; memory = mem }) e.pool

-- from words that were 0
pub powers_up : {l : Layout} {n : ℕ} {w w' s' q' : List ℕ} → WordsReset (replicate 32 0) w → EmptiedOf l n w w' s' q'
    → (mem : List ℕ) → view_of l w' s' q' mem ≡ record { regs = reset_registers (replicate 6 0) false; pool = empty_pool l n; memory = mem }
unfolding bit
powers_up r e mem = resets_chip r e mem

-- There are as many words as before.
pub soft_long : {l : Layout} {n : ℕ} {w s q w' w'' s'' q'' : List ℕ} → SoundOf l w s q → EmptiedOf l n w' w'' s'' q'' → (x : ℕ) → length (set w'' 2 x) ≡ length w
soft_long o e x = simp length-set (e.sound.kept.whole ∙ sym o.kept.whole)

-- All is reset but the station address, the link and the memory.
pub soft : {l : Layout} {w s q w' w'' s'' q'' : List ℕ} → PagesIn l (figures w) s → WordsReset w w' → EmptiedOf l (length s) w' w'' s'' q'' → SoftResetsOf l w s q (set w'' 2 0x8000) s'' q''
soft {l} {w} {s} {w'' = w''} {s'' = s''} {q'' = q''} h r e =
    let stored = store_rcr 0x8000 w'' e.sound.kept in
    let size = numbers_length l s in
    record {
      chip = λ mem. sets_chip stored l s'' q'' mem ∙ ap (in_registers (set_rcr 0x8000)) (resets_chip r e mem)
          ∙ ap (λ (n : ℕ). record { regs = set_rcr 0x8000 (reset_registers (registers_in w).receiving.station (registers_in w).link.up); pool = empty_pool l n; memory = mem }) (sym size);
      sound = sets_sound stored e.sound;
    }

-- and as many packets: the part stays
pub soft_size : {l : Layout} {w s q w' s' q' : List ℕ} → SoftResetsOf l w s q w' s' q' → length s' ≡ length s
soft_size {l} {s = s} {s' = s'} r =
    sym (numbers_length l s') ∙ ap (λ (c : Chip). size c) (r.chip []) ∙ length-replicate {A = List ℕ} (length (lists_of l s)) [] ∙ numbers_length l s

-- A write to RCR that leaves bit 15 set.
pub rcr_resets : {l : Layout} (p : Lanes) (v new : ℕ) → bit 15 new ≡ true → (w s q w' s' q' : List ℕ) → new ≡ new_rcr p v (word w 2) → SoftResetsOf l w s q w' s' q'
    → (mem : List ℕ) → MakesOf l (write_register RCR p v (view_of l w s q mem)) (Ok 0) w' s' q' mem
unfolding write_register write_rcr
rcr_resets p v new up w s q w' s' q' right r mem = record { chip = r.chip mem ∙ rw (← right, up) refl; reply = refl; sound = r.sound }
