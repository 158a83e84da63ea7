-- From the register at a place to the rules' access.
use Rattle.std.specs.Prelude.{◌≡◌, refl, Bool, true, false, cond, List, ℕ, ◌+◌, ◌*◌, ◌/◌, ◌%◌, ◌<◌, ltb, Err}
use Rattle.std.proofs.Common.{sym, subst, ◌∙◌, arith, ltb-false}
use Rattle.rules.specs.Bits.{bit, low_byte}
use Rattle.rules.specs.Chip.{Layout, Chip}
use Rattle.rules.specs.Answers.{Effect, refuse}
use Rattle.rules.specs.Mmu.{command}
use Rattle.rules.specs.Data.{read_data, write_data}
use Rattle.rules.specs.Registers as rules
use Rattle.rules.specs.Registers.{Width, Lanes, low, high, DATA, COMMAND, misplaced, lanes_at, register_at, read_register, write_register, access}
use Rattle.lists.specs.Facts.{or_left}
use Rattle.data.specs.Access as moved
use Rattle.state.specs.declared.Width.TheVariants as width
use Rattle.state.specs.declared.Width as code
use Rattle.state.specs.Meaning.{Answer}
use Rattle.state.specs.declared.Refusal.TheVariants.{Misplaced}
use Rattle.state.specs.Meaning.{width_of, is_high}
use Rattle.state.specs.View.{word, view_of, Kept}
pub use Rattle.data.specs.Behind.{makes_as}
use Rattle.state.specs.Promise.{SoundOf, MakesOf}
use Rattle.state.specs.Laws.{register_in, decoded}
use Rattle.state.specs.Writes.{low_only_lem}
use Rattle.accesses.specs.Lanes.{wide}

-- the place of an access
abbrev pub place_of : List ℕ → ℕ → ℕ
place_of w offset = word w 7 % 8 * 8 + offset / 2

within : (width : Width) (offset : ℕ) → misplaced width offset ≡ false → offset < 16
unfolding misplaced
within rules.byte offset e = omega (arith, ltb-false 15 offset e)
within rules.word offset e = omega (arith, ltb-false 15 offset (or_left (ltb 15 offset) (bit 0 offset) e))

pub answered : {l : Layout} {e : Effect} {a b : Answer} {w s q mem : List ℕ} → a ≡ b → MakesOf l e b w s q mem → MakesOf l e a w s q mem
answered {l} {e} {w = w} {s = s} {q = q} {mem = mem} x = subst (λ (k : Answer). MakesOf l e k w s q mem) (sym x)

module _ (width : Width) (offset : ℕ) (w : List ℕ) (k : Kept w) where
  here : misplaced width offset ≡ false → register_at (word w 7 % 256) offset ≡ register_in (place_of w offset)
  here e =
      let b = k.fixed.bank_high in
      let small : word w 7 % 256 ≡ word w 7 % 8 = omega arith in
      rw small (decoded (word w 7 % 8) offset (within width offset e))

  pub place_below : misplaced width offset ≡ false → place_of w offset < 64
  place_below e = let o = within width offset e in omega arith

module _ {l : Layout} (width : Width) (offset : ℕ) (w s q mem : List ℕ) (k : Kept w) where
  pub read_there : misplaced width offset ≡ false → {a : Answer} {w' s' q' mem' : List ℕ} → MakesOf l (read_register (register_in (place_of w offset)) (lanes_at width offset) (view_of l w s q mem)) a w' s' q' mem'
      → MakesOf l (access (rules.read width offset) (view_of l w s q mem)) a w' s' q' mem'
  unfolding access
  read_there e = makes_as (rw (e, here width offset w k e) refl)

  pub write_there : (v : ℕ) → misplaced width offset ≡ false → {a : Answer} {w' s' q' mem' : List ℕ} → MakesOf l (write_register (register_in (place_of w offset)) (lanes_at width offset) v (view_of l w s q mem)) a w' s' q' mem'
      → MakesOf l (access (rules.write width offset v) (view_of l w s q mem)) a w' s' q' mem'
  unfolding access
  write_there v e = makes_as (rw (e, here width offset w k e) refl)

-- Refusal 1.
pub read_nowhere : (width : Width) (offset : ℕ) {l : Layout} {w s q mem : List ℕ} → SoundOf l w s q → misplaced width offset ≡ true → MakesOf l (access (rules.read width offset) (view_of l w s q mem)) (Err Misplaced) w s q mem
unfolding access
read_nowhere width offset o e = makes_as (rw e refl) (record { chip = refl; reply = refl; sound = o })

pub write_nowhere : (width : Width) (offset v : ℕ) {l : Layout} {w s q mem : List ℕ} → SoundOf l w s q → misplaced width offset ≡ true → MakesOf l (access (rules.write width offset v) (view_of l w s q mem)) (Err Misplaced) w s q mem
unfolding access
write_nowhere width offset v o e = makes_as (rw e refl) (record { chip = refl; reply = refl; sound = o })

-- Data: one byte, or two.
pub reads_data : (x : code.Width) (offset : ℕ) (c : Chip) → read_register DATA (lanes_at (width_of x) offset) c ≡ read_data (moved.width_of (wide x)) c
unfolding read_register lanes_at rules.width
reads_data width.Byte offset c = go (bit 0 offset)
  where
    go : (b : Bool) → read_data (rules.width (cond b high low)) c ≡ read_data 1 c
    go true = refl
    go false = refl
reads_data width.Word offset c = refl

pub writes_data : (x : code.Width) (offset v : ℕ) (c : Chip) → write_register DATA (lanes_at (width_of x) offset) v c ≡ write_data (moved.bytes_for (wide x) v) c
unfolding write_register lanes_at rules.bytes_of
writes_data width.Byte offset v c = go (bit 0 offset)
  where
    go : (b : Bool) → write_data (rules.bytes_of (cond b high low) v) c ≡ write_data (moved.bytes_for false v) c
    go true = refl
    go false = refl
writes_data width.Word offset v c = refl

-- The MMU command: its high byte is read-only.
pub orders_none : (p : Lanes) (v : ℕ) (c : Chip) → is_high p ≡ true → write_register COMMAND p v c ≡ refuse 3 c
unfolding write_register
orders_none p v c e = low_only_lem p c (command (low_byte v) c) ∙ rw e refl

pub orders : (p : Lanes) (v : ℕ) (c : Chip) → is_high p ≡ false → write_register COMMAND p v c ≡ command (low_byte v) c
unfolding write_register
orders p v c e = low_only_lem p c (command (low_byte v) c) ∙ rw e refl
