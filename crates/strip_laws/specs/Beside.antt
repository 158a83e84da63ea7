-- Another chip beside a chip: the same registers and queues, a layout, page lists and memory of its own. What the same effect on both has to keep; and pages given back and granted on both, an allocation that waits among them.
use Rattle.std.specs.Prelude.{◌≡◌, Bool, cond, not, List, [], ℕ, ◌+◌, ◌*◌, ◌/◌, ◌%◌, ◌^◌, ◌≤◌, ◌<◌, eqb, length, get_or, set, take}
use Rattle.std.proofs.Math.Path.{refl}
use Rattle.std.proofs.Common.{ap, sym, ◌∙◌, true≢false, arith, length-take}
use Rattle.std.proofs.Math.Bool.{true, false}
use Rattle.rules.specs.Lists.{first_empty}
use Rattle.rules.specs.Chip.{Layout, Chip, size, pages_at, free_for, free}
use Rattle.rules.specs.Fields.{set_result, set_waiting, in_registers}
use Rattle.rules.specs.Answers.{Reply, Effect, Turn}
use Rattle.rules.specs.Packet.{put_bytes}
use Rattle.rules.specs.Mmu.{lowest_number, allot, grant, due, settle, freed, give_back}
use Rattle.lists.specs.Each.{Each}
use Rattle.wellformed.specs.Layouts.{GoodLists, unallocated, back_lists}
use Rattle.wellformed.specs.Pool.{good_lists}
use Rattle.wellformed.specs.Settle.{due_decides}
use Rattle.wellformed.specs.Fit.{Fits}
use Rattle.strip_laws.specs.Written.{Marks, marked, anew, settled_marks}
use Rattle.strip_laws.specs.Strips.{WrittenAt}
use Rattle.strip_laws.specs.SameCounts.{first_alike, free_alike}
use Rattle.strip_laws.specs.Packets.{Packets, put_in_both}

-- the chip beside c
abbrev pub on : Layout → List (List ℕ) → List ℕ → Chip → Chip
on l ls bytes c = record {
  regs = c.regs;
  pool = record { layout = l; pages = ls; rx = c.pool.rx; tx = c.pool.tx; completion = c.pool.completion };
  memory = bytes;
}

-- the other chip, after a step, is one beside the chip, with these marks
pub record Follows (l : Layout) (m : Marks) (c d : Chip) : Type 0 where
  pub lists : List (List ℕ)
  pub bytes : List ℕ
  pub is : d ≡ on l lists bytes c
  pub packets : Packets m c.pool.pages c.memory lists bytes

-- Registers and queues alone may change.
pub stays : {l : Layout} {m : Marks} {ls : List (List ℕ)} {bytes : List ℕ} (x : Chip) → Packets m x.pool.pages x.memory ls bytes → Follows l m x (on l ls bytes x)
stays x p = record { lists = _; bytes = _; is = refl; packets = p }

-- the two replies, where the input reads so many bytes of data
pub record Answers (wide : ℕ) (c : Chip) (m : Marks) (x y : Reply) : Type 0 where
  pub number : y.number ≡ x.number
  pub value : ((j : ℕ) → j < wide → WrittenAt c m j) → y.value ≡ x.value
  pub half : (j : ℕ) → j < wide → WrittenAt c m j → y.value / 256 ^ j % 256 ≡ x.value / 256 ^ j % 256

pub same_answer : {wide : ℕ} {c : Chip} {m : Marks} (x : Reply) → Answers wide c m x x
same_answer x = record { number = refl; value = λ h. refl; half = λ j h w. refl }

-- marks after a reply: a refusal writes nothing
abbrev pub marks_by : Reply → Marks → Marks → Marks
marks_by r m after = cond (eqb r.number 0) after m

-- the two effects of an access or a frame on c and on the chip beside it; m before it, and `after` where it is done
pub record Effects (l : Layout) (wide : ℕ) (c : Chip) (m after : Marks) (x y : Effect) : Type 0 where
  pub reply : Answers wide c m x.reply y.reply
  pub chips : Follows l (marks_by x.reply m after) x.chip y.chip

-- the two turns of any input
pub record Turns (l : Layout) (wide : ℕ) (c : Chip) (m after : Marks) (t u : Turn) : Type 0 where
  pub reply : Answers wide c m t.reply u.reply
  pub output : u.output ≡ t.output
  pub chips : Follows l (marks_by t.reply m after) t.chip u.chip

-- One test on both, and two that answer the same.
pub pick_both : {A : Type 0} (R : A → A → Type 0) (b b' : Bool) {x y x' y' : A} → b' ≡ b → (b ≡ true → R x x') → (b ≡ false → R y y') → R (cond b x y) (cond b' x' y')
pick_both R true true e p q = p refl
pick_both R true false e p q = absurd (true≢false (sym e))
pick_both R false true e p q = absurd (true≢false e)
pick_both R false false e p q = q refl

pub unless_both : {A : Type 0} (R : A → A → Type 0) (b b' : Bool) {x y x' y' : A} → b' ≡ b → (b ≡ false → R x x') → (b ≡ true → R y y') → R (cond (not b) x y) (cond (not b') x' y')
unless_both R true true e p q = q refl
unless_both R true false e p q = absurd (true≢false (sym e))
unless_both R false true e p q = absurd (true≢false e)
unless_both R false false e p q = p refl

-- two chips beside each other whose page lists are good
pub record Good (n : ℕ) (l : Layout) (m : Marks) (c : Chip) (ls : List (List ℕ)) (bytes : List ℕ) : Type 0 where
  pub lists : GoodLists c.pool.layout n c.pool.pages
  pub others : GoodLists l n ls
  pub packets : Packets m c.pool.pages c.memory ls bytes

-- two chips beside each other, both well formed, each with its memory
pub record Beside (n : ℕ) (l : Layout) (m : Marks) (c : Chip) (ls : List (List ℕ)) (bytes : List ℕ) : Type 0 where
  pub fits : Fits n c
  pub fits' : Fits n (on l ls bytes c)
  pub packets : Packets m c.pool.pages c.memory ls bytes

-- Bytes put into packet k of both are written then; and their page lists are good.
module _ {n : ℕ} {l : Layout} {m : Marks} {c : Chip} {ls : List (List ℕ)} {bytes : List ℕ} (b : Beside n l m c ls bytes) where
  pub puts_alike : (k a : ℕ) (put : List ℕ) → Each (λ x. x < 256) put → a + length put ≤ 256 * length (pages_at c k)
      → Packets (marked k a (length put) m) c.pool.pages (put_bytes put a (pages_at c k) c.memory) ls (put_bytes put a (get_or ls k []) bytes)
  puts_alike k a put small room =
      put_in_both k a put b.packets (record { good = b.fits.0.pages; whole = b.fits.1 }) (record { good = b.fits'.0.pages; whole = b.fits'.1 }) small room

  pub both_good : Good n l m c ls bytes
  both_good = record { lists = good_lists b.fits.0; others = good_lists b.fits'.0; packets = b.packets }
