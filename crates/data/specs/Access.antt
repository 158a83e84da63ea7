-- What the parts of a data access promise: which packet the pointer means, where the first byte lies or why it is refused, and what is behind the gate.
use Rattle.std.specs.Prelude.{◌≡◌, Bool, true, false, cond, not, List, [], ◌∷◌, ℕ, ◌*◌, ◌/◌, ◌%◌, ◌<◌, length, get_or, drop, Result, Ok, Err}
use Rattle.rules.specs.Bits.{low_byte, high_byte}
use Rattle.rules.specs.Lists.{some?}
use Rattle.rules.specs.Chip.{Registers, Layout, paged, Chip}
use Rattle.rules.specs.Fields.{set_pointer, in_memory}
use Rattle.rules.specs.Answers.{Effect, done_with, did, refuse}
use Rattle.rules.specs.Packet.{place, get_bytes, put_bytes}
use Rattle.rules.specs.Data.{rcv, against, odd_fixed, past, address, next, moved, value_of}
use Rattle.lists.specs.Bytes.{Below}
use Rattle.sets.specs.Views.{pages_of}
use Rattle.state.specs.Meaning.{Answer}
use Rattle.state.specs.Meaning.{reply_of}
use Rattle.state.specs.View.{word, queue_in, lists_of, view, Kept}
use Rattle.state.specs.Promise.{Sound, Makes}
use Rattle.state.specs.declared.Refusal.{Refusal}
use Rattle.data.specs.declared.Spot.{Spot}

-- a word takes two bytes
abbrev pub width_of : Bool → ℕ
width_of true = 2
width_of false = 1

abbrev pub bytes_for : Bool → ℕ → List ℕ
bytes_for true v = low_byte v ∷ high_byte v ∷ []
bytes_for false v = low_byte v ∷ []

-- the packet that the pointer means: the head of RX, or that of the packet number register; 24, which has no pages, where RX is empty
abbrev pub head_or24 : List ℕ → ℕ
head_or24 [] = 24
head_or24 (k ∷ ks) = k

unfoldable pub meant_by : ℕ → ℕ → List ℕ → ℕ
meant_by pointer packet rx = cond (rcv pointer) (head_or24 rx) packet

abbrev pub meant_in : List ℕ → List ℕ → ℕ
meant_in w q = meant_by (word w 19) (word w 17 % 256) (queue_in 0 (word w 6) q)

abbrev pub pages_meant_of : Layout → List ℕ → List ℕ → List ℕ → List ℕ
pages_meant_of l w s q = get_or (lists_of l s) (meant_in w q) []

abbrev pub pages_meant : List ℕ → List ℕ → List ℕ → List ℕ
pages_meant = pages_meant_of paged

-- the number of the refusal where the first byte is refused: 7 or 5 where the packet has no pages, then 8, 9 and 10
unfoldable pub refusal_if : Bool → Bool → ℕ → ℕ
refusal_if hasPages isRead p = cond (not hasPages) (cond (rcv p) 7 5) (cond (against isRead p) 8 (cond (odd_fixed p) 9 10))

abbrev pub refusal_of : Bool → ℕ → List ℕ → ℕ
refusal_of isRead p pages = refusal_if (some? pages) isRead p

-- an access by the pointer p to a packet with these pages: refusal 7 or 5 where there are none, then 8, 9 and 10
unfoldable pub if_any : Bool → ℕ → ℕ → List ℕ → Chip → Effect → Effect
if_any isRead width p pages c s =
    cond (not (some? pages)) (refuse (cond (rcv p) 7 5) c)
    (cond (against isRead p) (refuse 8 c) (cond (odd_fixed p) (refuse 9 c) (cond (past width p pages) (refuse 10 c) s)))

-- what is behind the gate: refusal 10 where a byte after the first is past the packet's pages, else the access
unfoldable pub unless_past : ℕ → ℕ → List ℕ → Chip → Effect → Effect
unless_past width p pages c s = cond (past width p pages) (refuse 10 c) s

abbrev pub read_behind : ℕ → List ℕ → Chip → Effect
read_behind width pages c =
    unless_past width c.regs.pointer pages c (done_with (value_of (get_bytes width (address c.regs.pointer) pages c.memory)) (moved width c))

abbrev pub write_behind : List ℕ → List ℕ → Chip → Effect
write_behind bytes pages c =
    unless_past (length bytes) c.regs.pointer pages c (did (in_memory (put_bytes bytes (address c.regs.pointer) pages) (moved (length bytes) c)))

-- the first byte lies at `at`, in the lowest page of `rest`, which are the packet's pages from there on
pub record Stands (pages : List ℕ) (p at rest : ℕ) : Type 0 where
  pub lies : at ≡ place pages (address p)
  pub left : pages_of rest ≡ drop (address p / 256) pages
  pub reaches : address p < 256 * length pages

-- what a gate says of an access by the pointer p to a packet with these pages
abbrev pub Guards : Bool → ℕ → List ℕ → Result Spot Refusal → Type 0
Guards isRead p pages (Ok x) = Stands pages p x.at x.rest × ((width : ℕ) (c : Chip) (s : Effect) → if_any isRead width p pages c s ≡ unless_past width p pages c s)
Guards isRead p pages (Err a) = (width : ℕ) (c : Chip) (s : Effect) → 0 < width → if_any isRead width p pages c s ≡ record { reply = reply_of (Err a); chip = c }

-- what an access behind the gate may rest on: words and memory are whole, and its bytes lie in pages of the memory
pub record Room (w mem : List ℕ) (at rest : ℕ) : Type 0 where
  pub kept : Kept w
  pub full : length mem % 256 ≡ 0
  pub inside : at < length mem
  pub below : Below (length mem / 256) (pages_of rest)

-- what it promises, of any packet in which it stands so
abbrev pub Reads : ℕ → ℕ → ℕ → List ℕ → List ℕ → Answer → List ℕ → Type 0
Reads width at rest w mem a w' =
    (pages s q : List ℕ) → Stands pages (word w 19) at rest → Sound w s q → Makes (read_behind width pages (view w s q mem)) a w' s q mem

abbrev pub Writes : List ℕ → ℕ → ℕ → List ℕ → List ℕ → Answer → List ℕ → List ℕ → Type 0
Writes bytes at rest w mem a w' mem' =
    (pages s q : List ℕ) → Stands pages (word w 19) at rest → Sound w s q → Makes (write_behind bytes pages (view w s q mem)) a w' s q mem'

-- the pointer after an access
abbrev pub moves : ℕ → Registers → Registers
moves width r = set_pointer (next width r.pointer) r
