-- Behind the gate: where the bytes of an access lie, whether the second is past the packet's pages, and the effect that the access then makes.
use Rattle.std.specs.Prelude.{◌≡◌, refl, true, false, set, drop, Ok, Err}
use Rattle.std.proofs.Math.Path.{ap}
use Rattle.std.proofs.Common.{ap₂, sym, subst, ◌∙◌, arith}
use mathlib.Core.List.{List}
use Prim.Native.Nat.{ℕ, suc, ◌+◌, ◌*◌, ◌/◌, ◌%◌, ◌^◌, ◌<◌}
use borrow.Author.Tests.{lt-ltb, le-ltb}
use Rattle.std.proofs.Math.ListN.{length, get_or, length-drop}
use Rattle.std.proofs.Math.Seq.{get_or-drop}
use Rattle.rules.specs.Bits.{low_byte, high_byte, word_of}
use Rattle.rules.specs.Chip.{Layout}
use Rattle.rules.specs.Fields.{in_memory}
use Rattle.rules.specs.Answers.{Effect}
use Rattle.rules.specs.Packet.{place, get_bytes, put_bytes}
use Rattle.rules.specs.Data.{past, address, value_of}
use Rattle.lists.specs.Bytes.{Below, below_at}
use Rattle.sets.specs.Views.{pages_of}
use Rattle.sets.specs.Pages.{rest_none, rest_goes, rest_first}
use Rattle.state.specs.declared.Refusal.TheVariants.{PastPages}
use Rattle.state.specs.Meaning.{Answer, reply_of}
use Rattle.state.specs.View.{word, view_of}
use Rattle.state.specs.Promise.{Sets, sets_chip, sets_sound, SoundOf, MakesOf}
use Rattle.data.specs.Access.{bytes_for, unless_past, read_behind, write_behind, Stands, moves}

module _ {pages : List ℕ} {p at rest : ℕ} (h : Stands pages p at rest) where
  -- The first byte is within the packet's pages.
  pub first_goes : past 1 p pages ≡ false
  unfolding past
  first_goes = le-ltb (256 * length pages) (address p + 1) (omega (arith, h.reaches))

  low : at % 256 ≡ address p % 256
  unfolding place
  low = omega (arith, h.lies)

  -- Where it is not the last of its page, the second lies next.
  module _ (n : at % 256 ≡ 255 → ⊥) where
    pub next_goes : past 2 p pages ≡ false
    unfolding past
    next_goes = le-ltb (256 * length pages) (address p + 2) (omega (arith, h.reaches, low, n))

    pub next_lies : place pages (suc (address p)) ≡ at + 1
    unfolding place
    next_lies =
        let a = address p in
        let e : suc a / 256 ≡ a / 256 = omega (arith, low, n) in
        let f : suc a % 256 ≡ suc (a % 256) = omega (arith, low, n) in
        rw (e, f, h.lies) (omega arith)

  -- Where it is, the second is the first of the next page, if there is one.
  module _ (e : at % 256 ≡ 255) (more : ℕ) (f : pages_of more ≡ drop 1 (pages_of rest)) where
    count : length (pages_of rest) ≡ length (drop (address p / 256) pages)
    count = ap length h.left

    pub none_past : more ≡ 0 → past 2 p pages ≡ true
    unfolding past
    none_past z = lt-ltb (256 * length pages) (address p + 2) (omega (arith, low, e, count, length-drop (address p / 256) pages, rest_none rest more 1 f z))

    pub over_goes : more < 2 ^ 32 → 0 < more → past 2 p pages ≡ false
    unfolding past
    over_goes b g = le-ltb (256 * length pages) (address p + 2) (omega (arith, low, e, count, length-drop (address p / 256) pages, rest_goes rest more 1 f b g))

    pub over_lies : place pages (suc (address p)) ≡ get_or (pages_of more) 0 0 * 256 + 0 % 256
    unfolding place
    over_lies =
        let a = address p in
        let i : suc a / 256 ≡ a / 256 + 1 = omega (arith, low, e) in
        let j : suc a % 256 ≡ 0 = omega (arith, low, e) in
        let g : get_or (pages_of more) 0 0 ≡ get_or pages (a / 256 + 1) 0 =
        rest_first rest more 1 f ∙ ap (λ (l : List ℕ). get_or l 1 0) h.left ∙ get_or-drop (a / 256) pages 1 0 in
        rw (i, j, g)

-- That page is one of the memory's.
pub over_inside : (rest more : ℕ) → pages_of more ≡ drop 1 (pages_of rest) → more < 2 ^ 32 → 0 < more → {n : ℕ} → Below n (pages_of rest) → get_or (pages_of more) 0 0 < n
over_inside rest more f b g {n} below = rw (rest_first rest more 1 f) (below_at n (pages_of rest) 1 below (rest_goes rest more 1 f b g))

-- Two bytes, read or written one by one.
pub two_read : (mem pages : List ℕ) (a : ℕ) {i j v : ℕ} → v ≡ word_of (get_or mem i 0) (get_or mem j 0) → i ≡ place pages a → j ≡ place pages (suc a)
    → v ≡ value_of (get_bytes 2 a pages mem)
unfolding value_of get_bytes word_of
two_read mem pages a e f g = e ∙ ap₂ (λ (i j : ℕ). get_or mem i 0 + get_or mem j 0 * 256) f g ∙ omega arith

pub two_written : (mem pages : List ℕ) (a v : ℕ) {i j low high : ℕ} → low ≡ low_byte v → high ≡ high_byte v → i ≡ place pages a → j ≡ place pages (suc a)
    → set (set mem i low) j high ≡ put_bytes (bytes_for true v) a pages mem
unfolding put_bytes
two_written mem pages a v l h f g = rw (l, h, f, g)

-- The effect: refusal 10, and nothing changes; or the value, or the bytes written, and the pointer moved.
module _ {l : Layout} (width : ℕ) (pages w s q mem : List ℕ) (o : SoundOf l w s q) where
  pub is_past : (e : Effect) → past width (word w 19) pages ≡ true → MakesOf l (unless_past width (word w 19) pages (view_of l w s q mem) e) (Err PastPages) w s q mem
  unfolding unless_past
  is_past e t = rw t (record { chip = refl; reply = refl; sound = o })

  module _ {w' : List ℕ} (t : past width (word w 19) pages ≡ false) (m : Sets (moves width) w w') where
    pub reads : (v : ℕ) → v ≡ value_of (get_bytes width (address (word w 19)) pages mem) → MakesOf l (read_behind width pages (view_of l w s q mem)) (Ok v) w' s q mem
    unfolding unless_past
    reads v e = rw t (record { chip = sets_chip m l s q mem; reply = ap (λ (v : ℕ). reply_of (Ok v)) e; sound = sets_sound m o })

-- The same of bytes that are written: memory mem' after it.
pub writes : {l : Layout} (bytes pages w s q mem : List ℕ) {w' mem' : List ℕ} → SoundOf l w s q → past (length bytes) (word w 19) pages ≡ false → Sets (moves (length bytes)) w w'
    → mem' ≡ put_bytes bytes (address (word w 19)) pages mem → MakesOf l (write_behind bytes pages (view_of l w s q mem)) (Ok 0) w' s q mem'
unfolding unless_past
writes {l} bytes pages w s q mem o t m e =
    rw (t, e) (record { chip = ap (in_memory (put_bytes bytes (address (word w 19)) pages)) (sets_chip m l s q mem); reply = refl; sound = sets_sound m o })

-- What makes an effect makes it said otherwise.
pub makes_as : {l : Layout} {e f : Effect} {a : Answer} {w s q mem : List ℕ} → e ≡ f → MakesOf l f a w s q mem → MakesOf l e a w s q mem
makes_as {l} {a = a} {w = w} {s = s} {q = q} {mem = mem} x = subst (λ (k : Effect). MakesOf l k a w s q mem) (sym x)
