-- A printed line in parts: the number, and what stands behind it on every line. And what stands before a line's end.
use Rattle.std.specs.Prelude.{◌≡◌, List, ◌∷◌, ◌++◌, ℕ, ◌+◌, ◌≤◌, length, take, drop}
use Rattle.std.proofs.Common.{ap, sym, ◌∙◌, append_assoc, arith, length-append, length-take-le, take_at}
use Rattle.rules.specs.Bench.{decimal, hex4}
use Rattle.lists.specs.Written.{Writes}

abbrev pub rest : ℕ → ℕ → List ℕ
rest answer value = (0x20 ∷ decimal answer) ++ (0x20 ∷ hex4 value)

-- The bytes stand from `at` to `end`. What stood before them stays, and so does what stands more than eight bytes behind them.
pub record Begins (before : List ℕ) (at : ℕ) (bytes after : List ℕ) (end : ℕ) : Type 0 where
  pub front : take end after ≡ take at before ++ bytes
  pub back : drop (end + 8) after ≡ drop (end + 8) before
  pub place : end ≡ at + length bytes

-- What stands before the place behind a piece of text: what stood before it, and the text.
pub taken : {before after text : List ℕ} {at end : ℕ} → at ≤ length before → Writes before at text after end → take end after ≡ take at before ++ text
taken {before} {after} {text} {at} {end} h w =
    let front : length (take at before ++ text) ≡ end = length-append (take at before) text ∙ omega (arith, length-take-le at before h, w.place) in
    ap (take end) (w.buffer ∙ sym (append_assoc (take at before) text (drop (at + length text) before)))
    ∙ take_at (take at before ++ text) (drop (at + length text) before) end front
