-- The data that a send puts out, with and without padding, and its FCS behind it.
use Rattle.std.proofs.Common.{◌≡◌, refl, ap, ap₂, sym, subst, ◌∙◌, Bool, true, false, cond, ◌⊎◌, inl, inr, List, ◌++◌, ℕ, ◌+◌, ◌-◌, ◌≤◌, arith, length-take-le, length, take, drop, replicate, length-append, length-drop, take-append-drop, append_assoc, append-nil, drop-drop, take_at, drop_at}
use Rattle.std.proofs.lemmas.List.{length-replicate}
use borrow.Rule.Slice.PartMut.{put_mid}
use Rattle.std.specs.Int.{w32, to_le_bytes}
use Rattle.rules.specs.Bits.{bit}
use Rattle.rules.specs.Crc.{fcs_word, four_bytes, fcs}
use Rattle.rules.specs.Send.{appends, padded, ended, on_wire}
use Rattle.on_wire.specs.PutsOut.{PutsOut}

-- Bytes written behind those at the front of a buffer are put out with them.
puts_behind : (front more : List ℕ) {before mid after : List ℕ} {n k v : ℕ} → PutsOut front before mid n → k ≡ length more → v ≡ n + k → after ≡ put_mid n k mid more → PutsOut (front ++ more) before after v
puts_behind front more {before} {mid} {n = n} {k = k} p e w z =
    let all = length-append front more in
    let kept : take n mid ≡ front = ap₂ take p.value p.output ∙ take_at front (drop (length front) before) (length front) refl in
    let left : drop n mid ≡ drop (length front) before = ap₂ drop p.value p.output ∙ drop_at front (drop (length front) before) (length front) refl in
    let shifted = ap₂ drop e left ∙ drop-drop (length more) (length front) before in
    let rest = shifted ∙ ap (λ (i : ℕ). drop i before) (sym all) in
    record {
      value = w ∙ omega (arith, p.value, e, all);
      output = z ∙ ap₂ (λ (x y : List ℕ). x ++ (more ++ y)) kept rest ∙ sym (append_assoc front more (drop (length (front ++ more)) before));
    }

-- The data is the first n bytes of the buffer; f tells whether an FCS follows, and `least` what shorter data is padded to.
module _ (f : Bool) (tcr n least : ℕ) (out : List ℕ) (h : n ≤ length out) (e : least ≡ cond f 60 64) where
  abbrev zeros : List ℕ
  zeros = replicate (least - n) 0

  long : length (take n out) ≡ n
  long = length-take-le n out h

  bare : PutsOut (take n out) out out n
  bare = record { value = sym long; output = sym (ap (λ (i : ℕ). take n out ++ drop i out) long ∙ take-append-drop n out) }

  without_zeros : bit 7 tcr ≡ false → padded f tcr (take n out) ≡ take n out
  unfolding padded
  without_zeros b = rw b refl

  with_zeros : bit 7 tcr ≡ true → padded f tcr (take n out) ≡ take n out ++ zeros
  unfolding padded
  with_zeros b = rw (b, long, e) refl

  no_zeros : bit 7 tcr ≡ true → least ≤ n → padded f tcr (take n out) ≡ take n out
  no_zeros b l =
      let none : least - n ≡ 0 = omega arith in
      with_zeros b ∙ ap (λ (k : ℕ). take n out ++ replicate k 0) none ∙ append-nil (take n out)

  pub pads_nothing : {on : Bool} → on ≡ bit 7 tcr → ((on ≡ true) × (least ≤ n)) ⊎ (on ≡ false) → PutsOut (padded f tcr (take n out)) out out n
  pads_nothing o (inl (b, l)) = rw (no_zeros (sym o ∙ b) l) bare
  pads_nothing o (inr b) = rw (without_zeros (sym o ∙ b)) bare

  pub pads : {part : List ℕ} → bit 7 tcr ≡ true → n ≤ least → least ≤ length out → part ≡ replicate (length (take (least - n) (drop n out))) 0
      → PutsOut (padded f tcr (take n out)) out (put_mid n (least - n) out part) least
  pads b l fits z =
      let size : length (take (least - n) (drop n out)) ≡ least - n = length-take-le (least - n) (drop n out) (omega (arith, length-drop n out)) in
      rw (with_zeros b, z, size) (puts_behind (take n out) zeros bare (sym (length-replicate (least - n) 0)) (omega arith) refl)

-- The padded data stands at the front of the buffer, and its FCS follows it or not.
module _ (tcr control : ℕ) (bare out : List ℕ) {f : Bool} {end : ℕ} {mid : List ℕ} (e : f ≡ appends tcr control) (p : PutsOut (padded f tcr bare) out mid end) where
  ends : (g : Bool) → f ≡ g → ended g (padded f tcr bare) ≡ on_wire tcr control bare
  unfolding on_wire
  ends g b = ap₂ (λ (x y : Bool). ended x (padded y tcr bare)) (sym b ∙ e) e

  pub ends_bare : f ≡ false → PutsOut (on_wire tcr control bare) out mid end
  unfolding ended
  ends_bare b = subst (λ (l : List ℕ). PutsOut l out mid end) (ends false b) p

  with_fcs : f ≡ true → padded f tcr bare ++ fcs (padded f tcr bare) ≡ on_wire tcr control bare
  unfolding ended
  with_fcs b = ends true b

  four : (x : ℕ) → 4 ≡ length (four_bytes x)
  unfolding four_bytes
  four x = omega arith

  bytes_of : (x : ℕ) → to_le_bytes w32 x ≡ four_bytes x
  unfolding four_bytes
  bytes_of x = refl

  pub ends_fcs : {word k : ℕ} {part : List ℕ} → f ≡ true → word ≡ fcs_word (take end mid) → part ≡ to_le_bytes w32 word → k ≡ 4 → PutsOut (on_wire tcr control bare) out (put_mid end k mid part) (end + 4)
  ends_fcs {word} b w z n =
      let bytes = padded f tcr bare in
      let front : take end mid ≡ bytes = ap₂ take p.value p.output ∙ take_at bytes (drop (length bytes) out) (length bytes) refl in
      let same = z ∙ bytes_of word ∙ ap four_bytes (w ∙ ap fcs_word front) in
      rw (same, n, ← with_fcs b) (puts_behind bytes (fcs bytes) p (four (fcs_word bytes)) refl refl)
