-- A record has places for 24 packets, and a step is lent those of the part: from the one to the other and back.
use Rattle.std.specs.Prelude.{◌≡◌, refl, Bool, false, ◌||◌, List, [], ◌∷◌, ◌++◌, map, ℕ, zero, suc, ◌*◌, ◌-◌, length, take, drop, get_or, replicate}
use Rattle.std.proofs.Common.{ap, ap₂, sym, subst, ◌∙◌, arith, length-append, take-append-drop, take_at, drop_at}
use Rattle.std.proofs.lemmas.List.{length-replicate}
use Rattle.rules.specs.Bits.{word_of}
use Rattle.rules.specs.Parts.{IsPart}
use Rattle.rules.specs.Lists.{member, owned, unless, free_below}
use Rattle.rules.specs.Chip.{Layout, page_numbers}
use Rattle.rules.specs.Answers.{Turn}
use Rattle.wellformed.specs.Parts.{part_few}
use Rattle.sets.specs.Views.{pages_of}
use Rattle.sets.specs.Pages.{pages_none}
use Rattle.state.specs.Meaning.{Answer}
use Rattle.state.specs.View.{view_of}
use Rattle.state.specs.Promise.{SoundOf, ReadyOf}
use Rattle.state.specs.Entry.{InOrderOf, RightOf, size_in, of_part, record_view, HoldsOf, WholeOf, LeavesOf}

-- MIR's low byte is the number of packets.
pub size_told : {l : Layout} {w s q : List ℕ} → SoundOf l w s q → size_in w ≡ length s
unfolding word_of
size_told o = omega (arith, o.sets.free, part_few o.sets.part)

-- Of a record in order it is the part's, and there are 24 places.
module _ {l : Layout} {w s q : List ℕ} (h : HoldsOf l w s q) where
  pub places_told : length (of_part w s) ≡ size_in w
  places_told = sym (size_told h.ready.sound)

  pub names_part : IsPart (size_in w)
  names_part = subst IsPart places_told h.ready.sound.sets.part

  pub record_long : length s ≡ 24
  record_long =
      let a = ap length (take-append-drop (size_in w) s) in
      let b = length-append (of_part w s) (drop (size_in w) s) in
      let c = ap length h.rest ∙ length-replicate (24 - size_in w) 0 in
      omega (arith, a, b, c, places_told, part_few names_part)

  pub record_cut : s ≡ of_part w s ++ replicate (24 - size_in w) 0
  record_cut = sym (take-append-drop (size_in w) s) ∙ ap (λ (r : List ℕ). of_part w s ++ r) h.rest

-- What a step is lent of a record in order is in order.
pub lent_in_order : {l : Layout} {w s q mem : List ℕ} → WholeOf l w s q mem → InOrderOf l w (of_part w s) q mem
lent_in_order {l} h = record { ready = h.holds.ready; full = h.full ∙ ap (λ (n : ℕ). 256 * page_numbers l n) (sym (places_told h.holds)) }

-- And what it leaves, with nothing behind it, is a record in order: the places s of the part, and 0 behind them.
module _ {l : Layout} {w s q : List ℕ} (r : List ℕ) where
  cut_back : SoundOf l w s q → r ≡ s ++ replicate (24 - length s) 0 → (of_part w r ≡ s) × (drop (size_in w) r ≡ replicate (24 - size_in w) 0)
  cut_back o e =
      let n = size_told o in (
        ap₂ take n e ∙ take_at s (replicate (24 - length s) 0) (length s) refl,
        ap₂ drop n e ∙ drop_at s (replicate (24 - length s) 0) (length s) refl ∙ ap (λ (m : ℕ). replicate (24 - m) 0) (sym n),
      )

  pub holds_back : ReadyOf l w s q → r ≡ s ++ replicate (24 - length s) 0 → HoldsOf l w r q
  holds_back h e = let c = cut_back h.sound e in record { ready = subst (λ (x : List ℕ). ReadyOf l w x q) (sym c.0) h; rest = c.1 }

  pub whole_back : {mem : List ℕ} → InOrderOf l w s q mem → r ≡ s ++ replicate (24 - length s) 0 → WholeOf l w r q mem
  whole_back h e = record { holds = holds_back h.ready e; full = h.full ∙ ap (λ (n : ℕ). 256 * page_numbers l n) (sym (size_told h.ready.sound)) }

  pub view_back : {mem : List ℕ} → SoundOf l w s q → r ≡ s ++ replicate (24 - length s) 0 → record_view l w r q mem ≡ view_of l w s q mem
  view_back {mem} o e = ap (λ (x : List ℕ). view_of l w x q mem) (cut_back o e).0

  pub leaves_back : {t : Turn} {a : Answer} {mem out : List ℕ} → RightOf l t a w s q mem out → r ≡ s ++ replicate (24 - length s) 0 → LeavesOf l t a w r q mem out
  leaves_back h e = record { chip = view_back h.ready.ready.sound e ∙ h.chip; reply = h.reply; output = h.output; whole = whole_back h.ready e }

-- The places that a step leaves are as many as it was lent: the record's others stay, and are empty.
pub places_left : {l : Layout} {w s q : List ℕ} → HoldsOf l w s q → (left : List ℕ) → length left ≡ length (of_part w s) → left ++ drop (size_in w) s ≡ left ++ replicate (24 - length left) 0
places_left h left e = ap (λ (r : List ℕ). left ++ r) (h.rest ∙ ap (λ (n : ℕ). replicate (24 - n) 0) (sym (e ∙ places_told h)))

-- Nothing stands in an empty place.
pub zeros_at : (m i : ℕ) → ◌≡◌ {A = ℕ} (get_or (replicate m 0) i 0) 0
zeros_at zero i = refl
zeros_at (suc m) zero = refl
zeros_at (suc m) (suc i) = zeros_at m i

pub padded_at : (s : List ℕ) (m i : ℕ) → get_or (s ++ replicate m 0) i 0 ≡ get_or s i 0
padded_at [] m i = zeros_at m i
padded_at (x ∷ s) m zero = refl
padded_at (x ∷ s) m (suc i) = padded_at s m i

-- So a packet of a record has the pages that it has on the part, and no page more is owned.
none_owned_lem : (p m : ℕ) → owned p (map pages_of (replicate m 0)) ≡ false
unfolding owned member
none_owned_lem p zero = refl
none_owned_lem p (suc m) = ap₂ ◌||◌ (ap (member p) pages_none) (none_owned_lem p m)

pub padded_owned : (p : ℕ) (s : List ℕ) (m : ℕ) → owned p (map pages_of (s ++ replicate m 0)) ≡ owned p (map pages_of s)
unfolding owned
padded_owned p [] m = none_owned_lem p m
padded_owned p (x ∷ s) m = ap (λ (b : Bool). member p (pages_of x) || b) (padded_owned p s m)

pub padded_free : (n : ℕ) (s : List ℕ) (m : ℕ) → free_below n (map pages_of (s ++ replicate m 0)) ≡ free_below n (map pages_of s)
unfolding free_below
padded_free zero s m = refl
padded_free (suc n) s m = ap₂ (λ (l : List ℕ) (b : Bool). l ++ unless b n) (padded_free n s m) (padded_owned n s m)
