-- By the place: the law of the register that stands there; an arm with many keys gives the law for each of them.
use Rattle.std.specs.Prelude.{Err}
use borrow.Author.Rules.{rules}
use mathlib.Core.Path.{◌≡◌, refl, sym, subst, ◌∙◌}
use mathlib.Core.List.{List, [], ◌∷◌}
use Prim.Native.Nat.{ℕ}
use native.Mathlib.Omega.{arith}
use Rattle.rules.specs.Lists.{member}
use Rattle.rules.specs.Tests.{all_below}
use Rattle.rules.specs.Chip.{Layout}
use Rattle.rules.specs.Registers.{Lanes, lanes_at, register_at, read_register, access}
use Rattle.rules.specs.Registers as rules
use Rattle.state.specs.Meaning.{Answer}
use Rattle.state.specs.declared.Refusal.TheVariants.{NotModelled}
use Rattle.state.specs.Meaning.{width_of}
use Rattle.state.specs.View.{word, figures, view_of}
use Rattle.state.specs.Keys.{by_key, key_below, passed, in_some}
use Rattle.state.specs.Promise.{PagesIn, SoundOf, MakesOf, Does, does_makes}
use Rattle.state.specs.Laws.{register_in, Shows, reads_tcr, reads_ephsr, reads_rcr, reads_reserved, reads_control, reads_pointer, reads_packet, reads_station_0, reads_station_1, reads_station_2, reads_table_0, reads_table_1, reads_table_2, reads_table_3, reads_command, reads_bank, reads_unused, reads_absent}
use Rattle.registers.specs.Reading.{reads_mir, reads_heads, reads_interrupt}
use Rattle.accesses.specs.Reach.{place_below, read_there, answered}
use Rattle.accesses.specs.Places.{unused_left}
use Rattle.accesses.proofs.reads.read_register.Statement.{statement}
use Rattle.accesses.proofs.reads.read_register.Tie as tie

abbrev words : tie.Start → List ℕ
words s = s.args.words.now

abbrev queues : tie.Start → List ℕ
queues s = s.args.queues.now

abbrev lanes : tie.Start → Lanes
lanes s = lanes_at (width_of s.args.width) s.args.offset

-- the state with the packets' numbers n
sound : (s : tie.Start) {l : Layout} {n : List ℕ} → PagesIn l (figures (words s)) n → SoundOf l (words s) n (queues s)
sound s h = record { kept = s.requires.0; queues = s.requires.1; sets = h }

-- what is promised
abbrev Read : tie.Start → Answer → List ℕ → Type 0
Read s a w = (l : Layout) (n mem : List ℕ) → PagesIn l (figures (words s)) n
    → MakesOf l (access (rules.read (width_of s.args.width) s.args.offset) (view_of l (words s) n (queues s) mem)) a w n (queues s) mem

-- of the register at a place, where that is the place of the access
reached : (s : tie.Start) (k : ℕ) {a : Answer} {w : List ℕ} → s.args.at ≡ k
    → ((l : Layout) (n mem : List ℕ) → PagesIn l (figures (words s)) n → MakesOf l (read_register (register_in k) (lanes s) (view_of l (words s) n (queues s) mem)) a w n (queues s) mem) → Read s a w
reached s k {a} {w} e p l n mem h =
    read_there _ _ (words s) n (queues s) mem s.requires.0 s.requires.2
    (subst (λ (j : ℕ). MakesOf l (read_register (register_in j) (lanes s) (view_of l (words s) n (queues s) mem)) a w n (queues s) mem) (sym e ∙ s.requires.3) (p l n mem h))

-- a register that is read off the words
plain : (s : tie.Start) (k : ℕ) {a : Answer} {w : List ℕ} → s.args.at ≡ k → Does (read_register (register_in k) (lanes s)) (words s) a w → Read s a w
plain s k e d = reached s k e (λ l n mem h. does_makes d (sound s h) mem)

-- the keys of the arms, from the last to the first
abbrev arms : List (List ℕ)
arms =
    (5 ∷ 11 ∷ 17 ∷ 25 ∷ 27 ∷ [])
    ∷ (0 ∷ 2 ∷ 10 ∷ 12 ∷ 14 ∷ 16 ∷ 19 ∷ 24 ∷ 26 ∷ [])
    ∷ (9 ∷ 29 ∷ 33 ∷ 35 ∷ 37 ∷ [])
    ∷ (6 ∷ 8 ∷ 13 ∷ 28 ∷ 30 ∷ 32 ∷ 34 ∷ 36 ∷ 38 ∷ [])
    ∷ (7 ∷ 15 ∷ 23 ∷ 31 ∷ 39 ∷ 47 ∷ 55 ∷ 63 ∷ [])
    ∷ (1 ∷ [])
    ∷ (22 ∷ [])
    ∷ (18 ∷ [])
    ∷ (4 ∷ [])
    ∷ []

shared-slice-read-gives-3 : tie.Need-bounds-words-at
unfolding all_below
shared-slice-read-gives-3 c =
    let m = c in
    let s = c in
    let k = key_below 32 (0 ∷ 2 ∷ 10 ∷ 12 ∷ 14 ∷ 16 ∷ 19 ∷ 24 ∷ 26 ∷ []) _ refl m.in-0.is in
    omega (arith)

shared-slice-read-gives-4 : tie.Need-bounds-words-at-in-5
unfolding all_below
shared-slice-read-gives-4 c =
    let m = c in
    let s = c in
    let k = key_below 32 (5 ∷ 11 ∷ 17 ∷ 25 ∷ 27 ∷ []) _ refl m.in-5.is in
    omega (arith)

-- not modelled
returns : tie.Need-returns-in-6
unfolding register_in register_at
returns c =
    let s = c.before.before.before in
    let none = reads_absent (lanes s) (words s) s.requires.0 in
    plain s _ refl (by_key (λ (k : ℕ). Does (read_register (register_in k) (lanes s)) (words s) (Err NotModelled) (words s)) (6 ∷ 8 ∷ 13 ∷ 28 ∷ 30 ∷ 32 ∷ 34 ∷ 36 ∷ 38 ∷ []) _ c.in-6.is none none none none none none none none none)

returns-2 : tie.Need-returns-in-9
unfolding register_in register_at
returns-2 c =
    let s = c.before.before.before in
    let none = reads_absent (lanes s) (words s) s.requires.0 in
    plain s _ refl (by_key (λ (k : ℕ). Does (read_register (register_in k) (lanes s)) (words s) (Err NotModelled) (words s)) (9 ∷ 29 ∷ 33 ∷ 35 ∷ 37 ∷ []) _ c.in-9.is none none none none none)

-- MIR, and what is found for each read
returns-3 : tie.Need-returns-in-4
unfolding register_in register_at
returns-3 c =
    let m = c in
    let s = c.before.before.before.before.before in
    λ l n mem h. answered c.gives.ensures (reached s 4 m.in-4.is (λ i k x y. reads_mir (lanes s) _ _ _ (sound s y) x) l n mem h)

returns-4 : tie.Need-returns-in-18
unfolding register_in register_at
returns-4 c =
    let m = c in
    let s = c.before.before.before.before.before in
    λ l n mem h. answered c.gives-in-18.ensures (reached s 18 m.in-18.is (λ i k x y. reads_heads (lanes s) _ _ _ (sound s y) _ c.heads.ensures x) l n mem h)

returns-5 : tie.Need-returns-in-22
unfolding register_in register_at
returns-5 c =
    let m = c in
    let s = c.before.before.before.before.before in
    λ l n mem h. answered c.gives-in-22.ensures (reached s 22 m.in-22.is (λ i k x y. reads_interrupt (lanes s) _ _ _ (sound s y) _ c.interrupt.ensures x) l n mem h)

-- EPHSR, which shows the link
returns-6 : tie.Need-returns-in-1
unfolding register_in register_at
returns-6 c =
    let m = c in
    let s = c.before.before.before.before.before in
    let shown = subst (Shows rules.EPHSR (lanes s) (words s)) (sym c.ephsr.ensures) (reads_ephsr (lanes s) (words s) s.requires.0) in
    λ l n mem h. answered c.gives-in-1.ensures (plain s 1 m.in-1.is shown l n mem h)

-- the bank
returns-7 : tie.Need-returns-in-7
unfolding register_in register_at
returns-7 c =
    let m = c in
    let s = c.before.before.before.before.before in
    let bank = reads_bank (lanes s) (words s) s.requires.0 in
    let shown = by_key (λ (k : ℕ). Shows (register_in k) (lanes s) (words s) (word (words s) 7)) (7 ∷ 15 ∷ 23 ∷ 31 ∷ 39 ∷ 47 ∷ 55 ∷ 63 ∷ []) _ m.in-7.is bank bank bank bank bank bank bank bank in
    λ l n mem h. answered c.gives-in-7.ensures (plain s _ refl shown l n mem h)

-- the words
returns-8 : tie.Need-returns-in-0
unfolding register_in register_at
returns-8 c =
    let m = c in
    let s = c.before.before.before.before.before in
    let p = lanes s in
    let w = words s in
    let k = s.requires.0 in
    let shown = by_key (λ (j : ℕ). Shows (register_in j) p w (word w j)) (0 ∷ 2 ∷ 10 ∷ 12 ∷ 14 ∷ 16 ∷ 19 ∷ 24 ∷ 26 ∷ []) _ m.in-0.is
    (reads_tcr p w k) (reads_rcr p w k) (reads_station_0 p w k) (reads_station_2 p w k) (reads_control p w k) (reads_command p w k) (reads_pointer p w k) (reads_table_0 p w k) (reads_table_2 p w k) in
    λ l n mem h. answered c.gives-in-0.ensures (plain s _ refl shown l n mem h)

returns-9 : tie.Need-returns-in-5
unfolding register_in register_at
returns-9 c =
    let m = c in
    let s = c.before.before.before.before.before in
    let p = lanes s in
    let w = words s in
    let k = s.requires.0 in
    let shown = by_key (λ (j : ℕ). Shows (register_in j) p w (word w j)) (5 ∷ 11 ∷ 17 ∷ 25 ∷ 27 ∷ []) _ m.in-5.is
    (reads_reserved p w k) (reads_station_1 p w k) (reads_packet p w k) (reads_table_1 p w k) (reads_table_3 p w k) in
    λ l n mem h. answered c.gives-in-5.ensures (plain s _ refl shown l n mem h)

-- banks 5 to 7
returns-10 : tie.Need-returns-in_default
unfolding passed in_some member
returns-10 c =
    let m = c in
    let s = c.before.before.before.before in
    let unused = unused_left ((3 ∷ []) ∷ arms) refl s.args.at (omega (arith, s.requires.3, place_below _ _ (words s) s.requires.0 s.requires.2)) s.requires.4 (m.in_default.in_default-own.rest, s.requires.5) in
    λ l n mem h. answered c.gives-in_default.ensures (plain s _ refl (subst (λ (x : rules.Register). Shows x (lanes s) (words s) 0x3333) (sym unused) (reads_unused (lanes s) (words s) s.requires.0)) l n mem h)

pub read_register_spec : {M : Type 1} → statement M
read_register_spec =
    tie.close
    (tie.spec
    (λ c. search rules)
    (λ c κs. search rules)
    (λ c κs. let s = c.before.before.before in (s.requires.0, s.requires.1))
    (λ c κs. search rules)
    (λ c κs. let s = c.before.before.before in (s.requires.0, (queues s, s.requires.1)))
    (λ c κs. search rules)
    (λ c κs. c.requires.0)
    (λ c κs. search rules)
    (λ c. search rules)
    (λ c κs. search rules)
    returns
    returns-2
    (λ c. search rules)
    shared-slice-read-gives-3
    (λ c κs. search rules)
    (λ c. search rules)
    shared-slice-read-gives-4
    (λ c κs. search rules)
    (λ c κs. search rules)
    returns-3
    returns-4
    returns-5
    returns-6
    returns-7
    returns-8
    returns-9
    returns-10)
