-- By the place: the law of the register that stands there; an arm with many keys gives the law for each of them.
use Rattle.std.specs.Prelude.{Ok, Err}
use borrow.Author.Rules.{rules}
use mathlib.Core.Path.{◌≡◌, refl, sym, subst, ◌∙◌}
use mathlib.Core.List.{List, [], ◌∷◌}
use Prim.Native.Nat.{ℕ}
use native.Mathlib.Omega.{arith}
use types.Run.{OneOf}
use Rattle.rules.specs.Chip.{Layout}
use Rattle.rules.specs.Lists.{member}
use Rattle.rules.specs.Tests.{all_below}
use Rattle.rules.specs.Registers as rules
use Rattle.rules.specs.Registers.{Lanes, lanes_at, register_at, write_register, access}
use Rattle.state.specs.Meaning.{Answer}
use Rattle.state.specs.declared.Refusal.TheVariants.{NotModelled, ReadOnly}
use Rattle.state.specs.Meaning.{width_of}
use Rattle.state.specs.View.{figures, view_of}
use Rattle.state.specs.Keys.{by_key, key_below, passed, in_some}
use Rattle.state.specs.Promise.{PagesIn, SoundOf, MakesOf, Does, does_makes}
use Rattle.state.specs.Laws.{register_in}
use Rattle.state.specs.Writes.{Plain, writes_pointer, writes_station_0, writes_station_1, writes_station_2, writes_table_0, writes_table_1, writes_table_2, writes_table_3, writes_ephsr, writes_ecr, writes_mir, writes_heads, writes_unused, writes_absent}
use Rattle.accesses.specs.Reach.{place_below, write_there}
use Rattle.accesses.specs.Places.{unused_left}
use Rattle.accesses.proofs.writes.write_register.Statement.{statement}
use Rattle.accesses.proofs.writes.write_register.Tie as tie

abbrev words : tie.Start → List ℕ
words s = s.args.words.now

abbrev queues : tie.Start → List ℕ
queues s = s.args.queues.now

abbrev lanes : tie.Start → Lanes
lanes s = lanes_at (width_of s.args.width) s.args.offset

-- the state with the packets' numbers n
sound : (s : tie.Start) {l : Layout} {n : List ℕ} → PagesIn l (figures (words s)) n → SoundOf l (words s) n (queues s)
sound s h = record { kept = s.requires.0; queues = s.requires.1; sets = h }

-- what is promised, with the queues q after it
abbrev Wrote : tie.Start → Answer → List ℕ → List ℕ → Type 0
Wrote s a w q = (l : Layout) (n mem : List ℕ) → PagesIn l (figures (words s)) n
    → MakesOf l (access (rules.write (width_of s.args.width) s.args.offset s.args.value) (view_of l (words s) n (queues s) mem)) a w n q mem

-- of the register at a place, where that is the place of the access
reached : (s : tie.Start) (k : ℕ) {a : Answer} {w q : List ℕ} → s.args.at ≡ k
    → ((l : Layout) (n mem : List ℕ) → PagesIn l (figures (words s)) n → MakesOf l (write_register (register_in k) (lanes s) s.args.value (view_of l (words s) n (queues s) mem)) a w n q mem) → Wrote s a w q
reached s k {a} {w} {q} e p l n mem h =
    write_there _ _ (words s) n (queues s) mem s.requires.0 _ s.requires.2
    (subst (λ (j : ℕ). MakesOf l (write_register (register_in j) (lanes s) s.args.value (view_of l (words s) n (queues s) mem)) a w n q mem) (sym e ∙ s.requires.3) (p l n mem h))

-- a register that is written in the words alone
plain : (s : tie.Start) (k : ℕ) {a : Answer} {w : List ℕ} → s.args.at ≡ k → Does (write_register (register_in k) (lanes s) s.args.value) (words s) a w → Wrote s a w (queues s)
plain s k e d = reached s k e (λ l n mem h. does_makes d (sound s h) mem)

-- the keys of the arms, from the last to the first
abbrev arms : List (List ℕ)
arms =
    (11 ∷ 25 ∷ 27 ∷ [])
    ∷ (10 ∷ 12 ∷ 19 ∷ 24 ∷ 26 ∷ [])
    ∷ (9 ∷ 29 ∷ 33 ∷ 35 ∷ 37 ∷ [])
    ∷ (6 ∷ 8 ∷ 13 ∷ 28 ∷ 30 ∷ 32 ∷ 34 ∷ 36 ∷ 38 ∷ [])
    ∷ (4 ∷ [])
    ∷ (1 ∷ 3 ∷ 18 ∷ [])
    ∷ (7 ∷ 15 ∷ 23 ∷ 31 ∷ 39 ∷ 47 ∷ 55 ∷ 63 ∷ [])
    ∷ (22 ∷ [])
    ∷ (17 ∷ [])
    ∷ (14 ∷ [])
    ∷ (5 ∷ [])
    ∷ (0 ∷ [])
    ∷ []

-- the registers that are words
words-even : (k : ℕ) → OneOf (10 ∷ 12 ∷ 19 ∷ 24 ∷ 26 ∷ []) k → Plain (register_in k) k
unfolding register_in register_at
words-even k o =
    by_key (λ (j : ℕ). Plain (register_in j) j) (10 ∷ 12 ∷ 19 ∷ 24 ∷ 26 ∷ []) k o writes_station_0 writes_station_2 writes_pointer writes_table_0 writes_table_2

words-odd : (k : ℕ) → OneOf (11 ∷ 25 ∷ 27 ∷ []) k → Plain (register_in k) k
unfolding register_in register_at
words-odd k o = by_key (λ (j : ℕ). Plain (register_in j) j) (11 ∷ 25 ∷ 27 ∷ []) k o writes_station_1 writes_table_1 writes_table_3

write-word-requires : tie.Need-write_word-requires
unfolding all_below
write-word-requires c κs =
    let m = c in
    let s = c in
    let o = m.in-10.is in
    (s.requires.0, key_below 32 (10 ∷ 12 ∷ 19 ∷ 24 ∷ 26 ∷ []) _ refl o, (register_in s.args.at, words-even s.args.at o))

write-word-requires-2 : tie.Need-write_word-requires-in-11
unfolding all_below
write-word-requires-2 c κs =
    let m = c in
    let s = c in
    let o = m.in-11.is in
    (s.requires.0, key_below 32 (11 ∷ 25 ∷ 27 ∷ []) _ refl o, (register_in s.args.at, words-odd s.args.at o))

-- registers with a function of their own
returns : tie.Need-returns-in-0
unfolding register_in register_at
returns c =
    let r = c in
    let m = c in
    let s = c.before.before.before.before.before.before.before in
    (plain s 0 m.in-0.is r.write_tcr.ensures, (r.write_tcr.ensures.kept.whole, s.requires.1.long))

returns-2 : tie.Need-returns-in-5
unfolding register_in register_at
returns-2 c =
    let r = c in
    let m = c in
    let s = c.before.before.before.before.before.before.before in
    (plain s 5 m.in-5.is r.write_reserved.ensures, (r.write_reserved.ensures.kept.whole, s.requires.1.long))

returns-3 : tie.Need-returns-in-14
unfolding register_in register_at
returns-3 c =
    let r = c in
    let m = c in
    let s = c.before.before.before.before.before.before.before in
    (plain s 14 m.in-14.is r.write_control.ensures, (r.write_control.ensures.kept.whole, s.requires.1.long))

returns-4 : tie.Need-returns-in-17
unfolding register_in register_at
returns-4 c =
    let r = c in
    let m = c in
    let s = c.before.before.before.before.before.before.before in
    (plain s 17 m.in-17.is r.write_packet.ensures, (r.write_packet.ensures.kept.whole, s.requires.1.long))

returns-5 : tie.Need-returns-in-22
unfolding register_in register_at
returns-5 c =
    let r = c in
    let m = c in
    let s = c.before.before.before.before.before.before.before.before.before.before in
    let e = r.write_interrupt.ensures in
    (reached s 22 m.in-22.is e.0, e.1)

returns-6 : tie.Need-returns-in-7
unfolding register_in register_at
returns-6 c =
    let r = c in
    let m = c in
    let s = c.before.before.before.before.before.before.before in
    let bank = by_key (λ (k : ℕ). rules.BANK ≡ register_in k) (7 ∷ 15 ∷ 23 ∷ 31 ∷ 39 ∷ 47 ∷ 55 ∷ 63 ∷ []) _ m.in-7.is refl refl refl refl refl refl refl refl in
    (plain s _ refl (subst (λ (x : rules.Register). Does (write_register x (lanes s) s.args.value) (words s) r.write_bank.result r.write_bank.new.words) bank r.write_bank.ensures), (r.write_bank.ensures.kept.whole, s.requires.1.long))

-- refused
returns-7 : tie.Need-returns-in-1
unfolding register_in register_at
returns-7 c =
    let s = c.before.before.before in
    let p = lanes s in
    let v = s.args.value in
    let w = words s in
    let k = s.requires.0 in
    (plain s _ refl (by_key (λ (j : ℕ). Does (write_register (register_in j) p v) w (Err ReadOnly) w) (1 ∷ 3 ∷ 18 ∷ []) _ c.in-1.is (writes_ephsr p v w k) (writes_ecr p v w k) (writes_heads p v w k)), (k.whole, s.requires.1.long))

returns-8 : tie.Need-returns-in-4
unfolding register_in register_at
returns-8 c =
    let s = c.before.before.before in
    let w = words s in
    (plain s _ refl (by_key (λ (j : ℕ). Does (write_register (register_in j) (lanes s) s.args.value) w (Err ReadOnly) w) (4 ∷ []) _ c.in-4.is (writes_mir (lanes s) s.args.value w s.requires.0)), (s.requires.0.whole, s.requires.1.long))

returns-9 : tie.Need-returns-in-6
unfolding register_in register_at
returns-9 c =
    let s = c.before.before.before in
    let w = words s in
    let u = writes_absent (lanes s) s.args.value w s.requires.0 in
    (plain s _ refl (by_key (λ (j : ℕ). Does (write_register (register_in j) (lanes s) s.args.value) w (Err NotModelled) w) (6 ∷ 8 ∷ 13 ∷ 28 ∷ 30 ∷ 32 ∷ 34 ∷ 36 ∷ 38 ∷ []) _ c.in-6.is u u u u u u u u u), (s.requires.0.whole, s.requires.1.long))

returns-10 : tie.Need-returns-in-9
unfolding register_in register_at
returns-10 c =
    let s = c.before.before.before in
    let w = words s in
    let u = writes_absent (lanes s) s.args.value w s.requires.0 in
    (plain s _ refl (by_key (λ (j : ℕ). Does (write_register (register_in j) (lanes s) s.args.value) w (Err NotModelled) w) (9 ∷ 29 ∷ 33 ∷ 35 ∷ 37 ∷ []) _ c.in-9.is u u u u u), (s.requires.0.whole, s.requires.1.long))

-- the words
returns-11 : tie.Need-returns-in-10
returns-11 c =
    let r = c in
    let m = c in
    let s = c.before.before.before.before.before.before.before in
    let d = r.write_word.ensures.0 (register_in s.args.at) (words-even s.args.at m.in-10.is) in
    (plain s _ refl d, (d.kept.whole, s.requires.1.long))

returns-12 : tie.Need-returns-in-11
returns-12 c =
    let r = c in
    let m = c in
    let s = c.before.before.before.before.before.before.before in
    let d = r.write_word-in-11.ensures.0 (register_in s.args.at) (words-odd s.args.at m.in-11.is) in
    (plain s _ refl d, (d.kept.whole, s.requires.1.long))

-- banks 5 to 7
returns-13 : tie.Need-returns-in_default
unfolding passed in_some member
returns-13 c =
    let s = c.before.before.before in
    let below = place_below _ _ (words s) s.requires.0 s.requires.2 in
    let unused = unused_left ((2 ∷ []) ∷ (16 ∷ []) ∷ arms) refl s.args.at (omega (arith, s.requires.3, below)) s.requires.4 ((c.in_default.in_default-own.rest, s.requires.6), s.requires.5) in
    (plain s _ refl (subst (λ (x : rules.Register). Does (write_register x (lanes s) s.args.value) (words s) (Ok 0) (words s)) (sym unused) (writes_unused (lanes s) s.args.value (words s) s.requires.0)), (s.requires.0.whole, s.requires.1.long))

pub write_register_spec : {M : Type 1} → statement M
write_register_spec =
    tie.close
    (tie.spec
    (λ c κs. c.requires.0)
    (λ c κs. let s = c.before.before.before.before in (s.requires.0, s.requires.2))
    (λ c κs. c.requires.0)
    (λ c κs. let s = c.before.before.before.before in (s.requires.0, s.requires.2))
    (λ c κs. let s = c.before.before.before.before.before in (s.requires.0, s.requires.1, s.requires.2, s.requires.7))
    (λ c κs. let s = c.before.before.before.before in (s.requires.0, s.requires.2))
    write-word-requires
    write-word-requires-2
    (λ c. search rules)
    returns
    (λ c. search rules)
    returns-2
    (λ c. search rules)
    returns-3
    (λ c. search rules)
    returns-4
    (λ c. search rules)
    (λ c. search rules)
    returns-5
    (λ c. search rules)
    returns-6
    returns-7
    returns-8
    returns-9
    returns-10
    (λ c. search rules)
    returns-11
    (λ c. search rules)
    returns-12
    returns-13)
