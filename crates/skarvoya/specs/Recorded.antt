-- From what the bench's step, power-up and the printed line promise to what a record promises.
use Rattle.std.specs.Prelude.{◌≡◌, refl, Bool, true, false, cond, List, [], ◌++◌, ℕ, ◌+◌, ◌*◌, ◌-◌, ◌≤◌, ◌<◌, eqb, ltb, length, take, drop, replicate, Ok, Err}
use Rattle.std.proofs.Common.{ap, ap₂, sym, subst, ◌∙◌, arith, lt-ltb, ne_eqb, eq-eqb, length-append, length-drop, length-take-le, take_all, take_at, drop_at}
use Rattle.std.proofs.lemmas.List.{length-replicate}
use Rattle.std.proofs.Math.Seq.{drop-append-add}
use Rattle.rules.specs.Parts.{IsPart}
use Rattle.rules.specs.Chip.{paged}
use Rattle.rules.specs.Answers.{refusal, done}
use Rattle.rules.specs.Bench.{Event, unknown, event_of, Bench, Answered, answer, asks_for, started_as, answer_first, answer_to}
use Rattle.lists.specs.Written.{Writes}
use Rattle.wellformed.specs.Parts.{part_some, part_few}
use Rattle.records.specs.Gathers.{holding}
use Rattle.state.specs.Meaning.{Answer}
use Rattle.state.specs.declared.Refusal.TheVariants.{CutShort}
use Rattle.state.specs.View.{view}
use Rattle.state.specs.Entry.{InOrder, Whole, size_in, record_view, zeros}
use Rattle.state.specs.Places.{size_told, places_told, names_part, record_long, lent_in_order, holds_back, view_back, places_left}
use Rattle.turns.specs.Turns.{Held, Turns}
use Rattle.turns.specs.Served.{asked, asked_short, asked_whole}
use Rattle.lent.specs.Lent.{told, StartsPart}
use Rattle.skarvoya.specs.Records.{of_memory, behind_memory, bench_of, BenchHeld, part_started, TurnsBench, RefusesRecord}

-- A refusal of what was lent, by which nothing changes.
pub refuses_record : {k n : ℕ} {w s q mem wire : List ℕ} {have : ℕ} {out : List ℕ} {count : ℕ} {line : List ℕ} → n ≡ told (refusal k) → RefusesRecord k w s q mem wire have out count line n w s q mem wire have out count line 0
refuses_record e = record { returned = e; words = refl; sets = refl; queues = refl; memory = refl; gathered = refl; many = refl; output = refl; counted = refl; printed = refl; none = refl }

-- Of a record the first eight bytes count: where there are fewer it is cut short,
pub cut_short : (bytes : List ℕ) → length bytes < 8 → asked (take 8 bytes) ≡ unknown
cut_short bytes h = asked_short (take 8 bytes) (omega (arith, ap length (take_all 8 bytes (omega arith)), h))

-- else it asks for what these say.
pub whole : (bytes : List ℕ) → 8 ≤ length bytes → asked (take 8 bytes) ≡ event_of (take 8 bytes)
whole bytes h = asked_whole (take 8 bytes) (omega (arith, length-take-le 8 bytes h))

-- A bench in order, of which the step is lent the first n places and 256 n bytes, those of the part: it leaves `left` and `kept` in these, and what is behind them stays.
module _ {w s q mem wire : List ℕ} {have : ℕ} (h : BenchHeld w s q mem wire have) {n : ℕ} (e : n ≡ size_in w) where
  few : n ≤ 24
  few = omega (arith, e, part_few (names_part h.chip))

  pub places_fit : n ≤ length s
  places_fit = omega (arith, few, record_long h.chip)

  pub places_count : n ≡ length (take n s)
  places_count = sym (length-take-le n s places_fit)

  pub bytes_fit : 256 * n ≤ length mem
  bytes_fit = omega (arith, few, h.full)

  pub bytes_count : 256 * n ≡ length (take (256 * n) mem)
  bytes_count = sym (length-take-le (256 * n) mem bytes_fit)

  pub lent_bench : Held w (take n s) q (take (256 * n) mem) wire have
  lent_bench =
      let full : Whole w s q (take (256 * size_in w) mem) = record { holds = h.chip; full = length-take-le (256 * size_in w) mem (omega (arith, bytes_fit, e)) } in
      record {
        chip = subst (λ (m : ℕ). InOrder w (take m s) q (take (256 * m) mem)) (sym e) (lent_in_order full);
        room = h.room;
        few = h.few;
      }

  pub leaves_bench : (i : Event) (out left kept : List ℕ) {a : Answer} {w' q' wire' : List ℕ} {have' : ℕ} {out' : List ℕ} → length left ≡ n
      → Turns (answer i (holding (view w (take n s) q (take (256 * n) mem)) (take have wire) out)) a w' left q' kept wire' have' out'
      → TurnsBench (answer i (bench_of w s q mem wire have out)) mem a w' (left ++ drop n s) q' (kept ++ drop (256 * n) mem) wire' have' out'
  leaves_bench i out left kept {a} {w'} {q'} {wire'} {have'} {out'} many given =
      let t : Turns (answer i (bench_of w s q mem wire have out)) a w' left q' kept wire' have' out' = subst (λ (m : ℕ). Turns (answer i (holding (view w (take m s) q (take (256 * m) mem)) (take have wire) out)) a w' left q' kept wire' have' out') e given in
      let o = t.held.chip.ready.sound in
      let size : size_in w' ≡ n = size_told o ∙ many in
      let row : left ++ drop n s ≡ left ++ replicate (24 - length left) 0 = ap (λ (m : ℕ). left ++ drop m s) e ∙ places_left h.chip left (many ∙ e ∙ sym (places_told h.chip)) in
      let long : length kept ≡ 256 * size_in w' = t.held.chip.full ∙ ap (λ (m : ℕ). 256 * m) (sym (size_told o)) in
      let rest = drop (256 * n) mem in
      let front : of_memory w' (kept ++ rest) ≡ kept = take_at kept rest (256 * size_in w') long in
      record {
        reply = t.reply;
        bench = ap (λ (m : List ℕ). holding (record_view paged w' (left ++ drop n s) q' m) (take have' wire') out') front ∙ ap (λ c. holding c (take have' wire') out') (view_back (left ++ drop n s) {mem = kept} o row) ∙ t.bench;
        held = record {
          chip = holds_back (left ++ drop n s) t.held.chip.ready row;
          full = omega (arith, length-append kept rest, length-drop (256 * n) mem, long, size, bytes_fit, h.full);
          room = t.held.room;
          few = t.held.few;
        };
        rest = drop_at kept rest (256 * size_in w') long ∙ ap (λ (m : ℕ). drop (256 * m) mem) (sym size);
      }

-- A record cut short leaves all.
pub cut_turns : {w s q mem wire : List ℕ} {have : ℕ} (h : BenchHeld w s q mem wire have) (out : List ℕ) {i : Event} → i ≡ unknown → TurnsBench (answer i (bench_of w s q mem wire have out)) mem (Err CutShort) w s q mem wire have out
unfolding answer
cut_turns h out e = rw e (record { reply = refl; bench = refl; held = h; rest = refl })

-- The part that a record starts: a later one starts none, nor one that is cut short; the first starts the one that it asks for.
pub later_none : (number : ℕ) (e : Event) → (number ≡ 1 → ⊥) → 0 ≡ part_started number e
later_none number e h = sym (ap (λ (t : Bool). cond t (asks_for e) 0) (ne_eqb number 1 h))

pub short_none : (number : ℕ) {e : Event} → e ≡ unknown → 0 ≡ part_started number e
unfolding asks_for
short_none number {e} u = rw u (go (eqb number 1))
  where
    go : (t : Bool) → ◌≡◌ {A = ℕ} 0 (cond t 0 0)
    go true = refl
    go false = refl

pub first_asks : (number : ℕ) {k : ℕ} (e : Event) → number ≡ 1 → k ≡ asks_for e → k ≡ part_started number e
first_asks number e one a = a ∙ sym (ap (λ (t : Bool). cond t (asks_for e) 0) (eq-eqb number 1 one))

-- So the answer by its number is that of the part that starts, and where none starts the number does not count.
answered_starts : (number : ℕ) (e : Event) (b : Bench) → 0 < part_started number e → answer_to number e b ≡ record { reply = done; after = started_as (part_started number e) b }
unfolding answer_to answer_first
answered_starts number e b = go (eqb number 1)
  where
    go : (t : Bool) → 0 < cond t (asks_for e) 0 → cond t (cond (ltb 0 (asks_for e)) (record { reply = done; after = started_as (asks_for e) b }) (answer e b)) (answer e b) ≡ record { reply = done; after = started_as (cond t (asks_for e) 0) b }
    go true h = rw (lt-ltb 0 (asks_for e) h)
    go false h = absurd (omega (arith, h))

answered_others : (number : ℕ) (e : Event) (b : Bench) → part_started number e ≡ 0 → answer_to number e b ≡ answer e b
unfolding answer_to answer_first
answered_others number e b = go (eqb number 1)
  where
    go : (t : Bool) → cond t (asks_for e) 0 ≡ 0 → cond t (cond (ltb 0 (asks_for e)) (record { reply = done; after = started_as (asks_for e) b }) (answer e b)) (answer e b) ≡ answer e b
    go true h = rw h
    go false h = refl

-- No part starts: the record is answered as any other.
pub starts_none : (number : ℕ) (e : Event) (b : Bench) {mem : List ℕ} {a : Answer} {w s q mem' wire : List ℕ} {have : ℕ} {out : List ℕ} → 0 ≡ part_started number e → TurnsBench (answer e b) mem a w s q mem' wire have out → TurnsBench (answer_to number e b) mem a w s q mem' wire have out
starts_none number e b {mem} {a} {w} {s} {q} {mem'} {wire} {have} {out} none = subst (λ (x : Answered). TurnsBench x mem a w s q mem' wire have out) (sym (answered_others number e b (sym none)))

-- The part with k packets starts, in the first bytes of the memory.
module _ {w s q mem wire : List ℕ} {have : ℕ} (h : BenchHeld w s q mem wire have) {k : ℕ} (p : IsPart k) where
  pub part_room : 256 * k ≤ length mem
  part_room = omega (arith, part_few p, h.full)

  starts_bench : (out : List ℕ) {w' s' q' mem' : List ℕ} → StartsPart k mem w' s' q' mem' → TurnsBench (record { reply = done; after = started_as k (bench_of w s q mem wire have out) }) mem (Ok 0) w' s' q' mem' wire 0 out
  starts_bench out {w'} {s'} {q'} {mem'} x =
      let zero = length-replicate {A = ℕ} (256 * k) 0 in
      let size : k ≡ size_in w' = omega (arith, zero, x.state.whole.full) in
      let long : length (zeros paged k) ≡ 256 * size_in w' = x.state.whole.full in
      let rest = drop (256 * k) mem in
      let front : of_memory w' mem' ≡ zeros paged k = ap (of_memory w') x.memory ∙ take_at (zeros paged k) rest (256 * size_in w') long in
      record {
        reply = refl;
        bench = ap (λ (m : List ℕ). holding (record_view paged w' s' q' m) [] out) front ∙ ap (λ c. holding c [] out) x.state.chip;
        held = record {
          chip = x.state.whole.holds;
          full = omega (arith, ap length x.memory, length-append (zeros paged k) rest, length-drop (256 * k) mem, zero, part_room, h.full);
          room = h.room;
          few = omega arith;
        };
        rest = ap (behind_memory w') x.memory ∙ drop_at (zeros paged k) rest (256 * size_in w') long ∙ ap (λ (m : ℕ). drop (256 * m) mem) size;
      }

  pub starts_part : (number : ℕ) (e : Event) → k ≡ part_started number e → (out : List ℕ) {w' s' q' mem' : List ℕ} → StartsPart k mem w' s' q' mem' → TurnsBench (answer_to number e (bench_of w s q mem wire have out)) mem (Ok 0) w' s' q' mem' wire 0 out
  starts_part number e same out {w'} {s'} {q'} {mem'} x =
      let b = bench_of w s q mem wire have out in
      let told = answered_starts number e b (omega (arith, part_some p, same)) ∙ ap (λ (m : ℕ). record { reply = done; after = started_as m b }) (sym same) in
      subst (λ (y : Answered). TurnsBench y mem (Ok 0) w' s' q' mem' wire 0 out) (sym told) (starts_bench out x)

-- What is written to the front of a buffer leaves the rest of it.
pub rest_stays : {before text after : List ℕ} {end : ℕ} → Writes before 0 text after end → drop end after ≡ drop end before
rest_stays {before} {text} {after} {end} w =
    let n = length text in
    let e : end ≡ n + 0 = omega (arith, w.place) in
    ap₂ drop e w.buffer ∙ drop-append-add text (drop (0 + n) before) 0 ∙ ap (λ (k : ℕ). drop k before) (sym w.place)
