-- Each function that C links leaves one result: for what was lent, one number is returned, and one state, memory, buffers and counts are left, but for bytes that nobody reads: those of
-- the wire buffer behind the gathered ones.
use Rattle.std.specs.Prelude.{◌≡◌, List, [], ◌++◌, ℕ, ◌+◌, ◌*◌, ◌≤◌, length, take, drop}
use Rattle.std.proofs.Common.{ap, ap₂, sym, ◌∙◌, arith, take-append-drop}
use Rattle.std.proofs.Math.Decide.{ℕ_discrete, dec_le}
use Rattle.rules.specs.Parts.{part_named}
use Rattle.rules.specs.Chip.{paged}
use Rattle.rules.specs.Step.{Input}
use Rattle.rules.specs.Bench.{Bench, Answered}
use Rattle.state.specs.Meaning.{Answer}
use Rattle.state.specs.Meaning.{reply_of}
use Rattle.state.specs.Entry.{size_in, Holds}
use Rattle.state.proofs.Only.{one_record, only, started_once}
use Rattle.state.specs.Decided.{holds?}
use Rattle.turns.specs.Once.{same_place, Same}
use Rattle.lent.specs.Lent.{told, Sized, LongAs}
use Rattle.skarvoya.specs.Calls.{Calls, Refuses, PowersUp, ShowsLine}
use Rattle.skarvoya.specs.Records.{of_memory, behind_memory, BenchInOrder, Roomy, TurnsBench, ServesNext, RefusesRecord, AnswersRecord}

-- An access, a frame, a send, a link event.
pub calls_once : (i : Input) (w s q mem : List ℕ) {n n' : ℕ} {w₁ s₁ q₁ mem₁ out₁ w₂ s₂ q₂ mem₂ out₂ : List ℕ} → Calls i w s q mem n w₁ s₁ q₁ mem₁ out₁ → Calls i w s q mem n' w₂ s₂ q₂ mem₂ out₂
    → (n ≡ n') × (w₁ ≡ w₂) × (s₁ ≡ s₂) × (q₁ ≡ q₂) × (mem₁ ≡ mem₂) × (out₁ ≡ out₂)
calls_once i w s q mem x y =
    let e = only i w s q mem x.entry y.entry in
    (x.returned ∙ ap (λ a. told (reply_of a)) e.0 ∙ sym y.returned, e.1, e.2, e.3, e.4, e.5)

-- Both or not.
both? : {P Q : Type 0} → Dec P → Dec Q → Dec (P × Q)
both? (yes p) (yes q) = yes (p, q)
both? (yes p) (no n) = no (λ x. n x.1)
both? (no n) d = no (λ x. n x.0)

sized? : (w s q : List ℕ) → Dec (Sized w s q)
sized? w s q = go (both? (ℕ_discrete (length w) 32) (both? (ℕ_discrete (length s) 24) (ℕ_discrete (length q) 72)))
  where
    go : Dec ((length w ≡ 32) × ((length s ≡ 24) × (length q ≡ 72))) → Dec (Sized w s q)
    go (yes x) = yes (record { words = x.0; sets = x.1.0; queues = x.1.1 })
    go (no n) = no (λ x. n (x.words, (x.sets, x.queues)))

-- Power-up.
pub powers_up_once : (x : ℕ) (w s q mem : List ℕ) {n n' : ℕ} {w₁ s₁ q₁ mem₁ w₂ s₂ q₂ mem₂ : List ℕ} → PowersUp x w s q mem n w₁ s₁ q₁ mem₁ → PowersUp x w s q mem n' w₂ s₂ q₂ mem₂
    → (n ≡ n') × (w₁ ≡ w₂) × (s₁ ≡ s₂) × (q₁ ≡ q₂) × (mem₁ ≡ mem₂)
powers_up_once x w s q mem {n} {n'} {w₁} {s₁} {q₁} {mem₁} {w₂} {s₂} {q₂} {mem₂} u v = go (dec_le 1 (part_named x)) (both? (sized? w s q) (ℕ_discrete (length mem) (256 * part_named x)))
  where
    refusing : (k : ℕ) → Refuses k w s q mem n w₁ s₁ q₁ mem₁ → Refuses k w s q mem n' w₂ s₂ q₂ mem₂ → (n ≡ n') × (w₁ ≡ w₂) × (s₁ ≡ s₂) × (q₁ ≡ q₂) × (mem₁ ≡ mem₂)
    refusing k a b = (a.returned ∙ sym b.returned, a.words ∙ sym b.words, a.sets ∙ sym b.sets, a.queues ∙ sym b.queues, a.memory ∙ sym b.memory)

    go : Dec (1 ≤ part_named x) → Dec (LongAs (part_named x) w s q mem) → (n ≡ n') × (w₁ ≡ w₂) × (s₁ ≡ s₂) × (q₁ ≡ q₂) × (mem₁ ≡ mem₂)
    go (yes h) (yes z) =
        let a = u.started h z in
        let b = v.started h z in
        let e = started_once a.0 b.0 in
        (a.2 ∙ sym b.2, e.1, e.2, e.3, a.1 ∙ sym b.1)
    go (yes h) (no z) = refusing 16 (u.refused h z) (v.refused h z)
    go (no h) d =
        let none : part_named x ≡ 0 = omega arith in
        refusing 11 (u.unknown none) (v.unknown none)

-- The line.
pub shows_line_once : (w s q : List ℕ) {n n' : ℕ} → ShowsLine w s q n → ShowsLine w s q n' → n ≡ n'
shows_line_once w s q {n} {n'} x y = go (holds? paged w s q)
  where
    go : Dec (Holds w s q) → n ≡ n'
    go (yes o) = x.up o [] ∙ sym (y.up o [])
    go (no z) = x.refused z ∙ sym (y.refused z)

bench? : (w s q mem wire : List ℕ) (have count : ℕ) → Dec (BenchInOrder w s q mem wire have count)
bench? w s q mem wire have count = go (both? (holds? paged w s q) (both? (ℕ_discrete (length mem) 6144) (both? (ℕ_discrete (length wire) 2048) (both? (dec_le have 2048) (dec_le (count + 1) 0xffffffffffffffff)))))
  where
    go : Dec (Holds w s q × ((length mem ≡ 6144) × ((length wire ≡ 2048) × ((have ≤ 2048) × (count + 1 ≤ 0xffffffffffffffff))))) → Dec (BenchInOrder w s q mem wire have count)
    go (yes x) = yes (record { held = record { chip = x.0; full = x.1.0; room = x.1.1.0; few = x.1.1.1.0 }; next = omega (arith, x.1.1.1.1) })
    go (no n) = no (λ x. n (x.held.chip, (x.held.full, (x.held.room, (x.held.few, omega (arith, x.next))))))

-- Two buffers that agree before a place and behind it agree.
whole_once : (i : ℕ) (l m : List ℕ) → take i l ≡ take i m → drop i l ≡ drop i m → l ≡ m
whole_once i l m e f = sym (take-append-drop i l) ∙ ap₂ (λ (x y : List ℕ). x ++ y) e f ∙ take-append-drop i m

-- A turn of the bench leaves one bench, the bytes behind the part's memory too.
bench_once : {x : Answered} {mem : List ℕ} {a b : Answer} {w₁ s₁ q₁ mem₁ wire₁ : List ℕ} {have₁ : ℕ} {out₁ w₂ s₂ q₂ mem₂ wire₂ : List ℕ} {have₂ : ℕ} {out₂ : List ℕ} → TurnsBench x mem a w₁ s₁ q₁ mem₁ wire₁ have₁ out₁ → TurnsBench x mem b w₂ s₂ q₂ mem₂ wire₂ have₂ out₂
    → Same w₁ s₁ q₁ mem₁ wire₁ have₁ out₁ w₂ s₂ q₂ mem₂ wire₂ have₂ out₂
bench_once {mem = mem} {w₁ = w₁} {mem₁ = mem₁} {wire₁ = wire₁} {w₂ = w₂} {mem₂ = mem₂} {wire₂ = wire₂} x y =
    let e = x.bench ∙ sym y.bench in
    let c = one_record x.held.chip y.held.chip (ap (λ (b : Bench). b.chip) e) in
    let gathered = ap (λ (b : Bench). b.gathered) e in
    let front : of_memory w₁ mem₁ ≡ of_memory w₁ mem₂ = c.3 ∙ ap (λ (w : List ℕ). of_memory w mem₂) (sym c.0) in
    let behind : behind_memory w₁ mem₂ ≡ behind_memory w₁ mem = ap (λ (w : List ℕ). behind_memory w mem₂) c.0 ∙ y.rest ∙ ap (λ (w : List ℕ). behind_memory w mem) (sym c.0) in
    record {
      words = c.0;
      sets = c.1;
      queues = c.2;
      memory = whole_once (256 * size_in w₁) mem₁ mem₂ front (x.rest ∙ sym behind);
      gathered = gathered;
      many = same_place wire₁ wire₂ (omega (arith, x.held.few, x.held.room)) (omega (arith, y.held.few, y.held.room)) gathered;
      output = ap (λ (b : Bench). b.output) e;
    }

-- What a record of the bench returns and leaves is the same: number, state, memory, wire bytes, output, count of records, the line's buffer and the line's end.
pub record Alike (n : ℕ) (w s q mem wire : List ℕ) (have : ℕ) (out : List ℕ) (count : ℕ) (line : List ℕ) (end n' : ℕ) (w' s' q' mem' wire' : List ℕ) (have' : ℕ) (out' : List ℕ) (count' : ℕ) (line' : List ℕ) (end' : ℕ) : Type 0 where
  pub returned : n ≡ n'
  pub bench : Same w s q mem wire have out w' s' q' mem' wire' have' out'
  pub counted : count ≡ count'
  pub buffer : line ≡ line'
  pub printed : end ≡ end'

module _ {w s q mem wire : List ℕ} {have : ℕ} {out : List ℕ} {count : ℕ} {line : List ℕ} {n n' : ℕ} {w₁ s₁ q₁ mem₁ wire₁ : List ℕ} {have₁ : ℕ} {out₁ : List ℕ} {count₁ : ℕ} {line₁ : List ℕ} {end₁ : ℕ} {w₂ s₂ q₂ mem₂ wire₂ : List ℕ} {have₂ : ℕ} {out₂ : List ℕ} {count₂ : ℕ} {line₂ : List ℕ} {end₂ : ℕ} where
  served : {bytes : List ℕ} → ServesNext bytes w s q mem wire have out count line n w₁ s₁ q₁ mem₁ wire₁ have₁ out₁ count₁ line₁ end₁ → ServesNext bytes w s q mem wire have out count line n' w₂ s₂ q₂ mem₂ wire₂ have₂ out₂ count₂ line₂ end₂
      → Alike n w₁ s₁ q₁ mem₁ wire₁ have₁ out₁ count₁ line₁ end₁ n' w₂ s₂ q₂ mem₂ wire₂ have₂ out₂ count₂ line₂ end₂
  served x y =
      let text : take end₁ line₁ ≡ take end₂ line₂ = x.serves.text ∙ sym y.serves.text in
      let end : end₁ ≡ end₂ = same_place line₁ line₂ x.serves.fits y.serves.fits text in
      let behind : drop end₁ line₂ ≡ drop end₁ line = ap (λ (k : ℕ). drop k line₂) end ∙ y.serves.behind ∙ ap (λ (k : ℕ). drop k line) (sym end) in
      let front : take end₁ line₁ ≡ take end₁ line₂ = text ∙ ap (λ (k : ℕ). take k line₂) (sym end) in
      record {
        returned = x.returned ∙ ap told (x.serves.turns.reply ∙ sym y.serves.turns.reply) ∙ sym y.returned;
        bench = bench_once x.serves.turns y.serves.turns;
        counted = x.counted ∙ sym y.counted;
        buffer = whole_once end₁ line₁ line₂ front (x.serves.behind ∙ sym behind);
        printed = end;
      }

  refused : (k : ℕ) → RefusesRecord k w s q mem wire have out count line n w₁ s₁ q₁ mem₁ wire₁ have₁ out₁ count₁ line₁ end₁ → RefusesRecord k w s q mem wire have out count line n' w₂ s₂ q₂ mem₂ wire₂ have₂ out₂ count₂ line₂ end₂
      → Alike n w₁ s₁ q₁ mem₁ wire₁ have₁ out₁ count₁ line₁ end₁ n' w₂ s₂ q₂ mem₂ wire₂ have₂ out₂ count₂ line₂ end₂
  refused k x y =
      let gathered : take have₁ wire₁ ≡ take have₂ wire₂ = ap₂ take (x.many ∙ sym y.many) (x.gathered ∙ sym y.gathered) in
      record {
        returned = x.returned ∙ sym y.returned;
        bench = record {
          words = x.words ∙ sym y.words;
          sets = x.sets ∙ sym y.sets;
          queues = x.queues ∙ sym y.queues;
          memory = x.memory ∙ sym y.memory;
          gathered = gathered;
          many = x.many ∙ sym y.many;
          output = x.output ∙ sym y.output;
        };
        counted = x.counted ∙ sym y.counted;
        buffer = x.printed ∙ sym y.printed;
        printed = x.none ∙ sym y.none;
      }

  pub record_once : {bytes : List ℕ} → AnswersRecord bytes w s q mem wire have out count line n w₁ s₁ q₁ mem₁ wire₁ have₁ out₁ count₁ line₁ end₁ → AnswersRecord bytes w s q mem wire have out count line n' w₂ s₂ q₂ mem₂ wire₂ have₂ out₂ count₂ line₂ end₂
      → Alike n w₁ s₁ q₁ mem₁ wire₁ have₁ out₁ count₁ line₁ end₁ n' w₂ s₂ q₂ mem₂ wire₂ have₂ out₂ count₂ line₂ end₂
  record_once x y = go (bench? w s q mem wire have count) (both? (dec_le 2052 (length out)) (dec_le 40 (length line)))
    where
      go : Dec (BenchInOrder w s q mem wire have count) → Dec (Roomy out line) → Alike n w₁ s₁ q₁ mem₁ wire₁ have₁ out₁ count₁ line₁ end₁ n' w₂ s₂ q₂ mem₂ wire₂ have₂ out₂ count₂ line₂ end₂
      go (yes o) (yes r) = served (x.done o r) (y.done o r)
      go (yes o) (no r) = refused 15 (x.short o r) (y.short o r)
      go (no o) r = refused 16 (x.broken o) (y.broken o)
