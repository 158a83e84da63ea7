-- Record 1 may ask for the part (document 02, W9). The chip powers up behind it, as the part that it asks for or as the LAN91C96; either way the record is answered on the bench that the rules start with.
use Rattle.std.specs.Prelude.{◌≡◌, refl, Bool, true, false, cond, ◌⊎◌, List, ◌++◌, ℕ, ◌+◌, ◌*◌, ◌-◌, ◌≤◌, ◌<◌, ltb, length, take, replicate, Ok, Option, None, Some, is_some}
use Rattle.std.specs.Option.{unwrap_or}
use Rattle.std.proofs.Common.{ap, sym, subst, ◌∙◌, true≢false, inl, inr, arith, lt-ltb, take_at}
use Rattle.std.proofs.lemmas.List.{length-replicate, replicate-append-replicate}
use Rattle.rules.specs.Parts.{lan91c96}
use Rattle.rules.specs.Chip.{strips, powered}
use Rattle.rules.specs.Answers.{done}
use Rattle.rules.specs.Bench.{Event, Bench, Answered, answer, asks_for, answer_to, started_on, line}
use Rattle.state.specs.declared.part.Part.{Part}
use Rattle.state.specs.declared.part.Part.TheVariants as part
use Rattle.state.specs.Meaning.{reply_of, packets_of, packets_named}
use Rattle.state.specs.Meaning.{Answer}
use Rattle.state.specs.View.{view_of}
use Rattle.state.specs.Entry.{InOrderOf, size_in, zeros, StartedOf}
use Rattle.state.specs.Places.{lent_in_order}
use Rattle.records.specs.Gathers.{holding}
use Rattle.turns.specs.Turns.{HeldOf, TurnsOf}
use Rattle.turns.specs.Served.{asked, answered_later, answered_none, answered_part, ServedOf}

-- what `strip_bench` starts from, whatever record 1 is
abbrev pub at_first : Bench
at_first = started_on (powered strips lan91c96)

-- how many packets the part has that powers up for a first record: "without it, the LAN91C96"
unfoldable pub starts_as : Event → ℕ
starts_as e = cond (ltb 0 (asks_for e)) (asks_for e) lan91c96

-- a record asked for the part, or it did not
abbrev pub AskedBy : Bool → Event → Type 0
AskedBy t e = (t ≡ true → 0 < asks_for e) × (t ≡ false → asks_for e ≡ 0)

-- the bench on which the rules answer a record, where the state stands for b: the one that they start with, where the record has started the part
abbrev pub answers_on : Bool → Bench → Bench
answers_on started b = cond started at_first b

-- what is known of the record of this number: it has started the part, as record 1; or it comes later, or asks for none
abbrev pub Opens : Bool → ℕ → List ℕ → Bench → Type 0
Opens started number bytes b =
    (started ≡ true → (number ≡ 1) × (0 < asks_for (asked bytes)) × (b ≡ started_on (powered strips (asks_for (asked bytes)))))
    × (started ≡ false → (1 < number) ⊎ (asks_for (asked bytes) ≡ 0))

-- that part has powered up for the record 1 of these bytes, and nothing else happened
pub record Starting (bytes w s q mem wire : List ℕ) (have : ℕ) (out : List ℕ) : Type 0 where
  pub held : HeldOf strips w s q mem wire have
  pub bench : holding (view_of strips w s q mem) (take have wire) out ≡ started_on (powered strips (starts_as (asked bytes)))

pub starts_part : (e : Event) → 0 < asks_for e → starts_as e ≡ asks_for e
unfolding starts_as
starts_part e h = rw (lt-ltb 0 (asks_for e) h)

pub starts_none : (e : Event) → asks_for e ≡ 0 → starts_as e ≡ lan91c96
unfolding starts_as
starts_none e none = rw none

-- A part has packets, so a record that names one asks for it, and one that names none does not.
pub part_some : (p : Part) → 0 < packets_of p
part_some part.Lan91c94 = omega arith
part_some part.Lan91c96 = omega arith

pub part_asked : {r : Option Part} {n : ℕ} (p : Part) → packets_named r ≡ n → r ≡ Some p → n ≡ packets_of p
part_asked p e q = sym e ∙ ap packets_named q

pub none_asked : {r : Option Part} {n : ℕ} → packets_named r ≡ n → r ≡ None → n ≡ 0
none_asked e q = sym e ∙ ap packets_named q

-- What powers up is the part that is named, else the LAN91C96; and that one is named, or none, says whether record 1 asked for it.
pub starts_named : (r : Option Part) (e : Event) → packets_named r ≡ asks_for e → packets_of (unwrap_or r part.Lan91c96) ≡ starts_as e
starts_named (Some p) e q = q ∙ sym (starts_part e (subst (λ (n : ℕ). 0 < n) q (part_some p)))
starts_named None e q = sym (starts_none e (sym q))

pub asked_named : (r : Option Part) (e : Event) → packets_named r ≡ asks_for e → AskedBy (is_some r) e
asked_named (Some p) e q = (λ t. subst (λ (n : ℕ). 0 < n) q (part_some p), λ f. absurd (true≢false f))
asked_named None e q = (λ t. absurd (true≢false (sym t)), λ f. sym q)

-- So record 1 finds the part that it asked for, or asks for none,
pub opens_first : {t : Bool} {bytes w s q mem wire : List ℕ} {have : ℕ} {out : List ℕ} → Starting bytes w s q mem wire have out → AskedBy t (asked bytes) → Opens t 1 bytes (holding (view_of strips w s q mem) (take have wire) out)
opens_first {bytes = bytes} p a = (
  λ e. (refl, a.0 e, p.bench ∙ ap (λ (n : ℕ). started_on (powered strips n)) (starts_part (asked bytes) (a.0 e))),
  λ e. inr (a.1 e),
)

-- whatever its number is told by,
pub opens_as : {t : Bool} {m n : ℕ} (bytes : List ℕ) (b : Bench) → m ≡ n → Opens t m bytes b → Opens t n bytes b
opens_as {t} bytes b e o = subst (λ (k : ℕ). Opens t k bytes b) e o

-- and every other comes later.
pub opens_later : {number : ℕ} (bytes : List ℕ) (b : Bench) → 1 < number → Opens false number bytes b
opens_later bytes b h = (λ e. absurd (true≢false (sym e)), λ e. inl h)

-- A record that has started the part is done,
pub turns_started : {t : Bool} {number : ℕ} (bytes : List ℕ) {w s q mem wire : List ℕ} {have : ℕ} {out : List ℕ} → HeldOf strips w s q mem wire have → t ≡ true → Opens t number bytes (holding (view_of strips w s q mem) (take have wire) out)
    → TurnsOf strips (answer_to number (asked bytes) (answers_on t (holding (view_of strips w s q mem) (take have wire) out))) (Ok 0) w s q mem wire have out
turns_started {t} {number} bytes {w} {s} {q} {mem} {wire} {have} {out} h e o =
    let f = o.0 e in
    let x : answer_to number (asked bytes) (answers_on t (holding (view_of strips w s q mem) (take have wire) out)) ≡ record { reply = done; after = started_on (powered strips (asks_for (asked bytes))) } =
    (λ i. answer_to (f.0 i) (asked bytes) (answers_on (e i) (holding (view_of strips w s q mem) (take have wire) out))) ∙ answered_part (asked bytes) at_first f.1 in
    record { reply = sym (ap (λ (a : Answered). a.reply) x); bench = f.2 ∙ sym (ap (λ (a : Answered). a.after) x); held = h }

-- and any other is answered by its step.
pub turns_plain : {t : Bool} {number : ℕ} (bytes : List ℕ) {b : Bench} {a : Answer} {w s q mem wire : List ℕ} {have : ℕ} {out : List ℕ} → TurnsOf strips (answer (asked bytes) b) a w s q mem wire have out → t ≡ false → Opens t number bytes b
    → TurnsOf strips (answer_to number (asked bytes) (answers_on t b)) a w s q mem wire have out
turns_plain {t} {number} bytes {b} {a} {w} {s} {q} {mem} {wire} {have} {out} r e o = subst (λ (x : Answered). TurnsOf strips x a w s q mem wire have out) (sym (ap (λ (u : Bool). answer_to number (asked bytes) (answers_on u b)) e ∙ plainly (o.1 e))) r
  where
    plainly : (1 < number) ⊎ (asks_for (asked bytes) ≡ 0) → answer_to number (asked bytes) b ≡ answer (asked bytes) b
    plainly (inl h) = answered_later number (asked bytes) b h
    plainly (inr h) = answered_none number (asked bytes) b h

-- A record is served where its turn is the rules', and its line that of the answer.
pub served_as : {number : ℕ} {bytes : List ℕ} {b : Bench} {a : Answer} {w s q mem wire : List ℕ} {have : ℕ} {out text : List ℕ} {end : ℕ} → TurnsOf strips (answer_to number (asked bytes) b) a w s q mem wire have out
    → take end text ≡ line number (reply_of a) → end ≤ length text → ServedOf strips number bytes b w s q mem wire have out text end
served_as {number} r text fits = record { held = r.held; bench = r.bench; text = text ∙ ap (line number) r.reply; fits = fits }

-- The first bytes of a memory that is 0.
front_zeros : (k m : ℕ) → k ≤ m → take {A = ℕ} k (replicate m 0) ≡ replicate k 0
front_zeros k m h =
    let zero : ℕ = 0 in
    let sum : k + (m - k) ≡ m = omega (arith, h) in
    let both : replicate k zero ++ replicate (m - k) zero ≡ replicate m zero = replicate-append-replicate k (m - k) zero ∙ ap (λ (n : ℕ). replicate n zero) sum in
    ap (take k) (sym both) ∙ take_at (replicate k zero) (replicate (m - k) zero) k (length-replicate k zero)

-- A part's places are among the 24,
pub part_fits : {n : ℕ} (p : Part) → n ≡ packets_of p → n ≤ 24
part_fits part.Lan91c94 e = omega (arith, e)
part_fits part.Lan91c96 e = omega (arith, e)

-- and where its size n is, the first n and the first 2,048n bytes are lent at power-up.
module _ {w s q : List ℕ} {a : Answer} {n : ℕ} (p : Part) (x : StartedOf strips (packets_of p) a w s q) (size : n ≡ packets_of p) where
  told : n ≡ size_in w
  told = let full : length (zeros strips (packets_of p)) ≡ 256 * (8 * size_in w) = x.whole.full in omega (arith, full, length-replicate {A = ℕ} (256 * (8 * packets_of p)) 0, size)

  bytes_zero : take {A = ℕ} (2048 * n) (replicate 49152 0) ≡ zeros strips (packets_of p)
  bytes_zero =
      let many : 2048 * n ≡ 256 * (8 * packets_of p) = omega (arith, size) in
      front_zeros (2048 * n) 49152 (omega (arith, part_fits p size)) ∙ ap (λ (k : ℕ). replicate {A = ℕ} k 0) many

  pub powers_up : (bytes : List ℕ) → packets_of p ≡ starts_as (asked bytes) → Starting bytes w (take n s) q (take (2048 * n) (replicate 49152 0)) (replicate 2048 0) 0 (replicate 2052 0)
  powers_up bytes named = record {
    held = record {
      chip = subst (λ (m : List ℕ). InOrderOf strips w (take n s) q m) (sym bytes_zero) (subst (λ (k : ℕ). InOrderOf strips w (take k s) q (zeros strips (packets_of p))) (sym told) (lent_in_order x.whole));
      room = length-replicate {A = ℕ} 2048 0;
      few = omega arith;
    };
    bench = (λ i. started_on (view_of strips w (take (told i) s) q (bytes_zero i))) ∙ ap started_on x.chip ∙ ap (λ (k : ℕ). started_on (powered strips k)) named;
  }
