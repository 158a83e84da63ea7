-- From what a step promises to what a call promises.
use Rattle.std.specs.Prelude.{◌≡◌, refl, List, [], ◌++◌, ℕ, ◌*◌, drop, Ok, Err}
use Rattle.std.proofs.Common.{ap, sym, subst, ◌∙◌, append-nil, arith, drop_of_length-le}
use Rattle.rules.specs.Parts.{IsPart, part_named}
use Rattle.rules.specs.Chip.{paged}
use Rattle.rules.specs.Answers.{refusal}
use Rattle.rules.specs.Registers.{Width, Access}
use Rattle.rules.specs.Step.{Input, driver, lent, step}
use Rattle.wellformed.specs.Parts.{part_some}
use Rattle.state.specs.Meaning.{Answer}
use Rattle.state.specs.declared.Refusal.TheVariants.{Damaged}
use Rattle.state.specs.Meaning.{reply_of}
use Rattle.state.specs.Entry.{record_view, Whole, Leaves, zeros, StartedOf}
use Rattle.chip.specs.Rights.{damaged, answered}
use Rattle.lent.specs.Lent.{told, LongAs, StartsPart}
use Rattle.skarvoya.specs.Calls.{Calls, Refuses, PowersUp}

module _ {w s q mem : List ℕ} {n : ℕ} where
  -- What is not in order is refused.
  pub refuses : (i : Input) → (Whole w s q mem → ⊥) → n ≡ told (reply_of (Err Damaged)) → Calls i w s q mem n w s q mem (lent i)
  refuses i broken e = record { answer = (Err Damaged); entry = damaged i broken; returned = e }

  -- On what is, the step's answer is told.
  pub calls : (i : Input) {a : Answer} {w' s' q' mem' out' : List ℕ} → Whole w s q mem → Leaves (step i (record_view paged w s q mem)) a w' s' q' mem' out' → n ≡ told (reply_of a) → Calls i w s q mem n w' s' q' mem' out'
  calls i {a} o r e = record { answer = a; entry = answered i o r; returned = e }

  -- An access of a width that is said otherwise is the same access.
  pub calls_wide : {x y : Width} (f : Width → Access) {a : Answer} {w' s' q' mem' : List ℕ} → Whole w s q mem → x ≡ y → Leaves (step (driver (f x)) (record_view paged w s q mem)) a w' s' q' mem' [] → n ≡ told (reply_of a) → Calls (driver (f y)) w s q mem n w' s' q' mem' []
  calls_wide {y = y} f {a} {w'} {s'} {q'} {mem'} o e r = calls (driver (f y)) o (subst (λ (v : Width). Leaves (step (driver (f v)) (record_view paged w s q mem)) a w' s' q' mem' []) e r)

  -- Power-up: no part is named,
  stays : (k : ℕ) → n ≡ told (refusal k) → Refuses k w s q mem n w s q mem
  stays k e = record { returned = e; words = refl; sets = refl; queues = refl; memory = refl }

  pub no_part : {x : ℕ} → 0 ≡ part_named x → n ≡ told (refusal 11) → PowersUp x w s q mem n w s q mem
  no_part e r = record { unknown = λ z. stays 11 r; refused = λ h. absurd (omega (arith, e, h)); started = λ h. absurd (omega (arith, e, h)) }

  -- the lengths are not those of the part, of which there are k packets, or they are.
  module _ {y k : ℕ} (e : k ≡ part_named y) (p : IsPart k) where
    pub part_refused : (LongAs k w s q mem → ⊥) → n ≡ told (refusal 16) → PowersUp y w s q mem n w s q mem
    part_refused broken r = record {
      unknown = λ z. absurd (omega (arith, e, part_some p, z));
      refused = λ h m. stays 16 r;
      started = λ h o. absurd (broken (subst (λ (j : ℕ). LongAs j w s q mem) (sym e) o));
    }

    pub part_started_lem : {w' s' q' mem' : List ℕ} → LongAs k w s q mem → StartsPart k mem w' s' q' mem' → n ≡ 0 → PowersUp y w s q mem n w' s' q' mem'
    part_started_lem {w'} {s'} {q'} {mem'} o x r =
        let none : drop (256 * k) mem ≡ [] = drop_of_length-le mem {i = 256 * k} (omega (arith, o.1)) in
        record {
          unknown = λ z. absurd (omega (arith, e, part_some p, z));
          refused = λ h m. absurd (m (subst (λ (j : ℕ). LongAs j w s q mem) e o));
          started = λ h m. subst (λ (j : ℕ). StartedOf paged j (Ok 0) w' s' q' × (mem' ≡ zeros paged j) × (n ≡ 0)) e (x.state, x.memory ∙ ap (λ (l : List ℕ). zeros paged k ++ l) none ∙ append-nil (zeros paged k), r);
        }
