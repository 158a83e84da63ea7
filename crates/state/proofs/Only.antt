-- A state is known from the chip that it stands for: its words from the registers and a count of the pool, its sets from their pages, its queues' bytes
-- from their entries. So there is only one result of a public entry, and of a step below one: two that meet its promise are equal.
use Rattle.std.specs.Prelude.{◌≡◌, refl, Bool, List, [], ◌∷◌, ◌++◌, map, ℕ, suc, ◌+◌, ◌*◌, ◌-◌, ◌/◌, ◌%◌, ◌<◌, length, get_or, take, drop, replicate, Option, None, Some, Ok, Err}
use Rattle.std.proofs.Common.{ap, ap₂, sym, ◌∙◌, arith, take-append-drop, length-drop, ext_get_or, take_all, drop-drop}
use Rattle.rules.specs.Bits.{flag, word_of, word_at}
use Rattle.rules.specs.Chip.{Chip}
use Rattle.rules.specs.Chip as rules
use Rattle.rules.specs.Answers.{Reply, Effect, Turn}
use Rattle.rules.specs.Step.{Input}
use Rattle.lists.specs.UpFrom.{length_up}
use Rattle.sets.specs.Views.{pages_of}
use Rattle.sets.specs.Pages.{pages_one}
use Rattle.sets.specs.Members.{set_of}
use Rattle.sets.specs.Lists.{list_at, lists_length}
use Rattle.queues.specs.Slots.{Slots}
use Rattle.queues.specs.Parts.{slots, part_long}
use Rattle.state.specs.Meaning.{Answer}
use Rattle.state.specs.declared.Refusal.TheVariants.{Misplaced, NotModelled, ReadOnly, Reserved, NotAllocated, StillQueued, RxEmpty, AgainstRead, OddPointer, PastPages, OutsideLimits, NothingToSend, OddCount, CompletionFull, ShortOutput, Damaged, CutShort, ShortCount, LongCount}
use Rattle.state.specs.declared.part.Part.TheVariants as part
use Rattle.state.specs.declared.part.Part.{Part}
use Rattle.state.specs.Meaning.{packets_named, reply_of}
use Rattle.state.specs.View.{word, registers_in, figures, queue_in, strips_from, lists_of, pool_of, view_of, FixedIn, BlankIn, Kept}
use Rattle.state.specs.Written.{Written, written_out}
use Rattle.state.specs.Links.{two_bits}
use Rattle.state.specs.Promise.{QueuesIn, Small, SoundOf, MakesOf, Sets, Does}
use Rattle.state.specs.Counted.{full_count}
use Rattle.state.specs.Entry.{RightOf, size_in, record_view, HoldsOf, WholeOf, LeavesOf, AnswersOf, StartedOf, LinesOf}
use Rattle.state.specs.Places.{record_cut}
use Rattle.state.specs.Decided.{holds?, decided}
use Rattle.state.specs.Only.{words_with, counts, padded, queues_known, numbers_known, one_answer}

halves : (x : ℕ) → x ≡ word_of (x % 256) (x / 256)
unfolding word_of
halves x = omega arith

fixed_high : (x : ℕ) → x / 256 ≡ 0x33 → x ≡ word_of (x % 256) 0x33
unfolding word_of
fixed_high x e = omega arith

fixed_low : (x : ℕ) → x % 256 ≡ 0 → x ≡ word_of 0 (x / 256)
unfolding word_of
fixed_low x e = omega arith

abbrev Known : List ℕ → Type 0
Known w = FixedIn w → BlankIn w → w ≡ words_with (registers_in w) (figures w)

-- kept words are those of their registers and figures
words_known : (w : List ℕ) → Kept w → w ≡ words_with (registers_in w) (figures w)
unfolding Written word_at
words_known w k = written_out 32 Known (λ a b c d e f g h i j k l m n o p q r s t u v x y z a2 b2 c2 d2 e2 f2 g2 fix blank.
    λ ι. a ∷ b ∷ c ∷ d ∷ e ∷ fixed_high f fix.reserved_high ι ∷ g ∷ fixed_high h (omega (arith, fix.bank_high)) ι ∷ i ∷ j
    ∷ halves k ι ∷ halves l ι ∷ halves m ι ∷ fix.latched ι ∷ o ∷ two_bits p fix.link_bits ι ∷ blank.none16 ι ∷ halves r ι ∷ blank.none18 ι ∷ t ∷ blank.none20 ι ∷ blank.none21 ι
    ∷ fixed_low x fix.mask_low ι ∷ y ∷ halves z ι ∷ halves a2 ι ∷ halves b2 ι ∷ halves c2 ι ∷ d2 ∷ e2 ∷ f2 ∷ g2 ∷ []) w k.whole k.fixed k.blank

pub words_once : {w w' : List ℕ} → Kept w → Kept w' → registers_in w ≡ registers_in w' → figures w ≡ figures w' → w ≡ w'
words_once {w} {w'} k k' r f = words_known w k ∙ ap₂ words_with r f ∙ sym (words_known w' k')

-- and the figures of a sound state are counted from its pool
figures_known : {l : rules.Layout} {w s q : List ℕ} → SoundOf l w s q → figures w ≡ counts (pool_of l (figures w) s q)
figures_known o =
    let full = full_count o in
    λ i. full.rx i ∷ full.tx i ∷ full.completion i ∷ full.mir i ∷ full.in_rx.lower i ∷ full.in_rx.upper i ∷ full.in_tx.lower i ∷ full.in_tx.upper i ∷ []

-- The view is one-to-one on sound states.
module _ {l : rules.Layout} {w s q mem w' s' q' mem' : List ℕ} (a : SoundOf l w s q) (b : SoundOf l w' s' q') (e : view_of l w s q mem ≡ view_of l w' s' q' mem') where
  of : {A : Type 0} (h : Chip → A) → h (view_of l w s q mem) ≡ h (view_of l w' s' q' mem')
  of h = ap h e

  same_words : w ≡ w'
  same_words = words_once a.kept b.kept (of (λ c. c.regs)) (figures_known a ∙ of (λ c. counts c.pool) ∙ sym (figures_known b))

  same_queues : q ≡ q'
  same_queues =
      queues_known (figures w) q a.queues
      ∙ of (λ c. padded c.pool.rx ++ (padded c.pool.tx ++ padded c.pool.completion))
      ∙ sym (queues_known (figures w') q' b.queues)

  pub one_state : (w ≡ w') × (s ≡ s') × (q ≡ q') × (mem ≡ mem')
  one_state = (same_words, numbers_known l s s' a.sets.small b.sets.small (of (λ c. c.pool.pages)), same_queues, of (λ c. c.memory))

-- Of a step below a public entry there is one result too: of the effect e, of the turn t, of a step that looks at the registers alone, of a change of the registers.
module _ {l : rules.Layout} {a a' : Answer} {w s q mem w' s' q' mem' : List ℕ} where
  pub makes_once : {e : Effect} → MakesOf l e a w s q mem → MakesOf l e a' w' s' q' mem' → (a ≡ a') × (w ≡ w') × (s ≡ s') × (q ≡ q') × (mem ≡ mem')
  makes_once x y = let e = one_state x.sound y.sound (x.chip ∙ sym y.chip) in (one_answer a a' (x.reply ∙ sym y.reply), e.0, e.1, e.2, e.3)

  pub right_once : {t : Turn} {out out' : List ℕ} → RightOf l t a w s q mem out → RightOf l t a' w' s' q' mem' out' → (a ≡ a') × (w ≡ w') × (s ≡ s') × (q ≡ q') × (mem ≡ mem') × (out ≡ out')
  right_once x y =
      let e = one_state x.ready.ready.sound y.ready.ready.sound (x.chip ∙ sym y.chip) in
      (one_answer a a' (x.reply ∙ sym y.reply), e.0, e.1, e.2, e.3, x.output ∙ sym y.output)

pub does_once : {f : Chip → Effect} {w w₁ w₂ : List ℕ} {a b : Answer} → Does f w a w₁ → Does f w b w₂ → (a ≡ b) × (w₁ ≡ w₂)
does_once {a = a} {b = b} x y =
    let e = x.step rules.paged [] [] [] ∙ sym (y.step rules.paged [] [] []) in
    (one_answer a b (ap (λ (d : Effect). d.reply) e), words_once x.kept y.kept (ap (λ (d : Effect). d.chip.regs) e) (x.still ∙ sym y.still))

pub sets_once : {f : rules.Registers → rules.Registers} {w w₁ w₂ : List ℕ} → Sets f w w₁ → Sets f w w₂ → w₁ ≡ w₂
sets_once x y = words_once x.kept y.kept (x.regs ∙ sym y.regs) (x.still ∙ sym y.still)

-- A record in order is known from the chip that it stands for, its empty places too.
module _ {l : rules.Layout} {w s q mem w' s' q' mem' : List ℕ} where
  pub one_record : HoldsOf l w s q → HoldsOf l w' s' q' → record_view l w s q mem ≡ record_view l w' s' q' mem' → (w ≡ w') × (s ≡ s') × (q ≡ q') × (mem ≡ mem')
  one_record h k e =
      let x = one_state h.ready.sound k.ready.sound e in
      (x.0, record_cut h ∙ ap₂ (λ (v u : List ℕ). u ++ replicate (24 - size_in v) 0) x.0 x.1 ∙ sym (record_cut k), x.2, x.3)

  pub leaves_once : {t : Turn} {a a' : Answer} {out out' : List ℕ} → LeavesOf l t a w s q mem out → LeavesOf l t a' w' s' q' mem' out' → (a ≡ a') × (w ≡ w') × (s ≡ s') × (q ≡ q') × (mem ≡ mem') × (out ≡ out')
  leaves_once {a = a} {a' = a'} x y =
      let e = one_record x.whole.holds y.whole.holds (x.chip ∙ sym y.chip) in
      (one_answer a a' (x.reply ∙ sym y.reply), e.0, e.1, e.2, e.3, x.output ∙ sym y.output)

-- Only one result of a public entry: answer, words, sets (or counts), queues, memory and output.
module _ {l : rules.Layout} {a a' : Answer} {w₁ s₁ q₁ w₂ s₂ q₂ : List ℕ} where
  pub only : (i : Input) (w s q mem : List ℕ) {mem₁ out₁ mem₂ out₂ : List ℕ} → AnswersOf l i w s q mem a w₁ s₁ q₁ mem₁ out₁ → AnswersOf l i w s q mem a' w₂ s₂ q₂ mem₂ out₂
      → (a ≡ a') × (w₁ ≡ w₂) × (s₁ ≡ s₂) × (q₁ ≡ q₂) × (mem₁ ≡ mem₂) × (out₁ ≡ out₂)
  only i w s q mem {mem₁} {out₁} {mem₂} {out₂} x y = go (decided l w s q mem)
    where
      go : Dec (WholeOf l w s q mem) → (a ≡ a') × (w₁ ≡ w₂) × (s₁ ≡ s₂) × (q₁ ≡ q₂) × (mem₁ ≡ mem₂) × (out₁ ≡ out₂)
      go (yes o) = leaves_once (x.done o) (y.done o)
      go (no n) =
          let u = x.broken n in
          let v = y.broken n in
          (u.answer ∙ sym v.answer, u.words ∙ sym v.words, u.pages ∙ sym v.pages, u.queues ∙ sym v.queues, u.memory ∙ sym v.memory, u.output ∙ sym v.output)

  pub started_once : {n : ℕ} → StartedOf l n a w₁ s₁ q₁ → StartedOf l n a' w₂ s₂ q₂ → (a ≡ a') × (w₁ ≡ w₂) × (s₁ ≡ s₂) × (q₁ ≡ q₂)
  started_once x y =
      let e = one_record x.whole.holds y.whole.holds (x.chip ∙ sym y.chip) in
      (x.answer ∙ sym y.answer, e.0, e.1, e.2)
