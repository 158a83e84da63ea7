-- A state is known from the chip that it stands for: its words from the registers and a count of the pool, its sets from their pages, its queues' bytes
-- from their entries. So there is only one result of a public entry, and of a step below one: two that meet its promise are equal.
use Rattle.std.specs.Prelude.{◌≡◌, refl, Bool, List, [], ◌∷◌, ◌++◌, map, ℕ, suc, ◌+◌, ◌*◌, ◌-◌, ◌/◌, ◌%◌, ◌<◌, length, get_or, take, drop, replicate, Option, None, Some, Ok, Err}
use Rattle.std.proofs.Common.{ap, ap₂, sym, ◌∙◌, arith, take-append-drop, length-drop, ext_get_or, take_all, drop-drop}
use Rattle.rules.specs.Bits.{flag, word_of, word_at}
use Rattle.rules.specs.Chip.{Chip}
use Rattle.rules.specs.Chip as rules
use Rattle.rules.specs.Answers.{Reply, Effect, Turn}
use Rattle.rules.specs.Step.{Input}
use Rattle.lists.specs.UpFrom.{length_up}
use Rattle.sets.specs.Views.{pages_of}
use Rattle.sets.specs.Pages.{pages_one}
use Rattle.sets.specs.Members.{set_of}
use Rattle.sets.specs.Lists.{list_at, lists_length}
use Rattle.queues.specs.Slots.{Slots}
use Rattle.queues.specs.Parts.{slots, part_long}
use Rattle.state.specs.Meaning.{Answer}
use Rattle.state.specs.declared.Refusal.TheVariants.{Misplaced, NotModelled, ReadOnly, Reserved, NotAllocated, StillQueued, RxEmpty, AgainstRead, OddPointer, PastPages, OutsideLimits, NothingToSend, OddCount, CompletionFull, ShortOutput, Damaged, CutShort, ShortCount, LongCount}
use Rattle.state.specs.declared.part.Part.TheVariants as part
use Rattle.state.specs.declared.part.Part.{Part}
use Rattle.state.specs.Meaning.{packets_named, reply_of}
use Rattle.state.specs.View.{word, registers_in, figures, queue_in, strips_from, lists_of, pool_of, view_of, FixedIn, BlankIn, Kept}
use Rattle.state.specs.Written.{Written, written_out}
use Rattle.state.specs.Links.{two_bits}
use Rattle.state.specs.Promise.{QueuesIn, Small, SoundOf, MakesOf, Sets, Does}
use Rattle.state.specs.Counted.{full_count}
use Rattle.state.specs.Entry.{RightOf, size_in, record_view, HoldsOf, WholeOf, LeavesOf, AnswersOf, StartedOf, LinesOf}
use Rattle.state.specs.Places.{record_cut}
use Rattle.state.specs.Decided.{holds?, decided}

-- The words of registers, and of figures beside them.
abbrev pub words_with : rules.Registers → List ℕ → List ℕ
words_with r c =
    r.sending.tcr
    ∷ r.sending.ephsr
    ∷ r.receiving.rcr
    ∷ r.sending.ecr
    ∷ word c 3
    ∷ word_of r.receiving.reserved 0x33
    ∷ word c 0
    ∷ word_of r.numbers.bank 0x33
    ∷ word c 1
    ∷ word c 2
    ∷ word_at 0 r.receiving.station
    ∷ word_at 2 r.receiving.station
    ∷ word_at 4 r.receiving.station
    ∷ (4 * flag r.sending.tx_empty + 16 * flag r.receiving.overrun)
    ∷ r.control
    ∷ (flag r.link.up + 2 * flag r.link.changed)
    ∷ 0
    ∷ word_of r.numbers.packet r.numbers.result
    ∷ 0
    ∷ r.pointer
    ∷ 0
    ∷ 0
    ∷ word_of 0 r.mask
    ∷ r.numbers.waiting
    ∷ word_at 0 r.receiving.table
    ∷ word_at 2 r.receiving.table
    ∷ word_at 4 r.receiving.table
    ∷ word_at 6 r.receiving.table
    ∷ word c 4
    ∷ word c 5
    ∷ word c 6
    ∷ word c 7
    ∷ []

-- The figures of a pool, counted; and the words of registers beside it.
abbrev pub counts : rules.Pool → List ℕ
counts p =
    length p.rx
    ∷ length p.tx
    ∷ length p.completion
    ∷ word_of (length p.pages) (length (rules.free_for p.layout p.pages))
    ∷ (set_of p.rx % 65536)
    ∷ (set_of p.rx / 65536)
    ∷ (set_of p.tx % 65536)
    ∷ (set_of p.tx / 65536)
    ∷ []

abbrev pub words_of : rules.Registers → rules.Pool → List ℕ
words_of r p = words_with r (counts p)

-- The bytes of a queue's entries, with 0 behind them, and of three queues.
abbrev pub padded : List ℕ → List ℕ
padded l = l ++ replicate (24 - length l) 0

pub queue_known : (p : List ℕ) (n : ℕ) (l : List ℕ) → Slots p n l → length p ≡ 24 → p ≡ padded l
queue_known p n l h e = h.same ∙ ap₂ (λ (a b : ℕ). l ++ replicate (a - b) 0) e h.many

pub parts_all : (q : List ℕ) → length q ≡ 72 → q ≡ slots 0 q ++ (slots 1 q ++ slots 2 q)
parts_all q e =
    sym (take-append-drop 24 q)
    ∙ ap (λ (t : List ℕ). take 24 q ++ t)
    (sym (take-append-drop 24 (drop 24 q))
    ∙ ap (λ (t : List ℕ). slots 1 q ++ t) (drop-drop 24 24 q ∙ sym (take_all 24 (drop 48 q) (simp length-drop (omega arith)))))

pub queues_known : (c q : List ℕ) → QueuesIn c q → q ≡ padded (queue_in 0 (word c 0) q) ++ (padded (queue_in 1 (word c 1) q) ++ padded (queue_in 2 (word c 2) q))
queues_known c q h =
    let known : (k n : ℕ) → k < 3 → Slots (slots k q) n (queue_in k n q) → slots k q ≡ padded (queue_in k n q) = λ k n b x. queue_known (slots k q) n (queue_in k n q) x (part_long k q h.long b) in
    parts_all q h.long
    ∙ ap₂ (λ (x y : List ℕ). x ++ (y ++ slots 2 q)) (known 0 (word c 0) (omega arith) h.rx) (known 1 (word c 1) (omega arith) h.tx)
    ∙ ap (λ (x : List ℕ). padded (queue_in 0 (word c 0) q) ++ (padded (queue_in 1 (word c 1) q) ++ x)) (known 2 (word c 2) (omega arith) h.completion)

-- Sets are known from their pages.
pub sets_known : (s t : List ℕ) → Small s → Small t → map pages_of s ≡ map pages_of t → s ≡ t
sets_known s t f g e =
    ext_get_or 0 s t (sym (lists_length s) ∙ ap length e ∙ lists_length t)
    (λ i h. pages_one (get_or s i 0) (get_or t i 0) (f i) (g i) (sym (list_at s i) ∙ ap (λ (l : List (List ℕ)). get_or l i []) e ∙ list_at t i))

-- And counts from the strips.
pub strips_known : (k : ℕ) (s t : List ℕ) → strips_from k s ≡ strips_from k t → s ≡ t
strips_known k [] [] e = refl
strips_known k [] (y ∷ t) e = absurd (omega (arith, ap length e))
strips_known k (x ∷ s) [] e = absurd (omega (arith, ap length e))
strips_known k (x ∷ s) (y ∷ t) e =
    ap₂ ◌∷◌ (sym (length_up (8 * k) x) ∙ ap (λ (l : List (List ℕ)). length (get_or l 0 [])) e ∙ length_up (8 * k) y) (strips_known (suc k) s t (ap (drop 1) e))

pub numbers_known : (l : rules.Layout) (s t : List ℕ) → Small s → Small t → lists_of l s ≡ lists_of l t → s ≡ t
numbers_known rules.paged s t f g e = sets_known s t f g e
numbers_known rules.strips s t f g e = strips_known 0 s t e

-- Answers are known from their replies.
answer_of : Reply → Answer
answer_of x =
    get_or
    (Ok x.value
    ∷ Err Misplaced
    ∷ Err NotModelled
    ∷ Err ReadOnly
    ∷ Err Reserved
    ∷ Err NotAllocated
    ∷ Err StillQueued
    ∷ Err RxEmpty
    ∷ Err AgainstRead
    ∷ Err OddPointer
    ∷ Err PastPages
    ∷ Err OutsideLimits
    ∷ Err NothingToSend
    ∷ Err (OddCount x.value)
    ∷ Err CompletionFull
    ∷ Err ShortOutput
    ∷ Err Damaged
    ∷ Err CutShort
    ∷ Err (ShortCount x.value)
    ∷ Err (LongCount x.value)
    ∷ []) x.number (Err Damaged)

answer_back : (a : Answer) → answer_of (reply_of a) ≡ a
unfolding answer_of
answer_back (Ok v) = refl
answer_back (Err Misplaced) = refl
answer_back (Err NotModelled) = refl
answer_back (Err ReadOnly) = refl
answer_back (Err Reserved) = refl
answer_back (Err NotAllocated) = refl
answer_back (Err StillQueued) = refl
answer_back (Err RxEmpty) = refl
answer_back (Err AgainstRead) = refl
answer_back (Err OddPointer) = refl
answer_back (Err PastPages) = refl
answer_back (Err OutsideLimits) = refl
answer_back (Err NothingToSend) = refl
answer_back (Err (OddCount v)) = refl
answer_back (Err CompletionFull) = refl
answer_back (Err ShortOutput) = refl
answer_back (Err Damaged) = refl
answer_back (Err CutShort) = refl
answer_back (Err (ShortCount v)) = refl
answer_back (Err (LongCount v)) = refl

pub one_answer : (a b : Answer) → reply_of a ≡ reply_of b → a ≡ b
one_answer a b e = sym (answer_back a) ∙ ap answer_of e ∙ answer_back b

-- What a byte names is known from its number of packets.
pub named_once : (x y : Option Part) → packets_named x ≡ packets_named y → x ≡ y
named_once (Some part.Lan91c94) (Some part.Lan91c94) e = refl
named_once (Some part.Lan91c96) (Some part.Lan91c96) e = refl
named_once None None e = refl
named_once (Some part.Lan91c94) (Some part.Lan91c96) e = absurd (omega (arith, e))
named_once (Some part.Lan91c94) None e = absurd (omega (arith, e))
named_once (Some part.Lan91c96) (Some part.Lan91c94) e = absurd (omega (arith, e))
named_once (Some part.Lan91c96) None e = absurd (omega (arith, e))
named_once None (Some part.Lan91c94) e = absurd (omega (arith, e))
named_once None (Some part.Lan91c96) e = absurd (omega (arith, e))

pub line_once : (l : rules.Layout) (w s q : List ℕ) {a b : Bool} → LinesOf l w s q a → LinesOf l w s q b → a ≡ b
line_once l w s q {a} {b} x y = go (holds? l w s q)
  where
    go : Dec (HoldsOf l w s q) → a ≡ b
    go (yes o) = x.up o [] ∙ sym (y.up o [])
    go (no n) = x.down n ∙ sym (y.down n)
