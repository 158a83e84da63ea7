-- Whether a record is in order is decided: field by field, each by an equation between numbers or lists, a comparison, or a test of the rules.
use Rattle.std.specs.Prelude.{refl, ◌⊎◌, Bool, true, false, ℕ, suc, ◌+◌, ◌*◌, ◌-◌, ◌/◌, ◌%◌, ◌^◌, ◌<◌, length, drop, replicate}
use Rattle.std.proofs.Common.{sym, inl, inr, ⊎_elim, true≢false, arith}
use mathlib.Core.List.{List, [], ◌∷◌, ◌++◌, List-discrete}
use Rattle.std.proofs.Math.Decide.{ℕ_discrete, dec_le}
use Rattle.rules.specs.Bits.{bit, flag, word_of}
use Rattle.rules.specs.Parts.{lan91c94, lan91c96, IsPart}
use Rattle.rules.specs.Chip.{Layout, page_numbers, free_for}
use Rattle.rules.specs.Tests.{all_below, formed}
use Rattle.lists.specs.Facts.{Decides}
use Rattle.lists.specs.Each.{Each, each_at}
use Rattle.wellformed.specs.Fit.{below_decides, formed_decides}
use Rattle.sets.specs.Members.{set_of}
use Rattle.queues.specs.Slots.{Slots}
use Rattle.queues.specs.Parts.{slots}
use Rattle.state.specs.View.{word, figures, queue_in, lists_of, view_of, Fixed, Blank, Kept}
use Rattle.state.specs.Promise.{Halves, QueuesIn, Small, PagesIn, SoundOf, ReadyOf}
use Rattle.state.specs.Entry.{size_in, of_part, HoldsOf, WholeOf}

-- What asks for P is decided by P first: where P does not hold it does not, and where P holds the rest decides.
asks : {P Q : Type 0} → (Q → P) → Dec P → (P → Dec Q) → Dec Q
asks f (yes p) rest = rest p
asks f (no n) rest = no (λ q. n (f q))

-- what a test of the rules decides
tested : (b : Bool) {P : Type 0} → Decides b P → Dec P
tested true d = yes (d.sound refl)
tested false d = no (λ p. true≢false (sym (d.complete p)))

-- The words.
fixed? : (bank reserved latches link mask : ℕ) → Dec (Fixed bank reserved latches link mask)
fixed? bank reserved latches link mask =
    asks (λ x. x.bank_high) (ℕ_discrete (bank / 8) 0x660)
    (λ a. asks (λ x. x.reserved_high) (ℕ_discrete (reserved / 256) 0x33)
    (λ b. asks (λ x. x.latched) (ℕ_discrete latches (4 * flag (bit 2 latches) + 16 * flag (bit 4 latches)))
    (λ c. asks (λ x. x.link_bits) (dec_le (suc link) 4)
    (λ d. asks (λ x. x.mask_low) (ℕ_discrete (mask % 256) 0) (λ e. yes (record { bank_high = a; reserved_high = b; latched = c; link_bits = d; mask_low = e }))))))

blank? : (w16 w18 w20 w21 : ℕ) → Dec (Blank w16 w18 w20 w21)
blank? w16 w18 w20 w21 =
    asks (λ x. x.none16) (ℕ_discrete w16 0)
    (λ a. asks (λ x. x.none18) (ℕ_discrete w18 0)
    (λ b. asks (λ x. x.none20) (ℕ_discrete w20 0) (λ c. asks (λ x. x.none21) (ℕ_discrete w21 0) (λ d. yes (record { none16 = a; none18 = b; none20 = c; none21 = d })))))

kept? : (w : List ℕ) → Dec (Kept w)
kept? w =
    asks (λ x. x.whole) (ℕ_discrete (length w) 32)
    (λ a. asks (λ x. x.fixed) (fixed? (word w 7) (word w 5) (word w 13) (word w 15) (word w 22))
    (λ b. asks (λ x. x.blank) (blank? (word w 16) (word w 18) (word w 20) (word w 21)) (λ c. yes (record { whole = a; fixed = b; blank = c }))))

-- The queues.
slots? : (p : List ℕ) (n : ℕ) (l : List ℕ) → Dec (Slots p n l)
slots? p n l =
    asks (λ x. x.many) (ℕ_discrete n (length l))
    (λ a. asks (λ x. x.fits) (dec_le n (length p))
    (λ b. asks (λ x. x.same) (List-discrete ℕ_discrete p (l ++ replicate (length p - n) 0)) (λ c. yes (record { many = a; fits = b; same = c }))))

halves? : (low high x : ℕ) → Dec (Halves low high x)
halves? low high x = asks (λ h. h.lower) (ℕ_discrete low (x % 65536)) (λ a. asks (λ h. h.upper) (ℕ_discrete high (x / 65536)) (λ b. yes (record { lower = a; upper = b })))

queues? : (c q : List ℕ) → Dec (QueuesIn c q)
queues? c q =
    let queue : (k n : ℕ) → Dec (Slots (slots k q) n (queue_in k n q)) = λ k n. slots? (slots k q) n (queue_in k n q) in
    let bits : (k n low high : ℕ) → Dec (Halves low high (set_of (queue_in k n q))) = λ k n low high. halves? low high (set_of (queue_in k n q)) in
    asks (λ x. x.long) (ℕ_discrete (length q) 72)
    (λ a. asks (λ x. x.rx) (queue 0 (word c 0))
    (λ b. asks (λ x. x.tx) (queue 1 (word c 1))
    (λ d. asks (λ x. x.completion) (queue 2 (word c 2))
    (λ e. asks (λ x. x.in_rx) (bits 0 (word c 0) (word c 4) (word c 5))
    (λ f. asks (λ x. x.in_tx) (bits 1 (word c 1) (word c 6) (word c 7)) (λ g. yes (record { long = a; rx = b; tx = d; completion = e; in_rx = f; in_tx = g })))))))

-- The sets: every place is below 2 ^ 32 where each number is.
small_each : (s : List ℕ) → Small s → Each (λ x. x < 2 ^ 32) s
small_each [] h = tt
small_each (x ∷ xs) h = (h 0, small_each xs (λ i. h (suc i)))

small? : (s : List ℕ) → Dec (Small s)
small? s = asks (small_each s) (tested (all_below (2 ^ 32) s) (below_decides (2 ^ 32) s)) (λ e. yes (λ i. each_at (λ x. x < 2 ^ 32) s i 0 e (omega arith)))

part? : (n : ℕ) → Dec (IsPart n)
part? n = either (ℕ_discrete n lan91c94) (ℕ_discrete n lan91c96)
  where
    either : {P Q : Type 0} → Dec P → Dec Q → Dec (P ⊎ Q)
    either (yes p) q = yes (inl p)
    either (no n) (yes q) = yes (inr q)
    either (no n) (no m) = no (λ x. ⊎_elim n m x)

pages? : (l : Layout) (c s : List ℕ) → Dec (PagesIn l c s)
pages? l c s =
    asks (λ x. x.part) (part? (length s))
    (λ a. asks (λ x. x.free) (ℕ_discrete (word c 3) (word_of (length s) (length (free_for l (lists_of l s)))))
    (λ b. asks (λ x. x.small) (small? s) (λ d. yes (record { part = a; free = b; small = d }))))

-- All of it, and with the memory.
sound? : (l : Layout) (w s q : List ℕ) → Dec (SoundOf l w s q)
sound? l w s q =
    asks (λ x. x.kept) (kept? w)
    (λ a. asks (λ x. x.queues) (queues? (figures w) q)
    (λ b. asks (λ x. x.sets) (pages? l (figures w) s) (λ c. yes (record { kept = a; queues = b; sets = c }))))

pub ready? : (l : Layout) (w s q : List ℕ) → Dec (ReadyOf l w s q)
ready? l w s q =
    let c = view_of l w s q [] in
    asks (λ x. x.sound) (sound? l w s q) (λ a. asks (λ x. x.well) (tested (formed (length s) c) (formed_decides (length s) c)) (λ b. yes (record { sound = a; well = b })))

-- Of a record with 24 places: its part's, and nothing behind them.
pub holds? : (l : Layout) (w s q : List ℕ) → Dec (HoldsOf l w s q)
holds? l w s q =
    asks (λ x. x.ready) (ready? l w (of_part w s) q)
    (λ a. asks (λ x. x.rest) (List-discrete ℕ_discrete (drop (size_in w) s) (replicate (24 - size_in w) 0)) (λ b. yes (record { ready = a; rest = b })))

pub decided : (l : Layout) (w s q mem : List ℕ) → Dec (WholeOf l w s q mem)
decided l w s q mem = asks (λ x. x.holds) (holds? l w s q) (λ a. asks (λ x. x.full) (ℕ_discrete (length mem) (256 * page_numbers l (size_in w))) (λ b. yes (record { holds = a; full = b })))
