-- From what a step makes to what an entry promises: the turn of the rules, on a state that is in order again; and the same of a record with places for 24 packets, of which the step is lent the part's.
use Rattle.std.specs.Prelude.{◌≡◌, Bool, true, false, not, ℕ, ◌*◌, ◌-◌, ◌^◌, ◌≤◌, ◌<◌, length, get_or, take, drop, replicate, Ok, Err}
use Rattle.std.proofs.Math.Path.{refl}
use Rattle.std.proofs.Common.{ap, ap₂, sym, subst, ◌∙◌, true≢false, inl, inr, arith, take-append-drop, length-take-le, take_all}
use mathlib.Core.List.{List, [], ◌++◌, map}
use Rattle.std.proofs.lemmas.Bool.{not-true, not-false}
use Rattle.std.proofs.lemmas.List.{length-replicate}
use Rattle.rules.specs.Parts.{lan91c96, IsPart}
use Rattle.rules.specs.Chip.{Layout, Chip, page_numbers, size, powered}
use Rattle.rules.specs.Answers.{Effect, Turn}
use Rattle.rules.specs.WellFormed.{FormedAt}
use Rattle.rules.specs.Registers.{Access, access}
use Rattle.rules.specs.Receive.{Frame, arrive}
use Rattle.rules.specs.Send.{Send, finish}
use Rattle.rules.specs.Link.{plug}
use Rattle.rules.specs.Step.{Input, driver, frame, sent, link, lent, serve, step}
use Rattle.lists.specs.Facts.{Decides}
use Rattle.wellformed.specs.Fit.{Fits}
use Rattle.wellformed.specs.Parts.{part_few}
use Rattle.wellformed.proofs.Parts.{step_of_part, step_serves}
use Rattle.wellformed.specs.Keeps.{powered_fits}
use Rattle.wellformed.proofs.Keeps.{keeps}
use Rattle.sets.specs.Views.{pages_of}
use Rattle.sets.specs.Lists.{empty_sets}
use Rattle.state.specs.declared.part.Part.{Part}
use Rattle.state.specs.declared.part.Part.TheVariants as part
use Rattle.state.specs.Meaning.{packets_of}
use Rattle.state.specs.Only.{sets_known}
use Rattle.state.specs.Meaning.{Answer}
use Rattle.state.specs.declared.Refusal.TheVariants.{Damaged}
use Rattle.state.specs.View.{view_of}
use Rattle.state.specs.Promise.{SoundOf, MakesOf}
use Rattle.chip.specs.declared.driver.Request.{Request}
use Rattle.chip.specs.Inputs.{access_of}
use Rattle.state.specs.Pages.{numbers_length}
use Rattle.state.specs.Entry.{InOrderOf, RightOf, size_in, of_part, record_view, WholeOf, LeavesOf, AnswersOf, zeros, StartedOf}
use Rattle.state.specs.Places.{zeros_at, places_told, names_part, record_long, lent_in_order, whole_back, view_back, leaves_back, places_left}

-- the effect of a turn
abbrev pub effect_of : Turn → Effect
effect_of t = record { reply = t.reply; chip = t.chip }

module _ {l : Layout} (w s q mem : List ℕ) (o : InOrderOf l w s q mem) where
  -- A step leaves a chip of the same part.
  after : (i : Input) → Fits (length s) (step i (view_of l w s q mem)).chip
  after i =
      let c = view_of l w s q mem in
      subst (λ (t : Turn). Fits (length s) t.chip) (sym (step_of_part i c o.ready.sound.sets.part o.ready.well.count)) (keeps (length s) c (o.ready.well, o.full) i)

  -- So what it leaves has as many packets.
  pub right_size : (i : Input) {a : Answer} {w' s' q' mem' out' : List ℕ} → RightOf l (step i (view_of l w s q mem)) a w' s' q' mem' out' → length s' ≡ length s
  right_size i {s' = s'} r = sym (numbers_length l s') ∙ ap (λ (d : Chip). size d) r.chip ∙ (after i).0.count

  -- What makes the effect of a turn, and leaves its output, is right.
  right : (i : Input) (a : Answer) (w' s' q' mem' out' : List ℕ) → MakesOf l (effect_of (serve i (view_of l w s q mem))) a w' s' q' mem'
      → out' ≡ (serve i (view_of l w s q mem)).output → RightOf l (step i (view_of l w s q mem)) a w' s' q' mem' out'
  right i a w' s' q' mem' out' p e =
      let c = view_of l w s q mem in
      let n = length s in
      let same : step i c ≡ serve i c = step_serves i c o.ready.sound.sets.part (o.ready.well, o.full) in
      let k : Fits n (step i c).chip = after i in
      let size : length s' ≡ n = sym (numbers_length l s') ∙ ap (λ (d : Chip). size d) (p.chip ∙ sym (ap (λ (t : Turn). t.chip) same)) ∙ k.0.count in
      record {
        chip = p.chip ∙ sym (ap (λ (t : Turn). t.chip) same);
        reply = p.reply ∙ sym (ap (λ (t : Turn). t.reply) same);
        output = e ∙ sym (ap (λ (t : Turn). t.output) same);
        ready = record {
          ready = record { sound = p.sound; well = subst (λ (m : ℕ). FormedAt m (view_of l w' s' q' mem')) (sym size) (subst (λ (d : Chip). FormedAt n d) (sym (p.chip ∙ sym (ap (λ (t : Turn). t.chip) same))) k.0) };
          full = ap (λ (d : Chip). length d.memory) (p.chip ∙ sym (ap (λ (t : Turn). t.chip) same)) ∙ k.1
              ∙ sym (ap₂ (λ (d : Chip) (m : ℕ). 256 * page_numbers d.pool.layout m) (p.chip ∙ sym (ap (λ (t : Turn). t.chip) same)) size);
        };
      }

  -- Accesses, frames and link events leave the output buffer, which they are not lent.
  pub right_access : (i : Access) (a : Answer) (w' s' q' mem' : List ℕ) → MakesOf l (access i (view_of l w s q mem)) a w' s' q' mem' → RightOf l (step (driver i) (view_of l w s q mem)) a w' s' q' mem' []
  unfolding serve
  right_access i a w' s' q' mem' p = right (driver i) a w' s' q' mem' [] p refl

  pub right_frame : (f : Frame) (a : Answer) (w' s' q' mem' : List ℕ) → MakesOf l (arrive f (view_of l w s q mem)) a w' s' q' mem' → RightOf l (step (frame f) (view_of l w s q mem)) a w' s' q' mem' []
  unfolding serve
  right_frame f a w' s' q' mem' p = right (frame f) a w' s' q' mem' [] p refl

  pub right_link : (x : ℕ) (a : Answer) (w' s' q' mem' : List ℕ) → MakesOf l (plug x (view_of l w s q mem)) a w' s' q' mem' → RightOf l (step (link x) (view_of l w s q mem)) a w' s' q' mem' []
  unfolding serve
  right_link x a w' s' q' mem' p = right (link x) a w' s' q' mem' [] p refl

  -- A send leaves the output that its turn has, of the buffer that it lends.
  pub right_send : (x : Send) (out : List ℕ) (a : Answer) (w' s' q' mem' out' : List ℕ) → MakesOf l (effect_of (finish x (view_of l w s q mem) out)) a w' s' q' mem'
      → out' ≡ (finish x (view_of l w s q mem) out).output → RightOf l (step (sent x out) (view_of l w s q mem)) a w' s' q' mem' out'
  unfolding serve
  right_send x out = right (sent x out)

-- A record in order, of which the step is lent the first n places, those of the part: it leaves `left` in these, and the places behind them stay.
module _ {l : Layout} {w s q mem : List ℕ} (h : WholeOf l w s q mem) {n : ℕ} (e : n ≡ size_in w) where
  pub part_fits : n ≤ length s
  part_fits = omega (arith, e, record_long h.holds, part_few (names_part h.holds))

  pub part_count : n ≡ length (take n s)
  part_count = sym (length-take-le n s part_fits)

  pub lent_part : InOrderOf l w (take n s) q mem
  lent_part = subst (λ (m : ℕ). InOrderOf l w (take m s) q mem) (sym e) (lent_in_order h)

  pub leaves_part : (i : Input) (left : List ℕ) {a : Answer} {w' q' mem' out' : List ℕ} → RightOf l (step i (view_of l w (take n s) q mem)) a w' left q' mem' out'
      → LeavesOf l (step i (record_view l w s q mem)) a w' (left ++ drop n s) q' mem' out'
  leaves_part i left {a} {w'} {q'} {mem'} {out'} r =
      let t : RightOf l (step i (record_view l w s q mem)) a w' left q' mem' out' = subst (λ (m : ℕ). RightOf l (step i (view_of l w (take m s) q mem)) a w' left q' mem' out') e r in
      leaves_back (left ++ drop n s) t (ap (λ (m : ℕ). left ++ drop m s) e ∙ places_left h.holds left (right_size w (of_part w s) q mem (lent_in_order h) i t))

  -- and all stay where the step changes none
  pub leaves_places : (i : Input) {a : Answer} {w' q' mem' out' : List ℕ} → RightOf l (step i (view_of l w (take n s) q mem)) a w' (take n s) q' mem' out'
      → LeavesOf l (step i (record_view l w s q mem)) a w' s q' mem' out'
  leaves_places i {a} {w'} {q'} {mem'} {out'} r =
      subst (λ (x : List ℕ). LeavesOf l (step i (record_view l w s q mem)) a w' x q' mem' out') (take-append-drop n s) (leaves_part i (take n s) r)

-- What is returned of a record that is not in order, and of one that is.
module _ {l : Layout} {w s q mem : List ℕ} where
  pub damaged : (i : Input) → (WholeOf l w s q mem → ⊥) → AnswersOf l i w s q mem (Err Damaged) w s q mem (lent i)
  damaged i n = record { done = λ o. absurd (n o); broken = λ o. record { answer = refl; words = refl; pages = refl; queues = refl; memory = refl; output = refl } }

  pub answered : (i : Input) {a : Answer} {w' s' q' mem' out' : List ℕ} → WholeOf l w s q mem → LeavesOf l (step i (record_view l w s q mem)) a w' s' q' mem' out' → AnswersOf l i w s q mem a w' s' q' mem' out'
  answered i o t = record { done = λ x. t; broken = λ n. absurd (n o) }

-- A test that says no, and one that says yes.
pub not_in : {b : Bool} {P : Type 0} → Decides b P → not b ≡ true → P → ⊥
not_in d e p = true≢false (sym (d.complete p) ∙ not-true _ e)

pub is_in : {b : Bool} {P : Type 0} → Decides b P → not b ≡ false → P
is_in d e = d.sound (not-false _ e)

-- The same where the test itself is taken.
pub not_so : {b : Bool} {P : Type 0} → Decides b P → b ≡ false → P → ⊥
not_so d e p = true≢false (sym (d.complete p) ∙ e)

-- A request that is another one's arm: what is right of the arm's access is right of the request's.
pub as_told : {l : Layout} {r k : Request} (c : Chip) {a : Answer} {w s q mem : List ℕ} → r ≡ k → LeavesOf l (step (driver (access_of k)) c) a w s q mem [] → LeavesOf l (step (driver (access_of r)) c) a w s q mem []
as_told {l} c {a} {w} {s} {q} {mem} e = subst (λ (j : Request). LeavesOf l (step (driver (access_of j)) c) a w s q mem []) (sym e)

-- Both parts are parts, and fit into 24 places.
pub is_a_part : (p : Part) → IsPart (packets_of p)
is_a_part part.Lan91c94 = inl refl
is_a_part part.Lan91c96 = inr refl

pub zeros_behind : (p : Part) → drop {A = ℕ} (packets_of p) (replicate 24 0) ≡ replicate (24 - packets_of p) 0
zeros_behind part.Lan91c94 = refl
zeros_behind part.Lan91c96 = refl

-- Places that stand for no pages are 0.
pub cleared_zeros : {s : List ℕ} → ((i : ℕ) → get_or s i 0 < 2 ^ 32) → map pages_of s ≡ replicate 24 [] → s ≡ replicate 24 0
cleared_zeros {s} small e = sets_known s (replicate 24 0) small (λ i. let z = zeros_at 24 i in omega (arith, z)) (e ∙ sym (empty_sets 24))

-- What stands for the chip at power-up is in order, with nothing behind the part's places.
pub starts : {l : Layout} (n : ℕ) {w s q r : List ℕ} → SoundOf l w s q → view_of l w s q (zeros l n) ≡ powered l n → r ≡ s ++ replicate (24 - n) 0 → StartedOf l n (Ok 0) w r q
starts {l} n {w} {s} {q} {r} o e f =
    let fits = powered_fits l n in
    let many : length s ≡ n = sym (numbers_length l s) ∙ ap (λ (d : Chip). size d) e ∙ fits.0.count in
    let well : FormedAt (length s) (view_of l w s q (zeros l n)) = subst (λ (m : ℕ). FormedAt m (view_of l w s q (zeros l n))) (sym many) (subst (λ (d : Chip). FormedAt n d) (sym e) fits.0) in
    let rest : r ≡ s ++ replicate (24 - length s) 0 = f ∙ ap (λ (m : ℕ). s ++ replicate (24 - m) 0) (sym many) in
    let order : InOrderOf l w s q (zeros l n) = record { ready = record { sound = o; well = well }; full = length-replicate {A = ℕ} (256 * page_numbers l n) 0 ∙ ap (λ (m : ℕ). 256 * page_numbers l m) (sym many) } in
    record { answer = refl; chip = view_back r o rest ∙ e; whole = whole_back r order rest }

-- Its MIR names the part; and of the LAN91C96 all places are lent.
pub started_size : {l : Layout} {n : ℕ} {a : Answer} {w s q : List ℕ} → StartedOf l n a w s q → size_in w ≡ n
started_size {l} {n} {w = w} {s = s} h = sym (places_told h.whole.holds) ∙ sym (numbers_length l (of_part w s)) ∙ ap (λ (c : Chip). size c) h.chip ∙ length-replicate {A = List ℕ} n []

pub started_order : {l : Layout} {a : Answer} {w s q : List ℕ} → StartedOf l lan91c96 a w s q → InOrderOf l w s q (zeros l lan91c96)
started_order {l} {w = w} {s = s} {q = q} h =
    subst (λ (x : List ℕ). InOrderOf l w x q (zeros l lan91c96)) (ap (λ (m : ℕ). take m s) (started_size h) ∙ take_all lan91c96 s (omega (arith, record_long h.whole.holds))) (lent_in_order h.whole)
