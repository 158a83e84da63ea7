-- Document 02, W3: the chip of strips beside the paged one, from power-up on and throughout. Proved of any two layouts, for any number of packets.
use Rattle.std.specs.Prelude.{refl, ℕ, zero, suc, ◌*◌, length, replicate}
use Rattle.std.proofs.Common.{ap, sym, ◌∙◌, true≢false, arith}
use Rattle.std.proofs.Math.Path.{subst}
use mathlib.Core.List.{List, [], ◌∷◌}
use Rattle.rules.specs.Chip.{Layout, paged, strips, Chip, page_numbers, pages_at, powered}
use Rattle.rules.specs.Step.{Input, driver, frame, sent, link, serve, step_of, run_of}
use Rattle.wellformed.specs.Fit.{Fits}
use Rattle.wellformed.proofs.Fit.{step_fit}
use Rattle.wellformed.specs.Keeps.{powered_fits}
use Rattle.wellformed.proofs.Keeps.{keeps}
use Rattle.laws.specs.DataAccesses.{data_read}
use Rattle.laws.specs.Head.{byte_at}
use Rattle.strip_laws.specs.Written.{Marks, unwritten, input_marks, written, written_by, Minds, OnlyWritten}
use Rattle.strip_laws.specs.Strips.{Agree, StepAlike, Alike}
use Rattle.laws.specs.Placed.{Octets}
use Rattle.strip_laws.specs.SameCounts.{none_alike}
use Rattle.strip_laws.specs.Beside.{on, Follows, stays, Turns, Beside}
use Rattle.strip_laws.proofs.BesideRegisters.{same_access, same_plug}
use Rattle.strip_laws.proofs.BesideFrames.{same_arrive}
use Rattle.strip_laws.proofs.BesideSends.{same_finish}
use Rattle.strip_laws.specs.StripsAlike.{StripsBeside}

-- A chip that follows agrees.
agrees_with : (l : Layout) {m : Marks} {c d : Chip} → Follows l m c d → Agree m c d
agrees_with l {m} {c} {d} f = record {
  registers = ap (λ (x : Chip). x.regs) f.is;
  rx = ap (λ (x : Chip). x.pool.rx) f.is;
  tx = ap (λ (x : Chip). x.pool.tx) f.is;
  completion = ap (λ (x : Chip). x.pool.completion) f.is;
  counts = λ k. ap (λ (x : Chip). length (pages_at x k)) f.is ∙ f.packets.counts k;
  bytes = λ k a s w. ap (λ (x : Chip). byte_at (pages_at x k) x.memory a) f.is ∙ f.packets.same k a s w;
}

module _ {n : ℕ} {l : Layout} {m : Marks} {c : Chip} {ls : List (List ℕ)} {bytes : List ℕ} (b : Beside n l m c ls bytes) where
  same_serve : (i : Input) → Minds n i c m → Turns l (data_read i c) c m (input_marks i c m) (serve i c) (serve i (on l ls bytes c))
  unfolding serve input_marks
  same_serve (driver a) h = let e = same_access b a in record { reply = e.reply; output = refl; chips = e.chips }
  same_serve (frame f) h = let e = same_arrive b f h in record { reply = e.reply; output = refl; chips = e.chips }
  same_serve (sent s out) h = same_finish b s out (λ r. rw (step_fit n (sent s out) c b.fits) at (h r))
  same_serve (link x) h = let e = same_plug b x in record { reply = e.reply; output = refl; chips = e.chips }

  -- Every step.
  same_step : (i : Input) → Minds n i c m → Turns l (data_read i c) c m (input_marks i c m) (step_of n i c) (step_of n i (on l ls bytes c))
  same_step i h = rw (step_fit n i c b.fits, step_fit n i (on l ls bytes c) b.fits') (same_serve i h)

  follows : (i : Input) → Minds n i c m → Follows l (written n i c m) (step_of n i c).chip (step_of n i (on l ls bytes c)).chip
  unfolding written
  follows i h = (same_step i h).chips

  step_alike : (i : Input) → Minds n i c m → StepAlike n i m c (on l ls bytes c)
  step_alike i h =
      let t = same_step i h in
      record { reply = record { number = t.reply.number; value = t.reply.value; half = t.reply.half }; output = t.output; after = agrees_with l (follows i h) }

  -- and the two chips after it are beside each other again
  still_beside : (i : Input) (h : Minds n i c m) → Beside n l (written n i c m) (step_of n i c).chip (follows i h).lists (follows i h).bytes
  still_beside i h =
      let f = follows i h in
      record { fits = keeps n c b.fits i; fits' = subst (Fits n) f.is (keeps n (on l ls bytes c) b.fits' i); packets = f.packets }

-- Throughout, and at the end.
module _ (n : ℕ) (l : Layout) where
  beside_alike : (inputs : List Input) {m : Marks} {c : Chip} {ls : List (List ℕ)} {bytes : List ℕ} → Beside n l m c ls bytes → OnlyWritten n inputs c m → Alike n inputs m c (on l ls bytes c)
  beside_alike [] b h = tt
  beside_alike (i ∷ is) {m} {c} b h = (
    step_alike b i h.0,
    subst (λ (d : Chip). Alike n is (written n i c m) (step_of n i c).chip d) (sym (follows b i h.0).is) (beside_alike is (still_beside b i h.0) h.1),
  )

  beside_at_the_end : (inputs : List Input) {m : Marks} {c : Chip} {ls : List (List ℕ)} {bytes : List ℕ} → Beside n l m c ls bytes → OnlyWritten n inputs c m
      → Agree (written_by n inputs c m) (run_of n inputs c).chip (run_of n inputs (on l ls bytes c)).chip
  unfolding run_of
  beside_at_the_end [] b h = agrees_with l (stays _ b.packets)
  beside_at_the_end (i ∷ is) {m} {c} b h =
      subst (λ (d : Chip). Agree (written_by n is (step_of n i c).chip (written n i c m)) (run_of n is (step_of n i c).chip).chip (run_of n is d).chip) (sym (follows b i h.0).is)
      (beside_at_the_end is (still_beside b i h.0) h.1)

-- At power-up no byte is written, and all are zero.
zero_octets : (k : ℕ) → Octets (replicate k 0)
zero_octets zero i = omega arith
zero_octets (suc k) zero = omega arith
zero_octets (suc k) (suc i) = zero_octets k i

powered_beside : (l other : Layout) (n : ℕ) → Beside n other unwritten (powered l n) (powered other n).pool.pages (powered other n).memory
powered_beside l other n = record {
  fits = powered_fits l n;
  fits' = powered_fits other n;
  packets = record {
    counts = none_alike n;
    within = λ k a s w. absurd (true≢false (sym w));
    same = λ k a s w. absurd (true≢false (sym w));
    octets = zero_octets (256 * page_numbers l n);
    octets' = zero_octets (256 * page_numbers other n);
  };
}

-- "sequences from power-up in which each send reads only bytes written since its packet was allocated": in these the chip of strips "gives the same answers, queues and registers as the paged chip, and the two agree on every byte so written; only a data read of another byte may return another value"
pub strips_alike : (n : ℕ) (inputs : List Input) → OnlyWritten n inputs (powered paged n) unwritten → Alike n inputs unwritten (powered paged n) (powered strips n)
strips_alike n inputs h = beside_alike n strips inputs (powered_beside paged strips n) h

pub strips_agree : (n : ℕ) (inputs : List Input) → OnlyWritten n inputs (powered paged n) unwritten
    → Agree (written_by n inputs (powered paged n) unwritten) (run_of n inputs (powered paged n)).chip (run_of n inputs (powered strips n)).chip
strips_agree n inputs h = beside_at_the_end n strips inputs (powered_beside paged strips n) h

pub strips_beside : (n : ℕ) (inputs : List Input) → OnlyWritten n inputs (powered paged n) unwritten → StripsBeside n inputs
strips_beside n inputs h = record { steps = strips_alike n inputs h; end = strips_agree n inputs h }
