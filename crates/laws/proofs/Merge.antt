-- Demand 3, "Loading and reception do not disturb each other": a run of loads, "merged in any way with arriving frames, ends in the same registers, queues and memory with the same answers". On any chip, well formed or not.
use Rattle.std.specs.Prelude.{◌≡◌, Bool, true, false, ℕ, length, drop}
use Rattle.std.proofs.Math.Path.{refl, ap, sym}
use Rattle.std.proofs.Common.{ap₂, subst, ◌∙◌, arith}
use mathlib.Core.List.{List, [], ◌∷◌, ◌++◌, map}
use Rattle.std.proofs.Math.ListN.{get_or}
use Rattle.rules.specs.Chip.{Chip}
use Rattle.rules.specs.Answers.{Turn, refusal}
use Rattle.rules.specs.Tests.{fit}
use Rattle.rules.specs.Registers.{Access, access}
use Rattle.rules.specs.Receive.{Frame, arrive}
use Rattle.rules.specs.Step.{Input, driver, frame, serve, step_of, behind, run_of}
use Rattle.wellformed.specs.Fit.{Fits}
use Rattle.wellformed.proofs.Fit.{fit_decides, step_fit}
use Rattle.wellformed.proofs.Keeps.{keeps}
use Rattle.laws.specs.Exchange.{Exchanged}
use Rattle.laws.proofs.Exchange.{exchange}
use Rattle.laws.specs.Loads.{Loads}
use Rattle.laws.proofs.Loads.{loads_after_load, loads_after_frame}
use Rattle.laws.specs.Merge.{Merge, lefts, rights, lefts_alike, rights_alike, Alike, none, left, right}

-- what is said of the run of a merge on a chip with n pages
record Merged (n : ℕ) (c : Chip) (loads : List Access) (frames : List Frame) {xs ys zs : List Input} (m : Merge xs ys zs) : Type 0 where
  -- each load is answered as in the run of the loads alone, each frame as in that of the frames alone
  loaded : lefts m (run_of n zs c).replies ≡ (run_of n (map driver loads) c).replies
  arrived : rights m (run_of n zs c).replies ≡ (run_of n (map frame frames) c).replies
  -- the chip is that of the loads followed by the frames
  chip : (run_of n zs c).chip ≡ (run_of n (map driver loads ++ map frame frames) c).chip

module _ (n : ℕ) where
  -- On a chip that refusal 16 lets pass, before a run of loads.
  record Ready (c : Chip) (loads : List Access) : Type 0 where
    fits : Fits n c
    run : Loads c c loads

  served : (i : Input) (c : Chip) (loads : List Access) → Ready c loads → step_of n i c ≡ serve i c
  served i c loads r = step_fit n i c r.fits

  runs : (i : Input) (is : List Input) (c : Chip) (loads : List Access) → Ready c loads → run_of n (i ∷ is) c ≡ behind (serve i c) (run_of n is (serve i c).chip)
  unfolding run_of
  runs i is c loads r = ap (λ (t : Turn). behind t (run_of n is t.chip)) (served i c loads r)

  ready_after : (i : Input) (c : Chip) (loads rest : List Access) → Ready c loads → Loads (serve i c).chip (serve i c).chip rest → Ready (serve i c).chip rest
  ready_after i c loads rest r l = record { fits = subst (λ (t : Turn). Fits n t.chip) (served i c loads r) (keeps n c r.fits i); run = l }

  after_load : (a : Access) (rest : List Access) (c : Chip) → Ready c (a ∷ rest) → Ready (access a c).chip rest
  unfolding serve
  after_load a rest c r = ready_after (driver a) c (a ∷ rest) rest r (loads_after_load a rest c r.run)

  after_frame : (f : Frame) (loads : List Access) (c : Chip) → Ready c loads → Ready (arrive f c).chip loads
  unfolding serve
  after_frame f loads c r = ready_after (frame f) c loads loads r (loads_after_frame n f loads c r.fits r.run)

  exchanged : (a : Access) (rest : List Access) (f : Frame) (c : Chip) → Ready c (a ∷ rest) → Exchanged a f c
  exchanged a rest f c r = exchange a f c r.fits r.run.0

  none_answered : (c : Chip) → (run_of n [] c).replies ≡ []
  unfolding run_of
  none_answered c = refl

  -- Loads are answered after a frame as before it.
  loads_answered : (f : Frame) (loads : List Access) (c : Chip) → Ready c loads → (run_of n (map driver loads) (arrive f c).chip).replies ≡ (run_of n (map driver loads) c).replies
  unfolding serve
  loads_answered f [] c r = none_answered (arrive f c).chip ∙ sym (none_answered c)
  loads_answered f (a ∷ rest) c r =
      let e = exchanged a rest f c r in
      rw (runs (driver a) (map driver rest) (arrive f c).chip (a ∷ rest) (after_frame f (a ∷ rest) c r), runs (driver a) (map driver rest) c (a ∷ rest) r)
      (ap₂ ◌∷◌ e.access_reply
      (ap (λ (d : Chip). (run_of n (map driver rest) d).replies) e.chip ∙ loads_answered f rest (access a c).chip (after_load a rest c r)))

  -- Frames are answered after a load as before it.
  frames_answered : (a : Access) (rest : List Access) (frames : List Frame) (c : Chip) → Ready c (a ∷ rest)
      → (run_of n (map frame frames) (access a c).chip).replies ≡ (run_of n (map frame frames) c).replies
  unfolding serve
  frames_answered a rest [] c r = none_answered (access a c).chip ∙ sym (none_answered c)
  frames_answered a rest (f ∷ fs) c r =
      let e = exchanged a rest f c r in
      rw (runs (frame f) (map frame fs) (access a c).chip rest (after_load a rest c r), runs (frame f) (map frame fs) c (a ∷ rest) r)
      (ap₂ ◌∷◌ e.frame_reply
      (ap (λ (d : Chip). (run_of n (map frame fs) d).replies) (sym e.chip) ∙ frames_answered a rest fs (arrive f c).chip (after_frame f (a ∷ rest) c r)))

  -- A frame before the loads may come after them.
  frame_passes : (f : Frame) (is : List Input) (loads : List Access) (c : Chip) → Ready c loads
      → (run_of n (map driver loads ++ is) (arrive f c).chip).chip ≡ (run_of n (map driver loads ++ (frame f ∷ is)) c).chip
  unfolding serve
  frame_passes f is [] c r = rw (runs (frame f) is c [] r)
  frame_passes f is (a ∷ rest) c r =
      let e = exchanged a rest f c r in
      rw (runs (driver a) (map driver rest ++ is) (arrive f c).chip (a ∷ rest) (after_frame f (a ∷ rest) c r), runs (driver a) (map driver rest ++ (frame f ∷ is)) c (a ∷ rest) r)
      (ap (λ (d : Chip). (run_of n (map driver rest ++ is) d).chip) e.chip ∙ frame_passes f is rest (access a c).chip (after_load a rest c r))

  cons_none : {A : Type 0} {x : Input} {xs : List Input} → x ∷ xs ≡ [] → A
  cons_none e = absurd (omega (arith, ap length e))

  -- By the merge: a load that comes first, a frame that comes first.
  merged : {xs ys zs : List Input} (m : Merge xs ys zs) (loads : List Access) (frames : List Frame) → xs ≡ map driver loads → ys ≡ map frame frames
      → (c : Chip) → Ready c loads → Merged n c loads frames m
  unfolding lefts rights serve
  merged none [] [] e d c r = record { loaded = sym (none_answered c); arrived = sym (none_answered c); chip = refl }
  merged none [] (f ∷ fs) e d c r = cons_none (sym d)
  merged none (a ∷ rest) frames e d c r = cons_none (sym e)
  merged (left m) [] frames e d c r = cons_none e
  merged (left {x = x} {zs = zs} m) (a ∷ rest) frames e d c r =
      let h = merged m rest frames (ap (drop 1) e) d (access a c).chip (after_load a rest c r) in
      let same : x ≡ driver a = ap (λ (l : List Input). get_or l 0 (driver a)) e in
      rw same record {
        loaded = rw (runs (driver a) zs c (a ∷ rest) r, runs (driver a) (map driver rest) c (a ∷ rest) r) (ap (◌∷◌ (access a c).reply) h.loaded);
        arrived = rw (runs (driver a) zs c (a ∷ rest) r) (h.arrived ∙ frames_answered a rest frames c r);
        chip = rw (runs (driver a) zs c (a ∷ rest) r, runs (driver a) (map driver rest ++ map frame frames) c (a ∷ rest) r) h.chip;
      }
  merged (right m) loads [] e d c r = cons_none d
  merged (right {y = y} {zs = zs} m) loads (f ∷ fs) e d c r =
      let h = merged m loads fs e (ap (drop 1) d) (arrive f c).chip (after_frame f loads c r) in
      let same : y ≡ frame f = ap (λ (l : List Input). get_or l 0 (frame f)) d in
      rw same record {
        loaded = rw (runs (frame f) zs c loads r) (h.loaded ∙ loads_answered f loads c r);
        arrived = rw (runs (frame f) zs c loads r, runs (frame f) (map frame fs) c loads r) (ap (◌∷◌ (arrive f c).reply) h.arrived);
        chip = rw (runs (frame f) zs c loads r) (h.chip ∙ frame_passes f (map frame fs) loads c r);
      }

  -- On any other chip every step is refusal 16 and changes nothing, in whatever order.
  module _ (c : Chip) (unfit : fit n c ≡ false) where
    refused_run : (is : List Input) → ((run_of n is c).replies ≡ map (λ i. refusal 16) is) × ((run_of n is c).chip ≡ c)
    unfolding run_of step_of
    refused_run [] = (refl, refl)
    refused_run (i ∷ is) = rw unfit (ap (◌∷◌ (refusal 16)) (refused_run is).0, (refused_run is).1)

  merging : (c : Chip) (loads : List Access) (frames : List Frame) → Loads c c loads → {zs : List Input} (m : Merge (map driver loads) (map frame frames) zs) → Merged n c loads frames m
  merging c loads frames l {zs} m = go (fit n c) refl
    where
      go : (b : Bool) → fit n c ≡ b → Merged n c loads frames m
      go true e = merged m loads frames refl refl c record { fits = (fit_decides n c).sound e; run = l }
      go false e =
          let each = refused_run c e in
          record {
            loaded = ap (lefts m) (each zs).0 ∙ lefts_alike m ∙ sym (each (map driver loads)).0;
            arrived = ap (rights m) (each zs).0 ∙ rights_alike m ∙ sym (each (map frame frames)).0;
            chip = (each zs).1 ∙ sym (each (map driver loads ++ map frame frames)).1;
          }

-- Any two merges of loads and frames, on any chip.
pub any_two_lem : (n : ℕ) (c : Chip) (loads : List Access) (arriving : List Frame) → Loads c c loads → {zs others : List Input}
    → (m : Merge (map driver loads) (map frame arriving) zs) (k : Merge (map driver loads) (map frame arriving) others) → Alike n c m k
any_two_lem n c loads arriving l m k =
    let a = merging n c loads arriving l m in
    let b = merging n c loads arriving l k in
    record { chip = a.chip ∙ sym b.chip; accesses = a.loaded ∙ sym b.loaded; frames = a.arrived ∙ sym b.arrived }
