-- What a queue's laws give where a packet joins it, where its head leaves, and where it is emptied.
use Rattle.std.specs.Prelude.{◌≡◌, refl, List, [], ◌∷◌, ◌++◌, ℕ, Option, ◌+◌, ◌-◌, ◌^◌, ◌<◌, length, take, drop, get_or, set, replicate}
use Rattle.std.proofs.Common.{ap, sym, ◌∙◌, arith}
use Rattle.rules.specs.Chip.{Layout, Pool}
use Rattle.sets.specs.Members.{set_of}
use Rattle.queues.specs.Parts.{slots, replaced, part_long}
use Rattle.queues.specs.Changes.{pushed, popped, emptied}
use Rattle.state.specs.View.{word, figures, queue_in, pool_of, Kept}
use Rattle.state.specs.Promise.{QueuesIn}
use Rattle.pool.specs.Queues.{Rejoins}
use Rattle.pool.specs.Fifos.{bits_by, IsFifo}
use Rattle.pool.proofs.Marks.{joined, left}

-- the same change of the pool in other words
rejoins_as : {f g : Pool → Pool} {w q w' q' : List ℕ} → Rejoins f w q w' q' → ((l : Layout) (s : List ℕ) → f (pool_of l (figures w) s q) ≡ g (pool_of l (figures w) s q)) → Rejoins g w q w' q'
rejoins_as a e = record { regs = a.regs; pool = λ l s. a.pool l s ∙ e l s; free = a.free; kept = a.kept; queues = a.queues }

module _ {place from count : ℕ} {bits : Option ℕ} {entries : Pool → List ℕ} {set_entries : List ℕ → Pool → Pool} (f : IsFifo place from count bits entries set_entries) (q : List ℕ) where
  -- the part of the bytes that is lent, and all of them with p in its place
  pub part : (at : ℕ) → at ≡ from → take (at + 24 - at) (drop at q) ≡ slots place q
  part at e =
      let size : at + 24 - at ≡ 24 = omega arith in
      rw (size, e, f.begins) refl

  pub back : (at : ℕ) → at ≡ from → (p : List ℕ) → take at q ++ (p ++ drop (at + 24 - at) (drop at q)) ≡ replaced place p q
  back at e p =
      let size : at + 24 - at ≡ 24 = omega arith in
      rw (size, e, f.begins) refl

  module _ (w : List ℕ) (k : Kept w) (h : QueuesIn (figures w) q) where
    pub long : length (slots place q) ≡ 24
    long = part_long place q h.long f.few

    abbrev queue : List ℕ
    queue = queue_in place (word w count) q

    pub joins : (x : ℕ) (p : List ℕ) → p ≡ set (slots place q) (word w count) x → word w count < 24 → Rejoins (λ p. set_entries (entries p ++ (x ∷ [])) p) w q (set (bits_by bits (λ b. b + 2 ^ x) w) count (word w count + 1)) (replaced place p q)
    joins x p e room =
        let u = pushed (slots place q) p (word w count) x queue e (omega (arith, long)) (f.in_slots w q h) in
        rejoins_as {f = set_entries (queue ++ (x ∷ []))}
        (rw (joined bits w queue x (f.in_bits w q h)) (f.stored w q p (queue ++ (x ∷ [])) (word w count + 1) k h u.0 (u.1 ∙ long)))
        (λ l s. ap (λ (t : List ℕ). set_entries (t ++ (x ∷ [])) (pool_of l (figures w) s q)) (sym (f.own l w s q)))

    pub leaves : (x : ℕ) (p : List ℕ) → p ≡ take (word w count - 1) (drop 1 (slots place q)) ++ (0 ∷ drop (word w count) (slots place q)) → 0 < word w count → x ≡ get_or queue 0 0 → Rejoins (λ p. set_entries (drop 1 (entries p)) p) w q (set (bits_by bits (λ b. b - 2 ^ x) w) count (word w count - 1)) (replaced place p q)
    leaves x p e some first =
        let u = popped (slots place q) p (word w count) queue e some (f.in_slots w q h) in
        rejoins_as {f = set_entries (drop 1 queue)}
        (rw (left queue x (omega (arith, (f.in_slots w q h).many)) first bits w (f.in_bits w q h)) (f.stored w q p (drop 1 queue) (word w count - 1) k h u.0 (u.1 ∙ long)))
        (λ l s. ap (λ (t : List ℕ). set_entries (drop 1 t) (pool_of l (figures w) s q)) (sym (f.own l w s q)))

    pub empties : (p : List ℕ) → p ≡ replicate (length (slots place q)) 0 → Rejoins (λ p. set_entries [] p) w q (set (bits_by bits (λ b. 0) w) count 0) (replaced place p q)
    unfolding set_of
    empties p e =
        let u = emptied (slots place q) p e in
        f.stored w q p [] 0 k h u.0 (u.1 ∙ long)
