-- What a command does, case by case, with its tests answered; and what well-formedness gives a command.
use Rattle.std.specs.Prelude.{◌≡◌, Bool, true, false, List, [], ◌∷◌, ◌++◌, ℕ, ◌+◌, ◌≤◌, ◌<◌, ◌/◌, ◌%◌, length, get_or, drop}
use Rattle.std.proofs.Math.Path.{refl}
use Rattle.std.proofs.Common.{ap, sym, ◌∙◌, ⊎_elim, arith, eq-eqb, ne_eqb, le-leb}
use Rattle.std.proofs.lemmas.Bool.{lt-leb}
use Rattle.rules.specs.Lists.{member}
use Rattle.rules.specs.Chip.{Chip, free, allocated}
use Rattle.rules.specs.Fields.{set_rx, set_tx, in_pool}
use Rattle.rules.specs.Answers.{Effect, did, refuse}
use Rattle.rules.specs.WellFormed.{FormedAt}
use Rattle.rules.specs.Mmu.{allocate, remove_rx, remove_and_release, release, enqueue, unknown, decode, perform, grant, pend, give_back, queued, if_idle, if_head}
use Rattle.lists.specs.Facts.{or_right, no_head, head_and_rest, member_at, member_cases}
use Rattle.wellformed.specs.Count.{distinct_few}
use Rattle.wellformed.specs.Pool.{has_small}

-- The values that are ranges.
pub decode_allocate : (v : ℕ) → 32 ≤ v → v < 40 → decode v ≡ allocate (v % 8 + 1)
unfolding decode
decode_allocate v h k = rw (ne_eqb v 0 (omega arith), eq-eqb (v / 8) 4 (omega arith))

pub decode_unknown : (v : ℕ) → (v ≡ 0 → ⊥) → (v / 8 ≡ 4 → ⊥) → (v ≡ 64 → ⊥) → (v ≡ 96 → ⊥) → (v ≡ 128 → ⊥) → (v ≡ 160 → ⊥) → (v ≡ 192 → ⊥) → (v ≡ 224 → ⊥) → decode v ≡ unknown
unfolding decode
decode_unknown v a b c d e f g h =
    rw (ne_eqb v 0 a, ne_eqb (v / 8) 4 b, ne_eqb v 64 c, ne_eqb v 96 d, ne_eqb v 128 e, ne_eqb v 160 f, ne_eqb v 192 g, ne_eqb v 224 h)

module _ (c : Chip) where
  pub allocates : (n : ℕ) → n ≤ length (free c) → perform (allocate n) c ≡ did (grant n c)
  unfolding perform
  allocates n h = rw (le-leb _ _ h)

  pub allocates_none : (n : ℕ) → length (free c) < n → perform (allocate n) c ≡ did (pend n c)
  unfolding perform
  allocates_none n h = rw (lt-leb _ _ h)

  -- by the RX head
  by_none : (f : ℕ → List ℕ → Effect) → length c.pool.rx ≡ 0 → if_head c c.pool.rx f ≡ refuse 7 c
  by_none f h = ap (λ (l : List ℕ). if_head c l f) (no_head c.pool.rx h)

  by_first : (f : ℕ → List ℕ → Effect) → 0 < length c.pool.rx → if_head c c.pool.rx f ≡ f (get_or c.pool.rx 0 0) (drop 1 c.pool.rx)
  by_first f h = ap (λ (l : List ℕ). if_head c l f) (head_and_rest c.pool.rx 0 h)

  pub removes_none : length c.pool.rx ≡ 0 → perform remove_rx c ≡ refuse 7 c
  unfolding perform
  removes_none h = by_none _ h

  pub removes : 0 < length c.pool.rx → perform remove_rx c ≡ did (in_pool (set_rx (drop 1 c.pool.rx)) c)
  unfolding perform
  removes h = by_first _ h

  pub releases_none : length c.pool.rx ≡ 0 → perform remove_and_release c ≡ refuse 7 c
  unfolding perform
  releases_none h = by_none _ h

  pub releases_head : 0 < length c.pool.rx → perform remove_and_release c ≡ did (give_back (get_or c.pool.rx 0 0) (in_pool (set_rx (drop 1 c.pool.rx)) c))
  unfolding perform
  releases_head h = by_first _ h

  -- by the packet number register
  pub releases : perform release c ≡ if_idle c (did (give_back c.regs.numbers.packet c))
  unfolding perform
  releases = refl

  pub enqueues : perform enqueue c ≡ if_idle c (did (in_pool (set_tx (c.pool.tx ++ (c.regs.numbers.packet ∷ []))) c))
  unfolding perform
  enqueues = refl

  module _ (s : Effect) where
    pub idle_5 : allocated c.regs.numbers.packet c ≡ false → if_idle c s ≡ refuse 5 c
    idle_5 a = rw a

    pub idle_6 : allocated c.regs.numbers.packet c ≡ true → queued c.regs.numbers.packet c ≡ true → if_idle c s ≡ refuse 6 c
    idle_6 a q = rw (a, q)

    pub idle_done : allocated c.regs.numbers.packet c ≡ true → queued c.regs.numbers.packet c ≡ false → if_idle c s ≡ s
    idle_done a q = rw (a, q)

-- What well-formedness gives a command.
module _ {n : ℕ} (c : Chip) (w : FormedAt n c) where
  pub head_small : 0 < length c.pool.rx → get_or c.pool.rx 0 0 < n
  head_small h = omega (arith, has_small c.pool.pages _ (w.queues.rx_allocated _ (member_at c.pool.rx 0 h)), w.count)

  pub packet_small_lem : (k : ℕ) → allocated k c ≡ true → k < n
  packet_small_lem k a = omega (arith, has_small c.pool.pages k a, w.count)

  -- a packet that is allocated and in no queue finds a place in TX
  pub tx_room : (k : ℕ) → allocated k c ≡ true → {b : Bool} → b ≡ queued k c → b ≡ false → length c.pool.tx < n
  tx_room k a e u =
      distinct_few n (k ∷ c.pool.tx) (or_right (member k c.pool.rx) (member k c.pool.tx) (sym e ∙ u), w.queues.tx_distinct)
      (λ p x. ⊎_elim (λ e. omega (arith, e, packet_small_lem k a)) (λ y. packet_small_lem p (w.queues.tx_allocated p y)) (member_cases p k c.pool.tx x))
