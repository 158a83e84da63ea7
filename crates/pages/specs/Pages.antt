-- What a change of the page sets promises: the free count that is kept follows it.
use Rattle.std.specs.Prelude.{◌≡◌, List, [], ℕ, ◌/◌, ◌≤◌, ◌<◌, length, get_or}
use Rattle.std.proofs.Common.{ap, subst, sym, ◌∙◌, arith}
use Rattle.rules.specs.Bits.{word_of}
use Rattle.rules.specs.Chip.{Registers, Layout, paged, Pool, Chip, free_for}
use Rattle.rules.specs.Fields.{set_pages, in_registers, in_pool}
use Rattle.rules.specs.WellFormed.{GoodPages}
use Rattle.wellformed.specs.Parts.{part_few}
use Rattle.wellformed.specs.Settle.{request_few}
use Rattle.state.specs.View.{word, registers_in, figures, with_mir, lists_of, pool_of, view_of, Kept}
use Rattle.state.specs.Pages.{numbers_length}
use Rattle.state.specs.Promise.{QueuesIn, PagesIn, SoundOf, ReadyOf, Sets, sets_chip}

-- packet k, which has none, may get m pages: so many are free
pub record Grantable (k m : ℕ) (ls : List (List ℕ)) : Type 0 where
  pub good : GoodPages (length ls) ls
  pub number : k < length ls
  pub none : get_or ls k [] ≡ []
  pub short : m ≤ 8
  pub few : m ≤ length (free_for paged ls)

-- the page lists change by f, whatever the queues; of the words MIR alone changes, and no register
pub record RepagesOf (l : Layout) (f : List (List ℕ) → List (List ℕ)) (w s w' s' : List ℕ) : Type 0 where
  pub regs : registers_in w' ≡ registers_in w
  pub pages : lists_of l s' ≡ f (lists_of l s)
  pub still : figures w' ≡ with_mir (word w' 4) (figures w)
  pub kept : Kept w'
  pub sets : PagesIn l (figures w') s'

abbrev pub Repages : (List (List ℕ) → List (List ℕ)) → List ℕ → List ℕ → List ℕ → List ℕ → Type 0
Repages = RepagesOf paged

-- Queues are told by the figures but for MIR.
mir_alone : {c c' : List ℕ} {x : ℕ} (q : List ℕ) → c' ≡ with_mir x c → QueuesIn c q → QueuesIn c' q
mir_alone q e h =
    subst (λ (d : List ℕ). QueuesIn d q) (sym e)
    (record { long = h.long; rx = h.rx; tx = h.tx; completion = h.completion; in_rx = h.in_rx; in_tx = h.in_tx })

module _ {l : Layout} {f : List (List ℕ) → List (List ℕ)} {w s w' s' : List ℕ} (a : RepagesOf l f w s w' s') (q : List ℕ) where
  -- the queues stay
  repages_pool : pool_of l (figures w') s' q ≡ set_pages (f (lists_of l s)) (pool_of l (figures w) s q)
  repages_pool = ap (λ (c : List ℕ). pool_of l c s' q) a.still ∙ ap (λ (ls : List (List ℕ)). set_pages ls (pool_of l (figures w) s q)) a.pages

  pub repages_queues : QueuesIn (figures w) q → QueuesIn (figures w') q
  repages_queues h = mir_alone q a.still h

  -- as many packets as before, where the lists are as many
  pub repages_size : length (f (lists_of l s)) ≡ length (lists_of l s) → length s' ≡ length s
  repages_size e = sym (numbers_length l s') ∙ ap length a.pages ∙ e ∙ numbers_length l s

  -- the chip after it; and the state is sound
  pub repages_chip : (mem : List ℕ) → view_of l w' s' q mem ≡ in_pool (λ p. set_pages (f p.pages) p) (view_of l w s q mem)
  repages_chip mem =
      ap (λ (r : Registers). record { regs = r; pool = pool_of l (figures w') s' q; memory = mem }) a.regs
      ∙ ap (λ (p : Pool). record { regs = registers_in w; pool = p; memory = mem }) repages_pool

  pub repages_sound : QueuesIn (figures w) q → SoundOf l w' s' q
  repages_sound h = record { kept = a.kept; queues = repages_queues h; sets = a.sets }

-- the chip changes by f, whatever its queues and its memory, which stay; of the words registers and MIR may change
pub record AltersOf (l : Layout) (f : Chip → Chip) (w s w' s' : List ℕ) : Type 0 where
  pub chip : (q mem : List ℕ) → view_of l w' s' q mem ≡ f (view_of l w s q mem)
  pub still : figures w' ≡ with_mir (word w' 4) (figures w)
  pub kept : Kept w'
  pub sets : PagesIn l (figures w') s'

abbrev pub Alters : (Chip → Chip) → List ℕ → List ℕ → List ℕ → List ℕ → Type 0
Alters = AltersOf paged

-- a change of the page lists alone; then one of the registers alone; one change after another; and the same change in other words
pub repages_alters : {l : Layout} {f : List (List ℕ) → List (List ℕ)} {w s w' s' : List ℕ} → RepagesOf l f w s w' s' → AltersOf l (in_pool (λ p. set_pages (f p.pages) p)) w s w' s'
repages_alters a = record { chip = repages_chip a; still = a.still; kept = a.kept; sets = a.sets }

pub alters_sets : {l : Layout} {f : Chip → Chip} {g : Registers → Registers} {w s w' s' w'' : List ℕ} → AltersOf l f w s w' s' → Sets g w' w'' → AltersOf l (λ c. in_registers g (f c)) w s w'' s'
alters_sets {l} {g = g} {w = w} {s' = s'} a b = record {
  chip = λ q mem. sets_chip b l s' q mem ∙ ap (in_registers g) (a.chip q mem);
  still = b.still ∙ a.still ∙ ap (λ (c : List ℕ). with_mir (word c 3) (figures w)) (sym b.still);
  kept = b.kept;
  sets = subst (λ (c : List ℕ). PagesIn l c s') (sym b.still) a.sets;
}

pub alters_both : {l : Layout} {f g : Chip → Chip} {w s w' s' w'' s'' : List ℕ} → AltersOf l f w s w' s' → AltersOf l g w' s' w'' s'' → AltersOf l (λ c. g (f c)) w s w'' s''
alters_both {g = g} {w'' = w''} a b = record {
  chip = λ q mem. b.chip q mem ∙ ap g (a.chip q mem);
  still = b.still ∙ ap (with_mir (word w'' 4)) a.still;
  kept = b.kept;
  sets = b.sets;
}

pub alters_as : {l : Layout} {f g : Chip → Chip} {w s w' s' : List ℕ} → AltersOf l f w s w' s' → ((q mem : List ℕ) → f (view_of l w s q mem) ≡ g (view_of l w s q mem)) → AltersOf l g w s w' s'
alters_as a e = record { chip = λ q mem. a.chip q mem ∙ e q mem; still = a.still; kept = a.kept; sets = a.sets }

-- the queues stay, and the state is sound
pub alters_queues : {l : Layout} {f : Chip → Chip} {w s w' s' : List ℕ} → AltersOf l f w s w' s' → (q : List ℕ) → QueuesIn (figures w) q → QueuesIn (figures w') q
alters_queues a q h = mir_alone q a.still h

pub alters_sound : {l : Layout} {f : Chip → Chip} {w s w' s' : List ℕ} → AltersOf l f w s w' s' → (q : List ℕ) → QueuesIn (figures w) q → SoundOf l w' s' q
alters_sound a q h = record { kept = a.kept; queues = alters_queues a q h; sets = a.sets }

-- What waits on a state in order is for at most 8 pages, as `give_back` asks.
pub waits_few : {l : Layout} {w s q : List ℕ} → ReadyOf l w s q → word w 23 ≤ 8
waits_few {w = w} r = request_few (registers_in w).numbers r.well.request

-- MIR's high byte is the number of free pages.
pub free_told : {l : Layout} (w s : List ℕ) → PagesIn l (figures w) s → word w 4 / 256 ≡ length (free_for l (lists_of l s))
unfolding word_of
free_told w s h = omega (arith, h.free, part_few h.part)
