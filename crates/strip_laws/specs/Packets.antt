-- The packets of two chips beside each other: as many pages each, and the same at every written byte. What a step does to packets keeps this: bytes are put into one, one gives its pages back, the next is granted pages.
use Rattle.std.specs.Prelude.{◌≡◌, Bool, false, ◌&&◌, ◌⊎◌, ℕ, ◌+◌, ◌-◌, ◌*◌, ◌≤◌, ◌<◌, eqb, get_or, set, replicate}
use Rattle.std.proofs.Math.Path.{refl, ap}
use Rattle.std.proofs.Common.{sym, ◌∙◌, arith}
use Rattle.std.proofs.Math.Bool.{true, true≢false}
use Rattle.std.proofs.Math.Logic.{inl, inr, ⊎_elim}
use mathlib.Core.List.{List, []}
use Rattle.std.proofs.Math.Decide.{ℕ_discrete, dec_le}
use Rattle.std.proofs.Math.Dec.{leb, ltb}
use Rattle.std.proofs.Math.ListN.{length}
use Rattle.rules.specs.Lists.{some?}
use Rattle.rules.specs.WellFormed.{GoodPages}
use Rattle.rules.specs.Packet.{place, get_bytes, put_bytes}
use Rattle.lists.specs.Facts.{Decides, ◌and◌, is_true, is_false, or_cases, lt_decides, le_decides, eq_decides}
use Rattle.lists.specs.Each.{Each}
use Rattle.wellformed.specs.Pages.{at_set}
use Rattle.wellformed.specs.Layouts.{none_there}
use Rattle.laws.specs.Apart.{get_after_put}
use Rattle.laws.specs.Head.{byte_at}
use Rattle.strip_laws.specs.Written.{Marks, marked, anew}
use Rattle.strip_laws.specs.SameCounts.{SameCounts, set_alike, none_alike}
use Rattle.laws.specs.Placed.{placed, put_beside, put_there, Octets, put_octets}

-- page lists and memory of the one chip, and of the other
pub record Packets (m : Marks) (ls : List (List ℕ)) (memory : List ℕ) (others : List (List ℕ)) (bytes : List ℕ) : Type 0 where
  pub counts : SameCounts ls others
  -- what is written of a packet lies within its pages
  pub within : (k a : ℕ) → some? (get_or ls k []) ≡ true → m k a ≡ true → a < 256 * length (get_or ls k [])
  -- and is the same in both
  pub same : (k a : ℕ) → some? (get_or ls k []) ≡ true → m k a ≡ true → byte_at (get_or others k []) bytes a ≡ byte_at (get_or ls k []) memory a
  -- both hold bytes
  pub octets : Octets memory
  pub octets' : Octets bytes

lt_or_le : (x y : ℕ) → (x < y) ⊎ (y ≤ x)
lt_or_le x y = go (dec_le y x)
  where
    go : Dec (y ≤ x) → (x < y) ⊎ (y ≤ x)
    go (yes h) = inr h
    go (no h) = inl (omega arith)

-- page lists of a memory that has all their pages
pub record InMemory (n : ℕ) (ls : List (List ℕ)) (memory : List ℕ) : Type 0 where
  pub good : GoodPages n ls
  pub whole : length memory ≡ 256 * n

-- Bytes are put into packet k from address a on.
module _ (k a : ℕ) (put : List ℕ) where
  -- the byte of packet j at address x is one of them
  abbrev Hit : ℕ → ℕ → Type 0
  Hit j x = ((j ≡ k) × (a ≤ x)) × (x < a + length put)

  hit_decides : (j x : ℕ) → Decides (eqb j k && leb a x && ltb x (a + length put)) (Hit j x)
  hit_decides j x = eq_decides j k and le_decides a x and lt_decides x (a + length put)

  -- what is marked is one of them, or was marked before
  marked_cases : (m : Marks) (j x : ℕ) → marked k a (length put) m j x ≡ true → (m j x ≡ true) ⊎ Hit j x
  unfolding marked
  marked_cases m j x e = ⊎_elim inl (λ h. inr ((hit_decides j x).sound h)) (or_cases (m j x) (eqb j k && leb a x && ltb x (a + length put)) e)

  module _ {n : ℕ} (ls : List (List ℕ)) (memory : List ℕ) (i : InMemory n ls memory) (room : a + length put ≤ 256 * length (get_or ls k [])) where
    abbrev after : List ℕ
    after = put_bytes put a (get_or ls k []) memory

    -- such a byte is the one that was put, and any other stays
    hit : (j x : ℕ) → Hit j x → byte_at (get_or ls j []) after x ≡ get_or put (x - a) 0
    hit j x h =
        let e : x ≡ a + (x - a) = omega (arith, h.0.1) in
        ap (λ (y : ℕ). byte_at (get_or ls y []) after x) h.0.0
        ∙ ap (byte_at (get_or ls k []) after) e
        ∙ put_there (get_or ls k []) (i.good.ascend k) put a memory (placed n (get_or ls k []) memory (i.good.ascend k) (i.good.within k) i.whole) room (x - a) (omega (arith, h.0.1, h.1))

    miss : (j x : ℕ) → (Hit j x → ⊥) → x < 256 * length (get_or ls j []) → byte_at (get_or ls j []) after x ≡ byte_at (get_or ls j []) memory x
    unfolding get_bytes place
    miss j x d h = go (ℕ_discrete j k)
      where
        go : Dec (j ≡ k) → byte_at (get_or ls j []) after x ≡ byte_at (get_or ls j []) memory x
        go (yes e) =
            ap (λ (y : ℕ). byte_at (get_or ls y []) after x) e
            ∙ put_beside (get_or ls k []) (i.good.ascend k) put a memory room x (rw e at h) (side (dec_le a x))
            ∙ ap (λ (y : ℕ). byte_at (get_or ls y []) memory x) (sym e)
          where
            behind : a ≤ x → (x < a) ⊎ (a + length put ≤ x)
            behind l = ⊎_elim (λ f. absurd (d ((e, l), f))) inr (lt_or_le x (a + length put))

            side : Dec (a ≤ x) → (x < a) ⊎ (a + length put ≤ x)
            side (yes l) = behind l
            side (no l) = inl (omega arith)
        go (no f) =
            ap (λ (l : List ℕ). get_or l 0 0)
            (get_after_put (get_or ls j []) (get_or ls k []) (λ p u v. f (i.good.once j k p u v)) 1 x (omega (arith, h)) put a memory room)

  module _ {m : Marks} {ls : List (List ℕ)} {memory : List ℕ} {others : List (List ℕ)} {bytes : List ℕ} (p : Packets m ls memory others bytes) where
    -- They are written then.
    pub put_in_both : {n o : ℕ} → InMemory n ls memory → InMemory o others bytes → Each (λ b. b < 256) put → a + length put ≤ 256 * length (get_or ls k [])
        → Packets (marked k a (length put) m) ls (put_bytes put a (get_or ls k []) memory) others (put_bytes put a (get_or others k []) bytes)
    put_in_both i o low room = record {
      counts = p.counts;
      within = λ j x s e. ⊎_elim (p.within j x s) (λ h. omega (arith, h.1, room, ap (λ (y : ℕ). length (get_or ls y [])) h.0.0)) (marked_cases m j x e);
      same = λ j x s e. go j x s (marked_cases m j x e) (eqb j k && leb a x && ltb x (a + length put)) (hit_decides j x);
      octets = put_octets put a (get_or ls k []) memory low p.octets;
      octets' = put_octets put a (get_or others k []) bytes low p.octets';
    }
      where
        room' : a + length put ≤ 256 * length (get_or others k [])
        room' = omega (arith, room, p.counts k)

        go : (j x : ℕ) → some? (get_or ls j []) ≡ true → (m j x ≡ true) ⊎ Hit j x → (b : Bool) → Decides b (Hit j x)
            → byte_at (get_or others j []) (put_bytes put a (get_or others k []) bytes) x ≡ byte_at (get_or ls j []) (put_bytes put a (get_or ls k []) memory) x
        go j x s e true d = hit others bytes o room' j x (d.sound refl) ∙ sym (hit ls memory i room j x (d.sound refl))
        go j x s e false d =
            let none : Hit j x → ⊥ = λ h. true≢false (sym (d.complete h)) in
            let old : m j x ≡ true = ⊎_elim (λ u. u) (λ h. absurd (none h)) e in
            let low = p.within j x s old in
            miss others bytes o room' j x none (omega (arith, low, p.counts j)) ∙ p.same j x s old ∙ sym (miss ls memory i room j x none low)

module _ {m : Marks} {ls : List (List ℕ)} {memory : List ℕ} {others : List (List ℕ)} {bytes : List ℕ} (p : Packets m ls memory others bytes) where
  -- No packet has pages.
  pub emptied_in_both : (n : ℕ) → Packets m (replicate n []) memory (replicate n []) bytes
  unfolding some?
  emptied_in_both n =
      let none : (k : ℕ) → some? (get_or {A = List ℕ} (replicate n []) k []) ≡ true → ⊥ = λ k s. true≢false (sym s ∙ ap some? (none_there n k)) in
      record { counts = none_alike n; within = λ k x s e. absurd (none k s); same = λ k x s e. absurd (none k s); octets = p.octets; octets' = p.octets' }
