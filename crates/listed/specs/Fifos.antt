-- A queue of packet numbers as 24 bytes, and back: both hold the entries, and 0 in each place that is left.
use Rattle.std.specs.Prelude.{◌≡◌, refl, List, [], ◌∷◌, ◌++◌, map, ℕ, zero, suc, ◌+◌, ◌-◌, ◌/◌, ◌%◌, length, take, drop, replicate}
use Rattle.std.proofs.Common.{ap, ap₂, sym, ◌∙◌, arith, length-append, take_at, drop_at, take_all, drop-drop}
use Rattle.std.proofs.lemmas.List.{length-replicate}
use Rattle.rules.specs.Chip.{paged, Registers}
use Rattle.sets.specs.Members.{set_of}
use Rattle.queues.specs.Slots.{Slots}
use Rattle.queues.specs.Parts.{slots, slots_entries, slots_as}
use Rattle.state.specs.View.{figures, queue_in}
use Rattle.state.specs.Promise.{QueuesIn}
use Rattle.state.specs.Only.{words_of}
use Rattle.listed.specs.declared.Queue.{Queue}
use Rattle.listed.specs.Record.{packet, number, slots_of, entries, queue_of, SoundQueue, SoundQueues}
use Rattle.listed.specs.Lists.{map_padded}

-- the bytes of a queue, and the queue of bytes
abbrev pub bytes_of : Queue → List ℕ
bytes_of q = map number q.slots

abbrev pub queue_from : ℕ → List ℕ → Queue
queue_from count p = record { count = count; slots = map packet p }

numbers_of : (l : List ℕ) (k : ℕ) → map number (map packet l ++ replicate k (packet 0)) ≡ l ++ replicate k 0
numbers_of [] k = map_padded number [] k (packet 0)
numbers_of (x ∷ l) k = ap (λ (t : List ℕ). x ∷ t) (numbers_of l k)

pub entries_from : (n : ℕ) (p : List ℕ) → entries (queue_from n p) ≡ take n p
entries_from zero p = refl
entries_from (suc n) [] = refl
entries_from (suc n) (x ∷ p) = ap (λ (t : List ℕ). x ∷ t) (entries_from n p)

-- from the queue
module _ (q : Queue) (s : SoundQueue q) where
  counted : q.count ≡ length (entries q)
  counted = ap (λ (x : Queue). x.count) s.same

  bytes_are : bytes_of q ≡ entries q ++ replicate (24 - length (entries q)) 0
  bytes_are = ap bytes_of s.same ∙ numbers_of (entries q) (24 - length (entries q))

  bytes_long : length (bytes_of q) ≡ 24
  bytes_long =
      ap length bytes_are ∙ length-append (entries q) (replicate (24 - length (entries q)) 0)
      ∙ ap (λ (n : ℕ). length (entries q) + n) (length-replicate (24 - length (entries q)) 0) ∙ omega (arith, counted, s.fits)

  bytes_slots : Slots (bytes_of q) (length (entries q)) (entries q)
  bytes_slots = record {
    many = refl;
    fits = omega (arith, counted, s.fits, bytes_long);
    same = bytes_are ∙ ap (λ (n : ℕ). entries q ++ replicate (n - length (entries q)) 0) (sym bytes_long);
  }

-- from the bytes
pub sound_from : (n : ℕ) (p : List ℕ) → length p ≡ 24 → Slots p n (take n p) → SoundQueue (queue_from n p)
sound_from n p e s =
    let l = take n p in
    let places : map packet p ≡ slots_of l = ap (map packet) (s.same ∙ ap₂ (λ (a b : ℕ). l ++ replicate (a - b) 0) e s.many) ∙ map_padded packet l (24 - length l) 0 in
    record {
      fits = omega (arith, s.fits, e);
      same = (λ i. record { count = s.many i; slots = places i }) ∙ ap queue_of (sym (entries_from n p));
    }

-- Three queues in 72 bytes.
module _ (a b c : Queue) (s : SoundQueues a b c) where
  abbrev pub all : List ℕ
  all = bytes_of a ++ (bytes_of b ++ bytes_of c)

  first : slots 0 all ≡ bytes_of a
  first = take_at (bytes_of a) (bytes_of b ++ bytes_of c) 24 (bytes_long a s.rx)

  behind : drop 24 all ≡ bytes_of b ++ bytes_of c
  behind = drop_at (bytes_of a) (bytes_of b ++ bytes_of c) 24 (bytes_long a s.rx)

  second : slots 1 all ≡ bytes_of b
  second = ap (take 24) behind ∙ take_at (bytes_of b) (bytes_of c) 24 (bytes_long b s.tx)

  third : slots 2 all ≡ bytes_of c
  third =
      ap (take 24) (sym (drop-drop 24 24 all) ∙ ap (drop 24) behind ∙ drop_at (bytes_of b) (bytes_of c) 24 (bytes_long b s.tx))
      ∙ take_all 24 (bytes_of c) (omega (arith, bytes_long c s.done))

  pub all_rx : queue_in 0 (length (entries a)) all ≡ entries a
  all_rx = ap (take (length (entries a))) first ∙ slots_entries (bytes_of a) (length (entries a)) (entries a) (bytes_slots a s.rx)

  pub all_tx : queue_in 1 (length (entries b)) all ≡ entries b
  all_tx = ap (take (length (entries b))) second ∙ slots_entries (bytes_of b) (length (entries b)) (entries b) (bytes_slots b s.tx)

  pub all_completion : queue_in 2 (length (entries c)) all ≡ entries c
  all_completion = ap (take (length (entries c))) third ∙ slots_entries (bytes_of c) (length (entries c)) (entries c) (bytes_slots c s.done)

  -- as the figures count them, beside any registers and page lists
  pub all_queues : (r : Registers) (ls : List (List ℕ)) → QueuesIn (figures (words_of r (record { layout = paged; pages = ls; rx = entries a; tx = entries b; completion = entries c }))) all
  all_queues r ls = record {
    long = simp length-append (omega (arith, bytes_long a s.rx, bytes_long b s.tx, bytes_long c s.done));
    rx = rw first (slots_as (bytes_of a) (length (entries a)) (entries a) (bytes_slots a s.rx));
    tx = rw second (slots_as (bytes_of b) (length (entries b)) (entries b) (bytes_slots b s.tx));
    completion = rw third (slots_as (bytes_of c) (length (entries c)) (entries c) (bytes_slots c s.done));
    in_rx = record { lower = ap (λ (l : List ℕ). set_of l % 65536) (sym all_rx); upper = ap (λ (l : List ℕ). set_of l / 65536) (sym all_rx) };
    in_tx = record { lower = ap (λ (l : List ℕ). set_of l % 65536) (sym all_tx); upper = ap (λ (l : List ℕ). set_of l / 65536) (sym all_tx) };
  }
