-- What is known of a frame that is to be stored, in both layouts: it has a number, pages and a place in RX.
use Rattle.std.specs.Prelude.{◌≡◌, false, List, [], ◌∷◌, ◌++◌, ℕ, ◌/◌, ◌≤◌, ◌<◌, length, set, take}
use Rattle.std.proofs.Common.{ap, arith}
use Rattle.rules.specs.Bits.{bit}
use Rattle.rules.specs.Lists.{member, first_empty}
use Rattle.rules.specs.Chip.{Layout, free_for}
use Rattle.rules.specs.Fields.{set_pages, set_rx, in_pool}
use Rattle.rules.specs.Packet.{put_bytes}
use Rattle.rules.specs.Receive.{Frame, bad_crc, data_length, needed, image, stow}
use Rattle.lists.specs.Facts.{if_not}
use Rattle.lists.specs.Each.{each_member}
use Rattle.wellformed.specs.Parts.{part_few}
use Rattle.wellformed.specs.Count.{distinct_few}
use Rattle.wellformed.specs.Pool.{number_free, number_not_rx}
use Rattle.wellformed.specs.Frames as frames
use Rattle.wellformed.specs.Frames.{needs_one, needs_seven, data_short}
use Rattle.state.specs.View.{word, registers_in, queue_in, lists_of, view_of}
use Rattle.pool.specs.Queues.{MayJoin, may_join_rx}
use Rattle.pages.specs.Pages.{RepagesOf, free_told}
use Rattle.receive.specs.Arrivals.{StowableOf}

module _ {l : Layout} {w s q : List ℕ} {f : Frame} (t : StowableOf l w s q f) where
  abbrev len : ℕ
  len = length f.bytes

  abbrev n : ℕ
  n = data_length (registers_in w) len

  abbrev pub need : ℕ
  need = needed (registers_in w) len

  abbrev pub number : ℕ
  number = first_empty (lists_of l s)

  abbrev rx : List ℕ
  rx = queue_in 0 (word w 6) q

  fits : frames.Storable (registers_in w) (word w 4 / 256) f
  fits = frames.storable (registers_in w) (word w 4 / 256) f t.told

  -- its CRC was judged, or control bit 14 is set
  pub judged_good : bit 14 (word w 14) ≡ false → bad_crc f.bytes ≡ false
  judged_good = frames.stored_good fits

  pub data_less : n ≤ len
  data_less = data_short (registers_in w) len

  pub data_few : n ≤ 1532
  data_few = omega (arith, fits.short, data_less)

  -- as many pages as it needs are free, at least one and at most seven
  pub enough : need ≤ length (free_for l (lists_of l s))
  enough = omega (arith, fits.room, free_told w s t.ready.sound.sets)

  pub some_needed : 1 ≤ need
  some_needed = needs_one (registers_in w) len

  pub few_needed : need ≤ 7
  few_needed = needs_seven (registers_in w) len fits.short

  pub number_small : number < length s
  number_small = number_free t.ready.well (omega (arith, some_needed, enough))

  joins : MayJoin number rx
  joins = may_join_rx t.ready number (omega (arith, number_small, part_few t.ready.sound.sets.part)) (if_not (member number rx) (number_not_rx t.ready.well))

  rx_room : word w 6 < 24
  rx_room = omega (arith, distinct_few 24 (number ∷ rx) joins.once (each_member (λ j. j < 24) (number ∷ rx) joins.small), t.ready.sound.queues.rx.many)

  -- its number may join RX when the pages are granted, which changes nothing of RX
  pub may_join : {g : List (List ℕ) → List (List ℕ)} {w' s' : List ℕ} → RepagesOf l g w s w' s' → (k : ℕ) → k ≡ number → (word w' 6 < 24) × MayJoin k (queue_in 0 (word w' 6) q)
  may_join {w' = w'} a k b =
      let same : word w' 6 ≡ word w 6 = ap (λ (c : List ℕ). word c 0) a.still in
      rw (same, b) (rx_room, joins)

  -- what the rules make of the chip
  pub is_stowed : (mem after : List ℕ) (k m : ℕ) → k ≡ number → m ≡ need → after ≡ put_bytes (image f n) 0 (take need (free_for l (lists_of l s))) mem
      → in_pool (λ p. set_rx (p.rx ++ (k ∷ [])) p) (in_pool (λ p. set_pages (set p.pages k (take m (free_for l p.pages))) p) (view_of l w s q after)) ≡ stow f (view_of l w s q mem)
  is_stowed mem after k m a b d = rw (a, b, d)
