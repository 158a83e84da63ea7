-- A frame that arrives on two chips beside each other: the same verdict, for it looks at how many pages are free; and the same bytes stored, all of them written then.
use Rattle.std.specs.Prelude.{◌≡◌, Bool, true, false, cond, List, [], ◌∷◌, ◌++◌, ℕ, zero, suc, ◌+◌, ◌*◌, ◌≤◌, ◌<◌, ltb, length, get_or, set, take}
use Rattle.std.proofs.Math.Path.{refl, subst}
use Rattle.std.proofs.Common.{ap, sym, ◌∙◌, arith, length-append, length-take, get_or-set_same}
use Rattle.rules.specs.Bits.{bit, low_byte, high_byte}
use Rattle.rules.specs.Lists.{first_empty}
use Rattle.rules.specs.Chip.{Layout, Chip, free_for, free}
use Rattle.rules.specs.Fields.{set_rx, in_pool, in_memory}
use Rattle.rules.specs.Packet.{put_bytes}
use Rattle.rules.specs.Mmu.{lowest_number, allot}
use Rattle.rules.specs.Receive.{Frame, Arrival, stored, disabled, not_accepted, too_long, bad, no_room, data_length, count_of, needed, trailer, image, stow, after, verdict, arrive}
use Rattle.lists.specs.Each.{Each}
use Rattle.wellformed.specs.Layouts.{unallocated, granted_lists}
use Rattle.wellformed.specs.Frames.{data_short, needs_one, needs_seven, storable}
use Rattle.laws.specs.Reception.{image_fits}
use Rattle.strip_laws.specs.Written.{Marks, marked, anew, frame_marks}
use Rattle.strip_laws.specs.Packets.{Packets, put_in_both}
use Rattle.strip_laws.specs.Beside.{on, Follows, stays, Effects, same_answer, pick_both, Beside, both_good}
use Rattle.strip_laws.proofs.Beside.{as_many_free, next_alike, granted_lists_alike}
use Rattle.strip_laws.proofs.BesideCommands.{as_is}

-- a list is of bytes
abbrev Small : List ℕ → Type 0
Small = Each (λ b. b < 256)

take_small : (k : ℕ) (l : List ℕ) → Small l → Small (take k l)
take_small zero l e = tt
take_small (suc k) [] e = tt
take_small (suc k) (x ∷ xs) e = (e.0, take_small k xs e.1)

append_small : (s t : List ℕ) → Small s → Small t → Small (s ++ t)
append_small [] t d e = e
append_small (x ∷ xs) t d e = (d.0, append_small xs t d.1 e)

-- What is stored of a frame is of bytes, as many as its count counts.
image_small : (f : Frame) (k : ℕ) → Small f.bytes → Small (image f k)
unfolding image trailer low_byte high_byte
image_small f k e = (omega arith, (omega arith, (omega arith, (omega arith, append_small (take k f.bytes) _ (take_small k f.bytes e) (go (bit 0 k))))))
  where
    go : (b : Bool) → Small (cond b (0x60 ∷ []) (0 ∷ 0x40 ∷ []))
    go true = (omega arith, tt)
    go false = (omega arith, (omega arith, tt))

image_counted : (f : Frame) (k : ℕ) → k ≤ length f.bytes → length (image f k) ≡ count_of k
unfolding image trailer count_of
image_counted f k h = go (bit 0 k)
  where
    go : (b : Bool) → suc (suc (suc (suc (length (take k f.bytes ++ cond b (0x60 ∷ []) (0 ∷ 0x40 ∷ [])))))) ≡ cond b (k + 5) (k + 6)
    go true = simp (length-append, length-take) (omega arith)
    go false = simp (length-append, length-take) (omega arith)

module _ {n : ℕ} {l : Layout} {m : Marks} {c : Chip} {ls : List (List ℕ)} {bytes : List ℕ} (b : Beside n l m c ls bytes) (f : Frame) (small : Small f.bytes) where
  abbrev other : Chip
  other = on l ls bytes c

  abbrev len : ℕ
  len = length f.bytes

  abbrev stowed : List ℕ
  stowed = image f (data_length c.regs len)

  -- The next number gets pages that hold the frame, and the frame is put there.
  module _ (w : ℕ) (least : 1 ≤ w) (most : w ≤ 8) (room : w ≤ length (free c)) (holds : length stowed ≤ 256 * w) where
    abbrev k : ℕ
    k = lowest_number c

    number : k < n
    number = unallocated c.pool.layout n c.pool.pages (both_good b).lists (omega (arith, least, room))

    abbrev mine : List (List ℕ)
    mine = set c.pool.pages k (take w (free c))

    abbrev yours : List (List ℕ)
    yours = set ls (first_empty ls) (take w (free_for l ls))

    here : get_or mine k [] ≡ take w (free c)
    here = get_or-set_same c.pool.pages k _ [] (omega (arith, number, (both_good b).lists.count))

    there : get_or yours k [] ≡ take w (free_for l ls)
    there =
        ap (λ (j : ℕ). get_or yours j []) (sym (next_alike (both_good b)))
        ∙ get_or-set_same ls (first_empty ls) _ [] (omega (arith, number, next_alike (both_good b), (both_good b).others.count))

    put : Packets (marked k 0 (length stowed) (anew k m)) mine (put_bytes stowed 0 (take w (free c)) c.memory) yours (put_bytes stowed 0 (take w (free_for l ls)) bytes)
    put =
        rw (here, there) at
        (put_in_both k 0 stowed (granted_lists_alike (both_good b) w (omega (arith, least)) room)
        (record { good = (granted_lists n c.pool.pages w most c.pool.layout (both_good b).lists room number).pages; whole = b.fits.1 })
        (record {
          good = (granted_lists n ls w most l (both_good b).others (omega (arith, room, as_many_free (both_good b))) (omega (arith, number, next_alike (both_good b)))).pages;
          whole = b.fits'.1;
        })
        (image_small f (data_length c.regs len) small) (rw here (simp length-take (omega (arith, holds, room)))))

    pub same_stow : Follows l (marked k 0 (length stowed) (anew k m)) (in_memory (put_bytes stowed 0 (take w (free c))) (in_pool (set_rx (c.pool.rx ++ (k ∷ []))) (allot w c)))
        (in_memory (put_bytes stowed 0 (take w (free_for l ls))) (in_pool (set_rx (c.pool.rx ++ (first_empty ls ∷ []))) (allot w other)))
    same_stow = record {
      lists = yours;
      bytes = put_bytes stowed 0 (take w (free_for l ls)) bytes;
      is = ap (λ (j : ℕ). in_memory (put_bytes stowed 0 (take w (free_for l ls))) (in_pool (set_rx (c.pool.rx ++ (j ∷ []))) (allot w other))) (next_alike (both_good b));
      packets = put;
    }

  -- The pages that it needs hold it.
  held : length stowed ≤ 256 * needed c.regs len
  unfolding needed
  held = image_fits f (data_length c.regs len)

  same_after : (v : Arrival) → verdict f c ≡ v → Follows l (frame_marks v f c m) (after v f c) (after v f other)
  unfolding after frame_marks
  same_after stored e =
      let s = storable c.regs (length (free c)) f e in
      subst (λ (k : ℕ). Follows l (marked (lowest_number c) 0 k (anew (lowest_number c) m)) (stow f c) (stow f other)) (image_counted f (data_length c.regs len) (data_short c.regs len))
      (same_stow (needed c.regs len) (needs_one c.regs len) (omega (arith, needs_seven c.regs len s.short)) (omega (arith, s.room)) held)
  same_after disabled e = stays c b.packets
  same_after not_accepted e = stays c b.packets
  same_after too_long e = stays _ b.packets
  same_after bad e = stays c b.packets
  same_after no_room e = stays _ b.packets

  pub same_arrive : Effects l 0 c m (frame_marks (verdict f c) f c m) (arrive f c) (arrive f other)
  unfolding arrive
  same_arrive =
      pick_both (Effects l 0 c m (frame_marks (verdict f c) f c m)) (ltb len 18) (ltb len 18) refl (λ e. as_is b b.packets)
      (λ e. rw (as_many_free (both_good b)) (record { reply = same_answer _; chips = same_after (verdict f c) refl }))
