-- A frame that is to be stored, once its packet has its pages: where the packet lies, and that the frame fits in it.
use Rattle.std.specs.Prelude.{◌≡◌, [], List, ℕ, ◌+◌, ◌*◌, ◌≤◌, length, get_or, set, take}
use Rattle.std.proofs.Common.{ap, sym, subst, ◌∙◌, arith, length-set}
use Rattle.std.proofs.Math.Seq.{length-take-le}
use Rattle.std.proofs.lemmas.List.{get_or-set_same}
use Rattle.rules.specs.Chip.{Layout, page_numbers, free_for}
use Rattle.rules.specs.Packet.{put_bytes}
use Rattle.rules.specs.Receive.{Frame, data_length, count_of, pages_for, needed, frame_status, image}
use Rattle.wellformed.specs.Layouts.{GoodLists, granted_lists}
use Rattle.wellformed.specs.Pool.{good_lists}
use Rattle.packet.specs.Room.{image_of}
use Rattle.packet.proofs.Facts.{image_is}
use Rattle.state.specs.View.{word, registers_in, lists_of}
use Rattle.judging.specs.Frames.{with_rcr, data_by, needed_by}
use Rattle.pages.specs.Pages.{RepagesOf, repages_size}
use Rattle.receive.specs.Arrivals.{StowableOf}
use Rattle.receive.specs.Storing.{need, number, number_small, enough, few_needed, data_few}

module _ {l : Layout} {w s q : List ℕ} {f : Frame} (t : StowableOf l w s q f) where
  abbrev ls : List (List ℕ)
  ls = lists_of l s

  abbrev n : ℕ
  n = data_length (registers_in w) (length f.bytes)

  -- the pages that the frame gets
  abbrev pub grant : List ℕ
  grant = take (need t) (free_for l ls)

  -- the length and the pages that the functions give are the rules'
  pub data_is : (k : ℕ) → k ≡ data_length (with_rcr (word w 2)) (length f.bytes) → k ≡ n
  data_is k e = e ∙ sym (data_by (registers_in w) (length f.bytes))

  pub data_fits : (k : ℕ) → k ≡ data_length (with_rcr (word w 2)) (length f.bytes) → k ≤ 1532
  data_fits k e = omega (arith, data_is k e, data_few t)

  pub need_is : (k m : ℕ) → k ≡ data_length (with_rcr (word w 2)) (length f.bytes) → m ≡ pages_for (count_of k) → m ≡ need t
  need_is k m = needed_by (registers_in w) (length f.bytes) k m

  -- the frame fits in them
  pub room : count_of n ≤ 256 * length grant
  unfolding needed pages_for
  room = omega (arith, length-take-le (need t) (free_for l ls) (enough t))

  -- once the packet k has its m pages
  module _ {w' s' : List ℕ} {k m : ℕ} (a : RepagesOf l (λ x. set x k (take m (free_for l x))) w s w' s') (b : k ≡ number t) (d : m ≡ need t) where
    size : length s' ≡ length s
    size = repages_size a [] (length-set ls k (take m (free_for l ls)))

    pub lists_after : lists_of l s' ≡ set ls (number t) grant
    lists_after = a.pages ∙ ap (λ (i : ℕ). set ls i (take m (free_for l ls))) b ∙ ap (λ (j : ℕ). set ls (number t) (take j (free_for l ls))) d

    pub good_after : GoodLists l (length s') (lists_of l s')
    good_after = rw (size, lists_after) (granted_lists (length s) ls (need t) (omega (arith, few_needed t)) l (good_lists t.ready.well) (enough t) (number_small t))

    pub long_after : (mem : List ℕ) → length mem ≡ 256 * page_numbers l (length s) → length mem ≡ 256 * page_numbers l (length s')
    long_after mem h = rw size h

    pub home_granted : (pages : List ℕ) → pages ≡ get_or (lists_of l s') k [] → pages ≡ grant
    home_granted pages e = e ∙ rw (lists_after, b) (get_or-set_same ls (number t) grant [] (omega (arith, number_small t, (good_lists t.ready.well).count)))

  -- the memory with the frame written
  pub written : (mem after pages : List ℕ) (status count k : ℕ) → after ≡ put_bytes (image_of status count k f.bytes) 0 pages mem
      → status ≡ frame_status f k → count ≡ count_of k → k ≡ n → pages ≡ grant → after ≡ put_bytes (image f n) 0 grant mem
  written mem after pages status count k a b d g h = rw (a, b, d, g, h, image_is f n)
