-- Data accesses on two chips beside each other: the same refusals, for they look at the pointer and at how many pages there are; the same written bytes.
use Rattle.std.specs.Prelude.{◌≡◌, Bool, List, [], ltb, get_or}
use Rattle.std.proofs.Math.Path.{refl}
use Rattle.std.proofs.Common.{ap, sym, ◌∙◌, arith, add-zero, div-one, ltb-false}
use Rattle.std.proofs.Math.Bool.{true, false}
use Prim.Native.Nat.{ℕ, zero, suc, ◌+◌, ◌-◌, ◌*◌, ◌/◌, ◌%◌, ◌^◌, ◌≤◌, ◌<◌}
use Rattle.std.proofs.Math.ListN.{length}
use Rattle.rules.specs.Bits.{low_byte, high_byte, word_of}
use Rattle.rules.specs.Chip.{Layout, Chip, pages_at, allocated}
use Rattle.rules.specs.Answers.{Effect, refuse}
use Rattle.rules.specs.Packet.{place, get_bytes, put_bytes}
use Rattle.rules.specs.Data.{rcv, address, against, odd_fixed, past, if_packet, if_open, moved, value_of, read_data, write_data}
use Rattle.rules.specs.Registers.{Lanes, low, high, both, width, bytes_of, head_of}
use Rattle.lists.specs.Each.{Each}
use Rattle.laws.specs.Head.{byte_at}
use Rattle.laws.specs.DataAccesses.{meant}
use Rattle.strip_laws.specs.Written.{Marks, marked}
use Rattle.strip_laws.specs.Strips.{WrittenAt}
use Rattle.laws.specs.Placed.{Octets, get_alike}
use Rattle.strip_laws.specs.Beside.{on, stays, Answers, Effects, pick_both, unless_both, Beside, puts_alike}
use Rattle.strip_laws.proofs.BesideCommands.{as_is, both_did, same_allocated, head_allocated, by_head_both}

-- The bytes of a value that a read takes from memory.
module _ (pages memory : List ℕ) (o : Octets memory) where
  low_of : (wide a : ℕ) → 0 < wide → value_of (get_bytes wide a pages memory) % 256 ≡ byte_at pages memory a
  unfolding value_of get_bytes place word_of
  low_of zero a h = absurd (omega arith)
  low_of (suc w) a h = omega (arith, o (place pages a))

  high_of : (a : ℕ) → value_of (get_bytes 2 a pages memory) / 256 % 256 ≡ byte_at pages memory (suc a)
  unfolding value_of get_bytes place word_of
  high_of a = omega (arith, o (place pages a), o (place pages (suc a)))

  pub value_byte : (wide a j : ℕ) → wide ≤ 2 → j < wide → value_of (get_bytes wide a pages memory) / 256 ^ j % 256 ≡ byte_at pages memory (a + j)
  value_byte wide a zero h k = rw (div-one, add-zero a) (low_of wide a k)
  value_byte wide a (suc zero) h k =
      let w : wide ≡ 2 = omega arith in
      let e : a + 1 ≡ suc a = omega arith in
      rw (w, e) (high_of a)
  value_byte wide a (suc (suc j)) h k = absurd (omega arith)

module _ {n : ℕ} {l : Layout} {m : Marks} {c : Chip} {ls : List (List ℕ)} {bytes : List ℕ} (b : Beside n l m c ls bytes) where
  abbrev other : Chip
  other = on l ls bytes c

  abbrev at : ℕ
  at = address c.regs.pointer

  -- refusals 7 and 5 on both, else by the packet that the pointer means
  by_packet_both : (R : Effect → Effect → Type 0) (f g : List ℕ → Effect) → R (refuse 7 c) (refuse 7 other) → R (refuse 5 c) (refuse 5 other)
      → ((k : ℕ) → meant c ≡ k → allocated k c ≡ true → R (f (pages_at c k)) (g (get_or ls k []))) → R (if_packet c f) (if_packet other g)
  unfolding if_packet head_of
  by_packet_both R f g r7 r5 h =
      let k = c.regs.numbers.packet in
      pick_both R (rcv c.regs.pointer) (rcv c.regs.pointer) refl
      (λ t. by_head_both b R _ _ r7 (λ j js e. h j (rw t (ap head_of e)) (head_allocated b j js e)))
      (λ t. unless_both R (allocated k c) (allocated k other) (same_allocated b k) (λ a. r5) (λ a. h k (rw t) a))

  -- refusals 8, 9 and 10 on both, else within the pages
  by_tests_both : (R : Effect → Effect → Type 0) (isRead : Bool) (wide : ℕ) (pages others : List ℕ) (x y : Effect) → length others ≡ length pages
      → R (refuse 8 c) (refuse 8 other) → R (refuse 9 c) (refuse 9 other) → R (refuse 10 c) (refuse 10 other)
      → (at + wide ≤ 256 * length pages → R x y) → R (if_open isRead wide pages c x) (if_open isRead wide others other y)
  unfolding if_open past
  by_tests_both R isRead wide pages others x y long r8 r9 r10 h =
      let p = c.regs.pointer in
      pick_both R (against isRead p) (against isRead p) refl (λ e. r8)
      (λ e. pick_both R (odd_fixed p) (odd_fixed p) refl (λ e. r9)
      (λ e. pick_both R (ltb (256 * length pages) (at + wide)) (ltb (256 * length others) (at + wide)) (rw long) (λ e. r10) (λ e. h (ltb-false (256 * length pages) (at + wide) e))))

  -- what is written of the packet that the pointer means, and a read of it
  module _ (k : ℕ) (e : meant c ≡ k) (a : allocated k c ≡ true) where
    same : (j : ℕ) → WrittenAt c m j → byte_at (get_or ls k []) bytes (at + j) ≡ byte_at (pages_at c k) c.memory (at + j)
    same j w = b.packets.same k (at + j) a (sym (ap (λ (i : ℕ). m i (at + j)) e) ∙ w)

    reads : (wide : ℕ) → wide ≤ 2
        → Answers wide c m (record { number = 0; value = value_of (get_bytes wide at (pages_at c k) c.memory) }) (record { number = 0; value = value_of (get_bytes wide at (get_or ls k []) bytes) })
    reads wide few = record {
      number = refl;
      value = λ w. ap value_of (get_alike wide at (pages_at c k) c.memory (get_or ls k []) bytes
          (λ j lo hi. let i : j ≡ at + (j - at) = omega arith in rw i (same (j - at) (w (j - at) (omega arith)))));
      half = λ j h w. value_byte (get_or ls k []) bytes b.packets.octets' wide at j few h ∙ same j w ∙ sym (value_byte (pages_at c k) c.memory b.packets.octets wide at j few h);
    }

  -- A read of written bytes gives the same, and of a word a written half is the same.
  pub same_read_data : (wide : ℕ) → wide ≤ 2 → Effects l wide c m m (read_data wide c) (read_data wide other)
  unfolding read_data
  same_read_data wide few =
      let R = Effects l wide c m m in
      by_packet_both R _ _ (as_is b b.packets) (as_is b b.packets)
      (λ k e a. by_tests_both R true wide (pages_at c k) (get_or ls k []) _ _ (b.packets.counts k) (as_is b b.packets) (as_is b b.packets) (as_is b b.packets)
      (λ room. record { reply = reads k e a wide few; chips = stays (moved wide c) b.packets }))

  -- A write puts the same bytes into both packets.
  pub same_write_data : (put : List ℕ) → Each (λ x. x < 256) put → Effects l 0 c m (marked (meant c) at (length put) m) (write_data put c) (write_data put other)
  unfolding write_data
  same_write_data put small =
      let R = Effects l 0 c m (marked (meant c) at (length put) m) in
      by_packet_both R _ _ (as_is b b.packets) (as_is b b.packets)
      (λ k e a. by_tests_both R false (length put) (pages_at c k) (get_or ls k []) _ _ (b.packets.counts k) (as_is b b.packets) (as_is b b.packets) (as_is b b.packets)
      (λ room. both_did b (record {
        lists = ls;
        bytes = put_bytes put at (get_or ls k []) bytes;
        is = refl;
        packets = rw e (puts_alike b k at put small room);
      })))
