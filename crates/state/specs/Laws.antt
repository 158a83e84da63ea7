-- The registers by place, and what a read and a write of each comes to over the words: a line or two for each.
use Rattle.std.specs.Prelude.{◌≡◌, refl, List, ℕ, ◌+◌, ◌*◌, ◌/◌, ◌%◌, ◌<◌, Ok, Err}
use Rattle.std.proofs.Math.Path.{ap}
use Rattle.std.proofs.Common.{sym, ◌∙◌, arith}
use Rattle.rules.specs.Bits.{bit, low_byte, high_byte, word_of, word_at}
use Rattle.rules.specs.Answers.{done_with}
use Rattle.rules.specs.Chip.{Layout}
use Rattle.rules.specs.Link.{shown}
use Rattle.rules.specs.Registers.{Register, Lanes, low, high, both, TCR, EPHSR, RCR, RESERVED, STATION, CONTROL, COMMAND, PACKET, POINTER, TABLE, BANK, UNUSED, ABSENT, register_at, taken, read_register}
use Rattle.state.specs.declared.Refusal.TheVariants.{NotModelled}
use Rattle.state.specs.View.{word, view_of, Kept}
use Rattle.state.specs.Promise.{Does}

-- the register at place bank * 8 + offset / 2
unfoldable pub register_in : ℕ → Register
register_in at = register_at (at / 8) (at % 8 * 2)

pub decoded : (bank offset : ℕ) → offset < 16 → register_at bank offset ≡ register_in (bank * 8 + offset / 2)
unfolding register_in register_at
decoded bank offset h =
    let at = bank * 8 + offset / 2 in
    let e : at / 8 ≡ bank = omega arith in
    let f : at % 8 * 2 / 2 ≡ offset / 2 = omega arith in
    rw (e, f)

-- a read that gives a word and changes nothing
abbrev pub Shows : Register → Lanes → List ℕ → ℕ → Type 0
Shows k p w x = Does (read_register k p) w (Ok (taken p x)) w

halves : (x : ℕ) → x ≡ word_of (x % 256) (x / 256)
unfolding word_of
halves x = omega arith

shows : (k : Register) (p : Lanes) (w : List ℕ) (x : ℕ) → Kept w → ((l : Layout) (s q mem : List ℕ) → read_register k p (view_of l w s q mem) ≡ done_with (taken p x) (view_of l w s q mem)) → Shows k p w x
shows k p w x h e = record { step = λ l s q mem. sym (e l s q mem); still = refl; kept = h }

taken_none : (p : Lanes) → taken p 0 ≡ 0
unfolding taken low_byte high_byte
taken_none low = refl
taken_none high = refl
taken_none both = refl

module _ (p : Lanes) (w : List ℕ) (h : Kept w) where
  pub reads_tcr : Shows TCR p w (word w 0)
  unfolding read_register
  reads_tcr = shows TCR p w _ h (λ l s q mem. refl)

  pub reads_ephsr : Shows EPHSR p w (shown (bit 0 (word w 15)) (word w 1))
  unfolding read_register
  reads_ephsr = shows EPHSR p w _ h (λ l s q mem. refl)

  pub reads_rcr : Shows RCR p w (word w 2)
  unfolding read_register
  reads_rcr = shows RCR p w _ h (λ l s q mem. refl)

  pub reads_reserved : Shows RESERVED p w (word w 5)
  unfolding read_register
  reads_reserved = shows RESERVED p w _ h (λ l s q mem. ap (λ (x : ℕ). done_with (taken p x) (view_of l w s q mem)) (sym (halves (word w 5) ∙ ap (word_of (word w 5 % 256)) h.fixed.reserved_high)))

  pub reads_control : Shows CONTROL p w (word w 14)
  unfolding read_register
  reads_control = shows CONTROL p w _ h (λ l s q mem. refl)

  pub reads_pointer : Shows POINTER p w (word w 19)
  unfolding read_register
  reads_pointer = shows POINTER p w _ h (λ l s q mem. refl)

  -- two bytes that stand in a word of their own
  pair : (k : Register) (x : ℕ) → ((l : Layout) (s q mem : List ℕ) → read_register k p (view_of l w s q mem) ≡ done_with (taken p (word_of (x % 256) (x / 256))) (view_of l w s q mem)) → Shows k p w x
  pair k x e = shows k p w x h (λ l s q mem. rw (halves x) (e l s q mem))

  pub reads_packet : Shows PACKET p w (word w 17)
  unfolding read_register word_at
  reads_packet = pair PACKET (word w 17) (λ l s q mem. refl)

  pub reads_station_0 : Shows (STATION 0) p w (word w 10)
  unfolding read_register word_at
  reads_station_0 = pair (STATION 0) (word w 10) (λ l s q mem. refl)

  pub reads_station_1 : Shows (STATION 1) p w (word w 11)
  unfolding read_register word_at
  reads_station_1 = pair (STATION 1) (word w 11) (λ l s q mem. refl)

  pub reads_station_2 : Shows (STATION 2) p w (word w 12)
  unfolding read_register word_at
  reads_station_2 = pair (STATION 2) (word w 12) (λ l s q mem. refl)

  pub reads_table_0 : Shows (TABLE 0) p w (word w 24)
  unfolding read_register word_at
  reads_table_0 = pair (TABLE 0) (word w 24) (λ l s q mem. refl)

  pub reads_table_1 : Shows (TABLE 1) p w (word w 25)
  unfolding read_register word_at
  reads_table_1 = pair (TABLE 1) (word w 25) (λ l s q mem. refl)

  pub reads_table_2 : Shows (TABLE 2) p w (word w 26)
  unfolding read_register word_at
  reads_table_2 = pair (TABLE 2) (word w 26) (λ l s q mem. refl)

  pub reads_table_3 : Shows (TABLE 3) p w (word w 27)
  unfolding read_register word_at
  reads_table_3 = pair (TABLE 3) (word w 27) (λ l s q mem. refl)

  pub reads_command : Shows COMMAND p w (word w 16)
  unfolding read_register
  reads_command = shows COMMAND p w _ h (λ l s q mem. ap (λ (v : ℕ). done_with v (view_of l w s q mem)) (sym (ap (taken p) h.blank.none16 ∙ taken_none p)))

  pub reads_bank : Shows BANK p w (word w 7)
  unfolding read_register
  reads_bank =
      let above : word w 7 / 256 ≡ 0x33 = omega (arith, h.fixed.bank_high) in
      shows BANK p w _ h (λ l s q mem. ap (λ (x : ℕ). done_with (taken p x) (view_of l w s q mem)) (sym (halves (word w 7) ∙ ap (word_of (word w 7 % 256)) above)))

  pub reads_unused : Shows UNUSED p w 0x3333
  unfolding read_register
  reads_unused = shows UNUSED p w _ h (λ l s q mem. refl)

  pub reads_absent : Does (read_register ABSENT p) w (Err NotModelled) w
  unfolding read_register
  reads_absent = record { step = λ l s q mem. refl; still = refl; kept = h }
