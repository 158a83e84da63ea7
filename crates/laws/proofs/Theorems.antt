-- Demand 2 at a chip of n packets: what the modules before it prove, and that a driver reads the free count. "each part only cites them" (document 02, W9): the LAN91C96 at its 24, the LAN91C94 at its 18.
use Rattle.std.specs.Prelude.{◌≡◌, refl, ◌⊎◌, ℕ, ◌+◌, ◌*◌, ◌≤◌, ◌<◌, ◌/◌, ◌%◌}
use Rattle.std.proofs.Math.Path.{ap, ap₂, subst}
use Rattle.std.proofs.Common.{sym, ◌∙◌, arith}
use mathlib.Core.List.{List, [], ◌∷◌, ◌++◌}
use Rattle.std.proofs.Math.ListN.{length}
use Rattle.rules.specs.Bits.{bit, high_byte, word_of}
use Rattle.rules.specs.Chip.{Layout, paged, Chip, size, free, powered}
use Rattle.rules.specs.Fields.{set_bank, in_registers}
use Rattle.rules.specs.Answers.{done_with, did, leaving}
use Rattle.rules.specs.Registers.{byte, word, read, write, register_at, misplaced, lanes_at, taken, low_only, read_register, write_register, access}
use Rattle.rules.specs.Step.{Input, driver, serve, step_of, run_of}
use Rattle.wellformed.specs.Fit.{Fits}
use Rattle.wellformed.proofs.Fit.{step_fit}
use Rattle.wellformed.specs.Layouts.{free_total}
use Rattle.wellformed.specs.Pool.{good_lists}
use Rattle.wellformed.specs.Keeps.{powered_fits}
use Rattle.wellformed.proofs.Keeps.{keeps}
use Rattle.laws.specs.Accounted.{IsFree, InOne, accounted_after}
use Rattle.laws.specs.Ledger.{Ledger, Resets, ledger_from}
use Rattle.laws.specs.Reading.{ReadsFree, Balances, BalancesAlways}
use Rattle.laws.specs.Balance.{run_fits, run_joined, ledger_joined}
use Rattle.laws.proofs.Balance.{balances, balances_since}
use Rattle.laws.specs.Theorems.{Whole}

module _ (n : ℕ) where
  -- A chip is so at power-up, after each step from one that is, and so throughout every run.
  pub power_up_whole : (l : Layout) → Whole n (powered l n)
  power_up_whole l = powered_fits l n

  pub step_whole : (i : Input) (c : Chip) → Whole n c → Whole n (step_of n i c).chip
  step_whole i c w = keeps n c w i

  pub run_whole : (inputs : List Input) (c : Chip) → Whole n c → Whole n (run_of n inputs c).chip
  run_whole = run_fits n

  -- After each step from a well-formed chip of pages every page is free or in exactly one packet, at one place of its list.
  pub pages_accounted : (i : Input) (c : Chip) → Whole n c → c.pool.layout ≡ paged → (p : ℕ) → p < n → IsFree (step_of n i c).chip p ⊎ InOne (step_of n i c).chip p
  pages_accounted i c w e p h = accounted_after n i c w e p (omega (arith, h, (step_whole i c w).0.count))

  -- A byte written at E selects the bank, in every bank.
  select_bank : (c : Chip) → Whole n c → step_of n (driver (write byte 14 0)) c ≡ leaving [] (did (in_registers (set_bank 0) c))
  unfolding serve access register_at misplaced lanes_at bit write_register low_only
  select_bank c w = step_fit n (driver (write byte 14 0)) c w

-- The driver reads the free count in a byte, and 80h in the allocation result is no packet's number: so n is at most 128, which a part's is by far (`part_few`).
module _ (n : ℕ) (small : n ≤ 128) where
  module _ (c : Chip) (w : Whole n c) where
    few : length (free c) ≤ n
    few = omega (arith, free_total c.pool.layout n c.pool.pages (good_lists w.0))

    read_byte_lem : c.regs.numbers.bank ≡ 0 → step_of n (driver (read byte 9)) c ≡ leaving [] (done_with (length (free c)) c)
    unfolding serve access register_at misplaced lanes_at bit read_register taken word_of high_byte
    read_byte_lem b =
        let shown : (size c + length (free c) * 256) / 256 % 256 ≡ length (free c) = omega (arith, w.0.count, few, small) in
        step_fit n (driver (read byte 9)) c w ∙ ap (λ (x : ℕ). leaving [] (read_register (register_at x 9) (lanes_at byte 9) c)) b ∙ ap (λ (x : ℕ). leaving [] (done_with x c)) shown

    read_word_lem : c.regs.numbers.bank ≡ 0 → step_of n (driver (read word 8)) c ≡ leaving [] (done_with (n + 256 * length (free c)) c)
    unfolding serve access register_at misplaced lanes_at bit read_register taken word_of
    read_word_lem b =
        let shown : size c + length (free c) * 256 ≡ n + 256 * length (free c) = omega (arith, w.0.count) in
        step_fit n (driver (read word 8)) c w ∙ ap (λ (x : ℕ). leaving [] (read_register (register_at x 8) (lanes_at word 8) c)) b ∙ ap (λ (x : ℕ). leaving [] (done_with x c)) shown

  pub free_read : (c : Chip) → Whole n c → ReadsFree n c (length (free c))
  unfolding run_of
  free_read c w =
      let d = in_registers (set_bank 0) c in
      let e = select_bank n c w in
      let k : Whole n d = subst (λ t. Whole n t.chip) e (step_whole n (driver (write byte 14 0)) c w) in
      record {
        as_byte = ap₂ ◌∷◌ (ap (λ t. t.reply) e) (ap (λ t. (step_of n (driver (read byte 9)) t.chip).reply ∷ []) e ∙ ap (λ t. t.reply ∷ []) (read_byte_lem d k refl));
        as_word = ap₂ ◌∷◌ (ap (λ t. t.reply) e) (ap (λ t. (step_of n (driver (read word 8)) t.chip).reply ∷ []) e ∙ ap (λ t. t.reply ∷ []) (read_word_lem d k refl));
        byte_there = read_byte_lem c w;
        word_there = read_word_lem c w;
      }

  -- "counted over the steps since power-up": for every history
  pub since_power_up : (l : Layout) → BalancesAlways n l
  since_power_up l inputs =
      let c = (run_of n inputs (powered l n)).chip in
      record { count = length (free c); reads = free_read c (run_whole n inputs (powered l n) (power_up_whole n l)); even = balances n small l inputs }

  -- "or the last soft or MMU reset": for every run, from any well-formed chip and whatever the ledger said at first, once a step of it was such a reset
  pub since_reset : (c : Chip) → Whole n c → (l : Ledger) (before : List Input) (i : Input) (after : List Input) → Resets n i (run_of n before c).chip
      → Balances n (run_of n (before ++ (i ∷ after)) c).chip (ledger_from n (before ++ (i ∷ after)) c l)
  since_reset c w l before i after r =
      let b = (run_of n before c).chip in
      let k = run_whole n before c w in
      let d = (run_of n (i ∷ after) b).chip in
      let all : Balances n d (ledger_from n (i ∷ after) b (ledger_from n before c l)) =
      record { count = length (free d); reads = free_read d (run_whole n (i ∷ after) b k); even = balances_since n small i after b _ k r } in
      subst (λ m. Balances n (run_of n (before ++ (i ∷ after)) c).chip m) (sym (ledger_joined n before (i ∷ after) c l))
      (subst (λ e. Balances n e (ledger_from n (i ∷ after) b (ledger_from n before c l))) (sym (run_joined n before (i ∷ after) c)) all)
