-- Document 01, "Registers": interrupt status, EPH, acknowledge, and the line; document 02, W8: the third term of EPH.
use Rattle.std.specs.Prelude.{Bool, cond, not, ◌&&◌, ◌||◌, ℕ, ◌+◌, ◌*◌, drop}
use Rattle.rules.specs.Bits.{bit, flag, share}
use Rattle.rules.specs.Lists.{some?}
use Rattle.rules.specs.Chip.{Registers, Chip}
use Rattle.rules.specs.Fields.{set_tx_empty, set_overrun, set_completion, in_registers, in_pool}

-- "any of EPHSR 15, 10, 9, 5, 4 while bit 0 is clear"
unfoldable pub failed : ℕ → Bool
failed e = (bit 15 e || bit 10 e || bit 9 e || bit 5 e || bit 4 e) && not (bit 0 e)

-- "EPH is (EPHSR bit 12 and control bit 6) or (any of EPHSR 15, 10, 9, 5, 4 while bit 0 is clear, and control bit 5)."
-- It "gains a third term": a change of the link, "raising EPH while control bit 7 is set" (W8).
unfoldable pub eph : Registers → Bool
eph r =
    (bit 12 r.sending.ephsr && bit 6 r.control) || (failed r.sending.ephsr && bit 5 r.control)
    || (r.link.changed && bit 7 r.control)

-- "0 RX not empty; 1 completion not empty; 2 TX EMPTY, latched; 3 allocation result bit 7 clear; 4 RX_OVRN, latched; 5 EPH; 6, 7 zero."
unfoldable pub status : Chip → ℕ
status c =
    flag (some? c.pool.rx) + 2 * flag (some? c.pool.completion) + 4 * flag c.regs.sending.tx_empty
    + 8 * flag (not (bit 7 c.regs.numbers.result)) + 16 * flag c.regs.receiving.overrun + 32 * flag (eph c.regs)

-- "Acknowledge: bit 1 removes the completion head if any; 2 and 4 clear their latch."
abbrev pub acknowledge : ℕ → Chip → Chip
acknowledge v c =
    in_pool (set_completion (cond (bit 1 v) (drop 1 c.pool.completion) c.pool.completion))
    (in_registers (λ r. set_tx_empty (r.sending.tx_empty && not (bit 2 v)) (set_overrun (r.receiving.overrun && not (bit 4 v)) r)) c)

-- "The line is up when status and mask share a bit."
unfoldable pub line_up : Chip → Bool
line_up c = share 8 (status c) c.regs.mask
