-- Document 02, W4: what a frame check sequence is for. A frame that a send puts out with one never has a bad CRC by the rule of arrival, and of two frames that differ in one byte one always has. Of every chip, well formed or not.
use Rattle.std.specs.Prelude.{◌≡◌, refl, ◌≢◌, Bool, true, false, not, ◌&&◌, List, [], ◌∷◌, ◌++◌, ℕ, suc, ◌-◌, ◌<◌, length, get_or, take, set}
use Rattle.std.proofs.Common.{ap, ap₂, sym, ◌∙◌, true≢false, arith, length-append, length-set, take-add, get_or-set_same, get_or-set_other}
use Rattle.std.proofs.Math.Decide.{ℕ_discrete}
use Rattle.std.proofs.Math.Seq.{take-append_seam, drop-append_seam}
use Rattle.rules.specs.Bits.{bit}
use Rattle.rules.specs.Chip.{Chip}
use Rattle.rules.specs.Answers.{Turn}
use Rattle.rules.specs.Crc.{crc, four_bytes, fcs}
use Rattle.rules.specs.Receive.{bad_crc}
use Rattle.rules.specs.Send.{Send, appends, finish}
use Rattle.rules.specs.Step.{sent, step_of}
use Rattle.lists.specs.Each.{Each, each_at}
use Rattle.remainders.specs.OneToOne.{same_changed}
use Rattle.laws.specs.Head.{head_control}
use Rattle.laws.specs.Residue.{ends_good, good_has_residue}
use Rattle.laws.specs.PutOut.{step_done}

-- Any bytes with their FCS behind them have a good one.
pub appended_good : (bytes : List ℕ) → bad_crc (bytes ++ fcs bytes) ≡ false
unfolding four_bytes
appended_good bytes =
    let rest : length (bytes ++ fcs bytes) - 4 ≡ length bytes = omega (arith, length-append bytes (fcs bytes)) in
    ends_good (bytes ++ fcs bytes) (rw (rest, take-append_seam bytes (fcs bytes), drop-append_seam bytes (fcs bytes)) refl)

-- what a turn puts out: the first bytes of the output buffer, as many as the value says
abbrev pub bytes_out : Turn → List ℕ
bytes_out t = take t.reply.value t.output

-- the packet at the head of TX goes out with an FCS
abbrev pub AppendsFcs : Chip → Type 0
AppendsFcs c = appends c.regs.sending.tcr (head_control c) ≡ true

-- Two frames of equal length that differ in exactly one byte.
pub record OneByteApart (f g : List ℕ) : Type 0 where
  pub as_long : length f ≡ length g
  pub place : ℕ
  pub within : place < length f
  pub there : get_or f place 0 ≢ get_or g place 0
  pub elsewhere : (j : ℕ) → j ≢ place → get_or f j 0 ≡ get_or g j 0
