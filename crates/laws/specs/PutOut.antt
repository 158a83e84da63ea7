-- Document 01, "A send finishes", and document 02's W4: how many bytes a send that is done puts out, and which bytes, one by one. Of every chip, well formed or not.
use Rattle.std.specs.Prelude.{◌≡◌, Bool, cond, ◌&&◌, ℕ, zero, suc, ◌+◌, ◌-◌, ◌*◌, ◌≤◌, ◌<◌, max, take}
use Rattle.std.proofs.Math.Path.{refl, ap, ap₂}
use Rattle.std.proofs.Common.{sym, ◌∙◌, add-zero, get_or-drop}
use Rattle.std.proofs.Math.Bool.{true, false, not}
use mathlib.Core.List.{List, ◌++◌, append_assoc}
use native.Mathlib.Omega.{arith}
use Rattle.std.proofs.Math.ListN.{length, get_or, drop, replicate, length-append, get_or-replicate, get_or-append}
use Rattle.std.proofs.lemmas.List.{length-replicate}
use Rattle.std.proofs.Math.Seq.{take-append_seam, drop-append_seam, get_or-append-add}
use Rattle.rules.specs.Bits.{bit}
use Rattle.rules.specs.Chip.{Chip}
use Rattle.rules.specs.Answers.{Turn, over}
use Rattle.rules.specs.Packet.{place, get_bytes}
use Rattle.rules.specs.Crc.{four_bytes, fcs}
use Rattle.rules.specs.Send.{Send, byte_count, send_length, appends, padded, ended, on_wire, control_byte, put_out, send_head, finish}
use Rattle.rules.specs.Tests.{fit}
use Rattle.rules.specs.Step.{sent, serve, step_of}
use Rattle.lists.specs.Bytes.{length_get, length_over}
use Rattle.wellformed.specs.Cases.{pick, pick_unless}
use Rattle.wellformed.specs.Fit.{Fits}
use Rattle.wellformed.proofs.Fit.{fit_decides}
use Rattle.laws.specs.Head.{byte_at, count_at, control_at, head_pages, count_is}
use Rattle.laws.specs.Sendable.{served}

-- what a send of the packet with these pages puts out into the buffer `out`
pub record PutsOut (tcr : ℕ) (pages memory out : List ℕ) (t : Turn) : Type 0 where
  -- how many bytes the data has: "c − 5 bytes if bit 5 of the byte at c − 1 is set, else c − 6"
  pub many : ℕ
  pub odd : bit 5 (control_at pages memory) ≡ true → many ≡ count_at pages memory - 5
  pub even : bit 5 (control_at pages memory) ≡ false → many ≡ count_at pages memory - 6
  -- "Data: from 4"
  pub from4 : (j : ℕ) → j < many → get_or t.output j 0 ≡ byte_at pages memory (4 + j)
  -- has it an FCS: it "appends four FCS bytes unless TCR bit 8 (NOCRC) is set and bit 4 of the packet's control byte is clear"
  pub with_fcs : Bool
  pub unless_no_crc : bit 8 tcr ≡ false → with_fcs ≡ true
  pub unless_clear : bit 4 (control_at pages memory) ≡ true → with_fcs ≡ true
  pub no_fcs : bit 8 tcr ≡ true → bit 4 (control_at pages memory) ≡ false → with_fcs ≡ false
  -- how many bytes stand before it: with TCR bit 7 "padding goes to 60 before an FCS, or to 64 without one"
  pub before : ℕ
  pub to60 : bit 7 tcr ≡ true → with_fcs ≡ true → before ≡ max 60 many
  pub to64 : bit 7 tcr ≡ true → with_fcs ≡ false → before ≡ max 64 many
  pub plain : bit 7 tcr ≡ false → before ≡ many
  -- "shorter data is padded by zeros"
  pub zeros : (j : ℕ) → many ≤ j → j < before → get_or t.output j 0 ≡ 0
  -- the four bytes behind them are the FCS of all before
  pub appended : with_fcs ≡ true → take 4 (drop before t.output) ≡ fcs (take before t.output)
  -- "The value is the length put out", which "counts the FCS"
  pub value_with : with_fcs ≡ true → t.reply.value ≡ before + 4
  pub value_without : with_fcs ≡ false → t.reply.value ≡ before
  -- "all other output bytes stay"
  pub stay : (j : ℕ) → t.reply.value ≤ j → get_or t.output j 0 ≡ get_or out j 0
  -- Where the packet has no more pages than a packet may have, the value is 2,047 at most, and the buffer keeps its length.
  pub most : length pages ≤ 8 → t.reply.value ≤ 2047
  pub whole : length pages ≤ 8 → length t.output ≡ length out

-- "failed sends put out the same bytes": any two sends that are done, whatever their outcomes, give the same value and the same output.
finish_alike : (s other : Send) (c : Chip) (out : List ℕ) → (finish s c out).reply.number ≡ 0 → (finish other c out).reply.number ≡ 0
    → ((finish s c out).reply.value ≡ (finish other c out).reply.value) × ((finish s c out).output ≡ (finish other c out).output)
unfolding send_head
finish_alike s other c out d e =
    let a = (served s c out d).head in
    let b = (served other c out e).head in
    (ap (λ (t : Turn). t.reply.value) a ∙ sym (ap (λ (t : Turn). t.reply.value) b), ap (λ (t : Turn). t.output) a ∙ sym (ap (λ (t : Turn). t.output) b))

-- The same of a step, on every chip and at any part size n: a chip whose send is done is well formed, so that its packets have 8 pages at most.
pub step_done : (n : ℕ) (s : Send) (c : Chip) (out : List ℕ) → (step_of n (sent s out) c).reply.number ≡ 0 → Fits n c × (step_of n (sent s out) c ≡ finish s c out)
unfolding step_of serve
step_done n s c out =
    pick_unless (λ (t : Turn). t.reply.number ≡ 0 → Fits n c × (t ≡ finish s c out)) (fit n c) (λ f e. absurd (omega arith)) (λ f e. ((fit_decides n c).sound f, refl))

pub sends_alike : (n : ℕ) (s other : Send) (c : Chip) (out : List ℕ) → (step_of n (sent s out) c).reply.number ≡ 0 → (step_of n (sent other out) c).reply.number ≡ 0
    → ((step_of n (sent s out) c).reply.value ≡ (step_of n (sent other out) c).reply.value) × ((step_of n (sent s out) c).output ≡ (step_of n (sent other out) c).output)
sends_alike n s other c out d e =
    let a = (step_done n s c out d).1 in
    let b = (step_done n other c out e).1 in
    rw (a, b) (finish_alike s other c out (rw a at d) (rw b at e))
