-- What a send decides depends only on bytes 2 to 9 of the TX head and its control byte: a send on two chips that are equal but for the bytes of memory, where these agree.
use Rattle.std.specs.Prelude.{◌≡◌, refl, Bool, true, cond, ℕ, ◌-◌, ◌*◌, ◌≤◌, ltb, get_or, drop, replicate}
use Rattle.std.proofs.Math.Path.{ap, sym, subst}
use Rattle.std.proofs.Common.{◌∙◌, arith, length-append, length-drop}
use Rattle.std.proofs.Math.Bool.{false, not}
use mathlib.Core.List.{List, [], ◌∷◌, ◌++◌}
use borrow.Author.Tests.{ltb-false, not-false}
use Rattle.std.proofs.Math.ListN.{length}
use Rattle.rules.specs.Bits.{bit, low_byte, high_byte}
use Rattle.rules.specs.Lists.{some?}
use Rattle.rules.specs.Chip.{Registers, Pool, Chip}
use Rattle.rules.specs.Fields.{set_tx}
use Rattle.rules.specs.Answers.{Turn, Reply, over}
use Rattle.rules.specs.Packet.{get_bytes, put_bytes}
use Rattle.rules.specs.Crc.{fcs, four_bytes}
use Rattle.rules.specs.Send.{Send, in_limits, byte_count, send_length, appends, padded, ended, on_wire, control_byte, put_out, good, sent_registers, auto_release, retire, status_word, status_written, no_place, send_head, if_usable, if_sendable, by_tx_head, finish}
use Rattle.lists.specs.Bytes.{length_get, length_put}
use Rattle.laws.specs.Head.{head_pages, head_count, count_is}
use Rattle.laws.specs.Placed.{get_alike}
use Rattle.laws.proofs.PutOut.{control_is}
use Rattle.laws.specs.Sendable.{Reaches, within_decides}
use Rattle.blind_laws.specs.Alike.{Usable, HeadAlike, ButBytes}
use Rattle.blind_laws.specs.BlindAccesses.{holding, is_holding, beside, settles}

-- the two turns of a send: one reply, buffers of one length, and chips equal but for the bytes of memory
pub record Sends (t u : Turn) : Type 0 where
  pub reply : u.reply ≡ t.reply
  pub as_long : length u.output ≡ length t.output
  pub chips : ButBytes t.chip u.chip
