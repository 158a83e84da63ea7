-- The data is padded, and then its FCS follows it or not.
use Rattle.std.proofs.Common.{◌∙◌, arith}
use Rattle.on_wire.proofs.Padding.{ends_bare, ends_fcs}
use Rattle.on_wire.proofs.end_out.Goals as goal

pub returns-then-not-with_fcs : goal.returns-then-not-with_fcs
returns-then-not-with_fcs c = ends_bare c.args.tcr c.args.control _ c.args.out.now c.appends-with_fcs.ensures c.pad_out-end.ensures.puts c.if-not-with_fcs.true

pub returns : goal.returns
returns c =
    ends_fcs c.args.tcr c.args.control _ c.args.out.now c.appends-with_fcs.ensures c.pad_out-end.ensures.puts c.if-not-with_fcs.false c.fcs-fcs.ensures
    (c.copy_from_slice.ensures.after ∙ c.to_le_bytes.ensures) (omega arith)
