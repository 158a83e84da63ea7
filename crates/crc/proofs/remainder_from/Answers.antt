use Rattle.std.proofs.Common.{◌/◌, length, sym, ◌∙◌, arith}
use Rattle.rules.specs.Crc.{mirror}
use Rattle.crc.proofs.Bytes.{none_on, byte_on, chunk_on}
use Rattle.crc.proofs.remainder_from.Goals as goal

pub loop-four-preserved : goal.loop-four-preserved
loop-four-preserved c =
    let k = c.loop-four in
    chunk_on 4 (length c.args.bytes.now / 4) k.four-index (mirror 32 k.r) (mirror 32 c.four_in-r.result) c.args.bytes.now c.as_chunks.result.0.now c.as_chunks.ensures.front
    (omega (arith, c.loop-four-test.true, c.as_chunks.ensures.front_len)) c.four_in-r.ensures
    ∙ k.invariant

pub loop-byte-preserved : goal.loop-byte-preserved
loop-byte-preserved c =
    let k = c.loop-byte in
    byte_on k.byte-index (mirror 32 k.r) (mirror 32 c.byte_in-r.result) c.as_chunks.result.1.now c.loop-byte-test.true c.byte_in-r.ensures ∙ k.invariant

pub returns : goal.returns
returns c =
    let k = c.loop-byte in
    sym (none_on k.byte-index (mirror 32 k.r) c.as_chunks.result.1.now c.loop-byte-test.false) ∙ k.invariant
