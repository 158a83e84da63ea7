-- Each word is its function's, and the four stores are `sent_by`.
use Rattle.outcomes.specs.Numbers.{ending_of}
use Rattle.outcomes.proofs.Facts.{registers_set}
use Rattle.outcomes.proofs.after.set_registers.Goals as goal

pub returns : goal.returns
returns c =
    let latched = c.new_latches-latches.ensures in
    registers_set c.args.good (ending_of c.args.ending) c.args.address _ c.args.words.now c.requires.0 c.tallied-counts.ensures.0 c.any_full.ensures c.new_tcr-tcr.ensures c.new_ephsr-ephsr.ensures
    c.new_ecr.ensures latched.latched latched.empty latched.overrun
