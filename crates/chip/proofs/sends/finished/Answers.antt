-- What a send makes, and puts out, is right.
use Rattle.chip.specs.Rights.{right_send}
use Rattle.chip.proofs.sends.finished.Goals as goal

pub returns : goal.returns
returns g c =
    let e = c.finished.ensures in
    right_send _ _ _ _ c.requires _ c.args.out.now _ _ _ _ _ _ (record { chip = e.chip; reply = e.reply; sound = e.sound }) e.output
