-- Too short, turned away, or stored: `receive/specs/Arrives` has what each comes to.
use Rattle.std.specs.Prelude.{Ok, Err, refl}
use Rattle.state.specs.declared.Refusal.TheVariants.{OutsideLimits}
use Rattle.judging.specs.Frames.{frame_of}
use Rattle.receive.specs.Arrives.{rejected, refuses, stays, away, kept, stowable}
use Rattle.receive.proofs.arrived.Goals as goal

pub returns-then-frame-lt18 : goal.returns-then-frame-lt18
returns-then-frame-lt18 g c =
    let mem = c.args.memory.now in
    rw (refuses c.requires.0 mem (frame_of c.args.frame.now c.args.alignment) c.if-frame-lt18.true) (stays c.requires.0 mem (Err OutsideLimits))

pub returns-in-Err : goal.returns-in-Err
returns-in-Err g c =
    away c.requires.0 c.args.memory.now (frame_of c.args.frame.now c.args.alignment) c.if-frame-lt18.false (Err c.in-Err.rejection) c.in-Err.ensures (rejected c.in-Err.rejection) c.turned_away.ensures

pub returns : goal.returns
returns g c =
    let mem = c.args.memory.now in
    let f = frame_of c.args.frame.now c.args.alignment in
    kept c.requires.0 mem f (stowable c.requires.0 mem f c.if-frame-lt18.false (Ok tt) c.in_default.ensures refl) c.stowed.ensures
