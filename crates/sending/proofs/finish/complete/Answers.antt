-- Registers and TX, then the status word, then the packet itself: the rules' order.
use Rattle.std.proofs.Common.{arith}
use Rattle.wellformed.specs.Pool.{good_lists}
use Rattle.pages.specs.Pages.{waits_few}
use Rattle.sending.specs.After.{same_completion, same_waiting, sent_sound, completes, head_small}
use Rattle.sending.proofs.finish.complete.Goals as goal

pub retire-requires : goal.retire-requires
retire-requires g c =
    let r = c.requires.0 in
    let sent = c.after_send-head.ensures.sent in (
      omega (arith, c.after_send-head.ensures.head, head_small r c.requires.1),
      sent_sound sent r.sound,
      good_lists r.well,
      λ kept. omega (arith, c.requires.5 kept, same_completion sent r.sound.queues),
      omega (arith, waits_few r, same_waiting sent),
    )

pub returns : goal.returns
returns g c =
    completes c.after_send-head.ensures.sent c.after_send-head.ensures.head c.address_bits-address.ensures.0 c.shown_ephsr-status.ensures c.write_status.ensures c.retire.ensures
