-- The numbers at hand are those of the rules (data length, pages needed, packet number, pages granted), so `Storing` tells that they fit; what the frame, the sets and RX become
-- is then what the rules make of the chip.
use Rattle.std.specs.Prelude.{refl, [], ◌∷◌, ◌++◌}
use Rattle.std.proofs.Common.{ap, ◌∙◌, arith}
use Rattle.wellformed.specs.Parts.{part_few}
use Rattle.wellformed.specs.Pool.{good_lists}
use Rattle.rules.specs.Fields.{set_rx, in_pool}
use Rattle.pool.specs.Queues.{rejoins_chip, rejoins_sound}
use Rattle.pages.specs.Pages.{repages_queues, repages_chip}
use Rattle.receive.specs.Storing.{judged_good, data_less, some_needed, few_needed, enough, may_join, is_stowed}
use Rattle.receive.proofs.Storing.{data_is, data_fits, need_is, room, good_after, long_after, home_granted, written}
use Rattle.receive.proofs.stow.stowed.Goals as goal

pub status_of-status-requires : goal.status_of-status-requires
status_of-status-requires g c = (c.requires.0.long, judged_good c.requires.0)

pub lowest_unallocated-packet-requires : goal.lowest_unallocated-packet-requires
lowest_unallocated-packet-requires g c = part_few c.requires.0.ready.sound.sets.part

pub pages_for-requires : goal.pages_for-requires
pages_for-requires g c = data_fits c.requires.0 _ c.data_length-n.ensures

pub grant-requires : goal.grant-requires
grant-requires g c =
    let t = c.requires.0 in
    let o = t.ready.sound in
    let need = need_is t _ _ c.data_length-n.ensures c.pages_for.ensures in
    (o.kept, o.sets, good_lists t.ready.well, c.lowest_unallocated-packet.ensures, rw need (some_needed t), omega (arith, need, few_needed t), rw need (enough t))

pub count_of-requires : goal.count_of-requires
count_of-requires g c = data_fits c.requires.0 _ c.data_length-n.ensures

pub store_frame-requires : goal.store_frame-requires
store_frame-requires g c =
    let t = c.requires.0 in
    let a = c.grant.ensures in
    let need = need_is t _ _ c.data_length-n.ensures c.pages_for.ensures in
    let number = c.lowest_unallocated-packet.ensures in
    let n = data_is t _ c.data_length-n.ensures in
    (omega (arith, n, data_less t), c.home-home.ensures.fits _ (good_after t a number need) (long_after t a number need c.args.memory.now c.requires.1), rw (n, home_granted t a number need _ c.home-home.ensures.pages) (room t))

pub join-requires : goal.join-requires
join-requires g c =
    let t = c.requires.0 in
    let a = c.grant.ensures in
    let m = may_join t a _ c.lowest_unallocated-packet.ensures in
    (a.kept, repages_queues a c.args.queues.now t.ready.sound.queues, m.0, m.1)

pub returns : goal.returns
returns g c =
    let l = g.L.Layout.layout in
    let t = c.requires.0 in
    let mem = c.args.memory.now in
    let a = c.grant.ensures in
    let need = need_is t _ _ c.data_length-n.ensures c.pages_for.ensures in
    let number = c.lowest_unallocated-packet.ensures in
    record {
      chip = rejoins_chip c.join.ensures l c.grant.new.sets c.store_frame.new.memory
          ∙ ap (in_pool (λ x. set_rx (x.rx ++ (c.lowest_unallocated-packet.result.0 ∷ [])) x)) (repages_chip a c.args.queues.now c.store_frame.new.memory)
          ∙ is_stowed t mem _ _ _ number need
          (written t mem _ _ _ _ _ c.store_frame.ensures c.status_of-status.ensures c.count_of.ensures (data_is t _ c.data_length-n.ensures) (home_granted t a number need _ c.home-home.ensures.pages));
      reply = refl;
      sound = rejoins_sound c.join.ensures a.sets;
    }
