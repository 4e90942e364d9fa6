use Rattle.std.proofs.Common.{◌<◌, length, ap, ◌∙◌}
use Rattle.w32_process.specs.Places.{Place}
use Rattle.w32_process.specs.Table.{Table}
use Rattle.w32_process.specs.SoundLaws.{IsSound-same}
use Rattle.w32_process.proofs.SeatLemmas.{counted_at, seat_number}
use Rattle.w32_process.proofs.processes.Processes.suspend.Goals as goal

pub invariant_of-self : goal.invariant_of-self
invariant_of-self c =
    let within : c.place.result < length c.self.inside.seats.items = counted_at c.args.self.now _ c.args.slot _
    c.args.thread (ap (λ (t : Table). t.slots) c.self.view_is) c.place.ensures c.requires in
    let stays = ap (λ (p : Place). p.number) c.set_count.ensures
    ∙ seat_number _ _ _ within c.index_mut-seat.ensures.value in
    (c.self.invariant.0, IsSound-same _ _ _ _ _ within stays c.self.invariant.1)
