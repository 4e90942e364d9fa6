use Rattle.std.proofs.Common.{◌<◌, length, ap}
use Rattle.w32_process.specs.Table.{Table}
use Rattle.w32_process.specs.SoundLaws.{IsSound-same}
use Rattle.w32_process.proofs.SeatLemmas.{within_at, seat_number}
use Rattle.w32_process.proofs.processes.Processes.handles_mut.Goals as goal

pub invariant_of-self-lent : goal.invariant_of-self-lent
invariant_of-self-lent c =
    let within : c.place.result < length c.self.inside.seats.items = within_at c.args.self.now _ c.args.slot _ (ap (λ
    (t : Table). t.slots) c.self.view_is) c.place.ensures c.requires in
    λ w. (
      c.self.invariant.0,
      IsSound-same _ _ _ _ _ within (seat_number _ _ _ within c.index_mut.ensures.value)
          c.self.invariant.1,
    )
