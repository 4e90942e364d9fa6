use Rattle.std.proofs.Common.{◌≡◌, ◌<◌, length, ap, ◌∙◌, sym, refl, arith, Some}
use Rattle.w32_process.specs.Table.{Table, number_at}
use Rattle.w32_process.specs.SoundLaws.{IsSound-end}
use Rattle.w32_process.proofs.SeatLemmas.{within_at, seat_number}
use Rattle.w32_process.proofs.processes.Processes.end.Goals as goal

pub invariant_of-self : goal.invariant_of-self
invariant_of-self c =
    let within : c.place.result < length c.self.inside.seats.items = within_at c.args.self.now _ c.args.slot _ (ap (λ
    (t : Table). t.slots) c.self.view_is) c.place.ensures c.requires.occupied in
    let at : number_at c.self.inside.seats.items c.place.result ≡ Some c.in-Some.number = sym (seat_number _ _ _
    within c.index_mut-seat.ensures.value) ∙ sym c.number.ensures ∙ c.in-Some.is in (
      omega (arith, c.self.invariant.0, c.push_reserved.ensures.capacity),
      rw (
        c.leave.ensures,
        c.push_reserved.ensures.items,
      ) (IsSound-end _ _ _ _ c.in-Some.number _ within at refl c.self.invariant.1),
    )
