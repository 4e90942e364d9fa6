use Rattle.std.proofs.Common.{◌≡◌, ◌<◌, ◌+◌, ◌-◌, length, sym, ◌∙◌, ap, arith, slice_set}
use Rattle.posix_model.specs.Numbered.{map_from}
use Rattle.posix_model.specs.Table.{record_in}
use Rattle.posix_model.proofs.TableLaws.{no_some, seat_of, seat_taken}
use Rattle.posix_model.proofs.table.Table.take.Goals as goal

pub unreachable-requires : goal.unreachable-requires
unreachable-requires c =
    let seats = c.args.self.now.seats.items in
    let here : c.args.number ≡ 2 + (c.args.number - 2) = omega arith in
    let within : c.args.number - 2 < length seats = omega (arith, c.args.self.now.room) in
    no_some _ (seat_of seats _ _ c.index_mut.result.now here within c.index_mut.ensures.value
    ∙ ap record_in (sym c.take.ensures.value ∙ c.in-None.is)) c.requires.there

pub returns-clause-process : goal.returns-clause-process
returns-clause-process c =
    let seats = c.args.self.now.seats.items in
    let here : c.args.number ≡ 2 + (c.args.number - 2) = omega arith in
    let within : c.args.number - 2 < length seats = omega (arith, c.args.self.now.room) in
    seat_of seats _ _ c.index_mut.result.now here within c.index_mut.ensures.value
    ∙ ap record_in (sym c.take.ensures.value ∙ c.in-Some.is)

pub returns-clause-rest : goal.returns-clause-rest
returns-clause-rest c =
    let seats = c.args.self.now.seats.items in
    let here : c.args.number ≡ 2 + (c.args.number - 2) = omega arith in
    let within : c.args.number - 2 < length seats = omega (arith, c.args.self.now.room) in
    ap (λ seat. map_from record_in 2 (slice_set seats (c.args.number - 2) seat)) c.take.ensures.after
    ∙ seat_taken seats c.args.number (c.args.number - 2) here within
