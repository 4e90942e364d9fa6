use Rattle.std.proofs.Common.{◌-◌, ◌<◌, length, sym, ◌∙◌, ap, arith, inl, inr}
use Rattle.posix_model.specs.Table.{record_in}
use Rattle.posix_model.specs.Shown.{record_of}
use Rattle.posix_model.specs.declared.process.Process.{Process}
use Rattle.std.proofs.Common.{Some}
use Rattle.posix_model.proofs.TableLaws.{seat_of, seat_below, seat_past}
use Rattle.posix_model.proofs.table.Table.get.Goals as goal

pub returns-then-number-lt-FIRST-clause-value : goal.returns-then-number-lt-FIRST-clause-value
returns-then-number-lt-FIRST-clause-value c =
    let seats = c.args.self.now.seats.items in
    elim c.then-number-lt-FIRST.either [
      | inl below ↦ sym (seat_below seats c.args.number below)
      | inr past ↦ sym (seat_past seats c.args.number (omega (arith, past.1, c.args.self.now.room)))
    ]

pub returns-in-Some-clause-value : goal.returns-in-Some-clause-value
returns-in-Some-clause-value c =
    let seats = c.args.self.now.seats.items in
    let within : c.args.number - 2 < length seats = omega (arith, c.args.self.now.room) in
    ap (λ (p : Process). Some (record_of p)) c.deref.ensures
    ∙ sym (seat_of seats c.args.number (c.args.number - 2) c.index.result.now (omega arith) within c.index.ensures ∙
    ap record_in c.in-Some.is)

pub returns-in-None-clause-value : goal.returns-in-None-clause-value
returns-in-None-clause-value c =
    let seats = c.args.self.now.seats.items in
    let within : c.args.number - 2 < length seats = omega (arith, c.args.self.now.room) in
    sym (seat_of seats c.args.number (c.args.number - 2) c.index.result.now (omega arith) within c.index.ensures ∙ ap
    record_in c.in-None.is)
