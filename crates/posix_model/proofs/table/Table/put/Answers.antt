use Rattle.std.proofs.Common.{◌≡◌, ◌<◌, ◌+◌, ◌-◌, length, ◌∙◌, ap, arith}
use Rattle.std.specs.FinMap as map
use Rattle.std.specs.Box.{with_value}
use Rattle.posix_spec.specs.State.{Record}
use Rattle.posix_spec.specs.Records.{settled}
use Rattle.posix_model.specs.Shown.{record_of}
use Rattle.posix_model.specs.Table.{records_of}
use Rattle.posix_model.specs.declared.process.Process.{Process}
use Rattle.posix_model.proofs.TableLaws.{seat_put}
use Rattle.posix_model.proofs.table.Table.put.Goals as goal

pub returns : goal.returns
returns c =
    let seats = c.args.self.now.seats.items in
    let here : c.args.number ≡ 2 + (c.args.number - 2) = omega arith in
    let within : c.args.number - 2 < length seats = omega (arith, c.args.self.now.room) in
    seat_put seats c.args.number (c.args.number - 2) (with_value c.args.process c.settle.new.self) here within
    ∙ ap (λ (r : Record). map.insert (records_of c.args.self.now) c.args.number r)
    (c.settle.ensures ∙ ap (λ (p : Process). settled (record_of p)) c.deref_mut.ensures.value)
