use Rattle.std.proofs.Common.{Option, sym, ◌∙◌, ap}
use Rattle.w32_base.specs.declared.setup.Program.{Program}
use Rattle.vm_spec.specs.NewImage.{new_image}
use Rattle.posix_spec.specs.Opening.{first_image}
use Rattle.posix_spec.specs.State.{opening}
use Rattle.posix_model.specs.declared.process.Process.{Process}
use Rattle.posix_model.specs.Machine.{PosixMachine}
use Rattle.posix_model.specs.MarkedNumbers.{numbers_of}
use Rattle.posix_model.specs.Shown.{record_of}
use Rattle.posix_model.specs.Table.{records_of}
use Rattle.posix_model.proofs.OpeningLemmas.{unstarted_is, first_record, first_number}
use Rattle.posix_model.proofs.opening.opened.Goals as goal

pub returns : goal.returns
returns c =
    let setup = c.args.script.now.setup in
    let image = new_image 0 c.first.result.now in
    let records = first_record (records_of c.in_ok-table.table) (records_of c.put.new.self) c.from.result
    (record_of c.in_ok-new.field-0.value) (record_of c.in_ok-first.first) image c.put.ensures c.in_ok-table.ensures
    c.from.ensures (ap (λ (x : Process). record_of x) c.in_ok-new.ensures.ok) c.in_ok-first.ensures in
    let used = first_number (numbers_of c.in_ok-used.used) (numbers_of c.insert.new.self) c.new-4.result
    c.insert.ensures c.in_ok-used.ensures c.new-4.ensures in
    let state : Option Program → PosixMachine =
    λ o. record { limits = setup.limits; programs = setup.programs; state = opening (first_image o) } in
    unstarted_is setup.limits c.in_ok-copies_of.field-0 setup.programs (records_of c.put.new.self) c.new-5.result
    c.new-6.result.items (numbers_of c.insert.new.self) image c.in_ok-copies_of.ensures records c.new-5.ensures
    c.new-6.ensures.items used
    ∙ ap state (sym c.first.ensures)
