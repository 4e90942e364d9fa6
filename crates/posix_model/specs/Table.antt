-- The records that the processes of a table are.
use Rattle.std.specs.Prelude.{Option, Some, None, Box}
use Rattle.posix_spec.specs.State.{Record, Records}
use Rattle.posix_model.specs.declared.process.Process.{Process}
use Rattle.posix_model.specs.declared.table.Table.{Table}
use Rattle.posix_model.specs.Numbered.{map_from}
use Rattle.posix_model.specs.Shown.{record_of}

module _ {Z : Type 0} where
  abbrev pub record_in : Option (Box Process Z) → Option Record
  record_in None = None
  record_in (Some process) = Some (record_of process.value)

abbrev pub records_of : Table → Records
records_of table = map_from record_in 2 table.seats.items
