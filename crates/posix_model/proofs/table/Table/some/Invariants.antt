use Rattle.std.proofs.Common.{◌≡◌}
use Rattle.std.specs.FinMap as map
use Rattle.posix_model.specs.Scanned.{some_entry}
use Rattle.posix_model.specs.Table.{records_of}
use Rattle.posix_model.proofs.ScanLaws.{entries_at}
use Rattle.posix_model.proofs.table.Table.some.Given as goal

abbrev pub invariant-loop-i : goal.invariant-loop-i
invariant-loop-i g l =
    some_entry (g.T.Test.is_passed l.test) (map.entries (records_of l.self)) ≡ some_entry (g.T.Test.is_passed l.test)
    (entries_at l.self.seats.items l.i)
