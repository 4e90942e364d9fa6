use Rattle.std.proofs.Common.{◌≡◌, ◌+◌, ◌≤◌}
use Rattle.std.specs.FinMap as map
use Rattle.posix_model.specs.Scanned.{count_entries}
use Rattle.posix_model.specs.Table.{records_of}
use Rattle.posix_model.proofs.ScanLaws.{entries_at}
use Rattle.posix_model.proofs.table.Table.count.Given as goal

abbrev pub invariant-loop-i : goal.invariant-loop-i
invariant-loop-i g l =
    (count_entries (g.T.Test.is_passed l.test) (map.entries (records_of l.self)) ≡ l.count + count_entries
    (g.T.Test.is_passed l.test) (entries_at l.self.seats.items l.i))
    × (l.count ≤ l.i)
