use Rattle.std.proofs.Common.{ap}
use Rattle.posix_model.specs.Scanned.{some_entry}
use Rattle.posix_model.specs.Table.{record_in}
use Rattle.posix_model.proofs.NumberedLaws.{entries-map_from}
use Rattle.posix_model.proofs.table.Table.find.Goals as goal

pub loop-i-init : goal.loop-i-init
loop-i-init g c = ap (some_entry (g.T.Test.is_passed c.args.test.now)) (entries-map_from record_in 2
    c.args.self.now.seats.items)
