use Rattle.std.proofs.Common.{Global, None, refl, ◌∙◌, ap}
use Rattle.posix_model.specs.Numbered.{map_from}
use Rattle.posix_model.specs.Table.{record_in}
use Rattle.posix_model.proofs.NumberedLaws.{map_from-none}
use Rattle.posix_model.proofs.table.Table.new.Goals as goal

pub returns : goal.returns
returns c = ap (map_from (record_in {Z = Global}) 2) c.loop-seat.invariant.0 ∙ map_from-none (record_in {Z = Global})
    2 c.loop-seat._seat None refl
