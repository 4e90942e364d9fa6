use Rattle.std.proofs.Common.{◌+◌, arith}
use Rattle.w32_memory.proofs.Free.{range_test}
use Rattle.w32_memory.proofs.pages.is_free.Goals as goal

pub returns-then-end-le-PAGES : goal.returns-then-end-le-PAGES
returns-then-end-le-PAGES c =
    range_test _ _ _ c.from-base.result (c.from-base.result + c.from.result) _ c.told-taken c.from-base.ensures
    (omega arith) c.if-end-le-PAGES.true c.are_free.ensures
