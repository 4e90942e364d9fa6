use Rattle.w32_process.proofs.SeatLemmas.{memory_is}
use Rattle.w32_process.proofs.seat.renew.Goals as goal

pub returns : goal.returns
returns c =
    memory_is c.args.number _ _ _ c.args.program.now _ _ _ _ _ _ c.from.ensures c.from-2.ensures c.from-3.ensures
    c.reset.ensures c.set_word.ensures c.reset-2.ensures c.reset-3.ensures
    c.reset-4.ensures c.reset-5.ensures
