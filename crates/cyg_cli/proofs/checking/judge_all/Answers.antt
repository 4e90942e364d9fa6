use Rattle.std.proofs.Common.{refl, ap, inr, Err}
use Rattle.cyg_cli.proofs.checking.judge_all.Goals as goal

pub returns-in-Err-Large : goal.returns-in-Err-Large
returns-in-Err-Large g c =
    let is = ap Err c.in-Err-Large.field-0-is in
    record {
      faults = c.in-Err-Large.ensures.no_fault_large is;
      read = inr (record {
        drawn = c.in-Err-Large.ensures.large is;
        ends = c.in-Err-Large.ensures.not_ended;
        answer =
            refl;
      });
    }
