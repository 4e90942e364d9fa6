use Rattle.std.proofs.Common.{refl, subst, ap}
use Rattle.cyg_cli.specs.Commands.{Asks}
use Rattle.cyg_cli.specs.Top.{Ran}
use Rattle.cyg_cli.proofs.Ends.{making_ends, checked_ends}
use Rattle.cyg_cli.proofs.top.carry_out.Goals as goal

pub returns-in-Some-Run : goal.returns-in-Some-Run
returns-in-Some-Run g c = record {
  story = Ran c.in-Some-Run.view (subst (Asks _) c.in-Some-Run.field-0-is c.in-Some-Run.ensures) c.run_script.ensures;
}

pub returns-in-Some-Make : goal.returns-in-Some-Make
returns-in-Some-Make g c = record {
  story = making_ends _ c.in-Some-Make.n _ _ _ _ _ (subst (Asks _) c.in-Some-Make.field-0-is c.in-Some-Make.ensures)
      (record { left = refl; read_faults = refl; given = refl; ends = refl }) c.make_script.ensures
      (λ held faults. rw (held, faults) refl);
}

pub returns-in-Some-Check : goal.returns-in-Some-Check
returns-in-Some-Check g c =
    let answer = c.without_journal.ensures in
    record {
      story = checked_ends _ _ _ _ _ _ _ (subst (Asks _) c.in-Some-Check.field-0-is c.in-Some-Check.ensures)
          c.check_log.ensures (ap (λ r. r.status) answer) (ap (λ r. r.journal) answer);
    }
