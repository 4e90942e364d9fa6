use Rattle.std.proofs.Common.{Some, sym, ◌∙◌, ap, lt-ltb}
use Rattle.posix_spec.specs.SignalActs.{notify_step}
use Rattle.posix_model.specs.Machine.{state_of}
use Rattle.posix_model.specs.Shown.{record_of}
use Rattle.posix_model.proofs.StepLemmas.{value_some, test_true}
use Rattle.posix_model.proofs.signal_acts.notify.Goals as goal

pub returns-in-Some : goal.returns-in-Some
returns-in-Some c =
    let s = state_of c.args.m.now in (
      value_some _ (notify_step s c.args.p) (record_of c.in-Some.process.now) (sym c.in-Some.ensures)
          ∙ test_true _ _ (lt-ltb 0 c.in-Some.process.now.owed c.if-process-gt0.true)
          ∙ ap Some (sym c.change_own.ensures.state),
      c.change_own.ensures.script,
    )
