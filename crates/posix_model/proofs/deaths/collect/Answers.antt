use Rattle.std.proofs.Common.{Some, sym, ◌∙◌, ap}
use Rattle.posix_spec.specs.DeathSteps.{collect_step}
use Rattle.posix_spec.specs.Records.{without_record}
use Rattle.posix_model.specs.Machine.{state_of}
use Rattle.posix_model.specs.Shown.{record_of}
use Rattle.posix_model.proofs.StepLemmas.{value_some, test_true}
use Rattle.posix_model.proofs.deaths.collect.Goals as goal

pub returns-in-Some : goal.returns-in-Some
returns-in-Some c =
    let s = state_of c.args.m.now in
    let p = c.args.p in (
      value_some _ (collect_step s p) (record_of c.in-Some.process.now) (sym c.in-Some.ensures)
          ∙ test_true _ _ (sym c.if-is_left.ensures)
          ∙ ap Some (sym (c.remove.ensures.state ∙ ap (without_record s) (c.from.ensures ∙ c.get.ensures.value))),
      c.remove.ensures.script,
    )
