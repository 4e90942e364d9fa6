use Rattle.std.proofs.Common.{◌<◌, length, slice_set, ◌∙◌, ap, arith, length-set}
use Rattle.std.proofs.lemmas.List.{get_or_default}
use Rattle.std.proofs.lemmas.List.Edits.{map_over_more}
use Rattle.w32_base.specs.declared.instr.Action.TheVariants.{Default}
use Rattle.posix_spec.specs.ForkSteps.{action_after_exec}
use Rattle.posix_model.proofs.execs.actions_after_exec.Goals as goal

pub loop-i-preserved : goal.loop-i-preserved
loop-i-preserved c =
    let a = c.args.actions in
    let now = c.loop-i.after in
    let i = c.loop-i.i in
    let within : i < length a = omega arith in
    let here : i < length now = omega (arith, c.loop-i.invariant.1) in (
      ap (slice_set now i) c.action_after_exec.ensures
          ∙ map_over_more action_after_exec a now i _ within c.loop-i.invariant.0 (get_or_default now i Default _ here),
      length-set now i _ ∙ c.loop-i.invariant.1,
    )
