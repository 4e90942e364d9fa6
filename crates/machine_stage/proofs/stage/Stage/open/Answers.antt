use Rattle.std.proofs.Common.{rules}
use Rattle.script_spec.specs.Validity.{IsValid}
use Rattle.machine_stage.specs.Staged.{staged_opening}
use Rattle.machine_stage.specs.TrialLaws.{stage_of}
use Rattle.machine_stage.proofs.stage.Stage.open.Goals as goal

pub invariant_of-opened : goal.invariant_of-opened
invariant_of-opened c =
    let valid : IsValid c.in_ok-script.script = search rules in
    staged_opening c.in_ok-script.script c.in_ok-open.field-0 valid c.in_ok-open.ensures.opening
    c.in_ok-open.ensures.script

pub returns : goal.returns
returns c = (
  c.in_ok-script.ensures.0,
  stage_of c.args.text.now c.in_ok-script.script c.in_ok-open.field-0 c.type_keys.new.self c.in_ok-script.ensures.1
      c.in_ok-open.ensures.opening c.in_ok-open.ensures.script c.type_keys.ensures.script c.type_keys.ensures.rest
      c.type_keys.ensures.typed c.type_keys.ensures.turns,
)
