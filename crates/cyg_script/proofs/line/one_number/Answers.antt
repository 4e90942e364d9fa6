use Rattle.std.proofs.Common.{◌∙◌}
use Rattle.script_spec.specs.Fields.{NumberWord}
use Rattle.cyg_script.proofs.Forms.{one_fault}
use Rattle.cyg_script.proofs.line.one_number.Goals as goal

pub returns-in-Some-clause-fault : goal.returns-in-Some-clause-fault
returns-in-Some-clause-fault c =
    c.number.ensures.fault ∙ one_fault (NumberWord c.args.low c.args.high) _ c.in-Some.n.now c.in-Some.ensures
