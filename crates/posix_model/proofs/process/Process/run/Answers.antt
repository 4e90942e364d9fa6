use Rattle.std.proofs.Common.{◌∙◌, ap}
use Rattle.vm_spec.specs.Image.{image_of}
use Rattle.w32_base.specs.declared.own.Own.{Own}
use Rattle.posix_spec.specs.Conditions.{call_goes_on}
use Rattle.posix_spec.specs.State.{Record}
use Rattle.posix_model.specs.Shown.{record_of}
use Rattle.posix_model.proofs.process.Process.run.Goals as goal

pub returns-then-not-is_number-clause-process : goal.returns-then-not-is_number-clause-process
returns-then-not-is_number-clause-process c =
    let r : Record = record_of c.args.self.now in
    ap (λ (o : Own). let x : Record = record r { image = image_of o } in x)
    (c.undo_block.ensures.value ∙ c.run_block_kept-length.ensures.back)

pub returns-clause-process : goal.returns-clause-process
returns-clause-process c =
    let r : Record = record_of c.args.self.now in
    c.go_on.ensures
    ∙ ap (λ (o : Own). call_goes_on (record r { image = image_of o })) c.run_block_kept-length.ensures.image
