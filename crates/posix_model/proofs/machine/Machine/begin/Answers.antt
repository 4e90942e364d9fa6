use Rattle.std.proofs.Common.{◌≡◌, Some, refl, sym, ◌∙◌, ap, option_map}
use Rattle.vm_spec.specs.NewImage.{new_image}
use Rattle.posix_spec.specs.ForkSteps.{exec_to, replaced}
use Rattle.posix_spec.specs.Records.{change_record}
use Rattle.posix_spec.specs.State.{Record}
use Rattle.posix_model.specs.Executed.{found_shown}
use Rattle.posix_model.specs.Machine.{state_of}
use Rattle.posix_model.specs.Shown.{record_of}
use Rattle.posix_model.specs.declared.process.Process.{Process}
use Rattle.posix_model.proofs.ChangeLaws.{changed_by}
use Rattle.posix_model.proofs.machine.Machine.begin.Goals as goal

pub returns : goal.returns
returns c =
    let s = state_of c.args.self.now in
    let p = c.args.p in
    let found = found_shown c.in-Some.found in
    let f : Record → Record = replaced (new_image found.number found.program) in
    let here : c.from-number.result ≡ p = c.from-number.ensures ∙ c.get.ensures.value in (
      ap (exec_to s p) (sym c.program_named.ensures ∙ ap (option_map found_shown) c.in-Some.is)
          ∙ ap Some (sym (changed_by s c.from-number.result f (record_of c.take-process.result.value) (record_of
          c.replace.new.self) _ _
          c.take-process.ensures.process c.take-process.ensures.rest
          (c.replace.ensures ∙ ap (λ (x : Process). f (record_of x)) c.deref_mut.ensures.value)
          c.put.ensures
          ∙ ap (λ n. change_record s n f) here)),
      refl,
    )
