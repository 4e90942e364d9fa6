use Rattle.std.proofs.Common.{◌≡◌, pos, option_map, ◌∙◌, ap}
use Rattle.posix_spec.specs.Conditions as spec
use Rattle.posix_spec.specs.State.{Record}
use Rattle.posix_spec.specs.Records.{change_record}
use Rattle.posix_model.specs.Machine.{state_of}
use Rattle.posix_model.specs.Shown.{record_of}
use Rattle.posix_model.specs.declared.process.Process.{Process}
use Rattle.posix_model.proofs.ChangeLaws.{changed_by}
use Rattle.posix_model.proofs.machine.Machine.answer.Goals as goal

pub returns-clause-state : goal.returns-clause-state
returns-clause-state c =
    let s = state_of c.args.self.now in
    let f : Record → Record = spec.with_results (pos c.args.r0) (option_map pos c.args.r1) in
    let here : c.from-number.result ≡ c.args.p = c.from-number.ensures ∙ c.get.ensures.value in
    changed_by s c.from-number.result f (record_of c.take-process.result.value) (record_of c.answer.new.self) _ _
    c.take-process.ensures.process c.take-process.ensures.rest
    (c.answer.ensures ∙ ap (λ (p : Process). f (record_of p)) c.deref_mut.ensures.value)
    c.put.ensures
    ∙ ap (λ n. change_record s n f) here
