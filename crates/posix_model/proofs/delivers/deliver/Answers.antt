use Rattle.std.proofs.Common.{◌≡◌, ℕ, true, cond, not, Some, None, refl, sym, ◌∙◌, ap}
use Rattle.vm_spec.specs.Frames.{has_frame_room}
use Rattle.posix_spec.specs.Numbers.{for_value}
use Rattle.posix_spec.specs.Records.{change_record}
use Rattle.posix_spec.specs.SignalActs.{in_handler, deliver_step}
use Rattle.posix_spec.specs.State.{Record, record_of as record_at}
use Rattle.posix_model.specs.Handlings.{handling_of}
use Rattle.posix_model.specs.Machine.{script_of, state_of}
use Rattle.posix_model.specs.Shown.{record_of}
use Rattle.posix_model.proofs.ActLemmas.{and_true}
use Rattle.posix_model.proofs.HandlerLemmas.{begun_by, deliver_step-is, handling_room}
use Rattle.posix_model.proofs.StepLemmas.{value_some, value_none, same_there}
use Rattle.posix_model.proofs.delivers.deliver.Goals as goal

pub enter_handler-requires : goal.enter_handler-requires
enter_handler-requires c x there =
    let script = script_of c.args.m.now in
    let s = state_of c.args.m.now in
    let r = record_of c.in-Some.process.now in
    let h = c.in-Some-handling_of.handling in
    same_there (λ (y : Record). has_frame_room y.image ≡ true) (record_at s c.args.p) r x (sym c.in-Some.ensures) there
    (handling_room script s c.args.p c.in-Some-deliverable_as.number.number c.args.how r (h.interrupted, h.target)
    c.in-Some-handling_of.ensures.0)

pub returns-in_default-handling_of : goal.returns-in_default-handling_of
returns-in_default-handling_of c =
    let script = script_of c.args.m.now in
    let s = state_of c.args.m.now in
    let p = c.args.p in
    let r = record_of c.in-Some.process.now in
    let begun = begun_by script s p c.args.signal c.args.how r in (
      value_some _ (deliver_step script s p c.args.how c.args.signal) r (sym c.in-Some.ensures)
          ∙ deliver_step-is script s p c.args.signal c.args.how r
          ∙ ap (λ b. cond b (for_value (handling_of script r c.args.how c.args.signal) begun) None)
          (and_true _ _ (sym c.in-Some-deliverable_as.ensures.which) (ap not (sym c.if-is_in_group_call.ensures)))
          ∙ value_none _ begun (ap (handling_of script r c.args.how) (sym c.in-Some-deliverable_as.ensures.number) ∙
          c.in_default-handling_of.ensures),
      refl,
    )

pub returns : goal.returns
returns c =
    let script = script_of c.args.m.now in
    let s = state_of c.args.m.now in
    let p = c.args.p in
    let r = record_of c.in-Some.process.now in
    let h = c.in-Some-handling_of.handling in
    let number : c.in-Some-deliverable_as.number.number ≡ c.args.signal = c.in-Some-deliverable_as.ensures.number in
    let begun = begun_by script s p c.args.signal c.args.how r in (
      value_some _ (deliver_step script s p c.args.how c.args.signal) r (sym c.in-Some.ensures)
          ∙ deliver_step-is script s p c.args.signal c.args.how r
          ∙ ap (λ b. cond b (for_value (handling_of script r c.args.how c.args.signal) begun) None)
          (and_true _ _ (sym c.in-Some-deliverable_as.ensures.which) (ap not (sym c.if-is_in_group_call.ensures)))
          ∙ value_some _ begun (h.interrupted, h.target) (ap (handling_of script r c.args.how) (sym number) ∙
          c.in-Some-handling_of.ensures.0)
          ∙ ap Some (sym (c.enter_handler.ensures.state ∙ ap (λ (n : ℕ). change_record s p (in_handler h.interrupted n
          h.target)) (c.in-Some-handling_of.ensures.1 ∙ number))),
      c.enter_handler.ensures.script,
    )
