use Rattle.std.proofs.Common.{◌≡◌, ℕ, true, Some, refl, sym, ◌∙◌, ap}
use Rattle.std.proofs.lemmas.Option.{same_Some}
use Rattle.std.specs.FinSet as set
use Rattle.posix_spec.specs.GroupCalls.{with_step, is_next_member}
use Rattle.posix_spec.specs.KillSteps as spec
use Rattle.posix_spec.specs.Records.{change_record}
use Rattle.posix_spec.specs.Sending.{sent}
use Rattle.posix_spec.specs.State.{CallInProgress, GroupCall, Record, PosixState, record_of as record_at}
use Rattle.proc_vm.specs.Shown.{instr_of}
use Rattle.posix_model.specs.Changes.{call_or, with_member}
use Rattle.posix_model.specs.Machine.{script_of, state_of}
use Rattle.posix_model.specs.Shown.{record_of, group_call_of}
use Rattle.posix_model.specs.Underways.{underway_call}
use Rattle.posix_model.proofs.CallLaws.{group_call_some}
use Rattle.posix_model.proofs.ChangeLaws.{same_change}
use Rattle.posix_model.proofs.KillLemmas.{member_call_is, next_signal}
use Rattle.posix_model.proofs.SendLemmas.{call-sent}
use Rattle.posix_model.proofs.StepLemmas.{value_some, value_none, test_true}
use Rattle.posix_model.proofs.kills.member.Goals as goal

pub returns-in_default-member_call : goal.returns-in_default-member_call
returns-in_default-member_call c =
    let s = state_of c.args.m.now in
    let p = c.args.p in
    let r = record_of c.in-Some.process.now in
    let i = instr_of c.in-Some.call in (
      group_call_some (spec.member_step s p c.args.q c.args.signal) (script_of c.args.m.now) s p r i c.in-Some.ensures.0
          ∙ value_none _ (spec.member_by s p c.args.q c.args.signal) (sym c.in_default-member_call.ensures),
      refl,
    )

pub returns : goal.returns
returns c =
    let s = state_of c.args.m.now in
    let t = state_of c.send.new.self in
    let p = c.args.p in
    let q = c.args.q in
    let signal = c.args.signal in
    let r = record_of c.in-Some.process.now in
    let i = instr_of c.in-Some.call in
    let call = underway_call c.in-Some-member_call.underway in
    let begins = group_call_of c.in-Some-member_call.underway.call set.empty in
    let number = c.in-Some-next_member.number in
    let next : is_next_member s call q signal ≡ true = sym c.in-Some-next_member.ensures.next in
    let fits : call_or r.call begins ≡ call = member_call_is r i call (sym c.in-Some-member_call.ensures) in
    let was_sent : t ≡ sent s q signal = c.in_ok-send.ensures.sent ∙ ap (sent s q) (sym (next_signal s call q signal
    next)) in
    let pointwise : (x : Record) → record_at t p ≡ Some x → with_member begins number x ≡ spec.in_call_for (with_step
    call q) x = λ x there.
    let kept = call-sent signal p x s q (ap (λ (y : PosixState). record_at y p) (sym was_sent) ∙ there) in
    let same : kept.0 ≡ r = same_Some kept.0 r (sym kept.1 ∙ c.in-Some.ensures.1) in
    ap (λ (w : CallInProgress). spec.in_call_for (with_step (call_or w begins) number) x) (kept.2 ∙ ap (λ (y :
    Record). y.call) same)
    ∙ ap (λ (w : GroupCall). spec.in_call_for (with_step w number) x) fits
    ∙ ap (λ (n : ℕ). spec.in_call_for (with_step call n) x) c.in-Some-next_member.ensures.number in (
      group_call_some (spec.member_step s p q signal) (script_of c.args.m.now) s p r i c.in-Some.ensures.0
          ∙ value_some _ (spec.member_by s p q signal) call (sym c.in-Some-member_call.ensures)
          ∙ test_true _ _ next
          ∙ ap Some (sym (c.change_own.ensures.state
          ∙ same_change t p (with_member begins number) (spec.in_call_for (with_step call q)) pointwise
          ∙ ap (λ (y : PosixState). change_record y p (spec.in_call_for (with_step call q))) was_sent)),
      c.change_own.ensures.script ∙ c.in_ok-send.ensures.script,
    )
