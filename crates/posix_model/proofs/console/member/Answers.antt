use Rattle.std.proofs.Common.{◌≡◌, ℕ, Option, Some, refl, sym, ◌∙◌, ap, option_map}
use Rattle.std.specs.FinSet as set
use Rattle.posix_spec.specs.ConsoleSteps.{with_console, console_member_by}
use Rattle.posix_spec.specs.GroupCalls.{with_step}
use Rattle.posix_spec.specs.Sending.{sent}
use Rattle.posix_spec.specs.State as spec
use Rattle.posix_spec.specs.State.{PosixState}
use Rattle.posix_model.specs.declared.process.GroupCall.{GroupCall}
use Rattle.posix_model.specs.Machine.{state_of}
use Rattle.posix_model.specs.MarkedNumbers.{numbers_of}
use Rattle.posix_model.specs.Shown.{group_call_of}
use Rattle.posix_model.proofs.ConsoleLemmas.{sent_console, stepped}
use Rattle.posix_model.proofs.StepLemmas.{value_some, test_true, test_false}
use Rattle.posix_model.proofs.console.member.Goals as goal

pub returns-in_default-next_member : goal.returns-in_default-next_member
returns-in_default-next_member c =
    let s = state_of c.args.m.now in
    let seen = numbers_of c.args.m.now.console_marks in (
      value_some _ (console_member_by s c.args.q c.args.signal) (group_call_of c.in-Some.call seen)
          (ap (option_map (λ (x : GroupCall). group_call_of x seen)) c.in-Some.is)
          ∙ test_false _ _ c.in_default-next_member.ensures,
      refl,
    )

pub returns : goal.returns
returns c =
    let s = state_of c.args.m.now in
    let q = c.args.q in
    let seen = numbers_of c.args.m.now.console_marks in
    let call : spec.GroupCall = group_call_of c.in-Some.call seen in
    let here : s.console ≡ Some call = ap (option_map (λ (x : GroupCall). group_call_of x seen)) c.in-Some.is in
    let before = numbers_of c.send.new.self.console_marks in (
      value_some _ (console_member_by s q c.args.signal) call here
          ∙ test_true _ _ c.in-Some-next_member.ensures.0
          ∙ ap (λ (t : ℕ). Some (with_console (sent s q t) (Some (with_step call q)))) c.in-Some-next_member.ensures.2
          ∙ ap (λ (x : PosixState). Some (with_console x (Some (with_step call q)))) (sym c.in_ok-send.ensures.sent)
          ∙ ap (λ (k : Option spec.GroupCall). Some (with_console (state_of c.send.new.self) k))
          (sym (stepped c.send.new.self.console before (numbers_of c.insert.new.self) call q
          (ap (λ (x : PosixState). x.console) c.in_ok-send.ensures.sent ∙ sent_console s q c.in-Some.call.signal ∙ here)
          (c.insert.ensures ∙ ap (set.insert before) c.in-Some-next_member.ensures.1))),
      c.in_ok-send.ensures.script,
    )
