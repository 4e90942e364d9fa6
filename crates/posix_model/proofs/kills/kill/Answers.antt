use Rattle.std.proofs.Common.{◌≡◌, cond, ◌&&◌, Some, None, refl, sym, ◌∙◌, ap}
use Rattle.posix_spec.specs.Numbers.{answer_result}
use Rattle.posix_spec.specs.State.{PosixState}
use Rattle.posix_spec.specs.Conditions.{answered}
use Rattle.posix_spec.specs.GroupCalls.{killing_signal}
use Rattle.posix_spec.specs.KillSteps as spec
use Rattle.proc_vm.specs.Shown.{instr_of}
use Rattle.posix_model.specs.Machine.{script_of, state_of}
use Rattle.posix_model.specs.Shown.{record_of}
use Rattle.posix_model.specs.Targets.{target_shown, is_this_kill}
use Rattle.posix_model.proofs.CallLaws.{call_some}
use Rattle.posix_model.proofs.KillLemmas.{kill_is, and_false}
use Rattle.posix_model.proofs.kills.kill.Goals as goal

pub returns-then-not-is_this_kill : goal.returns-then-not-is_this_kill
returns-then-not-is_this_kill c =
    let s = state_of c.args.m.now in
    let r = record_of c.in-Some.process.now in
    let i = instr_of c.in-Some.call in
    let step = spec.kill_step s c.args.p c.args.q c.args.signal c.args.answer in
    let has = spec.is_answer (spec.kill_answer s (killing_signal c.args.signal) (spec.target_of c.args.q))
    c.args.answer in
    let done = answered (spec.killed s (killing_signal c.args.signal) (spec.target_of c.args.q)) c.args.p
    (answer_result c.args.answer) in (
      call_some step (script_of c.args.m.now) s c.args.p r i c.in-Some.ensures.0
          ∙ kill_is s c.args.p c.args.q c.args.signal c.args.answer r i
          ∙ ap (λ b. cond (b && has) (Some done) None) (sym c.is_this_kill.ensures ∙ c.if-not-is_this_kill.true),
      refl,
    )

pub returns-then-not-is_answer : goal.returns-then-not-is_answer
returns-then-not-is_answer c =
    let s = state_of c.args.m.now in
    let r = record_of c.in-Some.process.now in
    let i = instr_of c.in-Some.call in
    let step = spec.kill_step s c.args.p c.args.q c.args.signal c.args.answer in
    let done = answered (spec.killed s (killing_signal c.args.signal) (spec.target_of c.args.q)) c.args.p
    (answer_result c.args.answer) in
    let has : c.is_answer.result ≡ spec.is_answer (spec.kill_answer s (killing_signal c.args.signal) (spec.target_of
    c.args.q)) c.args.answer =
    c.is_answer.ensures ∙ ap (λ a. spec.is_answer a c.args.answer) (c.kill_answer.ensures
    ∙ ap (λ k. spec.kill_answer s k (target_shown c.target_of-target.result)) c.killing_signal-sent.ensures
    ∙ ap (spec.kill_answer s (killing_signal c.args.signal)) c.target_of-target.ensures) in (
      call_some step (script_of c.args.m.now) s c.args.p r i c.in-Some.ensures.0
          ∙ kill_is s c.args.p c.args.q c.args.signal c.args.answer r i
          ∙ ap (λ b. cond (is_this_kill r i c.args.q c.args.signal && b) (Some done) None) (sym has ∙
          c.if-not-is_answer.true)
          ∙ ap (λ b. cond b (Some done) None) (and_false (is_this_kill r i c.args.q c.args.signal)),
      refl,
    )

pub returns : goal.returns
returns c =
    let s = state_of c.args.m.now in
    let r = record_of c.in-Some.process.now in
    let i = instr_of c.in-Some.call in
    let step = spec.kill_step s c.args.p c.args.q c.args.signal c.args.answer in
    let done = answered (spec.killed s (killing_signal c.args.signal) (spec.target_of c.args.q)) c.args.p
    (answer_result c.args.answer) in
    let has : c.is_answer.result ≡ spec.is_answer (spec.kill_answer s (killing_signal c.args.signal) (spec.target_of
    c.args.q)) c.args.answer =
    c.is_answer.ensures ∙ ap (λ a. spec.is_answer a c.args.answer) (c.kill_answer.ensures
    ∙ ap (λ k. spec.kill_answer s k (target_shown c.target_of-target.result)) c.killing_signal-sent.ensures
    ∙ ap (spec.kill_answer s (killing_signal c.args.signal)) c.target_of-target.ensures) in
    let sent : state_of c.carry_out.new.m ≡ spec.killed s (killing_signal c.args.signal) (spec.target_of c.args.q) =
    c.in_ok-carry_out.ensures.sent
    ∙ ap (λ k. spec.killed s k (target_shown c.target_of-target.result)) c.killing_signal-sent.ensures
    ∙ ap (spec.killed s (killing_signal c.args.signal)) c.target_of-target.ensures in (
      call_some step (script_of c.args.m.now) s c.args.p r i c.in-Some.ensures.0
          ∙ kill_is s c.args.p c.args.q c.args.signal c.args.answer r i
          ∙ ap (λ b. cond (b && spec.is_answer (spec.kill_answer s (killing_signal c.args.signal) (spec.target_of
          c.args.q)) c.args.answer) (Some done) None) (sym c.is_this_kill.ensures ∙ c.if-not-is_this_kill.false)
          ∙ ap (λ b. cond b (Some done) None) (sym has ∙ c.if-not-is_answer.false)
          ∙ ap Some (sym (c.conclude.ensures.state ∙ ap (λ (t : PosixState). answered t c.args.p (answer_result
          c.args.answer)) sent)),
      c.conclude.ensures.script ∙ c.in_ok-carry_out.ensures.script,
    )
