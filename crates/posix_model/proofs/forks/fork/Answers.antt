use Rattle.std.proofs.Common.{◌≡◌, ℕ, pos, Some, refl, sym, ◌∙◌, ap}
use Rattle.posix_spec.specs.Conditions.{answered}
use Rattle.posix_spec.specs.ForkSteps.{child_of, with_used, fork_step}
use Rattle.posix_spec.specs.Records.{with_record}
use Rattle.posix_spec.specs.State.{Record, PosixState}
use Rattle.posix_model.specs.Machine.{script_of, state_of}
use Rattle.posix_model.specs.Shown.{record_of}
use Rattle.posix_model.specs.declared.process.Process.{Process}
use Rattle.proc_vm.specs.Shown.{instr_of}
use Rattle.posix_model.proofs.CallLaws.{call_some}
use Rattle.posix_model.proofs.StepLemmas.{test_true, test_false}
use Rattle.posix_model.proofs.ForkLemmas.{fork_step-is}
use Rattle.posix_model.proofs.forks.fork.Goals as goal

pub returns-in_default-forks : goal.returns-in_default-forks
returns-in_default-forks c =
    let s = state_of c.args.m.now in
    let script = script_of c.args.m.now in
    let p = c.args.p in
    let r = record_of c.in-Some.process.now in
    let i = instr_of c.in-Some.call in (
      call_some (fork_step script s p c.args.c) script s p r i c.in-Some.ensures.0
          ∙ fork_step-is script s p c.args.c r i
          ∙ test_false _ _ c.in_default-forks.ensures,
      refl,
    )

pub returns : goal.returns
returns c =
    let s = state_of c.args.m.now in
    let script = script_of c.args.m.now in
    let p = c.args.p in
    let r = record_of c.in-Some.process.now in
    let i = instr_of c.in-Some.call in
    let number = c.in-Some-forks.number in
    let child : record_of c.in_ok-child-2.child.value ≡ child_of p r =
    ap (λ (x : Process). record_of x) c.in_ok-child-2.ensures.ok ∙ c.in_ok-child.ensures in
    let added : PosixState → PosixState = λ t. answered t p (pos c.args.c) in (
      call_some (fork_step script s p c.args.c) script s p r i c.in-Some.ensures.0
          ∙ fork_step-is script s p c.args.c r i
          ∙ test_true _ _ c.in-Some-forks.ensures.0
          ∙ ap (λ (x : Record). Some (added (with_used (with_record s c.args.c x) c.args.c))) (sym child)
          ∙ ap (λ (n : ℕ). Some (answered (with_used (with_record s n (record_of c.in_ok-child-2.child.value)) n) p
          (pos n))) (sym c.in-Some-forks.ensures.1)
          ∙ ap (λ (t : PosixState). Some (answered t p (pos number))) (sym c.add.ensures.state)
          ∙ ap (λ (n : ℕ). Some (answered (state_of c.add.new.self) p (pos n))) (sym c.get.ensures.value)
          ∙ ap Some (sym c.answer_with.ensures.state),
      c.answer_with.ensures.script ∙ c.add.ensures.script,
    )
