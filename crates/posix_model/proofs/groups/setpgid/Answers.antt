use Rattle.std.proofs.Common.{ℕ, pos, Some, refl, sym, ◌∙◌, ap, true≢false}
use Rattle.posix_spec.specs.State.{PosixState}
use Rattle.posix_model.specs.Machine.{script_of, state_of}
use Rattle.posix_model.specs.Shown.{record_of}
use Rattle.proc_vm.specs.Shown.{instr_of}
use Rattle.posix_model.proofs.CallLaws.{call_some}
use Rattle.posix_model.proofs.StepLemmas.{test_true, test_false}
use Rattle.posix_spec.specs.Conditions.{answered}
use Rattle.posix_spec.specs.GroupSteps.{in_group, setpgid_step}
use Rattle.posix_spec.specs.Records.{change_record}
use Rattle.posix_model.proofs.LeadLemmas.{setpgid_step-is, may_join}
use Rattle.posix_model.proofs.groups.setpgid.Goals as goal

pub returns-then-not-moves : goal.returns-then-not-moves
returns-then-not-moves c =
    let s = state_of c.args.m.now in
    let p = c.args.p in
    let r = record_of c.in-Some.process.now in
    let i = instr_of c.in-Some.call in (
      call_some (setpgid_step s p c.args.q c.args.g) (script_of c.args.m.now) s p r i c.in-Some.ensures.0
          ∙ setpgid_step-is s p c.args.q c.args.g r i
          ∙ test_false _ _ (sym c.if-not-moves.ensures),
      refl,
    )

pub returns-in_default-joined : goal.returns-in_default-joined
returns-in_default-joined c =
    let s = state_of c.args.m.now in
    let p = c.args.p in
    let r = record_of c.in-Some.process.now in
    let i = instr_of c.in-Some.call in
    absurd (true≢false (sym (may_join s p c.args.q c.args.g r i (sym c.if-not-moves.ensures)) ∙
    c.in_default-joined.ensures))

pub returns : goal.returns
returns c =
    let s = state_of c.args.m.now in
    let p = c.args.p in
    let r = record_of c.in-Some.process.now in
    let i = instr_of c.in-Some.call in (
      call_some (setpgid_step s p c.args.q c.args.g) (script_of c.args.m.now) s p r i c.in-Some.ensures.0
          ∙ setpgid_step-is s p c.args.q c.args.g r i
          ∙ test_true _ _ (sym c.if-not-moves.ensures)
          ∙ ap (λ (k : ℕ). Some (answered (change_record s c.args.q (in_group k)) p (pos 0))) (sym
          c.in-Some-joined.ensures)
          ∙ ap (λ (x : PosixState). Some (answered x p (pos 0))) (sym c.change.ensures.state)
          ∙ ap Some (sym c.answer_with.ensures.state),
      c.answer_with.ensures.script ∙ c.change.ensures.script,
    )
