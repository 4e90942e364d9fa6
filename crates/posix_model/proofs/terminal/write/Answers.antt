use Rattle.std.proofs.Common.{ℕ, ℤ, List, pos, Some, refl, sym, ◌∙◌, ap}
use Rattle.posix_model.specs.Machine.{script_of, state_of}
use Rattle.posix_model.specs.Shown.{record_of}
use Rattle.proc_vm.specs.Shown.{instr_of}
use Rattle.posix_model.proofs.CallLaws.{call_some}
use Rattle.posix_model.proofs.StepLemmas.{test_true, test_false}
use Rattle.posix_spec.specs.Conditions.{answered}
use Rattle.posix_spec.specs.TerminalSteps.{with_output, write_step}
use Rattle.posix_model.specs.Terminals.{writes}
use Rattle.posix_model.proofs.TerminalLemmas.{write_step-is}
use Rattle.posix_model.proofs.terminal.write.Goals as goal

pub returns-in_default-written : goal.returns-in_default-written
returns-in_default-written c =
    let s = state_of c.args.m.now in
    let p = c.args.p in
    let r = record_of c.in-Some.process.now in
    let i = instr_of c.in-Some.call in (
      call_some (write_step s p c.args.n c.args.bytes) (script_of c.args.m.now) s p r i c.in-Some.ensures.0
          ∙ write_step-is s p c.args.n c.args.bytes r i
          ∙ test_false _ _ (ap (λ (b : List ℕ). writes s c.args.n b r i) (sym c.as_slice.ensures) ∙
          c.in_default-written.ensures),
      refl,
    )

pub returns : goal.returns
returns c =
    let s = state_of c.args.m.now in
    let p = c.args.p in
    let r = record_of c.in-Some.process.now in
    let i = instr_of c.in-Some.call in
    let count = c.in-Some-written.count in (
      call_some (write_step s p c.args.n c.args.bytes) (script_of c.args.m.now) s p r i c.in-Some.ensures.0
          ∙ write_step-is s p c.args.n c.args.bytes r i
          ∙ test_true _ _ (ap (λ (b : List ℕ). writes s c.args.n b r i) (sym c.as_slice.ensures) ∙
          c.in-Some-written.ensures.0)
          ∙ ap (λ (z : ℤ). Some (answered (with_output s c.args.bytes) p z)) c.in-Some-written.ensures.1
          ∙ ap (λ (b : List ℕ). Some (answered (with_output s b) p (pos count))) (sym c.as_slice-2.ensures)
          ∙ ap (λ (o : List ℕ). Some (answered (record s { output = o }) p (pos count))) (sym
          c.in_ok-extend_from_slice.ensures.items)
          ∙ ap (λ (k : ℕ). Some (answered (record s { output = c.extend_from_slice.new.self.items }) p (pos k))) (sym
          c.from.ensures)
          ∙ ap Some (sym c.answer_with.ensures.state),
      c.answer_with.ensures.script,
    )
