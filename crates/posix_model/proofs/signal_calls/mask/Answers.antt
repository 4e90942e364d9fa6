use Rattle.std.proofs.Common.{◌≡◌, ℕ, pos, Option, Some, None, cond, nat_eq, refl, sym, ◌∙◌, ap, eqb-true}
use Rattle.sig_sets.specs.Shown.{bits_of}
use Rattle.posix_spec.specs.State.{PosixState}
use Rattle.posix_spec.specs.Records.{change_record}
use Rattle.posix_spec.specs.Conditions.{answered}
use Rattle.posix_spec.specs.SignalCalls as spec
use Rattle.proc_vm.specs.Shown.{instr_of}
use Rattle.posix_model.specs.Machine.{script_of, state_of}
use Rattle.posix_model.specs.Shown.{record_of}
use Rattle.posix_model.proofs.CallLaws.{call_some}
use Rattle.posix_model.proofs.SignalCallLemmas.{mask_is}
use Rattle.posix_model.proofs.StepLemmas.{value_some, value_none, test_true}
use Rattle.posix_model.proofs.signal_calls.mask.Goals as goal

pub returns-in_default-mask_asked : goal.returns-in_default-mask_asked
returns-in_default-mask_asked c =
    let s = state_of c.args.m.now in
    let p = c.args.p in
    let r = record_of c.in-Some.process.now in
    let i = instr_of c.in-Some.call in
    let by : ℕ → Option PosixState = λ new. cond (nat_eq c.args.new new) (Some (answered (change_record s p
    (spec.with_mask c.args.new)) p (pos r.mask))) None in (
      call_some (spec.mask_step s p c.args.new) (script_of c.args.m.now) s p r i c.in-Some.ensures.0
          ∙ mask_is s p c.args.new r i
          ∙ value_none _ by (sym c.in_default-mask_asked.ensures),
      refl,
    )

pub returns : goal.returns
returns c =
    let s = state_of c.args.m.now in
    let p = c.args.p in
    let r = record_of c.in-Some.process.now in
    let i = instr_of c.in-Some.call in
    let new = bits_of c.in-Some-mask_asked.mask in
    let by : ℕ → Option PosixState = λ n. cond (nat_eq c.args.new n) (Some (answered (change_record s p
    (spec.with_mask c.args.new)) p (pos r.mask))) None in
    let same : c.args.new ≡ new = eqb-true c.args.new new (sym c.if-not-is_word.ensures) in (
      call_some (spec.mask_step s p c.args.new) (script_of c.args.m.now) s p r i c.in-Some.ensures.0
          ∙ mask_is s p c.args.new r i
          ∙ value_some _ by new (sym c.in-Some-mask_asked.ensures)
          ∙ test_true _ _ (sym c.if-not-is_word.ensures)
          ∙ ap Some (sym (c.answer_word.ensures.state
          ∙ ap (λ (t : PosixState). answered t p (pos c.word-old.result)) (c.change_own.ensures.state ∙ ap (λ n.
          change_record s p (spec.with_mask n)) (sym same))
          ∙ ap (λ w. answered (change_record s p (spec.with_mask c.args.new)) p (pos w)) c.word-old.ensures)),
      c.answer_word.ensures.script ∙ c.change_own.ensures.script,
    )
