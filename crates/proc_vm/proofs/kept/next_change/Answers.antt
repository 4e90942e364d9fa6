use Rattle.std.proofs.Common.{◌≡◌, sym, ap, ◌∙◌, Some, None, false}
use Rattle.std.proofs.lemmas.Bool.{true≢false}
use Rattle.std.specs.Prelude.{slice_get}
use Rattle.vm_spec.specs.Image.{image_of, place_of}
use Rattle.vm_spec.specs.Faults.{faults_at, instr_faults}
use Rattle.vm_spec.specs.StepLaws.{next_local}
use Rattle.vm_spec.specs.Step.{local_step}
use Rattle.proc_vm.proofs.kept.next_change.Goals as goal

pub returns-in-Some-clause-change : goal.returns-in-Some-clause-change
unfolding local_step
returns-in-Some-clause-change c = λ local.
    let code = c.args.p.now.code in
    let image = image_of c.args.own.now in
    let found = next_local code image local in
    let at : slice_get code (place_of image) ≡ Some c.in-Some.instr =
    ap (slice_get code) (sym c.next_place.ensures) ∙ sym c.get.ensures ∙ c.in-Some.is
    in
    let fits : instr_faults c.in-Some.instr image ≡ false = ap (λ o. faults_at o image) (sym at ∙ found.1.at) ∙
    found.1.carried_out in
    rw at (c.place_before.ensures.change fits)

pub returns-in-None-clause-change : goal.returns-in-None-clause-change
returns-in-None-clause-change c = λ local.
    let code = c.args.p.now.code in
    let image = image_of c.args.own.now in
    let found = next_local code image local in
    let at : slice_get code (place_of image) ≡ None =
    ap (slice_get code) (sym c.next_place.ensures) ∙ sym c.get.ensures ∙ c.in-None.is
    in
    absurd (true≢false (ap (λ o. faults_at o image) (sym at ∙ found.1.at) ∙ found.1.carried_out))
