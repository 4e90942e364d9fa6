use Rattle.std.proofs.Common.{◌≡◌, ◌+◌, false, length, ap}
use Rattle.std.proofs.lemmas.Bool.{ltb-false}
use Rattle.std.specs.Int.{w32, cast_unsigned}
use Rattle.w32_base.specs.declared.instr.Instr.TheVariants as instr
use Rattle.vm_spec.specs.Image.{image_of, in_use, value_of}
use Rattle.vm_spec.specs.Faults.{instr_faults}
use Rattle.vm_spec.specs.Step.{low_byte}
use Rattle.proc_vm.specs.Kept.{Contents}
use Rattle.proc_vm.proofs.KeptLemmas.{byte_back}
use Rattle.proc_vm.proofs.kept.place_before.Goals as goal

pub returns-in_ok-place-in-Store-clause-change : goal.returns-in_ok-place-in-Store-clause-change
returns-in_ok-place-in-Store-clause-change c = λ f.
    let heap = c.args.own.now.heap in
    let byte = low_byte (value_of (image_of c.args.own.now) c.in-Store.field-1) in
    rw (c.in-Store.is, c.in_ok-place-in-Store.ensures.0, c.as_slice.ensures)
    (ap (λ xs. let k : Contents = record { heap = xs; stack = c.args.own.now.stack } in k)
    (byte_back heap c.in_ok-place-in-Store.place byte))

pub returns-in-Push-clause-change : goal.returns-in-Push-clause-change
returns-in-Push-clause-change c = λ f.
    let fits : instr_faults (instr.Push c.in-Push.field-0) (image_of c.args.own.now) ≡ false = rw c.in-Push.is at f in
    rw c.in-Push.is
    (c.stack_before.ensures.change (cast_unsigned w32 (value_of (image_of c.args.own.now) c.in-Push.field-0))
    (ltb-false (length c.args.own.now.stack) (in_use (image_of c.args.own.now) + 4) fits))
