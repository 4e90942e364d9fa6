use Rattle.std.proofs.Common.{◌≡◌, ◌+◌, ◌-◌, arith, ap}
use Rattle.vm_spec.specs.Image.{image_of, in_use}
use Rattle.proc_vm.specs.Kept.{Contents}
use Rattle.proc_vm.proofs.KeptLemmas.{word_back}
use Rattle.proc_vm.proofs.kept.stack_before.Goals as goal

pub returns-clause-change : goal.returns-clause-change
returns-clause-change c = λ number h.
    let own = c.args.own.now in
    let four : c.stack_in_use-used.result + 4 - c.stack_in_use-used.result ≡ 4 = omega arith in
    rw (c.copy_from_slice.ensures.after, four, c.as_slice-stack.ensures, c.stack_in_use-used.ensures)
    (ap (λ xs. let k : Contents = record { heap = own.heap; stack = xs } in k)
    (word_back own.stack (in_use (image_of own)) number h))
