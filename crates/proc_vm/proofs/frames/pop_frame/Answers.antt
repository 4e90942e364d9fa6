use Rattle.std.proofs.Common.{◌≡◌, ◌+◌, ◌-◌, ◌≤◌, length, take, drop, refl, arith, length-drop}
use Rattle.std.proofs.lemmas.List.{length-take-le}
use Rattle.vm_spec.specs.Frames.{data_from_frame}
use Rattle.proc_vm.proofs.frames.pop_frame.Goals as goal

pub returns-clause-popped : goal.returns-clause-popped
unfolding data_from_frame
returns-clause-popped c =
    let start = c.stack_in_use-used.result - 40 in
    let used : 40 ≤ c.stack_in_use-used.result = c.if-used-lt-FRAME_BYTES.false in
    let within = c.requires.used in
    let is = c.stack_in_use-used.ensures in
    let some : start + 36 - start ≡ 36 = omega arith in
    let long : length (take 36 (drop start c.args.own.now.stack)) ≡ 36 =
    length-take-le 36 (drop start c.args.own.now.stack) (omega (arith, length-drop start c.args.own.now.stack)) in
    rw (c.set_in_use.ensures.value, c.copy_in.ensures, c.as_slice.ensures, some, long, c.stack_in_use-used.ensures) refl
