use Rattle.std.proofs.Common.{refl}
use Rattle.vm_spec.specs.Frames.{stack_with_frame}
use Rattle.vm_spec.specs.FrameLaws.{length-frame_bytes}
use Rattle.proc_vm.proofs.frames.push_frame.Goals as goal

pub returns-clause-pushed : goal.returns-clause-pushed
unfolding stack_with_frame
returns-clause-pushed c =
    rw (
      c.set_in_use.ensures.value,
      c.go_to.ensures.value,
      c.copy_in.ensures,
      c.from.ensures,
      c.frame-bytes.ensures,
      length-frame_bytes c.args.own.now.dat c.args.mask c.requires.size,
      c.stack_in_use-used.ensures,
    )
    refl
