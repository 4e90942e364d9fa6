use Rattle.std.proofs.Common.{◌≡◌, ◌≢◌, refl, sym, ap, ◌∙◌}
use Rattle.vm_spec.specs.Block.{block_image}
use Rattle.vm_spec.specs.BlockLaws.{block_length-zero}
use Rattle.vm_spec.specs.Image.{Image, image_of, with_image}
use Rattle.vm_spec.specs.Step.{LocalInstruction, block_of}
use Rattle.w32_base.specs.declared.instr.Instr.{Instr}
use Rattle.std.proofs.Common.{List}
use Rattle.proc_vm.specs.Shown.{shown}
use Rattle.proc_vm.specs.declared.next.Next.{Next}
use Rattle.proc_vm.specs.declared.next.Next.TheVariants as next
use Rattle.vm_spec.specs.Block.{block_length}
use Rattle.w32_machine.proofs.machine.local.run_next.Goals as goal

other-next : (n : Next) → (n ≡ next.Local → ⊥) → shown n ≢ LocalInstruction
other-next next.Local d e = d refl
other-next (next.Call call) d e = cc
other-next next.Fault d e = cc

no-block : (code : List Instr) (image : Image) → block_length code image ≡ 0 → block_image code image ≡ image
unfolding block_image block_of
no-block code image e = ap (λ n. block_of n code image) e

pub returns-in_default : goal.returns-in_default
returns-in_default c =
    let none = block_length-zero c.args.program.now.code (image_of c.args.own.now)
    (λ e. other-next c.next_instr.result c.in_default.not-Local (c.next_instr.ensures ∙ e)) in
    record {
      length = sym none;
      image = ap (with_image c.args.own.now) (sym (no-block c.args.program.now.code (image_of c.args.own.now) none));
      sizes = record { dat = refl; heap = refl; stack = refl; cyg = refl; scratch = refl };
    }
