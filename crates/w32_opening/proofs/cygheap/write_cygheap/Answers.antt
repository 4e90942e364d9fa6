use Rattle.std.proofs.Common.{◌∙◌, refl}
use Rattle.w32_opening.proofs.FirstCygheap.{cygheap-written}
use Rattle.w32_opening.proofs.cygheap.write_cygheap.Goals as goal

pub returns : goal.returns
returns c =
    cygheap-written c.args.placed.now c.args.cyg.now c.set.new.self c.as_slice.result.now c.copy_in.new.self 287 139
    c.requires c.set.ensures refl refl (c.as_slice.ensures.value ∙ c.base_bytes-bases.ensures.value) c.copy_in.ensures
