use Rattle.std.proofs.Common.{◌∙◌, ap, length}
use Rattle.cygheap_image.proofs.Seams.{without_four-rotated, length-without_four}
use Rattle.cygheap_image.proofs.places.take_out.Goals as goal

pub returns-clause-value : goal.returns-clause-value
returns-clause-value c =
    without_four-rotated c.args.bytes.now c.put.new.bytes c.args.place _ c.requires c.put.ensures.value
    c.rotate_left.ensures.after

pub returns-clause-len : goal.returns-clause-len
returns-clause-len c =
    ap length (returns-clause-value c) ∙ length-without_four c.args.bytes.now c.args.place c.requires
