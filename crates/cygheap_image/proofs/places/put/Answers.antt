use Rattle.std.proofs.Common.{◌≡◌, ◌+◌, ◌-◌, ◌∙◌, ap, length, arith}
use Rattle.cygheap_image.proofs.Seams.{with_piece-part, length-with_piece}
use Rattle.cygheap_image.proofs.places.put.Goals as goal

pub returns-clause-value : goal.returns-clause-value
returns-clause-value c =
    with_piece-part c.args.bytes.now c.args.place _ c.args.piece.now _ (omega arith) c.copy_from_slice.ensures.after

pub returns-clause-len : goal.returns-clause-len
returns-clause-len c =
    ap length (returns-clause-value c) ∙ length-with_piece c.args.bytes.now c.args.place c.args.piece.now c.requires
