use Rattle.std.proofs.Common.{sym, ◌∙◌, ap}
use Rattle.std.specs.Int.{w32, from_le_bytes}
use Rattle.vm_spec.specs.Image.{word_at}
use Rattle.layer_spec.specs.BreakBytes.{four_there}
use Rattle.cygheap_image.proofs.places.word.Goals as goal

pub returns : goal.returns
unfolding word_at
returns c =
    c.from_le_bytes.ensures ∙ ap (from_le_bytes w32) (sym (four_there c.args.bytes.now c.args.place c.requires))
