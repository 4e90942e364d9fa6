use Rattle.std.proofs.Common.{sym, ◌∙◌, ap}
use Rattle.std.specs.Int.{w16, from_le_bytes}
use Rattle.layer_spec.specs.HeapReads.{half_at}
use Rattle.layer_spec.specs.BreakBytes.{two_there}
use Rattle.child_watch.proofs.children.half.Goals as goal

pub returns : goal.returns
unfolding half_at
returns c =
    c.from_le_bytes.ensures ∙ ap (from_le_bytes w16) (sym (two_there c.args.bytes.now c.args.place c.requires))
