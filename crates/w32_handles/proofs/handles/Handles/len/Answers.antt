use Rattle.std.proofs.Common.{◌≡◌, arith, take}
use Rattle.std.proofs.lemmas.List.{take_all}
use Rattle.w32_handles.proofs.TableLemmas.{length-handles_from}
use Rattle.w32_handles.proofs.handles.Handles.len.Goals as goal

pub returns : goal.returns
returns c =
    let places = c.self.inside.places in
    let whole : take c.loop-place.place-index places ≡ places = take_all _ _ (omega arith) in
    rw (← c.self.view_is, length-handles_from) (rw whole at c.loop-place.invariant.1)
