use Rattle.std.proofs.Common.{◌≡◌, ◌≤◌, count_by, is_some, take}
use Rattle.w32_handles.proofs.handles.Handles.len.Given as goal

abbrev pub invariant-loop-place : goal.invariant-loop-place
invariant-loop-place l = (l.count ≤ l.place-index)
    × (l.count ≡ count_by is_some (take l.place-index l.place-items))
