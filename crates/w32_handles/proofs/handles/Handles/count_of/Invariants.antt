use Rattle.std.proofs.Common.{◌≡◌, ◌≤◌, count_by, take}
use Rattle.w32_handles.proofs.PlaceLemmas.{names_it}
use Rattle.w32_handles.proofs.handles.Handles.count_of.Given as goal

abbrev pub invariant-loop-place : goal.invariant-loop-place
invariant-loop-place l = (l.count ≤ l.place-index)
    × (l.count ≡ count_by (names_it l.o) (take l.place-index l.place-items))
