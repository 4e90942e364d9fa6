use Rattle.std.proofs.Common.{◌≡◌, ℕ, ◌*◌, ◌<◌, false}
use Rattle.w32_handles.specs.Shown.{object_shown}
use Rattle.w32_handles.specs.Table.{object_at}
use Rattle.w32_machine.specs.Handing.{is_its_object}
use Rattle.w32_kinds.specs.Shown.{shown}
use Rattle.w32_machine.proofs.machine.finding.object_of.Given as goal

abbrev pub invariant-loop-place : goal.invariant-loop-place
invariant-loop-place l =
    (k : ℕ) → k < l.place → is_its_object (object_shown shown (object_at l.objects (2 * k))) l.w ≡ false
