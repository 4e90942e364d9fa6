-- What the calls on a process's mask and actions ask for.
use Rattle.std.specs.Prelude.{ℕ, ◌&&◌, if◌then◌else◌, Option, Some, None}
use Rattle.w32_base.specs.declared.event.NewAction.{NewAction}
use Rattle.w32_base.specs.declared.instr.Action.{Action}
use Rattle.w32_base.specs.declared.instr.Instr.{Instr}
use Rattle.w32_base.specs.declared.instr.Instr.TheVariants as instr
use Rattle.vm_spec.specs.Image.{value_of}
use Rattle.posix_spec.specs.Numbers.{is_number}
use Rattle.posix_spec.specs.State.{Record}
use Rattle.posix_spec.specs.Checks.{is_allowed}
use Rattle.posix_spec.specs.SignalCalls.{named_mask, mask_after, is_new_action, action_check}

-- the mask that a `mask` asks for
abbrev pub mask_asked : Record → Instr → Option ℕ
mask_asked r (instr.Mask how v) = Some (mask_after how r.mask (named_mask (value_of r.image v)))
mask_asked r _ = None

-- the mask that a `suspend` asks for
abbrev pub suspend_asked : Record → Instr → Option ℕ
suspend_asked r (instr.Suspend v) = Some (named_mask (value_of r.image v))
suspend_asked r _ = None

-- the signal and the action that an `action` sets, where they are these and the call isn't refused
abbrev pub action_asked : Record → Instr → ℕ → NewAction → Option (ℕ × Action)
action_asked r (instr.Action v a) signal n =
    if is_number (value_of r.image v) signal && (is_new_action n a && is_allowed (action_check (value_of r.image v) a))
    then Some (signal, a)
    else None
action_asked r _ signal n = None
