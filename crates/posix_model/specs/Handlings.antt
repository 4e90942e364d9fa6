-- Handlers that begin.
use Rattle.std.specs.Prelude.{ℕ, Bool, ◌&&◌, if◌then◌else◌, Option, Some, None}
use Rattle.w32_base.specs.declared.event.Delivery.{Delivery}
use Rattle.w32_base.specs.declared.instr.Action.{Action}
use Rattle.w32_base.specs.declared.instr.Action.TheVariants as action
use Rattle.script_spec.specs.declared.script.Script.{Script}
use Rattle.vm_spec.specs.Frames.{has_frame_room}
use Rattle.posix_spec.specs.Pending.{action_of}
use Rattle.posix_spec.specs.SignalActs.{is_interrupted, is_delivery}
use Rattle.posix_spec.specs.State.{Record}

-- whether a handler by this action interrupts a call, and its place, where its frame has room and it begins like this
abbrev pub handling_by : Script → Record → Delivery → Action → Option (Bool × ℕ)
handling_by script r how action.Default = None
handling_by script r how action.Ignore = None
handling_by script r how (action.Handler target restart) =
    if has_frame_room r.image && is_delivery (is_interrupted script r restart) how
    then Some (is_interrupted script r restart, target)
    else None

abbrev pub handling_of : Script → Record → Delivery → ℕ → Option (Bool × ℕ)
handling_of script r how signal = handling_by script r how (action_of r signal)
