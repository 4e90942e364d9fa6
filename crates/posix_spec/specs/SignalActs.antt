-- How signals act on a process (POSIX.1-2017, XSH 2.4.3 and 2.4.4).
use Rattle.std.specs.Prelude.{ℕ, ◌-◌, Bool, true, false, ◌&&◌, not, nat_eq, nat_lt, if◌then◌else◌, Option, Some, None}
use Rattle.std.specs.Prelude.{bit_or}
use Rattle.std.specs.Option.{unwrap_or}
use Rattle.w32_base.specs.declared.event.Delivery.{Delivery}
use Rattle.w32_base.specs.declared.event.Delivery.TheVariants.{Plain, Interrupting}
use Rattle.w32_base.specs.declared.event.Errno.TheVariants as errno
use Rattle.w32_base.specs.declared.instr.Action.{Action}
use Rattle.w32_base.specs.declared.instr.Action.TheVariants as action
use Rattle.w32_base.specs.declared.instr.Instr.TheVariants as instr
use Rattle.script_spec.specs.declared.script.Script.{Script}
use Rattle.vm_spec.specs.Image.{Image, with_result}
use Rattle.vm_spec.specs.Step.{Upcoming, CallInstruction}
use Rattle.vm_spec.specs.Frames.{has_frame_room, with_frame}
use Rattle.posix_spec.specs.Numbers.{error_result}
use Rattle.posix_spec.specs.Signals.{only, child_signal}
use Rattle.posix_spec.specs.State.{Stopped, Record, PosixState}
use Rattle.posix_spec.specs.Pending.{is_running, deliverable, action_of, stops, ignores, without_signal}
use Rattle.posix_spec.specs.Records.{change_record}
use Rattle.posix_spec.specs.Conditions.{next_of, is_group_call, call_goes_on, call_ended}
use Rattle.posix_spec.specs.Sending.{generated, owed_more}

abbrev pub is_this : ℕ → Option ℕ → Bool
is_this signal None = false
is_this signal (Some s) = nat_eq signal s

-- whether this signal is the deliverable one of a process that runs
abbrev pub is_deliverable : Record → ℕ → Bool
is_deliverable r signal = is_running r.life && is_this signal (deliverable r)

-- deliver P S plain, deliver P S eintr: a handler begins

-- the calls that begin again after a handler with `restart`
abbrev pub is_restartable : Upcoming → Bool
is_restartable (CallInstruction (instr.Wait selector flags)) = true
is_restartable (CallInstruction (instr.Read address count)) = true
is_restartable _ = false

-- whether the handler interrupts a blocked call
abbrev pub is_interrupted : Script → Record → Bool → Bool
is_interrupted script r restart = r.blocked && not (restart && is_restartable (next_of script r))

abbrev pub is_delivery : Bool → Delivery → Bool
is_delivery interrupted Plain = not interrupted
is_delivery interrupted Interrupting = interrupted

-- an interrupted call first has its result, and the next instruction is the following one
abbrev pub interrupted_image : Bool → Image → Image
interrupted_image interrupted image = if interrupted then with_result image (error_result errno.EINTR) None else image

-- the mask to come back: in a suspend the one from before it
abbrev pub mask_to_return : Record → ℕ
mask_to_return r = unwrap_or r.saved r.mask

-- The process in its handler: a frame is pushed, the signal isn't pending and is in the mask, and a suspend has ended.
abbrev pub in_handler : Bool → ℕ → ℕ → Record → Record
in_handler interrupted signal target r = call_ended (record (without_signal r signal) {
  image = with_frame (interrupted_image interrupted r.image) (mask_to_return r) target;
  mask = bit_or r.mask (only signal);
  saved = None;
})

abbrev pub deliver_by : Script → PosixState → ℕ → ℕ → Delivery → Record → Action → Option PosixState
deliver_by script s p signal how r action.Default = None
deliver_by script s p signal how r action.Ignore = None
deliver_by script s p signal how r (action.Handler target restart) =
    if has_frame_room r.image && is_delivery (is_interrupted script r restart) how
    then Some (change_record s p (in_handler (is_interrupted script r restart) signal target))
    else None

abbrev pub deliver_step : Script → PosixState → ℕ → Delivery → ℕ → Record → Option PosixState
deliver_step script s p how signal r =
    if is_deliverable r signal && not (is_group_call r.call)
    then deliver_by script s p signal how r (action_of r signal)
    else None

-- discard P S: S is ignored, or is CONT with its default. It is no own event: it may stand inside any call.

abbrev pub discarded : ℕ → Record → Record
discarded signal r = without_signal r signal

abbrev pub discard_step : PosixState → ℕ → ℕ → Record → Option PosixState
discard_step s p signal r =
    if is_deliverable r signal && ignores r signal then Some (change_record s p (discarded signal)) else None

-- stop P S: S stops P, whose call goes on once it is continued; its parent is owed a CHLD

abbrev pub stopped : ℕ → Record → Record
stopped signal r = call_goes_on (record (without_signal r signal) { life = Stopped signal; report = 1 })

abbrev pub stop_step : PosixState → ℕ → ℕ → Record → Option PosixState
stop_step s p signal r =
    if is_deliverable r signal && (not (is_group_call r.call) && stops r signal)
    then Some (change_record (change_record s p (stopped signal)) r.parent owed_more)
    else None

-- notify P: CHLD is generated for P, which is owed one. It is no own event.

abbrev pub notified : Record → Record
notified r = generated child_signal (record r { owed = r.owed - 1 })

abbrev pub notify_step : PosixState → ℕ → Record → Option PosixState
notify_step s p r = if nat_lt 0 r.owed then Some (change_record s p notified) else None
