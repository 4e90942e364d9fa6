-- Which signals may act on a process, and what they do (POSIX.1-2017, XSH 2.4).
use Rattle.std.specs.Prelude.{ℕ, ◌-◌, Bool, true, false, ◌&&◌, List, Option, is_some, slice_get, slice_set, bit_and}
use Rattle.std.specs.Prelude.{bit_or}
use Rattle.std.specs.Option.{unwrap_or}
use Rattle.std.specs.List.{list_any}
use Rattle.w32_base.specs.declared.instr.Action.{Action}
use Rattle.w32_base.specs.declared.instr.Action.TheVariants as action
use Rattle.posix_spec.specs.Signals.{ByDefault, End, Ignore, StopByDefault, Continue, only, contains, outside, least}
use Rattle.posix_spec.specs.Signals.{signals, kill_signal, default_of}
use Rattle.posix_spec.specs.State.{Life, Running, Stopped, Zombie, Record}

abbrev pub is_running : Life → Bool
is_running Running = true
is_running (Stopped s) = false
is_running (Zombie v) = false

abbrev pub is_stopped : Life → Bool
is_stopped Running = false
is_stopped (Stopped s) = true
is_stopped (Zombie v) = false

-- a live process runs or is stopped
abbrev pub is_live : Life → Bool
is_live Running = true
is_live (Stopped s) = true
is_live (Zombie v) = false

-- the signals that may act on a process: the pending ones outside the mask, in a stopped process KILL alone
abbrev pub open_by_life : Life → ℕ → ℕ → ℕ
open_by_life Running pending mask = outside pending mask
open_by_life (Stopped s) pending mask = bit_and pending (only kill_signal)
open_by_life (Zombie v) pending mask = 0

abbrev pub open_signals : Record → ℕ
open_signals r = open_by_life r.life r.pending r.mask

-- the signal that acts next
abbrev pub deliverable : Record → Option ℕ
deliverable r = least (open_signals r)

abbrev pub has_deliverable : Record → Bool
has_deliverable r = is_some (deliverable r)

-- the action of a signal from 1 to 31
abbrev pub action_in : List Action → ℕ → Action
action_in actions s = unwrap_or (slice_get actions (s - 1)) action.Default

abbrev pub action_of : Record → ℕ → Action
action_of r s = action_in r.actions s

abbrev pub with_action : Record → ℕ → Action → Record
with_action r s a = record r { actions = slice_set r.actions (s - 1) a }

-- an action that handles, stops, ends or ignores a signal with this default; CONT by default is ignored
abbrev pub is_handler : Action → Bool
is_handler action.Default = false
is_handler action.Ignore = false
is_handler (action.Handler target restart) = true

abbrev pub stops_by : Action → ByDefault → Bool
stops_by action.Default StopByDefault = true
stops_by _ _ = false

abbrev pub ends_by : Action → ByDefault → Bool
ends_by action.Default End = true
ends_by _ _ = false

abbrev pub is_ignored_by : Action → ByDefault → Bool
is_ignored_by action.Ignore d = true
is_ignored_by action.Default Ignore = true
is_ignored_by action.Default Continue = true
is_ignored_by _ _ = false

abbrev pub stops : Record → ℕ → Bool
stops r s = stops_by (action_of r s) (default_of s)

abbrev pub ends : Record → ℕ → Bool
ends r s = ends_by (action_of r s) (default_of s)

abbrev pub ignores : Record → ℕ → Bool
ignores r s = is_ignored_by (action_of r s) (default_of s)

-- the action to ignore a signal, whatever its default is
abbrev pub is_ignore : Action → Bool
is_ignore action.Default = false
is_ignore action.Ignore = true
is_ignore (action.Handler target restart) = false

-- whether a signal of the set has a handler
unfoldable pub has_handled : Record → ℕ → Bool
has_handled r set = list_any (λ s. contains set s && is_handler (action_of r s)) signals

-- whether a signal outside the mask that has a handler is pending, or was, before a generation took it away since the
-- last own event
abbrev pub awaits_handler : Record → Bool
awaits_handler r = has_handled r (outside (bit_or r.pending r.lost) r.mask)

-- without a pending signal
abbrev pub without_signal : Record → ℕ → Record
without_signal r s = record r { pending = outside r.pending (only s) }
