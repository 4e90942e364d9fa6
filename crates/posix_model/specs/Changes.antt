-- What the changes of a process are in the definitions.
use Rattle.std.specs.FinSet as set
use Rattle.sig_sets.specs.Shown.{bits_of}
use Rattle.std.specs.Prelude.{ℕ}
use Rattle.posix_spec.specs.State.{CallInProgress, NoCall, WaitCall, ForGroup, GroupCall, Record}
use Rattle.posix_spec.specs.GroupCalls.{with_step}
use Rattle.posix_spec.specs.Sending.{generated}
use Rattle.posix_spec.specs.Conditions.{call_ended}
use Rattle.posix_spec.specs.KillSteps.{in_call_for}
use Rattle.posix_spec.specs.SignalCalls.{with_mask, acting, suspended}
use Rattle.posix_spec.specs.SignalActs.{discarded, stopped, notified}
use Rattle.posix_spec.specs.WaitSteps.{with_look, blocked, reported}
use Rattle.posix_spec.specs.GroupSteps.{in_group, leading_session}
use Rattle.posix_spec.specs.DeathSteps.{dead}
use Rattle.posix_model.specs.declared.change.Change.{Change}
use Rattle.posix_model.specs.declared.change.Change.TheVariants as change
use Rattle.posix_model.specs.Shown.{group_call_of}

-- the call for a group that is in progress, or else this one
abbrev pub call_or : CallInProgress → GroupCall → GroupCall
call_or NoCall begins = begins
call_or (WaitCall looked_at) begins = begins
call_or (ForGroup call) begins = call

-- member q has had its step in the call for a group, which is this one where none is in progress
abbrev pub with_member : GroupCall → ℕ → Record → Record
with_member begins q r = in_call_for (with_step (call_or r.call begins) q) r

abbrev pub change_of : Change → Record → Record
change_of (change.Look c) r = with_look c r
change_of change.Block r = blocked r
change_of change.Report r = reported r
change_of (change.Join g) r = in_group g r
change_of (change.LeadSession p) r = leading_session p r
change_of (change.Begin call) r = in_call_for (group_call_of call set.empty) r
change_of (change.Member call q) r = with_member (group_call_of call set.empty) q r
change_of change.BeginAnew r = call_ended r
change_of (change.Generate signal) r = generated signal r
change_of (change.SetMask mask) r = with_mask (bits_of mask) r
change_of (change.SetAction signal a) r = acting signal.number a r
change_of (change.Suspend mask) r = suspended (bits_of mask) r
change_of (change.Discard signal) r = discarded signal.number r
change_of (change.Stop signal) r = stopped signal.number r
change_of change.Notify r = notified r
change_of (change.Die status) r = dead status r
