-- What shows that a death, its status and its reading are true.
use Rattle.std.specs.Prelude.{◌≡◌, ◌≢◌, ℕ, ◌↔◌, ℤ, pos, Bool, true, false, Some}
use Rattle.w32_base.specs.declared.call.Call.TheVariants as call
use Rattle.w32_base.specs.declared.call.Reply.TheVariants as reply
use Rattle.w32_base.specs.declared.event.Death.{Death}
use Rattle.w32_base.specs.declared.event.Death.TheVariants as death
use Rattle.w32_base.specs.declared.entry.Outcome.TheVariants as outcome
use Rattle.win32_spec.specs.State.{Win32State}
use Rattle.win32_spec.specs.Named.{object_by, process_named}
use Rattle.win32_spec.specs.Run.{ended_from_outside}
use Rattle.posix_spec.specs.State.{Record, record_of}
use Rattle.posix_spec.specs.Pending.{deliverable, ends}
use Rattle.posix_spec.specs.DeathSteps.{signal_status}
use Rattle.layer_spec.specs.Decoding.{exit_fields}
use Rattle.layer_spec.specs.Rows.{ExitWord}
use Rattle.layer_spec.specs.Words.{exit_at, row_of}
use Rattle.layer_spec.specs.Moment.{Seen, SomeSeen, HistoryStep, seen_at}
use Rattle.layer_spec.specs.Owners.{call_up_to}
use Rattle.layer_spec.specs.Turns.{image_named, has_ended, is_end_of, was_ended}

-- what the exit word of p's row tells
abbrev pub exit_told : Win32State → ℕ → ExitWord
exit_told s p = exit_fields (exit_at s (row_of p))

-- The exit word carries the image that p's main word names, with this status, and tells whether it was a fault.
pub record ExitWordTells (s : Win32State) (p : ℕ) (v : ℤ) (fault : Bool) : Type 0 where
  pub image : (exit_told s p).image ≡ image_named s p
  pub status : v ≡ pos (exit_told s p).status
  pub by_fault : (exit_told s p).fault ≡ fault

-- In the moment before an entry this signal was p's deliverable one, and its action the default, which ends a process.
pub record WasDeadly {A : Type 0} (p signal : ℕ) (x : Seen A) : Type 0 where
  pub record_then : Record
  pub known : record_of x.before.posix p ≡ Some record_then
  pub first : deliverable record_then ≡ Some signal
  pub by_default : ends record_then signal ≡ true

-- It was so in a moment after p's previous own event: the one right after it, or a later one up to this step.
pub record IsBySignal {A : Type 0} (step : HistoryStep A) (p : ℕ) (v : ℤ) : Type 0 where
  pub signal : ℕ
  pub status : v ≡ pos (signal_status signal)
  pub seen : SomeSeen (WasDeadly p signal) (call_up_to step p)

-- The entry with this number is an `end` that ended the process that p's main word names, and the exit word doesn't
-- carry that process.
pub record IsByWorld {A : Type 0} (step : HistoryStep A) (p : ℕ) (n : ℤ) : Type 0 where
  pub number : ℕ
  pub told : n ≡ pos number
  pub seen : Seen A
  pub at : seen_at step.past number ≡ Some seen
  pub ended : is_end_of seen.entry.outcome (image_named step.before.win32 p) ≡ true
  pub other : (exit_told step.before.win32 p).image ≢ image_named step.before.win32 p

-- A death is as it says: by the exit word, by a signal that was deliverable too, or by an `end`.
abbrev pub DeathIsTrue : {A : Type 0} → HistoryStep A → ℕ → ℤ → Death → Type 0
DeathIsTrue step p v death.Exit = ExitWordTells step.before.win32 p v false
DeathIsTrue step p v death.Signal = ExitWordTells step.before.win32 p v false × IsBySignal step p v
DeathIsTrue step p v death.Fault = ExitWordTells step.before.win32 p v true
DeathIsTrue step p v (death.World n) = IsByWorld step p n

-- The host asks for the code of Win32 process 2 and is answered n, which is 65,536 exactly where an `end` ended that
-- process.
pub record HostReadsStatus {A : Type 0} (step : HistoryStep A) (n : ℤ) : Type 0 where
  pub handle : ℕ
  pub code : ℕ
  pub asks : step.entry.call ≡ Some (call.ExitCode handle)
  pub names : process_named (object_by step.before.win32 1 handle) ≡ Some 2
  pub answered : step.entry.outcome ≡ outcome.Step (reply.Code code)
  pub told : n ≡ pos code
  pub outside : (code ≡ ended_from_outside) ↔ (was_ended step.past 2 ≡ true)

-- The process that the main word of a reaped child names has ended.
pub record ReapedHasEnded {A : Type 0} (step : HistoryStep A) (c : ℤ) : Type 0 where
  pub child : ℕ
  pub number : c ≡ pos child
  pub ended : has_ended step.before.win32 (image_named step.before.win32 child) ≡ true
