-- The calls on events, mutexes and pipes.
use Rattle.std.specs.Prelude.{◌≡◌, ℕ, ◌+◌, Bool, List, [], Option, Some, None, if◌then◌else◌, MatchBool, MatchOption}
use Rattle.w32_base.specs.declared.call.Reply.{Reply}
use Rattle.w32_base.specs.declared.call.Reply.TheVariants as reply
use Rattle.win32_spec.specs.Handles.{with_handle, IsLowestFree}
use Rattle.win32_spec.specs.Objects.{event_set, event_reset, Free, Owned, is_owner, PipeState, put_reply, put_after}
use Rattle.win32_spec.specs.Objects.{get_reply, get_after}
use Rattle.win32_spec.specs.State.{Event, Mutex, Pipe, Win32State}
use Rattle.win32_spec.specs.Lookup.{with_object, with_new_object, with_handles, IsFresh}
use Rattle.win32_spec.specs.Pipes.{pipe_state}
use Rattle.win32_spec.specs.Ready.{is_first_end}
use Rattle.win32_spec.specs.Named.{handles_by, named_by, object_number_by, object_by, event_named, mutex_named}
use Rattle.win32_spec.specs.Named.{pipe_named, is_full, Gives, MakesObject}

-- `event MANUAL SET`: a new event. Refusals: tablefull.
abbrev pub EventStep : Win32State → ℕ → Bool → Bool → Reply → Win32State → Type 0
EventStep s w manual signalled r new = MakesObject s w (Event (record { manual = manual; signalled = signalled })) r new

-- `set H` and `reset H`: the event becomes signalled, or not. Refusals: badhandle.
abbrev pub SetStep : Win32State → ℕ → ℕ → Reply → Win32State → Type 0
SetStep s w h r new =
    MatchOption (event_named (object_by s w h)) (Gives reply.BadHandle s r new) (λ e.
    Gives reply.Done (with_object s (object_number_by s w h) (Event (event_set e))) r new)

abbrev pub ResetStep : Win32State → ℕ → ℕ → Reply → Win32State → Type 0
ResetStep s w h r new =
    MatchOption (event_named (object_by s w h)) (Gives reply.BadHandle s r new) (λ e.
    Gives reply.Done (with_object s (object_number_by s w h) (Event (event_reset e))) r new)

-- `mutex OWNED`: a new mutex, owned by the calling thread or free. Refusals: tablefull.
abbrev pub MutexStep : Win32State → ℕ → ℕ → Bool → Reply → Win32State → Type 0
MutexStep s w t owned r new = MakesObject s w (Mutex (if owned then Owned w t else Free)) r new

-- `release H`: the mutex is free, however often the calling thread took it. Refusals: badhandle, notowner.
abbrev pub ReleaseStep : Win32State → ℕ → ℕ → ℕ → Reply → Win32State → Type 0
ReleaseStep s w t h r new =
    MatchOption (mutex_named (object_by s w h)) (Gives reply.BadHandle s r new) (λ owner.
    MatchBool (is_owner owner w t)
    (Gives reply.Done (with_object s (object_number_by s w h) (Mutex Free)) r new)
    (Gives reply.NotOwner s r new))

-- a new pipe, with the lowest free handle on its read end and the next one on its write end
pub record IsNewPipe (s : Win32State) (w : ℕ) (r : Reply) (new : Win32State) : Type 0 where
  pub number : ℕ
  pub fresh : IsFresh s number
  pub read_end : ℕ
  pub lowest : IsLowestFree (handles_by s w) read_end
  pub write_end : ℕ
  pub next_lowest : IsLowestFree (with_handle (handles_by s w) read_end number) write_end
  pub answered : r ≡ reply.Two read_end write_end
  pub after : new ≡ with_handles (with_new_object s number (Pipe [])) w
      (with_handle (with_handle (handles_by s w) read_end number) write_end (number + 1))

-- `pipe`. Refusals: tablefull.
abbrev pub PipeStep : Win32State → ℕ → Reply → Win32State → Type 0
PipeStep s w r new = MatchBool (is_full (handles_by s w) 2) (Gives reply.TableFull s r new) (IsNewPipe s w r new)

-- the bytes of the pipe whose read end a handle of process w is, or whose write end
abbrev pub at_read_end : Option ℕ → Option (List ℕ) → Option (List ℕ)
at_read_end None bytes = None
at_read_end (Some names) bytes = if is_first_end names then bytes else None

abbrev pub at_write_end : Option ℕ → Option (List ℕ) → Option (List ℕ)
at_write_end None bytes = None
at_write_end (Some names) bytes = if is_first_end names then None else bytes

abbrev pub read_end_by : Win32State → ℕ → ℕ → Option (List ℕ)
read_end_by s w h = at_read_end (named_by s w h) (pipe_named (object_by s w h))

abbrev pub write_end_by : Win32State → ℕ → ℕ → Option (List ℕ)
write_end_by s w h = at_write_end (named_by s w h) (pipe_named (object_by s w h))

-- the pipe with these bytes that a handle of process w names
abbrev pub pipe_by : Win32State → ℕ → ℕ → List ℕ → PipeState
pipe_by s w h bytes = pipe_state s (object_number_by s w h) bytes

-- `put H B`: byte B behind the others. Refusals: badhandle (the read end too), noreader, full.
abbrev pub PutStep : Win32State → ℕ → ℕ → ℕ → Reply → Win32State → Type 0
PutStep s w h b r new =
    MatchOption (write_end_by s w h) (Gives reply.BadHandle s r new) (λ bytes.
    let pipe = pipe_by s w h bytes in
    Gives (put_reply pipe) (with_object s (object_number_by s w h) (Pipe (put_after pipe b).bytes)) r new)

-- `get H`: the oldest byte. Refusals: badhandle (the write end too), broken, empty.
abbrev pub GetStep : Win32State → ℕ → ℕ → Reply → Win32State → Type 0
GetStep s w h r new =
    MatchOption (read_end_by s w h) (Gives reply.BadHandle s r new) (λ bytes.
    let pipe = pipe_by s w h bytes in
    Gives (get_reply pipe.bytes pipe.writers)
    (with_object s (object_number_by s w h) (Pipe (get_after pipe).bytes)) r new)
