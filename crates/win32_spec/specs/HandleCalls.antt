-- The calls on handles of any kind: `dup`, `close` and `wait`.
use Rattle.std.specs.Prelude.{ℕ, ◌+◌, Bool, false, if◌then◌else◌, List, [], ◌∷◌, Option, Some, None, slice_index}
use Rattle.std.specs.Prelude.{MatchBool, MatchOption}
use Rattle.w32_base.specs.declared.call.Reply.{Reply}
use Rattle.w32_base.specs.declared.call.Reply.TheVariants as reply
use Rattle.win32_spec.specs.Handles.{Handle, handle_of, without_handle}
use Rattle.win32_spec.specs.Objects.{event_taken, Owned, is_abandoned}
use Rattle.win32_spec.specs.State.{Object, Section, Event, Mutex, Pipe, ProcessObject, TerminalObject, Win32State}
use Rattle.win32_spec.specs.Lookup.{with_handles, with_object}
use Rattle.win32_spec.specs.Ends.{swept}
use Rattle.win32_spec.specs.Ready.{is_handle_signalled}
use Rattle.win32_spec.specs.Named.{handles_by, named_by, object_number_by, object_by, process_named, has_absent, Gives}
use Rattle.win32_spec.specs.Named.{GetsHandle}
use Rattle.win32_spec.specs.ProcessCalls.{live_process}

-- `dup H N`: a handle of the caller on what handle N of process H is, by the same end or face. Refusals: badhandle of
-- H, gone, badhandle of N, tablefull.
abbrev pub DupStep : Win32State → ℕ → ℕ → ℕ → Reply → Win32State → Type 0
DupStep s w h n r new =
    MatchOption (process_named (object_by s w h)) (Gives reply.BadHandle s r new) (λ v.
    MatchOption (live_process s v) (Gives reply.Gone s r new) (λ p.
    MatchOption (handle_of p.handles n) (Gives reply.BadHandle s r new) (λ names.
    GetsHandle s w names r new)))

-- `close H`: the handle goes, and with it what nobody names any more. A mutex that others name stays owned. Refusals:
-- badhandle.
abbrev pub CloseStep : Win32State → ℕ → ℕ → Reply → Win32State → Type 0
CloseStep s w h r new =
    MatchOption (named_by s w h) (Gives reply.BadHandle s r new) (λ names.
    Gives reply.Done (swept (with_handles s w (without_handle (handles_by s w) h))) r new)

-- the first place of a list, counted from n, whose object is signalled for thread t of process w
abbrev pub first_signalled : Win32State → ℕ → ℕ → List Handle → List ℕ → ℕ → Option ℕ
first_signalled s w t handles [] n = None
first_signalled s w t handles (h ∷ hs) n =
    if is_handle_signalled s w t (handle_of handles h) then Some n else first_signalled s w t handles hs (n + 1)

-- an object after thread t of process w waited for it: an event that isn't manual is reset, and a mutex is owned
abbrev pub taken_object : ℕ → ℕ → Object → Object
taken_object w t (Event e) = Event (event_taken e)
taken_object w t (Mutex owner) = Mutex (Owned w t)
taken_object w t (Section words) = Section words
taken_object w t (Pipe bytes) = Pipe bytes
taken_object w t (ProcessObject v) = ProcessObject v
taken_object w t (TerminalObject terminal) = TerminalObject terminal

abbrev pub is_abandoned_object : Object → Bool
is_abandoned_object (Mutex owner) = is_abandoned owner
is_abandoned_object (Section words) = false
is_abandoned_object (Event e) = false
is_abandoned_object (Pipe bytes) = false
is_abandoned_object (ProcessObject v) = false
is_abandoned_object (TerminalObject terminal) = false

abbrev pub woken_reply : Object → ℕ → Reply
woken_reply object n = if is_abandoned_object object then reply.Abandoned n else reply.Woke n

-- the object that handle h, at place n of the list, names is taken
abbrev pub TakesObject : Win32State → ℕ → ℕ → ℕ → ℕ → Reply → Win32State → Type 0
TakesObject s w t h n r new =
    MatchOption (object_by s w h) ⊥ (λ object.
    Gives (woken_reply object n) (with_object s (object_number_by s w h) (taken_object w t object)) r new)

-- `wait LIST`: the first signalled place of the list, whose object is taken. It isn't carried out while there is none.
-- Refusals: badhandle.
abbrev pub WaitStep : Win32State → ℕ → ℕ → List ℕ → Reply → Win32State → Type 0
WaitStep s w t list r new =
    MatchBool (has_absent (handles_by s w) list) (Gives reply.BadHandle s r new)
    (MatchOption (first_signalled s w t (handles_by s w) list 0) ⊥
    (λ n. TakesObject s w t (slice_index list n) n r new))
