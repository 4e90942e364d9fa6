-- When a thread is ready, and which one comes next.
use Rattle.std.specs.Prelude.{◌≡◌, ℕ, ◌+◌, ◌-◌, ◌*◌, ◌%◌, ◌≤◌, Bool, true, false, ◌&&◌, ◌||◌, not, nat_eq}
use Rattle.std.specs.Prelude.{if◌then◌else◌, List, [], ◌∷◌, Option, Some, None}
use Rattle.tty_spec.specs.Discipline.{has_line}
use Rattle.w32_base.specs.declared.call.Call.{Call}
use Rattle.w32_base.specs.declared.call.Call.TheVariants as call
use Rattle.win32_spec.specs.Handles.{Handle, handle_of}
use Rattle.win32_spec.specs.Objects.{is_free_for, is_empty, pipe_is_signalled}
use Rattle.win32_spec.specs.State.{Object, Section, Event, Mutex, Pipe, ProcessObject, TerminalObject, Thread, Process}
use Rattle.win32_spec.specs.State.{Win32State}
use Rattle.win32_spec.specs.Lookup.{is_live, process_of, process_in, thread_in, object_number, object_of}
use Rattle.win32_spec.specs.Pipes.{pipe_state}

-- the lowest bit of what a handle names is 0: the read end of a pipe, or the `keys` face of the terminal
abbrev pub is_first_end : ℕ → Bool
is_first_end names = nat_eq (names % 2) 0

-- Whether an object is signalled for thread t of process w, by what the handle names. A section and the write end of
-- a pipe never are.
abbrev pub is_signalled : Win32State → ℕ → ℕ → ℕ → Option Object → Bool
is_signalled s w t names None = false
is_signalled s w t names (Some (Section words)) = false
is_signalled s w t names (Some (Event e)) = e.signalled
is_signalled s w t names (Some (Mutex owner)) = is_free_for owner w t
is_signalled s w t names (Some (Pipe bytes)) =
    is_first_end names && pipe_is_signalled (pipe_state s (object_number names) bytes)
is_signalled s w t names (Some (ProcessObject v)) = not (is_live (process_of s.processes v))
is_signalled s w t names (Some (TerminalObject terminal)) =
    if is_first_end names then not (is_empty s.keys) else has_line terminal

-- the same of a handle, which may be absent
abbrev pub is_handle_signalled : Win32State → ℕ → ℕ → Option ℕ → Bool
is_handle_signalled s w t None = false
is_handle_signalled s w t (Some names) = is_signalled s w t names (object_of s.objects (object_number names))

-- whether one of the handles of a wait is signalled
abbrev pub is_some_signalled : Win32State → ℕ → ℕ → List Handle → List ℕ → Bool
is_some_signalled s w t handles [] = false
is_some_signalled s w t handles (h ∷ hs) =
    is_handle_signalled s w t (handle_of handles h) || is_some_signalled s w t handles hs

-- Whether a posted call may be carried out: each but a wait may. A wait with an absent handle may exactly where another
-- of its objects is signalled.
abbrev pub may_go : Win32State → ℕ → ℕ → List Handle → Call → Bool
may_go s w t handles (call.WaitAny list) = is_some_signalled s w t handles list
may_go s w t handles _ = true

abbrev pub is_thread_ready : Win32State → Process → Option Thread → Bool
is_thread_ready s p None = false
is_thread_ready s p (Some x) = nat_eq x.suspended 0 && may_go s p.number x.number p.handles x.posted

abbrev pub is_process_ready : Win32State → ℕ → Option Process → Bool
is_process_ready s t None = false
is_process_ready s t (Some p) = is_thread_ready s p (thread_in p.threads t)

-- The thread exists, its process is alive, it isn't suspended, and its posted call isn't a wait or one of the
-- objects that it names is signalled.
abbrev pub is_ready : Win32State → ℕ → ℕ → Bool
is_ready s slot t = is_process_ready s t (process_in s.processes slot)

-- no thread is ready
abbrev pub IsQuiet : Win32State → Type 0
IsQuiet s = (slot t : ℕ) → is_ready s slot t ≡ false

-- How far a thread is from the last one, going round by slot and then thread: 0 for the one after it. There are 65
-- slots with three threads each.
abbrev pub distance : ℕ → ℕ → ℕ → ℕ → ℕ
distance last_slot last_thread slot t = (3 * slot + t + 194 - (3 * last_slot + last_thread)) % 195

-- the thread is ready, and no ready one comes before it in the round
pub record IsNextReady (s : Win32State) (last_slot last_thread slot t : ℕ) : Type 0 where
  pub ready : is_ready s slot t ≡ true
  pub first : (other_slot other : ℕ) → is_ready s other_slot other ≡ true
      → distance last_slot last_thread slot t ≤ distance last_slot last_thread other_slot other
