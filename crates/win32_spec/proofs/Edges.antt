-- The rules at their edges, on a small state: they hold by computation.
use Rattle.std.specs.Prelude.{◌≡◌, ℕ, true, false, List, [], ◌∷◌, Some, None}
use Rattle.std.proofs.Common.{refl}
use Rattle.tty_spec.specs.Terminal.{opening_terminal}
use Rattle.w32_base.specs.declared.call.Call.TheVariants as call
use Rattle.w32_base.specs.declared.call.Region.TheVariants.{Heap, Stack}
use Rattle.w32_base.specs.declared.call.Reply.TheVariants as reply
use Rattle.w32_base.specs.declared.call.TtyOp.TheVariants as tty
use Rattle.w32_base.specs.declared.own.Own.{Own}
use Rattle.win32_spec.specs.Handles.{Handle}
use Rattle.win32_spec.specs.Objects.{Owned, Abandoned}
use Rattle.win32_spec.specs.State.{Object, Section, Event, Mutex, Pipe, ProcessObject, TerminalObject, NumberedObject}
use Rattle.win32_spec.specs.State.{Thread, Alive, Process, Win32State}
use Rattle.win32_spec.specs.Lookup.{process_of, object_of, with_object, with_own}
use Rattle.win32_spec.specs.Ends.{with_end}
use Rattle.win32_spec.specs.Ready.{is_ready, distance}
use Rattle.win32_spec.specs.WordCalls.{LoadStep, ExchangeStep, AddStep}
use Rattle.win32_spec.specs.ProcessCalls.{SuspendStep, OpenStep, ExitCodeStep, TerminateStep, resumed, suspended_more}
use Rattle.win32_spec.specs.MemoryCalls.{ReadMemoryStep, WriteMemoryStep}
use Rattle.win32_spec.specs.ObjectCalls.{ReleaseStep, PutStep, GetStep}
use Rattle.win32_spec.specs.HandleCalls.{DupStep, WaitStep}
use Rattle.win32_spec.specs.TerminalCalls.{TtyStep}

abbrev handle : ℕ → ℕ → Handle
handle n o = record { number = n; names = o }

abbrev object : ℕ → Object → NumberedObject
object n x = record { number = n; object = x }

abbrev waiting : ℕ → List ℕ → Thread
waiting t list = record { number = t; suspended = 0; posted = call.WaitAny list }

abbrev small_memory : List ℕ → Own
small_memory heap = record { dat = []; heap = heap; stack = 0 ∷ 0 ∷ []; cyg = []; scratch = [] }

-- Process 2 has a section of three words, a mutex that process 3 owns, both ends of a pipe, a set event, a handle on
-- process 3 and the terminal's `lines` face. Process 3 has the pipe's read end too.
abbrev two : List Thread → Process
two threads = record {
  number = 2;
  slot = 1;
  program = Some 0;
  life = Alive;
  threads = threads;
  handles = handle 1 0 ∷ handle 2 2 ∷ handle 3 4 ∷ handle 4 5 ∷ handle 5 6 ∷ handle 6 8 ∷ handle 7 11 ∷ [];
  own = small_memory (1 ∷ 2 ∷ 3 ∷ 4 ∷ []);
  placed = [];
}

abbrev three : Process
three = record {
  number = 3;
  slot = 2;
  program = Some 0;
  life = Alive;
  threads = waiting 0 [] ∷ [];
  handles = handle 1 4 ∷ [];
  own = small_memory (9 ∷ 8 ∷ []);
  placed = [];
}

abbrev small : List Thread → Win32State
small threads = record {
  processes = two threads ∷ three ∷ [];
  objects = object 0 (Section (10 ∷ 20 ∷ 30 ∷ [])) ∷ object 2 (Mutex (Owned 3 0)) ∷ object 4 (Pipe [])
      ∷ object 6 (Event (record { manual = false; signalled = true })) ∷ object 8 (ProcessObject 3)
      ∷ object 10 (TerminalObject opening_terminal) ∷ [];
  next = 4;
  keys = 97 ∷ [];
}

-- words: past the end, by an absent handle, by a handle of another kind
load_last : LoadStep (small []) 2 1 2 (reply.Word 30) (small [])
load_last = (refl, refl)

load_past : LoadStep (small []) 2 1 3 reply.BadIndex (small [])
load_past = (refl, refl)

load_absent : LoadStep (small []) 2 9 0 reply.BadHandle (small [])
load_absent = (refl, refl)

load_other_kind : LoadStep (small []) 2 5 9 reply.BadHandle (small [])
load_other_kind = (refl, refl)

-- an addition wraps at 64 bits, and a compare-exchange that finds another word changes nothing
add_wraps : AddStep (small []) 2 1 0 18446744073709551606 (reply.Word 10)
    (with_object (small []) 0 (Section (0 ∷ 20 ∷ 30 ∷ [])))
add_wraps = (refl, refl)

exchange_lost : ExchangeStep (small []) 2 1 1 21 7 (reply.Word 20) (small [])
exchange_lost = (refl, refl)

-- the read end isn't for `put`, the write end isn't for `get`; an empty pipe with a writer is empty
put_at_read_end : PutStep (small []) 2 3 65 reply.BadHandle (small [])
put_at_read_end = (refl, refl)

get_at_write_end : GetStep (small []) 2 4 reply.BadHandle (small [])
get_at_write_end = (refl, refl)

get_empty : GetStep (small []) 2 3 reply.Empty (small [])
get_empty = (refl, refl)

put_byte : PutStep (small []) 2 4 65 reply.Done (with_object (small []) 4 (Pipe (65 ∷ [])))
put_byte = (refl, refl)

-- without its writer the pipe is broken, and a wait for its read end ends
abbrev closed : Win32State
closed = record (small [])
    { processes = record (two (waiting 0 (3 ∷ []) ∷ [])) { handles = handle 3 4 ∷ [] } ∷ three ∷ [] }

get_broken : GetStep closed 2 3 reply.Broken closed
get_broken = (refl, refl)

broken_is_ready : is_ready closed 1 0 ≡ true
broken_is_ready = refl

-- a wait with an absent handle goes only with another one that is signalled, and is refused then
absent_alone : is_ready (small (waiting 0 (9 ∷ 2 ∷ 3 ∷ 6 ∷ []) ∷ [])) 1 0 ≡ false
absent_alone = refl

absent_beside : is_ready (small (waiting 0 (9 ∷ 5 ∷ []) ∷ [])) 1 0 ≡ true
absent_beside = refl

absent_refused : WaitStep (small []) 2 0 (9 ∷ 5 ∷ []) reply.BadHandle (small [])
absent_refused = (refl, refl)

-- the first signalled place is taken; a wait for none is never ready
takes_event : WaitStep (small []) 2 0 (2 ∷ 5 ∷ []) (reply.Woke 1)
    (with_object (small []) 6 (Event (record { manual = false; signalled = false })))
takes_event = (refl, refl)

waits_for_none : is_ready (small (waiting 0 [] ∷ [])) 1 0 ≡ false
waits_for_none = refl

-- another's mutex isn't released; when its owner's process ends it is abandoned, and so taken
release_other : ReleaseStep (small []) 2 0 2 reply.NotOwner (small [])
release_other = (refl, refl)

abandoned : object_of (with_end (small []) 3 7).objects 2 ≡ Some (Mutex Abandoned)
abandoned = refl

takes_abandoned : WaitStep (with_end (small []) 3 7) 2 1 (2 ∷ []) (reply.Abandoned 0)
    (with_object (with_end (small []) 3 7) 2 (Mutex (Owned 2 1)))
takes_abandoned = (refl, refl)

release_abandoned : ReleaseStep (with_end (small []) 3 7) 2 1 2 reply.NotOwner (with_end (small []) 3 7)
release_abandoned = (refl, refl)

-- an ended process keeps its code while somebody holds it, and goes with the last handle
code_stays : ExitCodeStep (with_end (small []) 3 7) 2 6 (reply.Code 7) (with_end (small []) 3 7)
code_stays = (refl, refl)

terminate_gone : TerminateStep (with_end (small []) 3 7) 2 6 9 reply.Gone (with_end (small []) 3 7)
terminate_gone = (refl, refl)

gone_with_holder : process_of (with_end (with_end (small []) 3 7) 2 0).processes 3 ≡ None
gone_with_holder = refl

nobody_holds_itself : (with_end (with_end (small []) 3 7) 2 0).processes ≡ []
nobody_holds_itself = refl

-- `open` uses the object that there is, and knows neither an ended process that nobody holds nor one that never was
unknown_number : OpenStep (small []) 2 4 reply.Unknown (small [])
unknown_number = (refl, refl)

-- suspend counts end at 0 and 100; a thread that isn't there is a bad index, but not of a process that has ended
resumed_at_0 : resumed 0 ≡ 0
resumed_at_0 = refl

suspended_at_100 : suspended_more 100 ≡ 100
suspended_at_100 = refl

suspended_at_99 : suspended_more 99 ≡ 100
suspended_at_99 = refl

no_thread : SuspendStep (small []) 2 6 1 reply.BadIndex (small [])
no_thread = (refl, refl)

no_thread_gone : SuspendStep (with_end (small []) 3 7) 2 6 1 reply.Gone (with_end (small []) 3 7)
no_thread_gone = (refl, refl)

-- a range of no bytes is never outside, more than 512 bytes are too many, and the last byte may be copied
read_none : ReadMemoryStep (small []) 2 6 Heap 700 Stack 900 0 reply.Done (small [])
read_none = (refl, refl)

read_too_many : ReadMemoryStep (small []) 2 6 Heap 0 Heap 0 513 reply.BadRange (small [])
read_too_many = (refl, refl)

read_outside : ReadMemoryStep (small []) 2 6 Heap 1 Heap 0 2 reply.BadRange (small [])
read_outside = (refl, refl)

write_last : WriteMemoryStep (small []) 2 6 Heap 1 Heap 3 1 reply.Done
    (with_own (small []) 3 (small_memory (9 ∷ 4 ∷ [])))
write_last = (refl, refl)

-- `dup`: the handle of the caller first, then the end of the process, then its handle
dup_not_a_process : DupStep (small []) 2 5 9 reply.BadHandle (small [])
dup_not_a_process = (refl, refl)

dup_gone : DupStep (with_end (small []) 3 7) 2 6 9 reply.Gone (with_end (small []) 3 7)
dup_gone = (refl, refl)

dup_absent : DupStep (small []) 2 6 2 reply.BadHandle (small [])
dup_absent = (refl, refl)

-- the terminal: the range first, then the background, then the line
take_range : TtyStep (small []) 2 7 (tty.Take 3 5 0) reply.BadRange (small [])
take_range = (refl, refl)

take_background : TtyStep (small []) 2 7 (tty.Take 3 4 0) reply.Background (small [])
take_background = (refl, refl)

take_no_line : TtyStep (small []) 2 7 (tty.Take 2 0 900) reply.NoLine (small [])
take_no_line = (refl, refl)

take_too_many : TtyStep (small []) 2 7 (tty.Take 2 65 0) reply.BadRange (small [])
take_too_many = (refl, refl)

-- a background group may write without TOSTOP, and not set flags without force
put_background : TtyStep (small []) 2 7 (tty.Put 3 4 0 false) (reply.Written 4) (small [])
put_background = (refl, refl)

flags_background : TtyStep (small []) 2 7 (tty.Flags 3 8 false) reply.Background (small [])
flags_background = (refl, refl)

flags_forced : TtyStep (small []) 2 7 (tty.Flags 3 8 true) reply.Done
    (with_object (small []) 10 (TerminalObject (record opening_terminal { flags = 8 })))
flags_forced = (refl, refl)

-- the console takes its key by the `lines` face too
takes_key : TtyStep (small []) 2 7 tty.Key (reply.Key 97 0 2)
    (record (with_object (small []) 10 (TerminalObject (record opening_terminal { line = 97 ∷ [] }))) { keys = [] })
takes_key = (refl, refl)

-- the `lines` face isn't signalled by a key
no_line_yet : is_ready (small (waiting 0 (7 ∷ []) ∷ [])) 1 0 ≡ false
no_line_yet = refl

-- the round: thread 0 of slot 0 is the first, and a thread comes last after itself
round_begins : distance 64 2 0 0 ≡ 0
round_begins = refl

round_ends : distance 64 2 64 2 ≡ 194
round_ends = refl

round_next : distance 1 2 2 0 ≡ 0
round_next = refl

round_itself : distance 1 2 1 2 ≡ 194
round_itself = refl
