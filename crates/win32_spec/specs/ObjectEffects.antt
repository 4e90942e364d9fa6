-- Each call makes one of the changes: the calls on events, mutexes, pipes and waits.
use Rattle.std.proofs.Common.{◌≡◌, inl, inr, ℕ, suc, ◌+◌, ◌≤◌, ◌<◌, Bool, true, false, if◌then◌else◌, nat_eq, nat_lt}
use Rattle.std.proofs.Common.{List, [], ◌∷◌, ◌++◌, length, Option, Some, None, slice_index, refl, arith, length-append}
use Rattle.std.proofs.lemmas.Bool.Decides.{nat_tests}
use Rattle.w32_base.specs.declared.call.Call.{Call}
use Rattle.w32_base.specs.declared.call.Call.TheVariants as call
use Rattle.w32_base.specs.declared.call.Reply.{Reply}
use Rattle.script_spec.specs.declared.script.Script.{Script}
use Rattle.win32_spec.specs.Handles.{Handle, handle_of}
use Rattle.win32_spec.specs.Objects.{event_set, event_reset, Free, Owned, is_owner, PipeState, put_after, get_after}
use Rattle.win32_spec.specs.Objects.{without_first}
use Rattle.win32_spec.specs.State.{Object, Section, Event, Mutex, Pipe, ProcessObject, TerminalObject, Win32State}
use Rattle.win32_spec.specs.Lookup.{process_of, is_live, object_of, with_object}
use Rattle.win32_spec.specs.Named.{handles_by, named_by, object_number_by, object_at, object_by, event_named}
use Rattle.win32_spec.specs.Named.{mutex_named, pipe_named, is_full, has_absent, MakesObject}
use Rattle.win32_spec.specs.Ready.{is_first_end, is_signalled, is_handle_signalled}
use Rattle.win32_spec.specs.ObjectCalls.{EventStep, SetStep, ResetStep, MutexStep, ReleaseStep, PipeStep, at_read_end}
use Rattle.win32_spec.specs.ObjectCalls.{at_write_end, read_end_by, write_end_by, pipe_by, PutStep, GetStep}
use Rattle.win32_spec.specs.HandleCalls.{first_signalled, taken_object, WaitStep}
use Rattle.win32_spec.specs.WellFormed.{only_number, IsObject}
use Rattle.win32_spec.specs.Tame.{ObjectBecomes}
use Rattle.win32_spec.specs.Effects.{MayExchange, CallEffect, Adds, AddsPipe}
use Rattle.win32_spec.specs.CallEffects.{by_bool, by_option, is_event, is_mutex, is_pipe, unchanged, object_changes}

pub set_effect : (script : Script) (s : Win32State) (w t h : ℕ) (r : Reply) (new : Win32State) → SetStep s w h r new
    → CallEffect script s w t (call.Set h) new
set_effect script s w t h r new step =
    by_option (event_named (object_by s w h)) (λ e m. unchanged script s w t (call.Set h) new m.1) (λ state e m.
    object_changes script s w t (call.Set h) h (Event state) (Event (event_set state)) new
    (is_event (object_by s w h) state e)
    (record { only = refl; ends = refl; holds = tt }) m.1) step

pub reset_effect : (script : Script) (s : Win32State) (w t h : ℕ) (r : Reply) (new : Win32State) → ResetStep s w h r new
    → CallEffect script s w t (call.Reset h) new
reset_effect script s w t h r new step =
    by_option (event_named (object_by s w h)) (λ e m. unchanged script s w t (call.Reset h) new m.1) (λ state e m.
    object_changes script s w t (call.Reset h) h (Event state) (Event (event_reset state)) new
    (is_event (object_by s w h) state e)
    (record { only = refl; ends = refl; holds = tt }) m.1) step

pub release_effect : (script : Script) (s : Win32State) (w t h : ℕ) (r : Reply) (new : Win32State)
    → ReleaseStep s w t h r new
    → CallEffect script s w t (call.Release h) new
release_effect script s w t h r new step =
    by_option (mutex_named (object_by s w h)) (λ e m. unchanged script s w t (call.Release h) new m.1) (λ owner e m.
    by_bool (is_owner owner w t)
    (λ owns m. object_changes script s w t (call.Release h) h (Mutex owner) (Mutex Free) new
    (is_mutex (object_by s w h) owner e)
    (record { only = refl; ends = refl; holds = inr (inl (owns, refl)) }) m.1)
    (λ owns m. unchanged script s w t (call.Release h) new m.1) m) step

-- A pipe with one byte more or less.
write_end : (o : Option ℕ) (b : Option (List ℕ)) (bytes : List ℕ) → at_write_end o b ≡ Some bytes → b ≡ Some bytes
write_end None b bytes e = absurd (cc)
write_end (Some names) b bytes e = by_test (is_first_end names) e
  where
    by_test : (k : Bool) → (if k then None else b) ≡ Some bytes → b ≡ Some bytes
    by_test true f = absurd (cc)
    by_test false f = f

read_end : (o : Option ℕ) (b : Option (List ℕ)) (bytes : List ℕ) → at_read_end o b ≡ Some bytes → b ≡ Some bytes
read_end None b bytes e = absurd (cc)
read_end (Some names) b bytes e = by_test (is_first_end names) e
  where
    by_test : (k : Bool) → (if k then b else None) ≡ Some bytes → b ≡ Some bytes
    by_test true f = f
    by_test false f = absurd (cc)

put-room : (pipe : PipeState) (b : ℕ) → length pipe.bytes ≤ 64 → length (put_after pipe b).bytes ≤ 64
put-room pipe b l = by_tests (nat_eq pipe.readers 0) (nat_lt (length pipe.bytes) 64) refl
  where
    by_tests : (i j : Bool) → nat_lt (length pipe.bytes) 64 ≡ j
        → length (if i then pipe else if j then record pipe { bytes = pipe.bytes ++ b ∷ [] } else pipe).bytes ≤ 64
    by_tests true j e = l
    by_tests false true e = let n : length pipe.bytes < 64 = grind (arith, nat_tests) in
        omega (arith, length-append pipe.bytes (b ∷ []))
    by_tests false false e = l

get-room : (bytes : List ℕ) → length bytes ≤ 64 → length (without_first bytes) ≤ 64
get-room [] l = l
get-room (b ∷ bs) l = omega arith

pub put_effect : (script : Script) (s : Win32State) (w t h b : ℕ) (r : Reply) (new : Win32State) → PutStep s w h b r new
    → CallEffect script s w t (call.Put h b) new
put_effect script s w t h b r new step =
    by_option (write_end_by s w h) (λ e m. unchanged script s w t (call.Put h b) new m.1) (λ bytes e m.
    object_changes script s w t (call.Put h b) h (Pipe bytes) (Pipe (put_after (pipe_by s w h bytes) b).bytes) new
    (is_pipe (object_by s w h) bytes (write_end (named_by s w h) (pipe_named (object_by s w h)) bytes e))
    (record { only = refl; ends = refl; holds = put-room (pipe_by s w h bytes) b }) m.1) step

pub get_effect : (script : Script) (s : Win32State) (w t h : ℕ) (r : Reply) (new : Win32State) → GetStep s w h r new
    → CallEffect script s w t (call.Get h) new
get_effect script s w t h r new step =
    by_option (read_end_by s w h) (λ e m. unchanged script s w t (call.Get h) new m.1) (λ bytes e m.
    object_changes script s w t (call.Get h) h (Pipe bytes) (Pipe (get_after (pipe_by s w h bytes)).bytes) new
    (is_pipe (object_by s w h) bytes (read_end (named_by s w h) (pipe_named (object_by s w h)) bytes e))
    (record { only = refl; ends = refl; holds = get-room bytes }) m.1) step

-- An object that a wait takes: a mutex is free for the thread.
taken : (E : Type 0) (s : Win32State) (w t names : ℕ) (x : Object) → is_signalled s w t names (Some x) ≡ true
    → ObjectBecomes E w t x (taken_object w t x)
taken E s w t names (Section words) g = record { only = refl; ends = refl; holds = (refl, λ n. refl) }
taken E s w t names (Event e) g = record { only = refl; ends = refl; holds = tt }
taken E s w t names (Mutex owner) g = record { only = refl; ends = refl; holds = inr (inr (g, refl)) }
taken E s w t names (Pipe bytes) g = record { only = refl; ends = refl; holds = λ l. l }
taken E s w t names (ProcessObject v) g = record { only = refl; ends = refl; holds = refl }
taken E s w t names (TerminalObject terminal) g = record { only = refl; ends = refl; holds = tt }

-- the first signalled place is signalled
pub first_signalled-is : (s : Win32State) (w t : ℕ) (handles : List Handle) (list : List ℕ) (m n : ℕ)
    → first_signalled s w t handles list m ≡ Some n
    → (k : ℕ) × (n ≡ m + k) × (is_handle_signalled s w t (handle_of handles (slice_index list k)) ≡ true)
first_signalled-is s w t handles [] m n e = absurd (cc)
first_signalled-is s w t handles (h ∷ hs) m n e =
    by_test (is_handle_signalled s w t (handle_of handles h)) refl e (first_signalled-is s w t handles hs (m + 1) n)
  where
    by_test : (b : Bool) → is_handle_signalled s w t (handle_of handles h) ≡ b
        → (if b then Some m else first_signalled s w t handles hs (m + 1)) ≡ Some n
        → (first_signalled s w t handles hs (m + 1) ≡ Some n
        → (k : ℕ) × (n ≡ m + 1 + k) × (is_handle_signalled s w t (handle_of handles (slice_index hs k)) ≡ true))
        → (k : ℕ) × (n ≡ m + k) × (is_handle_signalled s w t (handle_of handles (slice_index (h ∷ hs) k)) ≡ true)
    by_test true f g rest = let i : m ≡ n = cc in (0, omega arith, f)
    by_test false f g rest = let r = rest g in (suc r.0, omega (arith, r.1), r.2)

-- the object at a signalled place is taken
takes_effect : (script : Script) (s : Win32State) (w t : ℕ) (c : Call) (h : ℕ) (x : Object) (new : Win32State)
    → is_handle_signalled s w t (named_by s w h) ≡ true → object_by s w h ≡ Some x
    → new ≡ with_object s (object_number_by s w h) (taken_object w t x) → CallEffect script s w t c new
takes_effect script s w t c h x new signalled e after =
    object_changes script s w t c h x (taken_object w t x) new e (by_answer (named_by s w h) signalled e) after
  where
    by_answer : (o : Option ℕ) → is_handle_signalled s w t o ≡ true → object_at s o ≡ Some x
        → ObjectBecomes (MayExchange c) w t x (taken_object w t x)
    by_answer None g f = absurd (cc)
    by_answer (Some names) g f = taken (MayExchange c) s w t names x (rw f at g)

pub wait_effect : (script : Script) (s : Win32State) (w t : ℕ) (list : List ℕ) (r : Reply) (new : Win32State)
    → WaitStep s w t list r new
    → CallEffect script s w t (call.WaitAny list) new
wait_effect script s w t list r new step =
    by_bool (has_absent (handles_by s w) list) (λ e m. unchanged script s w t (call.WaitAny list) new m.1) (λ e m.
    by_option (first_signalled s w t (handles_by s w) list 0) (λ f m. absurd m) (λ n f m.
    let at = first_signalled-is s w t (handles_by s w) list 0 n f in
    let k : n ≡ at.0 = omega (arith, at.1) in
    by_option (object_by s w (slice_index list n)) (λ g m. absurd m) (λ x g m.
    takes_effect script s w t (call.WaitAny list) (slice_index list n) x new (rw k at.2) g m.1) m) m) step

-- New objects.
pub made_effect : (script : Script) (s : Win32State) (w t : ℕ) (c : Call) (x : Object) (r : Reply) (new : Win32State)
    → IsObject s.processes x
    → ((b : ℕ) (y : Object) (k : ℕ) → object_of s.objects b ≡ Some y → only_number x ≡ Some k → only_number y ≡ Some k
    → ⊥)
    → MakesObject s w x r new → CallEffect script s w t c new
made_effect script s w t c x r new rule only step =
    by_bool (is_full (handles_by s w) 1) (λ e m. unchanged script s w t c new m.1) (λ e m. Adds x rule only e r m) step

pub event_effect : (script : Script) (s : Win32State) (w t : ℕ) (manual signalled : Bool) (r : Reply) (new : Win32State)
    → EventStep s w manual signalled r new → CallEffect script s w t (call.Event manual signalled) new
event_effect script s w t manual signalled r new step =
    made_effect script s w t (call.Event manual signalled) (Event (record { manual = manual; signalled = signalled }))
    r new tt
    (λ b y k e f g. absurd (cc)) step

pub mutex_effect : (script : Script) (s : Win32State) (w t : ℕ) (owned : Bool) (r : Reply) (new : Win32State)
    → is_live (process_of s.processes w) ≡ true → t ≤ 2 → MutexStep s w t owned r new
    → CallEffect script s w t (call.Mutex owned) new
mutex_effect script s w t true r new live few step =
    made_effect script s w t (call.Mutex true) (Mutex (Owned w t)) r new (live, few) (λ b y k e f g. absurd (cc)) step
mutex_effect script s w t false r new live few step =
    made_effect script s w t (call.Mutex false) (Mutex Free) r new tt (λ b y k e f g. absurd (cc)) step

pub pipe_effect : (script : Script) (s : Win32State) (w t : ℕ) (r : Reply) (new : Win32State) → PipeStep s w r new
    → CallEffect script s w t call.Pipe new
pipe_effect script s w t r new step =
    by_bool (is_full (handles_by s w) 2) (λ e m. unchanged script s w t call.Pipe new m.1) (λ e m. AddsPipe e r m) step
