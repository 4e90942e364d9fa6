-- Which slots have other processes after a call.
use Rattle.std.proofs.Common.{◌≡◌, ◌∙◌, ℕ, Bool, List, Option, Some, None, MatchOption, refl, ap}
use Rattle.std.proofs.Common.{[], ◌∷◌, ◌&&◌, not, slice_get, slice_index}
use Rattle.tty_spec.specs.Terminal.{Terminal}
use Rattle.tty_spec.specs.Discipline.{after_take, after_key, has_flag, tostop_flag}
use Rattle.w32_base.specs.declared.call.Call.{Call}
use Rattle.w32_base.specs.declared.call.Call.TheVariants as call
use Rattle.w32_base.specs.declared.call.Reply.{Reply}
use Rattle.w32_base.specs.declared.call.Reply.TheVariants as reply
use Rattle.w32_base.specs.declared.own.Own.{Own}
use Rattle.w32_base.specs.declared.call.TtyOp.{TtyOp}
use Rattle.w32_base.specs.declared.call.TtyOp.TheVariants as tty
use Rattle.script_spec.specs.declared.script.Script.{Script}
use Rattle.win32_spec.specs.Objects.{is_owner}
use Rattle.win32_spec.specs.Regions.{written}
use Rattle.win32_spec.specs.State.{Object, Event, Pipe, ProcessObject, Thread, Process, Win32State}
use Rattle.win32_spec.specs.Lookup.{process_of, is_live, process_in, thread_in, number_of, memory_by, change_process}
use Rattle.win32_spec.specs.Lookup.{change_thread, with_own, with_thread, with_process, with_handles}
use Rattle.win32_spec.specs.Lookup.{with_object, with_new_object}
use Rattle.win32_spec.specs.Ends.{held_objects, swept}
use Rattle.win32_spec.specs.Handles.{Handle, handle_of, with_handle}
use Rattle.win32_spec.specs.Named.{handles_by, named_by, object_by, event_named, mutex_named, process_named}
use Rattle.win32_spec.specs.Named.{terminal_named, has_absent, is_full, Gives, GetsHandle, MakesObject}
use Rattle.win32_spec.specs.Call.{CallStep}
use Rattle.win32_spec.specs.WordCalls.{words_by, after_exchange, after_add}
use Rattle.win32_spec.specs.MemoryCalls.{program_no_by, is_copyable}
use Rattle.win32_spec.specs.Placing.{base_in, placed_by, and_placed}
use Rattle.win32_spec.specs.ProcessCalls.{live_process, process_object, resumed, suspended_more, CountStep}
use Rattle.win32_spec.specs.ObjectCalls.{read_end_by, write_end_by}
use Rattle.win32_spec.specs.HandleCalls.{first_signalled}
use Rattle.win32_spec.specs.TerminalCalls.{with_terminal, is_buffer, is_background, KeyStep, OpStep, ChangeStep}
use Rattle.win32_spec.specs.CallEffects.{by_bool, by_option}
use Rattle.w32_machine.specs.NumberLaws.{SameNumbers, change-numbers, kept-numbers}

-- a call that makes no process and ends none
abbrev pub KeepsProcesses : Call → Type 0
KeepsProcesses (call.Create program_no list) = ⊥
KeepsProcesses (call.Terminate h code) = ⊥
KeepsProcesses (call.ExitSelf code) = ⊥
KeepsProcesses _ = Unit {0}

module _ (s new : Win32State) where
  abbrev Stays : Type 0
  Stays = SameNumbers s.processes new.processes

  -- nothing of the processes is changed
  pub stays : (x : Win32State) → x.processes ≡ s.processes → new ≡ x → Stays
  stays x e f k = ap (λ (n : Win32State). number_of (process_in n.processes k)) f
      ∙ ap (λ ps. number_of (process_in ps k)) e

  -- one process is changed, and keeps its number, its slot and its life
  pub changes : (x : Win32State) (w : ℕ) (f : Process → Process) → ((p : Process) → (f p).number ≡ p.number)
      → ((p : Process) → (f p).slot ≡ p.slot) → ((p : Process) → (f p).life ≡ p.life)
      → x.processes ≡ change_process w f s.processes → new ≡ x → Stays
  changes x w f number slot life e g k = ap (λ (n : Win32State). number_of (process_in n.processes k)) g
      ∙ ap (λ ps. number_of (process_in ps k)) e ∙ change-numbers w f number slot life s.processes k

  pub still : new ≡ s → Stays
  still = stays s refl

  pub owns : (w : ℕ) (own : Own) → new ≡ with_own s w own → Stays
  owns w own = changes (with_own s w own) w (λ p. record p { own = own }) (λ p. refl) (λ p. refl) (λ p. refl) refl

  counts : (w t : ℕ) (f : Thread → Thread) → new ≡ with_thread s w t f → Stays
  counts w t f =
      changes (with_thread s w t f) w (λ p. record p { threads = change_thread t f p.threads }) (λ p. refl)
      (λ p. refl) (λ p. refl) refl

  places : (w m base : ℕ)
      → new ≡ with_process s w (λ p. record p { placed = and_placed p.placed m base }) → Stays
  places w m base =
      changes (with_process s w (λ p. record p { placed = and_placed p.placed m base })) w
      (λ p. record p { placed = and_placed p.placed m base }) (λ p. refl) (λ p. refl) (λ p. refl) refl

  handed : (x : Win32State) → x.processes ≡ s.processes → (w : ℕ) (hs : List Handle) → new ≡ with_handles x w hs
      → Stays
  handed x e w hs =
      changes (with_handles x w hs) w (λ p. record p { handles = hs }) (λ p. refl) (λ p. refl) (λ p. refl)
      (ap (change_process w (λ p. record p { handles = hs })) e)

  closes : (w : ℕ) (hs : List Handle) → new ≡ swept (with_handles s w hs) → Stays
  closes w hs f k =
      ap (λ (n : Win32State). number_of (process_in n.processes k)) f
      ∙ kept-numbers (held_objects (change_process w (λ p. record p { handles = hs }) s.processes) s.objects)
      (change_process w (λ p. record p { handles = hs }) s.processes) k
      ∙ change-numbers w (λ p. record p { handles = hs }) (λ p. refl) (λ p. refl) (λ p. refl) s.processes k

  gets : (w names : ℕ) (r : Reply) → GetsHandle s w names r new → Stays
  gets w names r =
      by_bool (is_full (handles_by s w) 1) (λ e m. still m.1)
      (λ e m. handed s refl w (with_handle (handles_by s w) m.handle names) m.after)

  makes : (w : ℕ) (x : Object) (r : Reply) → MakesObject s w x r new → Stays
  makes w x r =
      by_bool (is_full (handles_by s w) 1) (λ e m. still m.1)
      (λ e m. handed (with_new_object s m.number x) refl w
      (with_handle (handles_by s w) m.handled.handle m.number) m.handled.after)

  counted : (f : ℕ → ℕ) (w h t : ℕ) (r : Reply)
      → MatchOption (process_named (object_by s w h)) (Gives reply.BadHandle s r new) (λ v. CountStep s f v t r new)
      → Stays
  counted f w h t r =
      by_option (process_named (object_by s w h)) (λ e m. still m.1) (λ v e m.
      by_option (live_process s v) (λ e m. still m.1) (λ p e m.
      by_option (thread_in p.threads t) (λ e m. still m.1)
      (λ x e m. counts v t (λ y. record y { suspended = f y.suspended }) m.1) m) m)

  exchanges : (w h i old next : ℕ) (o : Option (List ℕ)) → new ≡ after_exchange s w h o i old next → Stays
  exchanges w h i old next None e = still e
  exchanges w h i old next (Some words) e = stays (after_exchange s w h (Some words) i old next) refl e

  adds : (w h i n : ℕ) (o : Option (List ℕ)) → new ≡ after_add s w h o i n → Stays
  adds w h i n None e = still e
  adds w h i n (Some words) e = stays (after_add s w h (Some words) i n) refl e

  alters : (w h o : ℕ) (x : Object) → new ≡ with_object s o x → Stays
  alters w h o x = stays (with_object s o x) refl

  takes-key : (w h : ℕ) (terminal : Terminal) (keys : List ℕ) (r : Reply) → KeyStep s w h terminal keys r new → Stays
  takes-key w h terminal [] r m = still m.1
  takes-key w h terminal (b ∷ keys) r m =
      stays (record (with_terminal s w h (after_key terminal b).terminal) { keys = keys }) refl m.1

  sets-terminal : (w h : ℕ) (terminal : Terminal) (group : ℕ) (force : Bool) (next : Terminal) (r : Reply)
      → ChangeStep s w h terminal group force next r new → Stays
  sets-terminal w h terminal group force next r =
      by_bool (is_background terminal group && not force) (λ e m. still m.1)
      (λ e m. stays (with_terminal s w h next) refl m.1)

  asks : (w h : ℕ) (terminal : Terminal) (op : TtyOp) (r : Reply) → OpStep s w h terminal op r new → Stays
  asks w h terminal tty.Key r m = takes-key w h terminal s.keys r m
  asks w h terminal (tty.Take group count place) r m =
      by_bool (not (is_buffer (memory_by s w) place count)) (λ e m. still m.1) (λ e m.
      by_bool (is_background terminal group) (λ e m. still m.1) (λ e m.
      by_option (after_take terminal count) (λ e m. still m.1)
      (λ taken e m. changes
      (with_own (with_terminal s w h taken.terminal) w
      (record (memory_by s w) { heap = written (memory_by s w).heap place taken.bytes })) w
      (λ p. record p { own = record (memory_by s w) { heap = written (memory_by s w).heap place taken.bytes } })
      (λ p. refl) (λ p. refl) (λ p. refl) refl m.1) m) m) m
  asks w h terminal (tty.Put group count place force) r m =
      by_bool (not (is_buffer (memory_by s w) place count)) (λ e m. still m.1) (λ e m.
      by_bool (is_background terminal group && (has_flag terminal tostop_flag && not force)) (λ e m. still m.1)
      (λ e m. still m.1) m) m
  asks w h terminal (tty.SetForeground group next force) r m =
      sets-terminal w h terminal group force (record terminal { foreground = next }) r m
  asks w h terminal (tty.Flags group flags force) r m =
      sets-terminal w h terminal group force (record terminal { flags = flags }) r m
  asks w h terminal tty.State r m = still m.1

  -- The call of a thread that makes no process and ends none.
  pub call-numbers : (script : Script) (w t : ℕ) (c : Call) (r : Reply) → KeepsProcesses c
      → CallStep script s w t c r new → Stays
  call-numbers script w t call.Run r keeps m =
      by_option (program_no_by s w) (λ e m. still m.1) (λ n e m. owns w _ m.1) m
  call-numbers script w t (call.Load h i) r keeps m = still m.1
  call-numbers script w t (call.CompareExchange h i old n) r keeps m = exchanges w h i old n (words_by s w h) m.1
  call-numbers script w t (call.FetchAdd h i n) r keeps m = adds w h i n (words_by s w h) m.1
  call-numbers script w t (call.Create program_no list) r keeps m = absurd keeps
  call-numbers script w t (call.Resume h x) r keeps m = counted resumed w h x r m
  call-numbers script w t (call.Suspend h x) r keeps m = counted suspended_more w h x r m
  call-numbers script w t (call.Open v) r keeps m =
      by_option (process_object s.objects v) (λ e m.
      by_bool (is_live (process_of s.processes v)) (λ e m. makes w (ProcessObject v) r m) (λ e m. still m.1) m)
      (λ o e m. gets w o r m) m
  call-numbers script w t (call.ExitCode h) r keeps m =
      by_option (process_named (object_by s w h)) (λ e m. still m.1) (λ v e m. still m.1) m
  call-numbers script w t (call.Terminate h code) r keeps m = absurd keeps
  call-numbers script w t (call.ExitSelf code) r keeps m = absurd keeps
  call-numbers script w t (call.ReadMemory h region place own_region own_place count) r keeps m =
      by_option (process_named (object_by s w h)) (λ e m. still m.1) (λ v e m.
      by_option (live_process s v) (λ e m. still m.1) (λ p e m.
      by_bool (is_copyable p.own region place (memory_by s w) own_region own_place count)
      (λ e m. owns w _ m.1) (λ e m. still m.1) m) m) m
  call-numbers script w t (call.WriteMemory h region place own_region own_place count) r keeps m =
      by_option (process_named (object_by s w h)) (λ e m. still m.1) (λ v e m.
      by_option (live_process s v) (λ e m. still m.1) (λ p e m.
      by_bool (is_copyable p.own region place (memory_by s w) own_region own_place count)
      (λ e m. owns v _ m.1) (λ e m. still m.1) m) m) m
  call-numbers script w t (call.Module x) r keeps m =
      by_option (program_no_by s w) (λ e m. still m.1) (λ n e m.
      by_option (slice_get script.setup.modules x) (λ e m. still m.1) (λ wanted e m.
      by_option (base_in (placed_by s w) x) (λ e m. places w x m.base m.after) (λ base e m. still m.1) m) m) m
  call-numbers script w t (call.Event manual signalled) r keeps m =
      makes w (Event (record { manual = manual; signalled = signalled })) r m
  call-numbers script w t (call.Set h) r keeps m =
      by_option (event_named (object_by s w h)) (λ e m. still m.1) (λ x e m. alters w h _ _ m.1) m
  call-numbers script w t (call.Reset h) r keeps m =
      by_option (event_named (object_by s w h)) (λ e m. still m.1) (λ x e m. alters w h _ _ m.1) m
  call-numbers script w t (call.Mutex owned) r keeps m = makes w _ r m
  call-numbers script w t (call.Release h) r keeps m =
      by_option (mutex_named (object_by s w h)) (λ e m. still m.1) (λ owner e m.
      by_bool (is_owner owner w t) (λ e m. alters w h _ _ m.1) (λ e m. still m.1) m) m
  call-numbers script w t call.Pipe r keeps m =
      by_bool (is_full (handles_by s w) 2) (λ e m. still m.1)
      (λ e m. handed (with_new_object s m.number (Pipe [])) refl w _ m.after) m
  call-numbers script w t (call.Put h b) r keeps m =
      by_option (write_end_by s w h) (λ e m. still m.1) (λ bytes e m. alters w h _ _ m.1) m
  call-numbers script w t (call.Get h) r keeps m =
      by_option (read_end_by s w h) (λ e m. still m.1) (λ bytes e m. alters w h _ _ m.1) m
  call-numbers script w t (call.Dup h n) r keeps m =
      by_option (process_named (object_by s w h)) (λ e m. still m.1) (λ v e m.
      by_option (live_process s v) (λ e m. still m.1) (λ p e m.
      by_option (handle_of p.handles n) (λ e m. still m.1) (λ names e m. gets w names r m) m) m) m
  call-numbers script w t (call.Close h) r keeps m =
      by_option (named_by s w h) (λ e m. still m.1) (λ names e m. closes w _ m.1) m
  call-numbers script w t (call.WaitAny list) r keeps m =
      by_bool (has_absent (handles_by s w) list) (λ e m. still m.1) (λ e m.
      by_option (first_signalled s w t (handles_by s w) list 0) (λ e m. absurd m) (λ n e m.
      by_option (object_by s w (slice_index list n)) (λ e m. absurd m) (λ x e m. alters w n _ _ m.1) m) m) m
  call-numbers script w t (call.Tty h op) r keeps m =
      by_option (terminal_named (object_by s w h)) (λ e m. still m.1) (λ terminal e m. asks w h terminal op r m) m
