-- A handle that a call answers as a new one was free before.
use Rattle.std.proofs.Common.{◌≡◌, inl, inr, ℕ, Bool, true, false, not, ◌&&◌, nat_eq, nat_lt, if◌then◌else◌, List, []}
use Rattle.std.proofs.Common.{◌∷◌, length, Option, Some, None, slice_get, slice_index, refl, sym, ap, ◌∙◌, subst}
use Rattle.std.proofs.lemmas.Bool.{cases_eq, eqb-true}
use Rattle.w32_base.specs.declared.call.Call.{Call}
use Rattle.w32_base.specs.declared.call.Call.TheVariants as call
use Rattle.w32_base.specs.declared.call.Reply.{Reply}
use Rattle.w32_base.specs.declared.call.Reply.TheVariants as reply
use Rattle.w32_base.specs.declared.call.TtyOp.{TtyOp}
use Rattle.w32_base.specs.declared.call.TtyOp.TheVariants as tty
use Rattle.script_spec.specs.declared.script.Script.{Script}
use Rattle.tty_spec.specs.Terminal.{Terminal}
use Rattle.tty_spec.specs.Discipline.{has_flag, tostop_flag, after_take}
use Rattle.win32_spec.specs.Call.{CallStep}
use Rattle.win32_spec.specs.CallEffects.{by_bool, by_option}
use Rattle.win32_spec.specs.HandleCalls.{first_signalled, woken_reply, is_abandoned_object}
use Rattle.win32_spec.specs.HandleLaws.{handle_of-with_same, handle_of-with_other}
use Rattle.win32_spec.specs.Handles.{handle_of, with_handle}
use Rattle.win32_spec.specs.Lookup.{process_of, is_live, thread_in, memory_by}
use Rattle.win32_spec.specs.LookupLaws.{or_true, not_none}
use Rattle.win32_spec.specs.MemoryCalls.{program_no_by, is_copyable}
use Rattle.win32_spec.specs.Named.{handles_by, named_by, object_by, event_named, mutex_named, process_named}
use Rattle.win32_spec.specs.Named.{terminal_named, is_full, has_absent, IsHandled, GetsHandle, MakesObject}
use Rattle.win32_spec.specs.ObjectCalls.{IsNewPipe, read_end_by, write_end_by, pipe_by}
use Rattle.win32_spec.specs.Objects.{is_owner, PipeState, put_reply, get_reply}
use Rattle.win32_spec.specs.Placing.{base_in, placed_by}
use Rattle.win32_spec.specs.ProcessCalls.{live_process, CountStep, code_reply, life_reply, process_object}
use Rattle.win32_spec.specs.State.{Object, Life, Alive, Ended, Process, Win32State}
use Rattle.win32_spec.specs.TerminalCalls.{KeyStep, OpStep, ChangeStep, is_buffer, is_background}
use Rattle.win32_spec.specs.WordCalls.{words_by, word_reply}
use Rattle.world_spec.specs.Made.{is_new_handle}

-- a reply that tells no new handle
abbrev TellsNone : Reply → Type 0
TellsNone r = (k : ℕ) → is_new_handle r k ≡ false

word_tells : (o : Option (List ℕ)) (i : ℕ) → TellsNone (word_reply o i)
word_tells None i k = refl
word_tells (Some words) i k = by_test (nat_lt i (length words))
  where
    by_test : (a : Bool)
        → is_new_handle (if a then reply.Word (slice_index words i) else reply.BadIndex) k ≡ false
    by_test true = refl
    by_test false = refl

code_tells : (o : Option Process) → TellsNone (code_reply o)
code_tells None k = refl
code_tells (Some p) k = by_life p.life
  where
    by_life : (life : Life) → is_new_handle (life_reply life) k ≡ false
    by_life Alive = refl
    by_life (Ended code) = refl

put_tells : (p : PipeState) → TellsNone (put_reply p)
put_tells p k = by_tests (nat_eq p.readers 0) (nat_lt (length p.bytes) 64)
  where
    by_tests : (a b : Bool)
        → is_new_handle (if a then reply.NoReader else if b then reply.Done else reply.Full) k ≡ false
    by_tests true b = refl
    by_tests false true = refl
    by_tests false false = refl

get_tells : (bytes : List ℕ) (writers : ℕ) → TellsNone (get_reply bytes writers)
get_tells [] writers k = by_test (nat_eq writers 0)
  where
    by_test : (a : Bool) → is_new_handle (if a then reply.Broken else reply.Empty) k ≡ false
    by_test true = refl
    by_test false = refl
get_tells (b ∷ bs) writers k = refl

woken_tells : (x : Object) (n : ℕ) → TellsNone (woken_reply x n)
woken_tells x n k = by_test (is_abandoned_object x)
  where
    by_test : (a : Bool) → is_new_handle (if a then reply.Abandoned n else reply.Woke n) k ≡ false
    by_test true = refl
    by_test false = refl

module _ (script : Script) (s : Win32State) (w t : ℕ) (r : Reply) (new : Win32State) where
  -- each handle that the reply tells as a new one was free
  abbrev pub WasFree : Type 0
  WasFree = (k : ℕ) → is_new_handle r k ≡ true → named_by s w k ≡ None

  quiet : (answer : Reply) → r ≡ answer → TellsNone answer → WasFree
  quiet answer e none k told = absurd (let f : true ≡ false = sym told ∙ (ap (λ x. is_new_handle x k) e ∙ none k) in cc)

  one : (h k : ℕ) → nat_eq h k ≡ true → named_by s w h ≡ None → named_by s w k ≡ None
  one h k e free = subst (λ j. named_by s w j ≡ None) (eqb-true h k e) free

  given : (before : Win32State) (names : ℕ) → IsHandled s before w names reply.Handle r new → WasFree
  given before names g k told =
      one g.handle k (ap (λ x. is_new_handle x k) (sym g.answered) ∙ told) g.lowest.free

  gets : (names : ℕ) → GetsHandle s w names r new → WasFree
  gets names step =
      by_bool (is_full (handles_by s w) 1) (λ e g. quiet reply.TableFull g.0 (λ k. refl)) (λ e g. given s names g) step

  makes : (x : Object) → MakesObject s w x r new → WasFree
  makes x step =
      by_bool (is_full (handles_by s w) 1) (λ e g. quiet reply.TableFull g.0 (λ k. refl))
      (λ e g. given _ g.number g.handled) step

  piped : IsNewPipe s w r new → WasFree
  piped p k told = elim (or_true (nat_eq p.read_end k) (nat_eq p.write_end k)
      (ap (λ x. is_new_handle x k) (sym p.answered) ∙ told)) [
        | inl e ↦ one p.read_end k e p.lowest.free
        | inr e ↦ one p.write_end k e (elim (cases_eq p.write_end p.read_end) [
          | inl n ↦ absurd (not_none (handle_of (with_handle (handles_by s w) p.read_end p.number) p.write_end) p.number
              (ap (handle_of (with_handle (handles_by s w) p.read_end p.number)) n
              ∙ handle_of-with_same (handles_by s w) p.read_end p.number p.lowest.free) p.next_lowest.free)
          | inr d ↦ sym (handle_of-with_other (handles_by s w) p.read_end p.number p.write_end d) ∙ p.next_lowest.free
        ])
      ]

  counts : (f : ℕ → ℕ) (v x : ℕ) → CountStep s f v x r new → WasFree
  counts f v x step =
      by_option (live_process s v) (λ e g. quiet reply.Gone g.0 (λ k. refl)) (λ p e m.
      by_option (thread_in p.threads x) (λ e g. quiet reply.BadIndex g.0 (λ k. refl))
      (λ y d g. quiet (reply.Count y.suspended) g.0 (λ k. refl)) m) step

  changes : (h : ℕ) (terminal : Terminal) (group : ℕ) (force : Bool) (changed : Terminal)
      → ChangeStep s w h terminal group force changed r new → WasFree
  changes h terminal group force changed step =
      by_bool (is_background terminal group && not force) (λ e g. quiet reply.Background g.0 (λ k. refl))
      (λ e g. quiet reply.Done g.0 (λ k. refl)) step

  keys : (h : ℕ) (terminal : Terminal) (ks : List ℕ) → KeyStep s w h terminal ks r new → WasFree
  keys h terminal [] g = quiet reply.NoKey g.0 (λ k. refl)
  keys h terminal (b ∷ ks) g = quiet _ g.0 (λ k. refl)

  operates : (h : ℕ) (terminal : Terminal) (op : TtyOp) → OpStep s w h terminal op r new → WasFree
  operates h terminal tty.Key step = keys h terminal s.keys step
  operates h terminal (tty.Take group count place) step =
      by_bool (not (is_buffer (memory_by s w) place count)) (λ e g. quiet reply.BadRange g.0 (λ k. refl)) (λ e m.
      by_bool (is_background terminal group) (λ e g. quiet reply.Background g.0 (λ k. refl)) (λ e m.
      by_option (after_take terminal count) (λ e g. quiet reply.NoLine g.0 (λ k. refl))
      (λ taken e g. quiet (reply.Line (length taken.bytes)) g.0 (λ k. refl)) m) m) step
  operates h terminal (tty.Put group count place force) step =
      by_bool (not (is_buffer (memory_by s w) place count)) (λ e g. quiet reply.BadRange g.0 (λ k. refl)) (λ e m.
      by_bool (is_background terminal group && (has_flag terminal tostop_flag && not force))
      (λ e g. quiet reply.Background g.0 (λ k. refl))
      (λ e g. quiet (reply.Written count) g.0 (λ k. refl)) m) step
  operates h terminal (tty.SetForeground group next force) step = changes h terminal group force _ step
  operates h terminal (tty.Flags group flags force) step = changes h terminal group force _ step
  operates h terminal tty.State g = quiet _ g.0 (λ k. refl)

  -- So it is with each call.
  pub answered-free : (c : Call) → CallStep script s w t c r new → WasFree
  answered-free call.Run step =
      by_option (program_no_by s w) (λ e g. quiet (reply.Ran 0) g.0 (λ k. refl)) (λ p e g. quiet _ g.0 (λ k. refl)) step
  answered-free (call.Load h i) g = quiet (word_reply (words_by s w h) i) g.0 (word_tells (words_by s w h) i)
  answered-free (call.CompareExchange h i old n) g =
      quiet (word_reply (words_by s w h) i) g.0 (word_tells (words_by s w h) i)
  answered-free (call.FetchAdd h i n) g = quiet (word_reply (words_by s w h) i) g.0 (word_tells (words_by s w h) i)
  answered-free (call.Create program_no list) step =
      by_bool (has_absent (handles_by s w) list) (λ e g. quiet reply.BadHandle g.0 (λ k. refl)) (λ e m.
      by_option (slice_get script.setup.programs program_no) (λ e g. quiet reply.BadIndex g.0 (λ k. refl)) (λ p e m.
      elim m [
        | inl none ↦ quiet reply.NoSlot none.1.0 (λ k. refl)
        | inr m ↦ by_bool (is_full (handles_by s w) 1) (λ e g. quiet reply.TableFull g.0 (λ k. refl))
            (λ e g k told. one g.handled.handle k (ap (λ x. is_new_handle x k) (sym g.handled.answered) ∙ told)
            g.handled.lowest.free) m.made
      ]) m) step
  answered-free (call.Resume h x) step =
      by_option (process_named (object_by s w h)) (λ e g. quiet reply.BadHandle g.0 (λ k. refl))
      (λ v e m. counts _ v x m) step
  answered-free (call.Suspend h x) step =
      by_option (process_named (object_by s w h)) (λ e g. quiet reply.BadHandle g.0 (λ k. refl))
      (λ v e m. counts _ v x m) step
  answered-free (call.Open v) step =
      by_option (process_object s.objects v) (λ e m.
      by_bool (is_live (process_of s.processes v)) (λ e m. makes _ m)
      (λ e g. quiet reply.Unknown g.0 (λ k. refl)) m) (λ o e m. gets o m) step
  answered-free (call.ExitCode h) step =
      by_option (process_named (object_by s w h)) (λ e g. quiet reply.BadHandle g.0 (λ k. refl))
      (λ v e g. quiet (code_reply (process_of s.processes v)) g.0 (code_tells (process_of s.processes v))) step
  answered-free (call.Terminate h code) step =
      by_option (process_named (object_by s w h)) (λ e g. quiet reply.BadHandle g.0 (λ k. refl)) (λ v e m.
      by_bool (is_live (process_of s.processes v)) (λ e g. quiet reply.Done g.0 (λ k. refl))
      (λ e g. quiet reply.Gone g.0 (λ k. refl)) m) step
  answered-free (call.ExitSelf code) g = quiet reply.Done g.0 (λ k. refl)
  answered-free (call.ReadMemory h region place own_region own_place count) step =
      by_option (process_named (object_by s w h)) (λ e g. quiet reply.BadHandle g.0 (λ k. refl)) (λ v e m.
      by_option (live_process s v) (λ e g. quiet reply.Gone g.0 (λ k. refl)) (λ p e m.
      by_bool (is_copyable p.own region place (memory_by s w) own_region own_place count)
      (λ e g. quiet reply.Done g.0 (λ k. refl)) (λ e g. quiet reply.BadRange g.0 (λ k. refl)) m) m) step
  answered-free (call.WriteMemory h region place own_region own_place count) step =
      by_option (process_named (object_by s w h)) (λ e g. quiet reply.BadHandle g.0 (λ k. refl)) (λ v e m.
      by_option (live_process s v) (λ e g. quiet reply.Gone g.0 (λ k. refl)) (λ p e m.
      by_bool (is_copyable p.own region place (memory_by s w) own_region own_place count)
      (λ e g. quiet reply.Done g.0 (λ k. refl)) (λ e g. quiet reply.BadRange g.0 (λ k. refl)) m) m) step
  answered-free (call.Module m) step =
      by_option (program_no_by s w) (λ e g. quiet reply.BadIndex g.0 (λ k. refl)) (λ p e m1.
      by_option (slice_get script.setup.modules m) (λ e g. quiet reply.BadIndex g.0 (λ k. refl)) (λ wanted e m2.
      by_option (base_in (placed_by s w) m) (λ e p. quiet (reply.Base p.base) p.answered (λ k. refl))
      (λ base e g. quiet (reply.Base base) g.0 (λ k. refl)) m2) m1) step
  answered-free (call.Event manual signalled) step = makes _ step
  answered-free (call.Set h) step =
      by_option (event_named (object_by s w h)) (λ e g. quiet reply.BadHandle g.0 (λ k. refl))
      (λ x e g. quiet reply.Done g.0 (λ k. refl)) step
  answered-free (call.Reset h) step =
      by_option (event_named (object_by s w h)) (λ e g. quiet reply.BadHandle g.0 (λ k. refl))
      (λ x e g. quiet reply.Done g.0 (λ k. refl)) step
  answered-free (call.Mutex owned) step = makes _ step
  answered-free (call.Release h) step =
      by_option (mutex_named (object_by s w h)) (λ e g. quiet reply.BadHandle g.0 (λ k. refl)) (λ owner e m.
      by_bool (is_owner owner w t) (λ e g. quiet reply.Done g.0 (λ k. refl))
      (λ e g. quiet reply.NotOwner g.0 (λ k. refl)) m) step
  answered-free call.Pipe step =
      by_bool (is_full (handles_by s w) 2) (λ e g. quiet reply.TableFull g.0 (λ k. refl)) (λ e p. piped p) step
  answered-free (call.Put h b) step =
      by_option (write_end_by s w h) (λ e g. quiet reply.BadHandle g.0 (λ k. refl))
      (λ bytes e g. quiet (put_reply (pipe_by s w h bytes)) g.0 (put_tells (pipe_by s w h bytes))) step
  answered-free (call.Get h) step =
      by_option (read_end_by s w h) (λ e g. quiet reply.BadHandle g.0 (λ k. refl))
      (λ bytes e g. quiet (get_reply bytes (pipe_by s w h bytes).writers) g.0
      (get_tells bytes (pipe_by s w h bytes).writers)) step
  answered-free (call.Dup h n) step =
      by_option (process_named (object_by s w h)) (λ e g. quiet reply.BadHandle g.0 (λ k. refl)) (λ v e m.
      by_option (live_process s v) (λ e g. quiet reply.Gone g.0 (λ k. refl)) (λ p e m.
      by_option (handle_of p.handles n) (λ e g. quiet reply.BadHandle g.0 (λ k. refl)) (λ names e m. gets names m) m) m)
      step
  answered-free (call.Close h) step =
      by_option (named_by s w h) (λ e g. quiet reply.BadHandle g.0 (λ k. refl))
      (λ names e g. quiet reply.Done g.0 (λ k. refl)) step
  answered-free (call.WaitAny list) step =
      by_bool (has_absent (handles_by s w) list) (λ e g. quiet reply.BadHandle g.0 (λ k. refl)) (λ e m.
      by_option (first_signalled s w t (handles_by s w) list 0) (λ e never. absurd never) (λ n e m.
      by_option (object_by s w (slice_index list n)) (λ e never. absurd never)
      (λ x e g. quiet (woken_reply x n) g.0 (woken_tells x n)) m) m) step
  answered-free (call.Tty h op) step =
      by_option (terminal_named (object_by s w h)) (λ e g. quiet reply.BadHandle g.0 (λ k. refl))
      (λ terminal e m. operates h terminal op m) step
