-- The console's queue grows by the directive `key` alone, and the next process number by one at most.
use Rattle.std.proofs.Common.{◌≡◌, ℕ, ◌+◌, ◌≤◌, Bool, true, false, List, [], ◌∷◌, ◌++◌, length, slice_get, Option, Some}
use Rattle.std.proofs.Common.{None}
use Rattle.std.proofs.Common.{not, ◌&&◌}
use Rattle.std.proofs.Common.{MatchOption, MatchBool, inl, inr, refl, sym, ap, ◌∙◌, subst, arith}
use Rattle.std.proofs.lemmas.List.{length-append}
use Rattle.w32_base.specs.declared.call.Call.{Call}
use Rattle.w32_base.specs.declared.call.Call.TheVariants as call
use Rattle.w32_base.specs.declared.call.Reply.{Reply}
use Rattle.w32_base.specs.declared.setup.Program.{Program}
use Rattle.w32_base.specs.declared.call.TtyOp.{TtyOp}
use Rattle.w32_base.specs.declared.call.TtyOp.TheVariants as tty
use Rattle.script_spec.specs.declared.script.Script.{Script}
use Rattle.tty_spec.specs.Discipline.{after_take, has_flag, tostop_flag}
use Rattle.tty_spec.specs.Terminal.{Terminal}
use Rattle.win32_spec.specs.State.{Object, Process, Win32State}
use Rattle.win32_spec.specs.Call.{CallStep}
use Rattle.win32_spec.specs.CallEffects.{by_bool, by_option}
use Rattle.win32_spec.specs.HandleCalls.{first_signalled, TakesObject}
use Rattle.win32_spec.specs.Handles.{handle_of}
use Rattle.win32_spec.specs.Lookup.{process_of, is_live, thread_in, memory_by}
use Rattle.win32_spec.specs.MemoryCalls.{program_no_by, is_copyable, BlockStep, code_of}
use Rattle.win32_spec.specs.Named.{Gives, IsHandled, GetsHandle, IsNewObject, MakesObject, object_by, object_number_by}
use Rattle.win32_spec.specs.Named.{named_by, handles_by}
use Rattle.win32_spec.specs.Named.{event_named, mutex_named, process_named, terminal_named, has_absent, is_full}
use Rattle.win32_spec.specs.ObjectCalls.{IsNewPipe, write_end_by, read_end_by}
use Rattle.win32_spec.specs.Placing.{base_in, placed_by, Places}
use Rattle.win32_spec.specs.ProcessCalls.{live_process, process_object, IsMade, MakesIn, CountStep}
use Rattle.win32_spec.specs.TerminalCalls.{KeyStep, OpStep, is_buffer, is_background}
use Rattle.win32_spec.specs.Objects.{is_owner}
use Rattle.win32_spec.specs.WordCalls.{words_by, after_exchange, after_add}

-- the queue after a change is no longer than before it, and the next number is at most one more
pub record GrowsLittle (s new : Win32State) : Type 0 where
  pub keys : length new.keys ≤ length s.keys
  pub next : new.next ≤ s.next + 1

module _ (s new : Win32State) (r : Reply) where
  abbrev Q : Type 0
  Q = GrowsLittle s new

  grown : (after : Win32State) → new ≡ after → length after.keys ≤ length s.keys → after.next ≤ s.next + 1 → Q
  grown after is keys next = subst (λ n. GrowsLittle s n) (sym is) (record { keys = keys; next = next })

  -- both stay
  same : (answer : Reply) (after : Win32State) → after.keys ≡ s.keys → after.next ≡ s.next → Gives answer after r new
      → Q
  same answer after keys next g =
      grown after g.1 (subst (λ k. length k ≤ length s.keys) (sym keys) (omega arith)) (omega (arith, next))

  refused : (answer : Reply) → Gives answer s r new → Q
  refused answer g = same answer s refl refl g

  handled : (before : Win32State) (w names : ℕ) (answer : ℕ → Reply) → before.keys ≡ s.keys → before.next ≤ s.next + 1
      → IsHandled s before w names answer r new → Q
  handled before w names answer keys next h =
      grown _ h.after (subst (λ k. length k ≤ length s.keys) (sym keys) (omega arith)) next

  gets : (w names : ℕ) → GetsHandle s w names r new → Q
  gets w names m = by_bool (is_full (handles_by s w) 1) (λ _ g. refused _ g) (λ _ n. handled s w names _ refl (omega
      arith) n) m

  makes : (w : ℕ) (object : Object) → MakesObject s w object r new → Q
  makes w object m =
      by_bool (is_full (handles_by s w) 1) (λ _ g. refused _ g)
      (λ _ n. handled _ w n.number _ refl (omega arith) n.handled) m

  exchanged_keys : (w h i old n : ℕ) (o : Option (List ℕ)) → (after_exchange s w h o i old n).keys ≡ s.keys
  exchanged_keys w h i old n None = refl
  exchanged_keys w h i old n (Some words) = refl

  exchanged_next : (w h i old n : ℕ) (o : Option (List ℕ)) → (after_exchange s w h o i old n).next ≡ s.next
  exchanged_next w h i old n None = refl
  exchanged_next w h i old n (Some words) = refl

  added_keys : (w h i n : ℕ) (o : Option (List ℕ)) → (after_add s w h o i n).keys ≡ s.keys
  added_keys w h i n None = refl
  added_keys w h i n (Some words) = refl

  added_next : (w h i n : ℕ) (o : Option (List ℕ)) → (after_add s w h o i n).next ≡ s.next
  added_next w h i n None = refl
  added_next w h i n (Some words) = refl

  counted : (f : ℕ → ℕ) (v t : ℕ) → CountStep s f v t r new → Q
  counted f v t m =
      by_option (live_process s v) (λ _ g. refused _ g)
      (λ p _ n. by_option (thread_in p.threads t) (λ _ g. refused _ g) (λ x _ g. same _ _ refl refl g) n) m

  made : (script : Script) (w program_no : ℕ) (program : Program) (list : List ℕ)
      → MakesIn script s w program_no program list r new → Q
  made script w program_no program list m =
      by_bool (is_full (handles_by s w) 1) (λ _ g. refused _ g)
      (λ _ n. handled _ w n.number _ refl (omega arith) n.handled) m.made

  key : (w h : ℕ) (terminal : Terminal) (keys : List ℕ) → length keys ≤ length s.keys
      → KeyStep s w h terminal keys r new
      → Q
  key w h terminal [] few m = refused _ m
  key w h terminal (b ∷ keys) few m = grown _ m.1 (omega (arith, few)) (omega arith)

  asked : (w h : ℕ) (terminal : Terminal) (op : TtyOp) → OpStep s w h terminal op r new → Q
  asked w h terminal tty.Key m = key w h terminal s.keys (omega arith) m
  asked w h terminal (tty.Take group count place) m =
      by_bool (not (is_buffer (memory_by s w) place count)) (λ _ g. refused _ g)
      (λ _ n. by_bool (is_background terminal group) (λ _ g. refused _ g)
      (λ _ k. by_option (after_take terminal count) (λ _ g. refused _ g) (λ taken _ g. same _ _ refl refl g) k) n) m
  asked w h terminal (tty.Put group count place force) m =
      by_bool (not (is_buffer (memory_by s w) place count)) (λ _ g. refused _ g)
      (λ _ n. by_bool (is_background terminal group && (has_flag terminal tostop_flag && not force))
      (λ _ g. refused _ g) (λ _ g. refused _ g) n) m
  asked w h terminal (tty.SetForeground group next force) m =
      by_bool (is_background terminal group && not force) (λ _ g. refused _ g) (λ _ g. same _ _ refl refl g) m
  asked w h terminal (tty.Flags group flags force) m =
      by_bool (is_background terminal group && not force) (λ _ g. refused _ g) (λ _ g. same _ _ refl refl g) m
  asked w h terminal tty.State m = refused _ m

  takes : (w t h n : ℕ) → TakesObject s w t h n r new → Q
  takes w t h n m = by_option (object_by s w h) (λ _ never. absurd never) (λ object _ g. same _ _ refl refl g) m

  -- a call on an object or a process that a handle names
  named_process : (w h : ℕ) {N : Type 0} {S : ℕ → Type 0} → MatchOption (process_named (object_by s w h)) N S → (N → Q)
      → ((v : ℕ) → S v → Q) → Q
  named_process w h m absent present =
      by_option (process_named (object_by s w h)) (λ _ n. absent n) (λ v _ n. present v n) m

-- a call, whatever it is
pub call-grows : (script : Script) (s : Win32State) (w t : ℕ) (c : Call) (r : Reply) (new : Win32State)
    → CallStep script s w t c r new → GrowsLittle s new
call-grows script s w t call.Run r new m =
    by_option (program_no_by s w) (λ _ g. refused s new r _ g) (λ program_no _ g. same s new r _ _ refl refl g) m
call-grows script s w t (call.Load h i) r new m = refused s new r _ m
call-grows script s w t (call.CompareExchange h i old n) r new m =
    same s new r _ _ (exchanged_keys s new r w h i old n (words_by s w h))
    (exchanged_next s new r w h i old n (words_by s w h)) m
call-grows script s w t (call.FetchAdd h i n) r new m =
    same s new r _ _ (added_keys s new r w h i n (words_by s w h)) (added_next s new r w h i n (words_by s w h)) m
call-grows script s w t (call.Create program_no list) r new m =
    by_bool (has_absent (handles_by s w) list) (λ _ g. refused s new r _ g)
    (λ _ n. by_option (slice_get script.setup.programs program_no) (λ _ g. refused s new r _ g)
    (λ program _ k. elim k [
      | inl none ↦ refused s new r _ none.1
      | inr made_in ↦ made s new r script w program_no program list made_in
    ]) n) m
call-grows script s w t (call.Resume h x) r new m =
    named_process s new r w h m (refused s new r _) (λ v n. counted s new r _ v x n)
call-grows script s w t (call.Suspend h x) r new m =
    named_process s new r w h m (refused s new r _) (λ v n. counted s new r _ v x n)
call-grows script s w t (call.Open v) r new m =
    by_option (process_object s.objects v)
    (λ _ n. by_bool (is_live (process_of s.processes v)) (λ _ k. makes s new r w _ k) (λ _ g. refused s new r _ g) n)
    (λ o _ n. gets s new r w o n) m
call-grows script s w t (call.ExitCode h) r new m =
    named_process s new r w h m (refused s new r _) (λ v n. refused s new r _ n)
call-grows script s w t (call.Terminate h code) r new m =
    named_process s new r w h m (refused s new r _)
    (λ v n. by_bool (is_live (process_of s.processes v)) (λ _ g. same s new r _ _ refl refl g)
    (λ _ g. refused s new r _ g) n)
call-grows script s w t (call.ExitSelf code) r new m = same s new r _ _ refl refl m
call-grows script s w t (call.ReadMemory h region place own_region own_place count) r new m =
    named_process s new r w h m (refused s new r _)
    (λ v n. by_option (live_process s v) (λ _ g. refused s new r _ g)
    (λ p _ k. by_bool (is_copyable p.own region place (memory_by s w) own_region own_place count)
    (λ _ g. same s new r _ _ refl refl g) (λ _ g. refused s new r _ g) k) n)
call-grows script s w t (call.WriteMemory h region place own_region own_place count) r new m =
    named_process s new r w h m (refused s new r _)
    (λ v n. by_option (live_process s v) (λ _ g. refused s new r _ g)
    (λ p _ k. by_bool (is_copyable p.own region place (memory_by s w) own_region own_place count)
    (λ _ g. same s new r _ _ refl refl g) (λ _ g. refused s new r _ g) k) n)
call-grows script s w t (call.Module x) r new m =
    by_option (program_no_by s w) (λ _ g. refused s new r _ g)
    (λ program_no _ n. by_option (slice_get script.setup.modules x) (λ _ g. refused s new r _ g)
    (λ wanted _ k. by_option (base_in (placed_by s w) x)
    (λ _ p. grown s new r _ p.after (omega arith) (omega arith)) (λ base _ g. refused s new r _ g) k) n) m
call-grows script s w t (call.Event manual signalled) r new m = makes s new r w _ m
call-grows script s w t (call.Set h) r new m =
    by_option (event_named (object_by s w h)) (λ _ g. refused s new r _ g) (λ e _ g. same s new r _ _ refl refl g) m
call-grows script s w t (call.Reset h) r new m =
    by_option (event_named (object_by s w h)) (λ _ g. refused s new r _ g) (λ e _ g. same s new r _ _ refl refl g) m
call-grows script s w t (call.Mutex owned) r new m = makes s new r w _ m
call-grows script s w t (call.Release h) r new m =
    by_option (mutex_named (object_by s w h)) (λ _ g. refused s new r _ g)
    (λ owner _ n. by_bool (is_owner owner w t) (λ _ g. same s new r _ _ refl refl g) (λ _ g. refused s new r _ g) n) m
call-grows script s w t call.Pipe r new m =
    by_bool (is_full (handles_by s w) 2) (λ _ g. refused s new r _ g)
    (λ _ p. grown s new r _ p.after (omega arith) (omega arith)) m
call-grows script s w t (call.Put h b) r new m =
    by_option (write_end_by s w h) (λ _ g. refused s new r _ g) (λ bytes _ g. same s new r _ _ refl refl g) m
call-grows script s w t (call.Get h) r new m =
    by_option (read_end_by s w h) (λ _ g. refused s new r _ g) (λ bytes _ g. same s new r _ _ refl refl g) m
call-grows script s w t (call.Dup h n) r new m =
    named_process s new r w h m (refused s new r _)
    (λ v k. by_option (live_process s v) (λ _ g. refused s new r _ g)
    (λ p _ j. by_option (handle_of p.handles n) (λ _ g. refused s new r _ g) (λ names _ g. gets s new r w names g) j) k)
call-grows script s w t (call.Close h) r new m =
    by_option (named_by s w h) (λ _ g. refused s new r _ g) (λ names _ g. same s new r _ _ refl refl g) m
call-grows script s w t (call.WaitAny list) r new m =
    by_bool (has_absent (handles_by s w) list) (λ _ g. refused s new r _ g)
    (λ _ n. by_option (first_signalled s w t (handles_by s w) list 0) (λ _ never. absurd never)
    (λ k _ g. takes s new r w t _ k g) n) m
call-grows script s w t (call.Tty h op) r new m =
    by_option (terminal_named (object_by s w h)) (λ _ g. refused s new r _ g)
    (λ terminal _ n. asked s new r w h terminal op n) m
