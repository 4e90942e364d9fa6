-- Only a `create` gives a number to a process. So only a `create` makes a process alive.
use Rattle.std.proofs.Common.{◌≡◌, ℕ, ◌<◌, Bool, true, false, not, ◌&&◌, List, [], ◌∷◌, Option, Some, None, slice_get}
use Rattle.std.proofs.Common.{slice_index, refl, sym, ap, ◌∙◌, arith}
use Rattle.tty_spec.specs.Discipline.{after_take, has_flag, tostop_flag}
use Rattle.tty_spec.specs.Terminal.{Terminal}
use Rattle.w32_base.specs.declared.call.Call.{Call}
use Rattle.w32_base.specs.declared.call.Call.TheVariants as call
use Rattle.w32_base.specs.declared.call.Reply.{Reply}
use Rattle.w32_base.specs.declared.call.TtyOp.{TtyOp}
use Rattle.w32_base.specs.declared.call.TtyOp.TheVariants as tty
use Rattle.w32_base.specs.declared.entry.Directive.{Directive}
use Rattle.w32_base.specs.declared.entry.Directive.TheVariants as directive
use Rattle.w32_base.specs.declared.entry.Outcome.{Outcome}
use Rattle.script_spec.specs.declared.script.Script.{Script}
use Rattle.win32_spec.specs.Call.{CallStep}
use Rattle.win32_spec.specs.CallEffects.{by_bool, by_option}
use Rattle.win32_spec.specs.FormedLaws.{live_found}
use Rattle.win32_spec.specs.HandleCalls.{first_signalled}
use Rattle.win32_spec.specs.Handles.{handle_of}
use Rattle.win32_spec.specs.Lookup.{is_live, memory_by, process_in, process_of, thread_in}
use Rattle.win32_spec.specs.LookupLaws.{rising-bounds}
use Rattle.win32_spec.specs.MemoryCalls.{is_copyable, program_no_by}
use Rattle.win32_spec.specs.MemoryEffects.{HaveRegisters}
use Rattle.win32_spec.specs.Named.{event_named, handles_by, has_absent, is_full, mutex_named, named_by, object_by}
use Rattle.win32_spec.specs.Named.{process_named, terminal_named, GetsHandle, MakesObject}
use Rattle.win32_spec.specs.ObjectCalls.{read_end_by, write_end_by}
use Rattle.win32_spec.specs.Objects.{is_owner}
use Rattle.win32_spec.specs.Placing.{base_in, placed_by}
use Rattle.win32_spec.specs.ProcessCalls.{live_process, process_object, resumed, suspended_more, CountStep}
use Rattle.win32_spec.specs.Ready.{is_ready}
use Rattle.win32_spec.specs.Run.{EndStep, StepBy}
use Rattle.win32_spec.specs.State.{Object, Process, Win32State}
use Rattle.win32_spec.specs.StepFacts.{dead-step}
use Rattle.win32_spec.specs.StepLaws.{wellformed-step}
use Rattle.win32_spec.specs.TerminalCalls.{is_background, is_buffer, KeyStep, OpStep}
use Rattle.win32_spec.specs.WellFormed.{IsWellFormed}
use Rattle.win32_spec.specs.WordCalls.{after_add, after_exchange, words_by}
use Rattle.layer_spec.specs.Discipline.{is_create}
use Rattle.layer_spec.specs.Turns.{is_live_process}

module _ (script : Script) (s : Win32State) (w t : ℕ) (r : Reply) (new : Win32State) where
  abbrev Stays : Type 0
  Stays = new.next ≡ s.next

  given : (x : Win32State) → new ≡ x → x.next ≡ s.next → Stays
  given x e k = ap (λ (n : Win32State). n.next) e ∙ k

  gets : (names : ℕ) → GetsHandle s w names r new → Stays
  gets names m = by_bool (is_full (handles_by s w) 1) (λ e k. given _ k.1 refl) (λ e k. given _ k.after refl) m

  makes : (object : Object) → MakesObject s w object r new → Stays
  makes object m =
      by_bool (is_full (handles_by s w) 1) (λ e k. given _ k.1 refl) (λ e k. given _ k.handled.after refl) m

  counts : (f : ℕ → ℕ) (v x : ℕ) → CountStep s f v x r new → Stays
  counts f v x m = by_option (live_process s v) (λ e k. given _ k.1 refl) (λ p e k.
      by_option (thread_in p.threads x) (λ e k. given _ k.1 refl) (λ y e k. given _ k.1 refl) k) m

  exchanges : (h i old n : ℕ) (o : Option (List ℕ)) → new ≡ after_exchange s w h o i old n → Stays
  exchanges h i old n None e = given _ e refl
  exchanges h i old n (Some words) e = given _ e refl

  adds : (h i n : ℕ) (o : Option (List ℕ)) → new ≡ after_add s w h o i n → Stays
  adds h i n None e = given _ e refl
  adds h i n (Some words) e = given _ e refl

  keyed : (h : ℕ) (terminal : Terminal) (keys : List ℕ) → KeyStep s w h terminal keys r new → Stays
  keyed h terminal [] m = given _ m.1 refl
  keyed h terminal (b ∷ keys) m = given _ m.1 refl

  op : (h : ℕ) (terminal : Terminal) (o : TtyOp) → OpStep s w h terminal o r new → Stays
  op h terminal tty.Key m = keyed h terminal s.keys m
  op h terminal (tty.Take group count place) m =
      by_bool (not (is_buffer (memory_by s w) place count)) (λ e k. given _ k.1 refl) (λ e k.
      by_bool (is_background terminal group) (λ e k. given _ k.1 refl) (λ e k.
      by_option (after_take terminal count) (λ e k. given _ k.1 refl) (λ taken e k. given _ k.1 refl) k) k) m
  op h terminal (tty.Put group count place force) m =
      by_bool (not (is_buffer (memory_by s w) place count)) (λ e k. given _ k.1 refl) (λ e k.
      by_bool (is_background terminal group && (has_flag terminal tostop_flag && not force))
      (λ e k. given _ k.1 refl) (λ e k. given _ k.1 refl) k) m
  op h terminal (tty.SetForeground group next force) m =
      by_bool (is_background terminal group && not force) (λ e k. given _ k.1 refl) (λ e k. given _ k.1 refl) m
  op h terminal (tty.Flags group flags force) m =
      by_bool (is_background terminal group && not force) (λ e k. given _ k.1 refl) (λ e k. given _ k.1 refl) m
  op h terminal tty.State m = given _ m.1 refl

  -- Each call but a `create` leaves the next number as it is.
  pub next-call : (c : Call) → is_create (Some c) ≡ false → CallStep script s w t c r new → Stays
  next-call call.Run is m =
      by_option (program_no_by s w) (λ e k. given _ k.1 refl) (λ p e k. given _ k.1 refl) m
  next-call (call.Load h i) is m = given _ m.1 refl
  next-call (call.CompareExchange h i old n) is m = exchanges h i old n (words_by s w h) m.1
  next-call (call.FetchAdd h i n) is m = adds h i n (words_by s w h) m.1
  next-call (call.Create program_no list) is m = absurd (cc)
  next-call (call.Resume h x) is m =
      by_option (process_named (object_by s w h)) (λ e k. given _ k.1 refl) (λ v e k. counts resumed v x k) m
  next-call (call.Suspend h x) is m =
      by_option (process_named (object_by s w h)) (λ e k. given _ k.1 refl) (λ v e k. counts suspended_more v x k) m
  next-call (call.Open v) is m =
      by_option (process_object s.objects v) (λ e k. by_bool (is_live (process_of s.processes v)) (λ e k. makes _ k)
      (λ e k. given _ k.1 refl) k) (λ o e k. gets o k) m
  next-call (call.ExitCode h) is m =
      by_option (process_named (object_by s w h)) (λ e k. given _ k.1 refl) (λ v e k. given _ k.1 refl) m
  next-call (call.Terminate h code) is m =
      by_option (process_named (object_by s w h)) (λ e k. given _ k.1 refl) (λ v e k.
      by_bool (is_live (process_of s.processes v)) (λ e k. given _ k.1 refl) (λ e k. given _ k.1 refl) k) m
  next-call (call.ExitSelf code) is m = given _ m.1 refl
  next-call (call.ReadMemory h region place own_region own_place count) is m =
      by_option (process_named (object_by s w h)) (λ e k. given _ k.1 refl) (λ v e k.
      by_option (live_process s v) (λ e k. given _ k.1 refl) (λ p e k.
      by_bool (is_copyable p.own region place (memory_by s w) own_region own_place count) (λ e k. given _ k.1 refl)
      (λ e k. given _ k.1 refl) k) k) m
  next-call (call.WriteMemory h region place own_region own_place count) is m =
      by_option (process_named (object_by s w h)) (λ e k. given _ k.1 refl) (λ v e k.
      by_option (live_process s v) (λ e k. given _ k.1 refl) (λ p e k.
      by_bool (is_copyable p.own region place (memory_by s w) own_region own_place count) (λ e k. given _ k.1 refl)
      (λ e k. given _ k.1 refl) k) k) m
  next-call (call.Module n) is m =
      by_option (program_no_by s w) (λ e k. given _ k.1 refl) (λ p e k.
      by_option (slice_get script.setup.modules n) (λ e k. given _ k.1 refl) (λ wanted e k.
      by_option (base_in (placed_by s w) n) (λ e k. given _ k.after refl) (λ base e k. given _ k.1 refl) k) k) m
  next-call (call.Event manual signalled) is m = makes _ m
  next-call (call.Set h) is m =
      by_option (event_named (object_by s w h)) (λ e k. given _ k.1 refl) (λ x e k. given _ k.1 refl) m
  next-call (call.Reset h) is m =
      by_option (event_named (object_by s w h)) (λ e k. given _ k.1 refl) (λ x e k. given _ k.1 refl) m
  next-call (call.Mutex owned) is m = makes _ m
  next-call (call.Release h) is m =
      by_option (mutex_named (object_by s w h)) (λ e k. given _ k.1 refl) (λ owner e k.
      by_bool (is_owner owner w t) (λ e k. given _ k.1 refl) (λ e k. given _ k.1 refl) k) m
  next-call call.Pipe is m =
      by_bool (is_full (handles_by s w) 2) (λ e k. given _ k.1 refl) (λ e k. given _ k.after refl) m
  next-call (call.Put h b) is m =
      by_option (write_end_by s w h) (λ e k. given _ k.1 refl) (λ bytes e k. given _ k.1 refl) m
  next-call (call.Get h) is m =
      by_option (read_end_by s w h) (λ e k. given _ k.1 refl) (λ bytes e k. given _ k.1 refl) m
  next-call (call.Dup h n) is m =
      by_option (process_named (object_by s w h)) (λ e k. given _ k.1 refl) (λ v e k.
      by_option (live_process s v) (λ e k. given _ k.1 refl) (λ p e k.
      by_option (handle_of p.handles n) (λ e k. given _ k.1 refl) (λ names e k. gets names k) k) k) m
  next-call (call.Close h) is m =
      by_option (named_by s w h) (λ e k. given _ k.1 refl) (λ names e k. given _ k.1 refl) m
  next-call (call.WaitAny list) is m =
      by_bool (has_absent (handles_by s w) list) (λ e k. given _ k.1 refl) (λ e k.
      by_option (first_signalled s w t (handles_by s w) list 0) (λ e k. absurd k) (λ n e k.
      by_option (object_by s w (slice_index list n)) (λ e k. absurd k) (λ object e k. given _ k.1 refl) k) k) m
  next-call (call.Tty h o) is m =
      by_option (terminal_named (object_by s w h)) (λ e k. given _ k.1 refl) (λ terminal e k. op h terminal o k) m

-- So does each step in which no `create` is carried out.
pub next-stays : (script : Script) (s : Win32State) (d : Directive) (called : Option Call) (came : Outcome)
    (new : Win32State) → is_create called ≡ false → StepBy script s d called came new → new.next ≡ s.next
next-stays script s (directive.Turn slot t) called came new none step =
    by_bool (is_ready s slot t) (λ ready turn.
    let mid = next-call script s turn.process.number t turn.reply turn.mid turn.thread.posted
    (ap is_create (sym turn.carried_out) ∙ none) turn.posted.step in
    by_bool (is_live (process_of turn.mid.processes turn.process.number))
    (λ lives acts. ap (λ (n : Win32State). n.next) acts.after ∙ mid)
    (λ dies same. ap (λ (n : Win32State). n.next) same ∙ mid) turn.goes_on)
    (λ waits idle. ap (λ (n : Win32State). n.next) idle.2) step
next-stays script s (directive.End slot) called came new none step =
    by_answer (process_in s.processes slot) step.1
  where
    by_answer : (o : Option Process) → EndStep s o came new → new.next ≡ s.next
    by_answer None m = ap (λ (n : Win32State). n.next) m.1
    by_answer (Some p) m = ap (λ (n : Win32State). n.next) m.1
next-stays script s (directive.Key b) called came new none step = ap (λ (n : Win32State). n.next) step.2

-- A process that is alive after a step and wasn't before comes of a `create`.
pub alive-made : (script : Script) (s : Win32State) (d : Directive) (called : Option Call) (came : Outcome)
    (new : Win32State) → HaveRegisters script → IsWellFormed script s → StepBy script s d called came new → (v : ℕ)
    → is_live_process s v ≡ false → is_live_process new v ≡ true → is_create called ≡ true
alive-made script s d called came new registers h step v dead alive = by_kind (is_create called) refl
  where
    by_kind : (b : Bool) → is_create called ≡ b → b ≡ true
    by_kind true is = refl
    by_kind false is =
        let formed = wellformed-step script s d called came new registers h step in
        let q = live_found (process_of new.processes v) alive in
        let few = (rising-bounds 1 new.next new.processes v q.0 formed.formed.processes q.1).1 in
        let below : v < s.next = omega (arith, few, next-stays script s d called came new is step) in
        let gone = dead-step script s d called came new registers h step v below dead in
        absurd (let never : true ≡ false = sym alive ∙ gone in cc)
