-- The keys in the console's queue: each stays a byte through every step, and so is the key that a step takes.
use Rattle.std.proofs.Common.{◌≡◌, ℕ, ◌<◌, not, ◌&&◌, List, [], ◌∷◌, ◌++◌, Option, Some, None, slice_get, slice_index}
use Rattle.std.proofs.Common.{inl, inr, sym, ◌∙◌, subst}
use Rattle.tty_spec.specs.Terminal.{Terminal}
use Rattle.tty_spec.specs.Discipline.{after_take, has_flag, tostop_flag}
use Rattle.w32_base.specs.declared.call.Call.{Call}
use Rattle.w32_base.specs.declared.call.Call.TheVariants as call
use Rattle.w32_base.specs.declared.call.Reply.{Reply}
use Rattle.w32_base.specs.declared.call.Reply.TheVariants as reply
use Rattle.w32_base.specs.declared.call.TtyOp.{TtyOp}
use Rattle.w32_base.specs.declared.call.TtyOp.TheVariants as tty
use Rattle.w32_base.specs.declared.entry.Directive.{Directive}
use Rattle.w32_base.specs.declared.entry.Directive.TheVariants as directive
use Rattle.w32_base.specs.declared.entry.Outcome.{Outcome}
use Rattle.w32_base.specs.declared.entry.Outcome.TheVariants as outcome
use Rattle.script_spec.specs.declared.script.Script.{Script}
use Rattle.win32_spec.specs.State.{Object, Win32State}
use Rattle.win32_spec.specs.Lookup.{is_live, memory_by, process_in, process_of, thread_in}
use Rattle.win32_spec.specs.Handles.{handle_of}
use Rattle.win32_spec.specs.Named.{event_named, handles_by, has_absent, is_full, mutex_named, named_by, object_by}
use Rattle.win32_spec.specs.Named.{process_named, terminal_named, GetsHandle, MakesObject}
use Rattle.win32_spec.specs.Objects.{is_owner}
use Rattle.win32_spec.specs.Call.{CallStep}
use Rattle.win32_spec.specs.CallEffects.{by_bool, by_option}
use Rattle.win32_spec.specs.WordCalls.{after_add, after_exchange, words_by}
use Rattle.win32_spec.specs.HandleCalls.{first_signalled}
use Rattle.win32_spec.specs.MemoryCalls.{is_copyable, program_no_by}
use Rattle.win32_spec.specs.ObjectCalls.{read_end_by, write_end_by}
use Rattle.win32_spec.specs.Placing.{base_in, placed_by}
use Rattle.win32_spec.specs.ProcessCalls.{live_process, process_object, CountStep}
use Rattle.win32_spec.specs.TerminalCalls.{is_background, is_buffer, KeyStep, OpStep, TtyStep}
use Rattle.win32_spec.specs.Ready.{is_ready}
use Rattle.win32_spec.specs.Run.{EndStep, StepBy}
use Rattle.world_spec.specs.Sound.{AreByteKeys}
use Rattle.world_spec.specs.SeenStep.{IsTaken}

and_byte : (keys : List ℕ) (b : ℕ) → b < 256 → AreByteKeys keys → AreByteKeys (keys ++ b ∷ [])
and_byte [] b small h = (small, tt)
and_byte (k ∷ keys) b small h = (h.0, and_byte keys b small h.1)

module _ (script : Script) (s : Win32State) (w t : ℕ) (r : Reply) (new : Win32State) (h : AreByteKeys s.keys) where
  given : (x : Win32State) → new ≡ x → AreByteKeys x.keys → AreByteKeys new.keys
  given x e k = subst (λ (n : Win32State). AreByteKeys n.keys) (sym e) k

  gets : (names : ℕ) → GetsHandle s w names r new → AreByteKeys new.keys
  gets names m = by_bool (is_full (handles_by s w) 1) (λ e k. given _ k.1 h) (λ e k. given _ k.after h) m

  makes : (object : Object) → MakesObject s w object r new → AreByteKeys new.keys
  makes object m = by_bool (is_full (handles_by s w) 1) (λ e k. given _ k.1 h) (λ e k. given _ k.handled.after h) m

  counts : (f : ℕ → ℕ) (v x : ℕ) → CountStep s f v x r new → AreByteKeys new.keys
  counts f v x m = by_option (live_process s v) (λ e k. given _ k.1 h) (λ p e k.
      by_option (thread_in p.threads x) (λ e k. given _ k.1 h) (λ y e k. given _ k.1 h) k) m

  exchanges : (hd i old n : ℕ) (o : Option (List ℕ)) → new ≡ after_exchange s w hd o i old n → AreByteKeys new.keys
  exchanges hd i old n None e = given _ e h
  exchanges hd i old n (Some words) e = given _ e h

  adds : (hd i n : ℕ) (o : Option (List ℕ)) → new ≡ after_add s w hd o i n → AreByteKeys new.keys
  adds hd i n None e = given _ e h
  adds hd i n (Some words) e = given _ e h

  keyed : (hd : ℕ) (terminal : Terminal) (keys : List ℕ) → AreByteKeys keys → KeyStep s w hd terminal keys r new
      → AreByteKeys new.keys
  keyed hd terminal [] k m = given _ m.1 h
  keyed hd terminal (b ∷ keys) k m = given _ m.1 k.1

  op : (hd : ℕ) (terminal : Terminal) (o : TtyOp) → OpStep s w hd terminal o r new → AreByteKeys new.keys
  op hd terminal tty.Key m = keyed hd terminal s.keys h m
  op hd terminal (tty.Take group count place) m =
      by_bool (not (is_buffer (memory_by s w) place count)) (λ e k. given _ k.1 h) (λ e k.
      by_bool (is_background terminal group) (λ e k. given _ k.1 h) (λ e k.
      by_option (after_take terminal count) (λ e k. given _ k.1 h) (λ taken e k. given _ k.1 h) k) k) m
  op hd terminal (tty.Put group count place force) m =
      by_bool (not (is_buffer (memory_by s w) place count)) (λ e k. given _ k.1 h) (λ e k.
      by_bool (is_background terminal group && (has_flag terminal tostop_flag && not force)) (λ e k. given _ k.1 h)
      (λ e k. given _ k.1 h) k) m
  op hd terminal (tty.SetForeground group next force) m =
      by_bool (is_background terminal group && not force) (λ e k. given _ k.1 h) (λ e k. given _ k.1 h) m
  op hd terminal (tty.Flags group flags force) m =
      by_bool (is_background terminal group && not force) (λ e k. given _ k.1 h) (λ e k. given _ k.1 h) m
  op hd terminal tty.State m = given _ m.1 h

  -- Each call leaves bytes in the queue.
  pub keys-call : (c : Call) → CallStep script s w t c r new → AreByteKeys new.keys
  keys-call call.Run m = by_option (program_no_by s w) (λ e k. given _ k.1 h) (λ p e k. given _ k.1 h) m
  keys-call (call.Load hd i) m = given _ m.1 h
  keys-call (call.CompareExchange hd i old n) m = exchanges hd i old n (words_by s w hd) m.1
  keys-call (call.FetchAdd hd i n) m = adds hd i n (words_by s w hd) m.1
  keys-call (call.Create program_no list) m =
      by_bool (has_absent (handles_by s w) list) (λ e k. given _ k.1 h) (λ e k.
      by_option (slice_get script.setup.programs program_no) (λ e k. given _ k.1 h) (λ program e k. elim k [
        | inl full ↦ given _ full.1.1 h
        | inr in_slot ↦ by_bool (is_full (handles_by s w) 1) (λ e k. given _ k.1 h)
            (λ e k. given _ k.handled.after h) in_slot.made
      ]) k) m
  keys-call (call.Resume hd x) m =
      by_option (process_named (object_by s w hd)) (λ e k. given _ k.1 h) (λ v e k. counts _ v x k) m
  keys-call (call.Suspend hd x) m =
      by_option (process_named (object_by s w hd)) (λ e k. given _ k.1 h) (λ v e k. counts _ v x k) m
  keys-call (call.Open v) m =
      by_option (process_object s.objects v) (λ e k. by_bool (is_live (process_of s.processes v)) (λ e k. makes _ k)
      (λ e k. given _ k.1 h) k) (λ o e k. gets o k) m
  keys-call (call.ExitCode hd) m =
      by_option (process_named (object_by s w hd)) (λ e k. given _ k.1 h) (λ v e k. given _ k.1 h) m
  keys-call (call.Terminate hd code) m =
      by_option (process_named (object_by s w hd)) (λ e k. given _ k.1 h) (λ v e k.
      by_bool (is_live (process_of s.processes v)) (λ e k. given _ k.1 h) (λ e k. given _ k.1 h) k) m
  keys-call (call.ExitSelf code) m = given _ m.1 h
  keys-call (call.ReadMemory hd region place own_region own_place count) m =
      by_option (process_named (object_by s w hd)) (λ e k. given _ k.1 h) (λ v e k.
      by_option (live_process s v) (λ e k. given _ k.1 h) (λ p e k.
      by_bool (is_copyable p.own region place (memory_by s w) own_region own_place count) (λ e k. given _ k.1 h)
      (λ e k. given _ k.1 h) k) k) m
  keys-call (call.WriteMemory hd region place own_region own_place count) m =
      by_option (process_named (object_by s w hd)) (λ e k. given _ k.1 h) (λ v e k.
      by_option (live_process s v) (λ e k. given _ k.1 h) (λ p e k.
      by_bool (is_copyable p.own region place (memory_by s w) own_region own_place count) (λ e k. given _ k.1 h)
      (λ e k. given _ k.1 h) k) k) m
  keys-call (call.Module n) m =
      by_option (program_no_by s w) (λ e k. given _ k.1 h) (λ p e k.
      by_option (slice_get script.setup.modules n) (λ e k. given _ k.1 h) (λ wanted e k.
      by_option (base_in (placed_by s w) n) (λ e k. given _ k.after h) (λ base e k. given _ k.1 h) k) k) m
  keys-call (call.Event manual signalled) m = makes _ m
  keys-call (call.Set hd) m =
      by_option (event_named (object_by s w hd)) (λ e k. given _ k.1 h) (λ x e k. given _ k.1 h) m
  keys-call (call.Reset hd) m =
      by_option (event_named (object_by s w hd)) (λ e k. given _ k.1 h) (λ x e k. given _ k.1 h) m
  keys-call (call.Mutex owned) m = makes _ m
  keys-call (call.Release hd) m =
      by_option (mutex_named (object_by s w hd)) (λ e k. given _ k.1 h) (λ owner e k.
      by_bool (is_owner owner w t) (λ e k. given _ k.1 h) (λ e k. given _ k.1 h) k) m
  keys-call call.Pipe m = by_bool (is_full (handles_by s w) 2) (λ e k. given _ k.1 h) (λ e k. given _ k.after h) m
  keys-call (call.Put hd b) m =
      by_option (write_end_by s w hd) (λ e k. given _ k.1 h) (λ bytes e k. given _ k.1 h) m
  keys-call (call.Get hd) m =
      by_option (read_end_by s w hd) (λ e k. given _ k.1 h) (λ bytes e k. given _ k.1 h) m
  keys-call (call.Dup hd n) m =
      by_option (process_named (object_by s w hd)) (λ e k. given _ k.1 h) (λ v e k.
      by_option (live_process s v) (λ e k. given _ k.1 h) (λ p e k.
      by_option (handle_of p.handles n) (λ e k. given _ k.1 h) (λ names e k. gets names k) k) k) m
  keys-call (call.Close hd) m =
      by_option (named_by s w hd) (λ e k. given _ k.1 h) (λ names e k. given _ k.1 h) m
  keys-call (call.WaitAny list) m =
      by_bool (has_absent (handles_by s w) list) (λ e k. given _ k.1 h) (λ e k.
      by_option (first_signalled s w t (handles_by s w) list 0) (λ e k. absurd k) (λ n e k.
      by_option (object_by s w (slice_index list n)) (λ e k. absurd k) (λ object e k. given _ k.1 h) k) k) m
  keys-call (call.Tty hd o) m =
      by_option (terminal_named (object_by s w hd)) (λ e k. given _ k.1 h) (λ terminal e k. op hd terminal o k) m

  -- A key that a call takes was in the queue.
  first_key : (hd b signal group : ℕ) (terminal : Terminal) (keys : List ℕ) → AreByteKeys keys
      → r ≡ reply.Key b signal group → KeyStep s w hd terminal keys r new → b < 256
  first_key hd b signal group terminal [] k e m =
      absurd (let f : reply.Key b signal group ≡ reply.NoKey = sym e ∙ m.0 in cc)
  first_key hd b signal group terminal (c ∷ keys) k e m =
      let f : reply.Key b signal group ≡ reply.Key c _ terminal.foreground = sym e ∙ m.0 in
      let g : c ≡ b = cc in
      subst (λ x. x < 256) g k.0

  pub key-call : (hd b signal group : ℕ) → r ≡ reply.Key b signal group → TtyStep s w hd tty.Key r new → b < 256
  key-call hd b signal group e m =
      by_option (terminal_named (object_by s w hd))
      (λ f k. absurd (let g : reply.Key b signal group ≡ reply.BadHandle = sym e ∙ k.0 in cc))
      (λ terminal f k. first_key hd b signal group terminal s.keys h e k) m

-- Each step leaves bytes in the queue.
pub keys-step : (script : Script) (s : Win32State) (d : Directive) (called : Option Call) (came : Outcome)
    (new : Win32State) → IsTaken d → AreByteKeys s.keys → StepBy script s d called came new → AreByteKeys new.keys
keys-step script s (directive.Turn slot t) called came new taken h step =
    by_bool (is_ready s slot t) (λ ready turn.
    let mid = keys-call script s turn.process.number t turn.reply turn.mid h turn.thread.posted turn.posted.step in
    by_bool (is_live (process_of turn.mid.processes turn.process.number))
    (λ lives acts. subst (λ (n : Win32State). AreByteKeys n.keys) (sym acts.after) mid)
    (λ dies same. subst (λ (n : Win32State). AreByteKeys n.keys) (sym same) mid) turn.goes_on)
    (λ waits idle. subst (λ (n : Win32State). AreByteKeys n.keys) (sym idle.2) h) step
keys-step script s (directive.End slot) called came new taken h step =
    by_answer (process_in s.processes slot) step.1
  where
    by_answer : (o : Option _) → EndStep s o came new → AreByteKeys new.keys
    by_answer None m = subst (λ (n : Win32State). AreByteKeys n.keys) (sym m.1) h
    by_answer (Some p) m = subst (λ (n : Win32State). AreByteKeys n.keys) (sym m.1) h
keys-step script s (directive.Key b) called came new taken h step =
    subst (λ (n : Win32State). AreByteKeys n.keys) (sym step.2) (and_byte s.keys b taken h)

-- The key that an entry takes is a byte.
pub key-step : (script : Script) (s : Win32State) (d : Directive) (called : Option Call) (came : Outcome)
    (new : Win32State) (hd b signal group : ℕ) → called ≡ Some (call.Tty hd tty.Key)
    → came ≡ outcome.Step (reply.Key b signal group) → AreByteKeys s.keys → StepBy script s d called came new → b < 256
key-step script s (directive.Turn slot t) called came new hd b signal group asks answered h step =
    by_bool (is_ready s slot t) (λ ready turn.
    let e : turn.thread.posted ≡ call.Tty hd tty.Key =
    let f : Some turn.thread.posted ≡ Some (call.Tty hd tty.Key) = sym turn.carried_out ∙ asks in cc in
    let g : turn.reply ≡ reply.Key b signal group =
    let f : outcome.Step turn.reply ≡ outcome.Step (reply.Key b signal group) = sym turn.answered ∙ answered in cc in
    key-call script s turn.process.number t turn.reply turn.mid h hd b signal group g
    (subst (λ c. CallStep script s turn.process.number t c turn.reply turn.mid) e turn.posted.step))
    (λ waits idle. absurd (let f : None ≡ Some (call.Tty hd tty.Key) = sym idle.0 ∙ asks in cc)) step
key-step script s (directive.End slot) called came new hd b signal group asks answered h step =
    absurd (let f : None ≡ Some (call.Tty hd tty.Key) = sym step.0 ∙ asks in cc)
key-step script s (directive.Key k) called came new hd b signal group asks answered h step =
    absurd (let f : None ≡ Some (call.Tty hd tty.Key) = sym step.0 ∙ asks in cc)
