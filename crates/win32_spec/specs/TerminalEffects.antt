-- Each call makes one of the changes: the calls on the terminal; and so all calls.
use Rattle.std.proofs.Common.{◌≡◌, inl, inr, ℕ, ◌≤◌, Bool, true, false, ◌&&◌, not, nat_le, List, [], ◌∷◌, length, take}
use Rattle.std.proofs.Common.{Option, Some, None, refl, sym, ap, subst, arith, length-take}
use Rattle.tty_spec.specs.Terminal.{Terminal}
use Rattle.tty_spec.specs.Discipline.{Taken, has_flag, tostop_flag, after_key, after_take, taking}
use Rattle.w32_base.specs.Part.{KeepsLengths}
use Rattle.w32_base.specs.declared.call.Call.{Call}
use Rattle.w32_base.specs.declared.call.Call.TheVariants as call
use Rattle.w32_base.specs.declared.call.Reply.{Reply}
use Rattle.w32_base.specs.declared.call.Region.TheVariants.{Heap}
use Rattle.w32_base.specs.declared.call.TtyOp.{TtyOp}
use Rattle.w32_base.specs.declared.call.TtyOp.TheVariants as tty
use Rattle.w32_base.specs.declared.own.Own.{Own}
use Rattle.script_spec.specs.declared.script.Script.{Script}
use Rattle.win32_spec.specs.Regions.{written}
use Rattle.win32_spec.specs.State.{TerminalObject, Win32State}
use Rattle.win32_spec.specs.Lookup.{process_of, is_live, memory_by}
use Rattle.win32_spec.specs.Named.{object_number_by, object_by, terminal_named}
use Rattle.win32_spec.specs.MemoryCalls.{has_range}
use Rattle.win32_spec.specs.TerminalCalls.{KeyStep, is_buffer, is_background, TakeStep, ChangeStep, OpStep, TtyStep}
use Rattle.win32_spec.specs.WellFormed.{IsFormed}
use Rattle.win32_spec.specs.LookupLaws.{and_true}
use Rattle.win32_spec.specs.Tame.{ObjectBecomes}
use Rattle.win32_spec.specs.TameSteps.{processes_same, processes_change, objects_change}
use Rattle.win32_spec.specs.Effects.{MayWrite, MayExchange, CallEffect, Changes}
use Rattle.win32_spec.specs.CallEffects.{by_bool, by_option, object_by-found, is_terminal, unchanged, object_changes}
use Rattle.win32_spec.specs.ThreadEffects.{memory_becomes}
use Rattle.win32_spec.specs.MemoryEffects.{length-written, inside, memory_by-found}
use Rattle.win32_spec.specs.Call.{CallStep}
use Rattle.win32_spec.specs.CallEffects.{load_effect, exchange_effect, add_effect}
use Rattle.win32_spec.specs.ThreadEffects.{resume_effect, suspend_effect}
use Rattle.win32_spec.specs.MemoryEffects.{read_effect, write_effect, HaveRegisters}
use Rattle.win32_spec.specs.PlaceEffects.{run_effect, module_effect, exit_code_effect, terminate_effect}
use Rattle.win32_spec.specs.PlaceEffects.{exit_self_effect}
use Rattle.win32_spec.specs.ObjectEffects.{set_effect, reset_effect, release_effect, put_effect, get_effect}
use Rattle.win32_spec.specs.ObjectEffects.{wait_effect, event_effect, mutex_effect, pipe_effect}
use Rattle.win32_spec.specs.HandleEffects.{open_effect, dup_effect, close_effect, create_effect}

-- The terminal.
terminal_becomes : (E : Type 0) (w t : ℕ) (x y : Terminal) → ObjectBecomes E w t (TerminalObject x) (TerminalObject y)
terminal_becomes E w t x y = record { only = refl; ends = refl; holds = tt }

key_effect : (script : Script) (s : Win32State) (w t : ℕ) (c : Call) (h : ℕ) (terminal : Terminal) (keys : List ℕ)
    (r : Reply) (new : Win32State)
    → object_by s w h ≡ Some (TerminalObject terminal) → KeyStep s w h terminal keys r new
    → CallEffect script s w t c new
key_effect script s w t c h terminal [] r new found step = unchanged script s w t c new step.1
key_effect script s w t c h terminal (b ∷ keys) r new found step =
    subst (λ n. CallEffect script s w t c n) (sym step.1)
    (Changes (record {
      next = refl;
      processes = processes_same script (MayWrite s w c) ⊥ w s.processes;
      objects = objects_change (MayExchange c) w t s.objects (object_number_by s w h) (TerminalObject terminal)
          (TerminalObject (after_key terminal b).terminal) (object_by-found s w h (TerminalObject terminal) found)
          (terminal_becomes (MayExchange c) w t terminal (after_key terminal b).terminal);
    }))

abbrev bytes_of : Option Taken → List ℕ
bytes_of None = []
bytes_of (Some taken) = taken.bytes

-- a read takes at most as many bytes as it asks for
length-taken : (terminal : Terminal) (n : ℕ) (taken : Taken) → after_take terminal n ≡ Some taken
    → length taken.bytes ≤ n
length-taken terminal n taken e = by_lines terminal.done_lines e
  where
    by_lines : (lines : List (List ℕ)) → taking terminal lines n ≡ Some taken → length taken.bytes ≤ n
    by_lines [] f = absurd (cc)
    by_lines (first ∷ rest) f =
        let g : take n first ≡ taken.bytes = ap bytes_of f in
        rw (← g) (omega (arith, length-take n first))

-- bytes that are read into the caller's heap leave its length
heap_keeps : (own : Own) (place count : ℕ) (bytes : List ℕ) → is_buffer own place count ≡ true → length bytes ≤ count
    → KeepsLengths own (record own { heap = written own.heap place bytes })
heap_keeps own place count bytes fits few =
    let range = (and_true (nat_le count 64) (has_range own Heap place count) fits).1 in
    record {
      dat = refl;
      stack = refl;
      cyg = refl;
      scratch = refl;
      heap = length-written own.heap place bytes
          (elim (inside (length own.heap) place count range) [ inl z ↦ inl (omega arith) | inr l ↦ inr (omega arith) ]);
    }

take_effect : (script : Script) (s : Win32State) (w t : ℕ) (c : Call) (h : ℕ) (terminal : Terminal)
    (group count place : ℕ) (r : Reply) (new : Win32State)
    → is_live (process_of s.processes w) ≡ true → object_by s w h ≡ Some (TerminalObject terminal)
    → TakeStep s w h terminal group count place r new → CallEffect script s w t c new
take_effect script s w t c h terminal group count place r new live found step =
    by_bool (not (is_buffer (memory_by s w) place count)) (λ e m. unchanged script s w t c new m.1) (λ buffer m.
    by_bool (is_background terminal group) (λ e m. unchanged script s w t c new m.1) (λ e m.
    by_option (after_take terminal count) (λ e m. unchanged script s w t c new m.1) (λ taken e m.
    let few = length-taken terminal count taken e in
    let own : Own = record (memory_by s w) { heap = written (memory_by s w).heap place taken.bytes } in
    let keeps : KeepsLengths (memory_by s w) own =
    heap_keeps (memory_by s w) place count taken.bytes (is_so (is_buffer (memory_by s w) place count) buffer) few in
    subst (λ n. CallEffect script s w t c n) (sym m.1)
    (Changes (record {
      next = refl;
      processes = processes_change script (MayWrite s w c) ⊥ w s.processes w (λ q. record q { own = own }) (λ q. refl)
          (λ q f. memory_becomes script (MayWrite s w c w) (w ≡ w) ⊥ q own (rw f at live) (inl refl)
          (subst (λ o. KeepsLengths o own) (memory_by-found s w q f) keeps));
      objects = objects_change (MayExchange c) w t s.objects (object_number_by s w h) (TerminalObject terminal)
          (TerminalObject taken.terminal)
          (object_by-found s w h (TerminalObject terminal) found)
          (terminal_becomes (MayExchange c) w t terminal taken.terminal);
    }))) m) m) step
  where
    is_so : (b : Bool) → not b ≡ false → b ≡ true
    is_so true e = refl
    is_so false e = absurd (cc)

change_effect : (script : Script) (s : Win32State) (w t : ℕ) (c : Call) (h : ℕ) (terminal : Terminal) (group : ℕ)
    (force : Bool) (changed : Terminal)
    (r : Reply) (new : Win32State) → object_by s w h ≡ Some (TerminalObject terminal)
    → ChangeStep s w h terminal group force changed r new → CallEffect script s w t c new
change_effect script s w t c h terminal group force changed r new found step =
    by_bool (is_background terminal group && not force) (λ e m. unchanged script s w t c new m.1) (λ e m.
    object_changes script s w t c h (TerminalObject terminal) (TerminalObject changed) new found
    (terminal_becomes (MayExchange c) w t terminal changed) m.1) step

op_effect : (script : Script) (s : Win32State) (w t : ℕ) (c : Call) (h : ℕ) (terminal : Terminal) (op : TtyOp)
    (r : Reply) (new : Win32State)
    → is_live (process_of s.processes w) ≡ true → object_by s w h ≡ Some (TerminalObject terminal)
    → OpStep s w h terminal op r new → CallEffect script s w t c new
op_effect script s w t c h terminal tty.Key r new live found step =
    key_effect script s w t c h terminal s.keys r new found step
op_effect script s w t c h terminal (tty.Take group count place) r new live found step =
    take_effect script s w t c h terminal group count place r new live found step
op_effect script s w t c h terminal (tty.Put group count place force) r new live found step =
    by_bool (not (is_buffer (memory_by s w) place count)) (λ e m. unchanged script s w t c new m.1) (λ buffer m.
    by_bool (is_background terminal group && (has_flag terminal tostop_flag && not force))
    (λ e m. unchanged script s w t c new m.1)
    (λ e m. unchanged script s w t c new m.1) m) step
op_effect script s w t c h terminal (tty.SetForeground group next force) r new live found step =
    change_effect script s w t c h terminal group force (record terminal { foreground = next }) r new found step
op_effect script s w t c h terminal (tty.Flags group flags force) r new live found step =
    change_effect script s w t c h terminal group force (record terminal { flags = flags }) r new found step
op_effect script s w t c h terminal tty.State r new live found step = unchanged script s w t c new step.1

pub tty_effect : (script : Script) (s : Win32State) (w t h : ℕ) (op : TtyOp) (r : Reply) (new : Win32State)
    → is_live (process_of s.processes w) ≡ true → TtyStep s w h op r new → CallEffect script s w t (call.Tty h op) new
tty_effect script s w t h op r new live step =
    by_option (terminal_named (object_by s w h)) (λ e m. unchanged script s w t (call.Tty h op) new m.1)
    (λ terminal e m.
    op_effect script s w t (call.Tty h op) h terminal op r new live (is_terminal (object_by s w h) terminal e) m) step

-- Each call of a thread of a live process makes one of the changes.
pub effect_of_call : (script : Script) (s : Win32State) (w t : ℕ) (c : Call) (r : Reply) (new : Win32State)
    → HaveRegisters script → IsFormed script s
    → is_live (process_of s.processes w) ≡ true → t ≤ 2 → CallStep script s w t c r new → CallEffect script s w t c new
effect_of_call script s w t call.Run r new registers h live few step =
    run_effect script s w t r new registers h live step
effect_of_call script s w t (call.Load k i) r new registers h live few step = load_effect script s w t k i r new step
effect_of_call script s w t (call.CompareExchange k i old n) r new registers h live few step =
    exchange_effect script s w t k i old n r new step
effect_of_call script s w t (call.FetchAdd k i n) r new registers h live few step =
    add_effect script s w t k i n r new step
effect_of_call script s w t (call.Create program_no list) r new registers h live few step =
    create_effect script s w t program_no list r new step
effect_of_call script s w t (call.Resume k x) r new registers h live few step =
    resume_effect script s w t k x r new step
effect_of_call script s w t (call.Suspend k x) r new registers h live few step =
    suspend_effect script s w t k x r new step
effect_of_call script s w t (call.Open v) r new registers h live few step = open_effect script s w t v r new h step
effect_of_call script s w t (call.ExitCode k) r new registers h live few step =
    exit_code_effect script s w t k r new step
effect_of_call script s w t (call.Terminate k code) r new registers h live few step =
    terminate_effect script s w t k code r new step
effect_of_call script s w t (call.ExitSelf code) r new registers h live few step =
    exit_self_effect script s w t code r new live step
effect_of_call script s w t (call.ReadMemory k region place own_region own_place count) r new registers h live few
    step =
    read_effect script s w t k region place own_region own_place count r new live step
effect_of_call script s w t (call.WriteMemory k region place own_region own_place count) r new registers h live few
    step =
    write_effect script s w t k region place own_region own_place count r new step
effect_of_call script s w t (call.Module m) r new registers h live few step =
    module_effect script s w t m r new live step
effect_of_call script s w t (call.Event manual signalled) r new registers h live few step =
    event_effect script s w t manual signalled r new step
effect_of_call script s w t (call.Set k) r new registers h live few step = set_effect script s w t k r new step
effect_of_call script s w t (call.Reset k) r new registers h live few step = reset_effect script s w t k r new step
effect_of_call script s w t (call.Mutex owned) r new registers h live few step =
    mutex_effect script s w t owned r new live few step
effect_of_call script s w t (call.Release k) r new registers h live few step = release_effect script s w t k r new step
effect_of_call script s w t call.Pipe r new registers h live few step = pipe_effect script s w t r new step
effect_of_call script s w t (call.Put k b) r new registers h live few step = put_effect script s w t k b r new step
effect_of_call script s w t (call.Get k) r new registers h live few step = get_effect script s w t k r new step
effect_of_call script s w t (call.Dup k n) r new registers h live few step = dup_effect script s w t k n r new h step
effect_of_call script s w t (call.Close k) r new registers h live few step = close_effect script s w t k r new step
effect_of_call script s w t (call.WaitAny list) r new registers h live few step =
    wait_effect script s w t list r new step
effect_of_call script s w t (call.Tty k op) r new registers h live few step =
    tty_effect script s w t k op r new live step
