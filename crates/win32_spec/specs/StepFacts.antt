-- Win32 numbers through a directive: they are given once, and what has ended has ended for ever.
use Rattle.std.proofs.Common.{◌≡◌, ℕ, ◌≤◌, ◌<◌, true, false, List, [], ◌∷◌, Option, Some, None, refl, sym, ap, ◌∙◌}
use Rattle.std.proofs.Common.{subst, arith}
use Rattle.w32_base.specs.declared.call.Call.{Call}
use Rattle.w32_base.specs.declared.call.Call.TheVariants as call
use Rattle.w32_base.specs.declared.entry.Directive.{Directive}
use Rattle.w32_base.specs.declared.entry.Directive.TheVariants as directive
use Rattle.w32_base.specs.declared.entry.Entry.{Entry}
use Rattle.w32_base.specs.declared.entry.Outcome.{Outcome}
use Rattle.script_spec.specs.declared.script.Script.{Script}
use Rattle.win32_spec.specs.State.{Process, Win32State}
use Rattle.win32_spec.specs.Lookup.{process_of, is_live, process_in}
use Rattle.win32_spec.specs.Ready.{is_ready}
use Rattle.win32_spec.specs.Run.{EndStep, StepBy, Win32Run, ended_from_outside}
use Rattle.win32_spec.specs.WellFormed.{IsWellFormed}
use Rattle.win32_spec.specs.LookupLaws.{process_in-found}
use Rattle.win32_spec.specs.FormedLaws.{found_live}
use Rattle.win32_spec.specs.CallEffects.{by_bool}
use Rattle.win32_spec.specs.MemoryEffects.{HaveRegisters}
use Rattle.win32_spec.specs.Effects.{Ends}
use Rattle.win32_spec.specs.EndedLaws.{dead-effect, next-effect}
use Rattle.win32_spec.specs.FactLaws.{turn_live, turn_effect, turn_beside}
use Rattle.win32_spec.specs.StepLaws.{wellformed-step}

-- numbers are never given again
pub next-step : (script : Script) (s : Win32State) (d : Directive) (called : Option Call) (came : Outcome)
    (new : Win32State)
    → HaveRegisters script → IsWellFormed script s → StepBy script s d called came new → s.next ≤ new.next
next-step script s (directive.Turn slot t) called came new registers h step =
    by_bool (is_ready s slot t) (λ r turn.
    let l = next-effect script s turn.process.number t turn.thread.posted turn.mid
    (turn_effect script s slot t called came new registers h turn) in
    by_bool (is_live (process_of turn.mid.processes turn.process.number))
    (λ lives acts. subst (λ (n : Win32State). s.next ≤ n.next) (sym acts.after) l)
    (λ dies same. subst (λ (n : Win32State). s.next ≤ n.next) (sym same) l) turn.goes_on)
    (λ r idle. subst (λ (n : Win32State). s.next ≤ n.next) (sym idle.2) (omega arith)) step
next-step script s (directive.End slot) called came new registers h step =
    by_answer (process_in s.processes slot) step.1
  where
    by_answer : (o : Option Process) → EndStep s o came new → s.next ≤ new.next
    by_answer None m = subst (λ (n : Win32State). s.next ≤ n.next) (sym m.1) (omega arith)
    by_answer (Some p) m = subst (λ (n : Win32State). s.next ≤ n.next) (sym m.1) (omega arith)
next-step script s (directive.Key b) called came new registers h step =
    subst (λ (n : Win32State). s.next ≤ n.next) (sym step.2) (omega arith)

-- a number that was given and no live process has is never that of a live process again
pub dead-step : (script : Script) (s : Win32State) (d : Directive) (called : Option Call) (came : Outcome)
    (new : Win32State)
    → HaveRegisters script → IsWellFormed script s → StepBy script s d called came new → (v : ℕ) → v < s.next
    → is_live (process_of s.processes v) ≡ false → is_live (process_of new.processes v) ≡ false
dead-step script s (directive.Turn slot t) called came new registers h step v below dead =
    by_bool (is_ready s slot t) (λ r turn.
    let live = turn_live script s slot t called came new registers h turn in
    let effect = turn_effect script s slot t called came new registers h turn in
    let apart = λ (n : v ≡ turn.process.number).
    absurd (let a : is_live (process_of s.processes v) ≡ true =
    ap (λ k. is_live (process_of s.processes k)) n ∙ live in cc) in
    ap is_live (turn_beside script s slot t called came new registers h turn v apart)
    ∙ dead-effect script s turn.process.number t turn.thread.posted turn.mid h live v below dead effect)
    (λ r idle. subst (λ (n : Win32State). is_live (process_of n.processes v) ≡ false) (sym idle.2) dead) step
dead-step script s (directive.End slot) called came new registers h step v below dead =
    by_answer (process_in s.processes slot) refl step.1
  where
    by_answer : (o : Option Process) → process_in s.processes slot ≡ o → EndStep s o came new
        → is_live (process_of new.processes v) ≡ false
    by_answer None i m = subst (λ (n : Win32State). is_live (process_of n.processes v) ≡ false) (sym m.1) dead
    by_answer (Some r) i m =
        let found = process_in-found 1 s.next s.processes slot r h.formed.processes i in
        let live = found_live (process_of s.processes r.number) r found.0 found.1 in
        dead-effect script s r.number 0 call.Run new h live v below dead (Ends r.number ended_from_outside live m.1)
dead-step script s (directive.Key b) called came new registers h step v below dead =
    subst (λ (n : Win32State). is_live (process_of n.processes v) ≡ false) (sym step.2) dead

-- the same through a whole run
pub dead-run : (script : Script) (s : Win32State) (es : List Entry) (new : Win32State) → HaveRegisters script
    → IsWellFormed script s
    → Win32Run script s es new → (v : ℕ) → v < s.next → is_live (process_of s.processes v) ≡ false
    → is_live (process_of new.processes v) ≡ false
dead-run script s [] new registers h run v below dead =
    subst (λ (n : Win32State). is_live (process_of n.processes v) ≡ false) (sym run) dead
dead-run script s (e ∷ es) new registers h run v below dead =
    let formed = wellformed-step script s e.directive e.call e.outcome run.0 registers h run.1 in
    let more = next-step script s e.directive e.call e.outcome run.0 registers h run.1 in
    dead-run script run.0 es new registers formed run.2 v (omega arith)
    (dead-step script s e.directive e.call e.outcome run.0 registers h run.1 v below dead)
