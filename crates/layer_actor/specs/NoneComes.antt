-- In a world of a built script no process comes: a `create` asks for a fork or an exec, and none is ever next.
use Rattle.std.proofs.Common.{◌≡◌, ℕ, true, false, Option, Some, None, refl, sym, ap, ◌∙◌}
use Rattle.script_spec.specs.declared.script.Script.{Script}
use Rattle.win32_spec.specs.FormedLaws.{found_live}
use Rattle.win32_spec.specs.Lookup.{number_of, number_in, process_in, process_of}
use Rattle.win32_spec.specs.LookupLaws.{process_in-found}
use Rattle.win32_spec.specs.MemoryEffects.{HaveRegisters}
use Rattle.win32_spec.specs.State.{Process, Win32State}
use Rattle.win32_spec.specs.StepLaws.{wellformed-step}
use Rattle.win32_spec.specs.WellFormed.{IsWellFormed}
use Rattle.layer_spec.specs.Discipline.{is_create}
use Rattle.layer_spec.specs.Moment.{HistoryStep}
use Rattle.layer_spec.specs.Turns.{is_live_process}
use Rattle.world_spec.specs.SeenStep.{IsSeenStep}
use Rattle.layer_actor.specs.Built.{is_built}
use Rattle.layer_actor.specs.BuiltLaws.{no-fork}
use Rattle.layer_actor.specs.NextNumbers.{alive-made}

-- the process in a slot is alive
slot_alive : (script : Script) (s : Win32State) → IsWellFormed script s → (slot w : ℕ) → number_in s slot ≡ Some w
    → is_live_process s w ≡ true
slot_alive script s h slot w number = by_answer (process_in s.processes slot) refl number
  where
    by_answer : (o : Option Process) → process_in s.processes slot ≡ o → number_of o ≡ Some w
        → is_live_process s w ≡ true
    by_answer None here e = absurd (cc)
    by_answer (Some p) here e =
        let found = process_in-found 1 s.next s.processes slot p h.formed.processes here in
        let same : p.number ≡ w = cc in
        ap (is_live_process s) (sym same) ∙ found_live (process_of s.processes p.number) p found.0 found.1

-- No step of a world of a built script carries out a `create`.
pub no-create : {A : Type 0} → (script : Script) → is_built script ≡ true → (step : HistoryStep A)
    → IsSeenStep script step → is_create step.entry.call ≡ true → ⊥
no-create script built step seen is =
    let stands = seen.shows.discipline.creates is in
    let never : true ≡ false = sym stands.next ∙ no-fork script stands.caller built in cc

-- So the process of each slot was alive before the step.
pub none-comes : {A : Type 0} → (script : Script) → is_built script ≡ true → HaveRegisters script
    → (step : HistoryStep A) → IsSeenStep script step → (slot w : ℕ) → number_in step.after.win32 slot ≡ Some w
    → is_live_process step.before.win32 w ≡ false → ⊥
none-comes script built registers step seen slot w number dead =
    let formed = wellformed-step script step.before.win32 step.entry.directive step.entry.call step.entry.outcome
    step.after.win32 registers seen.before.formed seen.win32 in
    no-create script built step seen
    (alive-made script step.before.win32 step.entry.directive step.entry.call step.entry.outcome step.after.win32
    registers seen.before.formed seen.win32 w dead (slot_alive script step.after.win32 formed slot w number))
