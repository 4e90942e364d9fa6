-- The object on which handle 2 is stays a mutex.
use Rattle.std.proofs.Common.{◌≡◌, inl, inr, ℕ, Option, Some, refl, sym, ap, ◌∙◌}
use Rattle.w32_base.specs.declared.call.Call.{Call}
use Rattle.w32_base.specs.declared.entry.Directive.{Directive}
use Rattle.script_spec.specs.declared.script.Script.{Script}
use Rattle.win32_spec.specs.Facts.{IsExchange, ObjectAfter}
use Rattle.win32_spec.specs.FormedLaws.{live_found, of_live, from_listed}
use Rattle.win32_spec.specs.Handles.{handle_of}
use Rattle.win32_spec.specs.Lookup.{process_of, object_number}
use Rattle.win32_spec.specs.MemoryEffects.{HaveRegisters}
use Rattle.win32_spec.specs.Named.{handles_of, object_at}
use Rattle.win32_spec.specs.Objects.{Ownership, left_by}
use Rattle.win32_spec.specs.StableFacts.{object-step}
use Rattle.win32_spec.specs.State.{Object, Section, Event, Mutex, Pipe, ProcessObject, TerminalObject, Win32State}
use Rattle.win32_spec.specs.Tame.{HoldsNext}
use Rattle.layer_spec.specs.Moment.{HistoryStep}
use Rattle.roster.specs.Turns.{roster_handle}
use Rattle.world_spec.specs.EndLaws.{named_found}
use Rattle.world_spec.specs.SeenStep.{IsSeenStep}
use Rattle.world_spec.specs.Sound.{IsRosterMutex}

-- what comes of a mutex is a mutex
mutex_next : (E : Type 0) (w t : ℕ) (owner : Ownership) (y : Object) → HoldsNext E w t (Mutex owner) y
    → (next : Ownership) × (y ≡ Mutex next)
mutex_next E w t owner (Mutex next) h = (next, refl)
mutex_next E w t owner (Section words) h = absurd h
mutex_next E w t owner (Event e) h = absurd h
mutex_next E w t owner (Pipe bytes) h = absurd h
mutex_next E w t owner (ProcessObject v) h = absurd h
mutex_next E w t owner (TerminalObject terminal) h = absurd h

after_mutex : (s : Win32State) (d : Directive) (called : Option Call) (owner : Ownership) (y : Object)
    → ObjectAfter s d called (Mutex owner) y → (next : Ownership) × (y ≡ Mutex next)
after_mutex s d called owner y h = elim h [
  | inl same ↦ (owner, same)
  | inr more ↦ elim more [
    | inl left ↦ (left_by owner left.0, left.2)
    | inr turn ↦ mutex_next (IsExchange called) turn.0 turn.1 owner y turn.3.holds
  ]
]

module _ {A : Type 0} (script : Script) (step : HistoryStep A) (registers : HaveRegisters script)
    (seen : IsSeenStep script step) where
  -- What a handle 2 names, a handle 2 named before, on a mutex; and what is named is there.
  pub mutex-step : IsRosterMutex step.after.win32
  mutex-step w live x is =
      let at = named_found step.after.win32 w roster_handle x is in
      let was = seen.shows.facts.processes.roster_handles w at.0 live at.1 in
      let p = live_found (process_of step.before.win32.processes was.0) was.1 in
      let its = of_live script step.before.win32.objects p.0 p.0.life p.2
      (seen.before.formed.formed.process was.0 p.0 p.1) in
      let listed = from_listed step.before.win32.objects at.0 (its.naming roster_handle at.0
      (ap (λ o. handle_of (handles_of o) roster_handle) (sym p.1) ∙ was.2)) in
      let owner = seen.before.mutex was.0 was.1 listed.0 (ap (object_at step.before.win32) was.2 ∙ listed.1) in
      after_mutex step.before.win32 step.entry.directive step.entry.call owner.0 x
      (object-step script step.before.win32 step.entry.directive step.entry.call step.entry.outcome
      step.after.win32 registers seen.before.formed seen.win32 (object_number at.0) (Mutex owner.0) x
      (listed.1 ∙ ap (λ y. Some y) owner.1) at.2)
