-- The owner of the roster mutex keeps it beside its thread, while its process lives.
use Rattle.std.proofs.Common.{◌≡◌, ◌≢◌, inl, inr, ℕ, true, ◌&&◌, if◌then◌else◌, nat_eq, []}
use Rattle.std.proofs.Common.{Option, Some}
use Rattle.std.proofs.Common.{None, refl, sym, ap, ◌∙◌, subst, arith}
use Rattle.std.proofs.lemmas.Bool.{cases_eq, eqb-true}
use Rattle.w32_base.specs.declared.call.Call.{Call}
use Rattle.w32_base.specs.declared.entry.Directive.{Directive}
use Rattle.w32_base.specs.declared.entry.Directive.TheVariants as directive
use Rattle.w32_base.specs.declared.entry.Outcome.{Outcome}
use Rattle.script_spec.specs.declared.script.Script.{Script}
use Rattle.win32_spec.specs.CallEffects.{by_bool}
use Rattle.win32_spec.specs.Effects.{MayExchange, CallEffect, Changes, Opens, Adds, AddsPipe, Makes, Closes, Ends}
use Rattle.win32_spec.specs.FactLaws.{turn_number, turn_effect, turn_beside, turn_objects}
use Rattle.win32_spec.specs.Facts.{IsTurnOfThread}
use Rattle.win32_spec.specs.FormedLaws.{live_found, of_live, from_listed}
use Rattle.win32_spec.specs.Handles.{handle_of, without_handle}
use Rattle.win32_spec.specs.HeldLaws.{held_object}
use Rattle.win32_spec.specs.Lookup.{process_of, is_live, process_in, object_number, object_of, change_process}
use Rattle.win32_spec.specs.Lookup.{add_object}
use Rattle.win32_spec.specs.Lookup.{IsFresh}
use Rattle.win32_spec.specs.LookupLaws.{same_some, not_none, and_true, differs}
use Rattle.win32_spec.specs.MemoryEffects.{HaveRegisters}
use Rattle.win32_spec.specs.Named.{handles_of, handles_by, named_by, object_at}
use Rattle.win32_spec.specs.ObjectLaws.{object_of-add_other}
use Rattle.win32_spec.specs.Objects.{Owned, Abandoned}
use Rattle.win32_spec.specs.ObjectSteps.{left_by_end}
use Rattle.win32_spec.specs.Ready.{is_ready}
use Rattle.win32_spec.specs.Run.{ReadyTurn, EndStep, StepBy, ended_from_outside}
use Rattle.win32_spec.specs.State.{Object, Section, Event, Mutex, Pipe, ProcessObject, TerminalObject, Process}
use Rattle.win32_spec.specs.State.{Win32State}
use Rattle.win32_spec.specs.Tame.{HoldsNext, ObjectBecomes}
use Rattle.win32_spec.specs.TameLaws.{both_forth}
use Rattle.win32_spec.specs.WellFormed.{IsWellFormed}
use Rattle.layer_spec.specs.Moment.{HistoryStep}
use Rattle.layer_spec.specs.Turns.{is_live_process}
use Rattle.roster.specs.Roster.{HoldsRoster}
use Rattle.roster.specs.Turns.{roster_handle}
use Rattle.world_spec.specs.BesideLaws.{low-stays}
use Rattle.world_spec.specs.EndLaws.{named_found, process-end}
use Rattle.world_spec.specs.HostLaws.{after_formed}
use Rattle.world_spec.specs.SeenStep.{IsSeenStep, IsBeside}

-- what the end of a process leaves of a mutex that a thread of another one owns
left_owned : (w t u : ℕ) → w ≢ u → (if nat_eq w u then Abandoned else Owned w t) ≡ Owned w t
left_owned w t u d = rw (differs w u d) refl

module _ (script : Script) (s : Win32State) (a u : ℕ) (c : Call) (mid : Win32State) (h : IsWellFormed script s)
    (o w t : ℕ) (y : Object) (e : object_of s.objects o ≡ Some (Mutex (Owned w t)))
    (f : object_of mid.objects o ≡ Some y) (apart : a ≡ w → u ≡ t → ⊥) (live : is_live_process mid w ≡ true) where
  same_object : object_of s.objects o ≡ Some y → y ≡ Mutex (Owned w t)
  same_object g = same_some (object_of s.objects o) y (Mutex (Owned w t)) g e

  -- an object that is listed isn't the new one
  beside_new : (n : ℕ) (z : Object) → IsFresh s n → object_of (add_object n z s.objects) o ≡ Some y
      → y ≡ Mutex (Owned w t)
  beside_new n z fresh g =
      let other = λ (m : o ≡ n). not_none (object_of s.objects n) (Mutex (Owned w t)) (ap (object_of s.objects)
      (sym m) ∙ e)
      fresh.free in
      same_object (sym (object_of-add_other n z s.objects o other) ∙ g)

  becomes : (z : Object) → HoldsNext (MayExchange c) a u (Mutex (Owned w t)) z → z ≡ Mutex (Owned w t)
  becomes (Mutex owner) m = elim m [
    | inl is ↦ ap (λ k. Mutex k) is
    | inr more ↦
        let its : (nat_eq w a && nat_eq t u) ≡ true = elim more [ inl freed ↦ freed.0 | inr taken ↦ taken.0 ] in
        let both = and_true (nat_eq w a) (nat_eq t u) its in
        absurd (apart (sym (eqb-true w a both.0)) (sym (eqb-true t u both.1)))
  ]
  becomes (Section words) m = absurd m
  becomes (Event x) m = absurd m
  becomes (Pipe bytes) m = absurd m
  becomes (ProcessObject v) m = absurd m
  becomes (TerminalObject terminal) m = absurd m

  -- A mutex that another thread owns, after a call through which its process lives on.
  effect_owned : CallEffect script s a u c mid → y ≡ Mutex (Owned w t)
  effect_owned (Changes tame) =
      let r = both_forth (ObjectBecomes (MayExchange c) a u) (object_of s.objects o) (object_of mid.objects o)
      (Mutex (Owned w t)) (tame.objects.object o) e in
      same_some (object_of mid.objects o) y r.0 f r.1 ∙ becomes r.0 r.2.holds
  effect_owned (Opens names listed room answer r handled) =
      same_object (subst (λ (n : Win32State). object_of n.objects o ≡ Some y) handled.after f)
  effect_owned (Adds z rule only room r added) =
      beside_new added.number z added.fresh
      (subst (λ (n : Win32State). object_of n.objects o ≡ Some y) added.handled.after f)
  effect_owned (AddsPipe room r pipe) =
      beside_new pipe.number (Pipe []) pipe.fresh
      (subst (λ (n : Win32State). object_of n.objects o ≡ Some y) pipe.after f)
  effect_owned (Makes slot program_no program list r listed lowest room made) =
      beside_new made.number (ProcessObject s.next) made.fresh
      (subst (λ (n : Win32State). object_of n.objects o ≡ Some y) made.handled.after f)
  effect_owned (Closes k after) =
      same_object (held_object
      (change_process a (λ p. record p { handles = without_handle (handles_by s a) k }) s.processes) s.objects o y
      (subst (λ (n : Win32State). object_of n.objects o ≡ Some y) after f)).0
  effect_owned (Ends v code alive after) =
      let q = live_found (process_of mid.processes w) live in
      let at = process-end script s h v code w q.0
      (subst (λ (n : Win32State). process_of n.processes w ≡ Some q.0) after q.1) q.2 in
      left_by_end s v code o (Mutex (Owned w t)) y e
      (subst (λ (n : Win32State). object_of n.objects o ≡ Some y) after f)
      ∙ ap (λ k. Mutex k) (left_owned w t v at.1)

-- So after each directive that isn't a turn of its owner.
step_owned : (script : Script) (s : Win32State) (d : Directive) (called : Option Call) (came : Outcome)
    (new : Win32State)
    → HaveRegisters script → IsWellFormed script s → StepBy script s d called came new → (o w t : ℕ) (y : Object)
    → object_of s.objects o ≡ Some (Mutex (Owned w t)) → object_of new.objects o ≡ Some y
    → (IsTurnOfThread s d w t → ⊥) → is_live_process new w ≡ true → y ≡ Mutex (Owned w t)
step_owned script s (directive.Turn slot u) called came new registers h step o w t y e f apart live =
    by_bool (is_ready s slot u) (λ r turn.
    effect_owned script s turn.process.number u turn.thread.posted turn.mid h o w t y e
    (sym (turn_objects script s slot u called came new registers h turn o) ∙ f)
    (λ n m. apart (turn_number script s slot u called came new registers h turn ∙ ap (λ k. Some k) n, m))
    (lives turn) (turn_effect script s slot u called came new registers h turn))
    (λ r idle. same_some (object_of s.objects o) y (Mutex (Owned w t))
    (ap (λ (n : Win32State). object_of n.objects o) (sym idle.2) ∙ f) e) step
  where
    lives : (turn : ReadyTurn script s slot u called came new) → is_live_process turn.mid w ≡ true
    lives turn = elim (cases_eq w turn.process.number) [
      | inl own ↦ by_bool (is_live (process_of turn.mid.processes turn.process.number))
          (λ is acts. ap (is_live_process turn.mid) own ∙ is)
          (λ dead n. ap (λ (x : Win32State). is_live_process x w) (sym n) ∙ live) turn.goes_on
      | inr other ↦
          ap is_live (sym (turn_beside script s slot u called came new registers h turn w other)) ∙ live
    ]
step_owned script s (directive.End slot) called came new registers h step o w t y e f apart live =
    by_answer (process_in s.processes slot) step.1
  where
    by_answer : (x : Option Process) → EndStep s x came new → y ≡ Mutex (Owned w t)
    by_answer None m = same_some (object_of s.objects o) y (Mutex (Owned w t))
        (ap (λ (n : Win32State). object_of n.objects o) (sym m.1) ∙ f) e
    by_answer (Some r) m =
        let q = live_found (process_of new.processes w) live in
        let at = process-end script s h r.number ended_from_outside w q.0
        (subst (λ (n : Win32State). process_of n.processes w ≡ Some q.0) m.1 q.1) q.2 in
        left_by_end s r.number ended_from_outside o (Mutex (Owned w t)) y e
        (subst (λ (n : Win32State). object_of n.objects o ≡ Some y) m.1 f)
        ∙ ap (λ k. Mutex k) (left_owned w t r.number at.1)
step_owned script s (directive.Key b) called came new registers h step o w t y e f apart live =
    same_some (object_of s.objects o) y (Mutex (Owned w t))
    (ap (λ (n : Win32State). object_of n.objects o) (sym step.2) ∙ f) e

module _ {A : Type 0} (script : Script) (registers : HaveRegisters script) (step : HistoryStep A)
    (seen : IsSeenStep script step) where
  -- Who holds the roster mutex holds it beside its thread.
  pub holds-stays : (w t : ℕ) → IsBeside step w t → is_live_process step.after.win32 w ≡ true
      → HoldsRoster step.before.win32 w t → HoldsRoster step.after.win32 w t
  holds-stays w t beside live holds = elim beside [
    | inl apart ↦
        let at = named_found step.before.win32 w roster_handle (Mutex (Owned w t)) holds in
        let named = low-stays script step seen w roster_handle at.0 (omega arith) at.1 live in
        let q = live_found (process_of step.after.win32.processes w) live in
        let formed = after_formed script step registers seen in
        let its = of_live script step.after.win32.objects q.0 q.0.life q.2 (formed.formed.process w q.0 q.1) in
        let listed = from_listed step.after.win32.objects at.0 (its.naming roster_handle at.0
        (handle_named w q.0 at.0 q.1 named)) in
        let is = step_owned script step.before.win32 step.entry.directive step.entry.call step.entry.outcome
        step.after.win32 registers seen.before.formed seen.win32 (object_number at.0) w t listed.0 at.2 listed.1 apart
        live in
        ap (object_at step.after.win32) named ∙ (listed.1 ∙ ap (λ x. Some x) is)
    | inr idle ↦ subst (λ s. HoldsRoster s w t) (sym idle.win32) holds
  ]
    where
      handle_named : (w : ℕ) (q : Process) (names : ℕ) → process_of step.after.win32.processes w ≡ Some q
          → named_by step.after.win32 w roster_handle ≡ Some names → handle_of q.handles roster_handle ≡ Some names
      handle_named w q names e named = ap (λ o. handle_of (handles_of o) roster_handle) (sym e) ∙ named
