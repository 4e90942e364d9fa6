-- A resume, and a suspend, of a thread of the own process by a handle on it: the change is steady, since only that
-- thread's suspend count changes. And a handle on a process is one for as long as it names the same.
use Rattle.std.proofs.Common.{◌≡◌, inl, inr, ℕ, true, List, Some, refl, sym, ap, ◌∙◌, subst}
use Rattle.w32_base.specs.declared.call.Reply.{Reply}
use Rattle.w32_base.specs.declared.entry.Directive.TheVariants as directive
use Rattle.script_spec.specs.declared.script.Script.{Script}
use Rattle.win32_spec.specs.CallEffects.{by_option}
use Rattle.win32_spec.specs.Facts.{IsExchange, ObjectAfter}
use Rattle.win32_spec.specs.FormedLaws.{of_live, from_listed, live_found}
use Rattle.win32_spec.specs.Handles.{handle_of}
use Rattle.win32_spec.specs.Lookup.{is_alive, process_of, thread_in, change_thread, with_thread, number_in}
use Rattle.win32_spec.specs.Lookup.{object_number, object_of}
use Rattle.win32_spec.specs.LookupLaws.{changed_process}
use Rattle.win32_spec.specs.MemoryEffects.{HaveRegisters}
use Rattle.win32_spec.specs.Named.{handles_of, handles_by, named_by, object_by, process_named}
use Rattle.win32_spec.specs.ProcessCalls.{live_process, resumed, suspended_more, CountStep, ResumeStep, SuspendStep}
use Rattle.win32_spec.specs.StableFacts.{object-step}
use Rattle.win32_spec.specs.State.{Object, Section, Event, Mutex, Pipe, ProcessObject, TerminalObject, Process}
use Rattle.win32_spec.specs.State.{Win32State}
use Rattle.win32_spec.specs.Tame.{HoldsNext}
use Rattle.layer_spec.specs.Moment.{Seen, HistoryStep}
use Rattle.layer_spec.specs.Turns.{is_live_process}
use Rattle.world_spec.specs.CalmSteps.{calm-same, calm_process}
use Rattle.world_spec.specs.HostLaws.{after_formed}
use Rattle.world_spec.specs.OpenLaws.{live-changed}
use Rattle.world_spec.specs.SeenStep.{IsSeenStep}
use Rattle.world_spec.specs.TableTurns.{handles-changed}
use Rattle.world_spec.specs.Steady.{SteadyProcess, MakesSteady, steady_process, calm-steady}

-- nothing is changed
pub steady_same : {A : Type 0} → (past : List (Seen A)) (s : Win32State) (slot t : ℕ) (new : Win32State) → new ≡ s
    → MakesSteady past s slot t new
steady_same past s slot t new e = record {
  steady = calm-steady past s (directive.Turn slot t) new (calm-same s new e);
  lives = λ v live. ap (λ n. is_live_process n v) e ∙ live;
}

-- What a call comes to that changes a suspend count at most: handles and objects stay.
pub record MakesCount {A : Type 0} (past : List (Seen A)) (s : Win32State) (slot t : ℕ) (new : Win32State)
    : Type 0 where
  pub makes : MakesSteady past s slot t new
  pub handles : (v : ℕ) → handles_by new v ≡ handles_by s v
  pub objects : new.objects ≡ s.objects

count_same : {A : Type 0} → (past : List (Seen A)) (s : Win32State) (slot t : ℕ) (new : Win32State) → new ≡ s
    → MakesCount past s slot t new
count_same past s slot t new e = record {
  makes = steady_same past s slot t new e;
  handles = λ v. ap (λ n. handles_by n v) e;
  objects = ap (λ (n : Win32State). n.objects) e;
}

module _ {A : Type 0} (past : List (Seen A)) (s : Win32State) (slot t w : ℕ) (acts : number_in s slot ≡ Some w) where
  -- the count of a thread of the own process becomes another one
  count_steady : (f : ℕ → ℕ) (x : ℕ) (r : Reply) (new : Win32State) → CountStep s f w x r new
      → MakesCount past s slot t new
  count_steady f x r new step =
      by_option (live_process s w) (λ e g. count_same past s slot t new g.1) (λ p e m.
      by_option (thread_in p.threads x) (λ e g. count_same past s slot t new g.1) (λ y d g.
      subst (MakesCount past s slot t) (sym g.1) (record {
        makes = changed;
        handles = λ v. handles-changed w (λ p. record p
            { threads = change_thread x (λ y. record y { suspended = f y.suspended }) p.threads }) (λ p. refl)
            (λ p. refl) s.processes v;
        objects = refl;
      })) m) step
    where
      changed : MakesSteady past s slot t (with_thread s w x (λ y. record y { suspended = f y.suspended }))
      changed = record {
        steady = record {
          words = λ i. refl;
          terminal = refl;
          processes = λ v q e alive. elim (changed_process w (λ p. record p
              { threads = change_thread x (λ y. record y { suspended = f y.suspended }) p.threads }) (λ p. refl)
              s.processes v q e) [
                | inl other ↦
                    (q, other.1, alive, steady_process past s (directive.Turn slot t) v q q (calm_process q))
                | inr this ↦ (
                  this.1,
                  ap (process_of s.processes) this.0 ∙ this.2,
                  ap (λ (p : Process). is_alive p.life) (sym this.3) ∙ alive,
                  subst (λ p. SteadyProcess past s (directive.Turn slot t) v this.1 p) (sym this.3) (record {
                    image = record { dat = refl; heap = refl; stack = refl };
                    cyg = refl;
                    placed = refl;
                    suspended = λ u. inr (acts ∙ ap (λ k. Some k) (sym this.0));
                    roster = refl;
                    handles = λ h names named. inl named;
                  }),
                )
              ];
        };
        lives = λ v live. live-changed w (λ p. record p
            { threads = change_thread x (λ y. record y { suspended = f y.suspended }) p.threads }) (λ p. refl)
            (λ p. refl) s.processes v live;
      }

  module _ (h : ℕ) (itself : object_by s w h ≡ Some (ProcessObject w)) (x : ℕ) (r : Reply) (new : Win32State) where
    its : (v : ℕ) → process_named (object_by s w h) ≡ Some v → v ≡ w
    its v e = let f : Some w ≡ Some v = ap process_named (sym itself) ∙ e in cc

    pub resume-steady : ResumeStep s w h x r new → MakesCount past s slot t new
    resume-steady step =
        by_option (process_named (object_by s w h)) (λ e g. count_same past s slot t new g.1)
        (λ v e m. count_steady resumed x r new
        (subst (λ k. CountStep s resumed k x r new) (its v e) m)) step

    pub suspend-steady : SuspendStep s w h x r new → MakesCount past s slot t new
    suspend-steady step =
        by_option (process_named (object_by s w h)) (λ e g. count_same past s slot t new g.1)
        (λ v e m. count_steady suspended_more x r new
        (subst (λ k. CountStep s suspended_more k x r new) (its v e) m)) step

-- what comes of the object of a process is the same
process_next : (E : Type 0) (w t v : ℕ) (y : Object) → HoldsNext E w t (ProcessObject v) y → y ≡ ProcessObject v
process_next E w t v (ProcessObject u) h = ap ProcessObject h
process_next E w t v (Section words) h = absurd h
process_next E w t v (Event e) h = absurd h
process_next E w t v (Mutex owner) h = absurd h
process_next E w t v (Pipe bytes) h = absurd h
process_next E w t v (TerminalObject terminal) h = absurd h

module _ {A : Type 0} (script : Script) (step : HistoryStep A) (registers : HaveRegisters script)
    (seen : IsSeenStep script step) where
  -- A handle that names the same before a step and after it, on the object of a process, is one on it after it.
  pub process-stays : (w h names v : ℕ)
      → object_of step.before.win32.objects (object_number names) ≡ Some (ProcessObject v)
      → named_by step.after.win32 w h ≡ Some names → is_live_process step.after.win32 w ≡ true
      → object_of step.after.win32.objects (object_number names) ≡ Some (ProcessObject v)
  process-stays w h names v object named live =
      let q = live_found (process_of step.after.win32.processes w) live in
      let formed = after_formed script step registers seen in
      let alive = of_live script step.after.win32.objects q.0 q.0.life q.2 (formed.formed.process w q.0 q.1) in
      let listed = from_listed step.after.win32.objects names
      (alive.naming h names (sym (ap (λ o. handle_of (handles_of o) h) q.1) ∙ named)) in
      listed.1 ∙ ap (λ y. Some y) (same_object listed.0
      (object-step script step.before.win32 step.entry.directive step.entry.call step.entry.outcome step.after.win32
      registers seen.before.formed seen.win32 (object_number names) (ProcessObject v) listed.0 object listed.1))
    where
      same_object : (y : Object)
          → ObjectAfter step.before.win32 step.entry.directive step.entry.call (ProcessObject v) y
          → y ≡ ProcessObject v
      same_object y after = elim after [
        | inl same ↦ same
        | inr more ↦ elim more [
          | inl left ↦ left.2
          | inr turn ↦ process_next (IsExchange step.entry.call) turn.0 turn.1 v y turn.3.holds
        ]
      ]
