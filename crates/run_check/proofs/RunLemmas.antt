-- How far a run of events has come.
use Rattle.std.proofs.Common.{◌≡◌, ℕ, ◌+◌, ◌<◌, ◌≤◌, List, [], ◌∷◌, ◌++◌, length, get_or, take, drop, suc, refl}
use Rattle.std.proofs.Common.{sym, ap, subst, ◌∙◌, arith, drop-cons, length-take}
use Rattle.std.proofs.lemmas.List.{take_more, take_all, take-append-drop}
use Rattle.w32_base.specs.declared.event.Event.{Event}
use Rattle.script_spec.specs.declared.script.Script.{Script}
use Rattle.posix_spec.specs.Opening.{opening_of}
use Rattle.posix_spec.specs.Run.{PosixRun}
use Rattle.posix_spec.specs.Step.{posix_step}
use Rattle.posix_model.specs.declared.rule.Rule.{Rule}
use Rattle.posix_model.specs.declared.state.ApplyError.TheVariants.{NotAllowed}
use Rattle.posix_model.specs.Machine.{PosixMachine, script_with}
use Rattle.posix_model.specs.Opened.{opened_by}
use Rattle.posix_model.specs.Applied.{script_for, IsApplied, IsRefused}
use Rattle.posix_model.specs.ScriptLaws.{step_by_parts}
use Rattle.run_check.specs.Judged.{IsRunOf, IsStoppedAt}
use Rattle.run_check.specs.JudgedLaws.{run-append}

-- these events lead from where the script begins to this machine
pub record HasCome (script : Script) (before : List Event) (m : PosixMachine) : Type 0 where
  pub limits : m.limits ≡ script.setup.limits
  pub programs : m.programs ≡ script.setup.programs
  pub run : PosixRun script (opening_of script) before m.state

pub HasCome-open : (script : Script) (m : PosixMachine) → m ≡ opened_by script → HasCome script [] m
HasCome-open script m e =
    subst (HasCome script []) (sym e) (record { limits = refl; programs = refl; run = refl })

-- what the machine keeps of the script decides the same steps
same_step : (script : Script) (before : List Event) (m : PosixMachine) (e : Event) → HasCome script before m →
    posix_step script m.state e ≡ posix_step (script_for m) m.state e
same_step script before m e h =
    let by_limits : script_with script.setup.limits script.setup.programs ≡ script_with m.limits script.setup.programs =
    ap (λ l. script_with l script.setup.programs) (sym h.limits) in
    let by_programs : script_with m.limits script.setup.programs ≡ script_with m.limits m.programs =
    ap (λ p. script_with m.limits p) (sym h.programs) in
    step_by_parts script m.state e ∙ ap (λ (s : Script). posix_step s m.state e) (by_limits ∙ by_programs)

pub HasCome-step : (script : Script) (before : List Event) (m new : PosixMachine) (e : Event) →
    HasCome script before m → IsApplied m e new → HasCome script (before ++ e ∷ []) new
HasCome-step script before m new e h step = record {
  limits = step.limits ∙ h.limits;
  programs = step.programs ∙ h.programs;
  run = run-append script (opening_of script) m.state new.state before e h.run (same_step script before m e h
      ∙ step.step);
}

module _ (script : Script) (events : List Event) (place : ℕ) (m : PosixMachine) where
  -- the next event is a step
  pub HasCome-next : (new : PosixMachine) (e : Event) → place < length events → e ≡ get_or events place e →
      HasCome script (take place events) m → IsApplied m e new → HasCome script (take (place + 1) events) new
  HasCome-next new e within at h step =
      let more : take place events ++ e ∷ [] ≡ take (place + 1) events = ap (λ x. take place events ++ x ∷ []) at ∙ sym
      (take_more events place e within) in
      subst (λ es. HasCome script es new) more (HasCome-step script (take place events) m new e h step)

  -- the next event is none
  pub stopped_at : (new : PosixMachine) (e : Event) (rule : Rule) → place < length events →
      e ≡ get_or events place e → HasCome script (take place events) m → IsRefused m e new (NotAllowed rule) →
      IsStoppedAt script events (place + 2) rule
  stopped_at new e rule within at h refused = record {
    before = take place events;
    event = e;
    rest = drop (suc place) events;
    parts =
        sym (take-append-drop place events)
        ∙ ap (λ xs. take place events ++ xs) (drop-cons events place e within ∙ ap (λ x. x ∷ drop (suc place) events)
        (sym at));
    state = m.state;
    run = h.run;
    no_step = same_step script (take place events) m e h ∙ refused.0;
    line_is = omega (arith, length-take place events);
    rule_is = refused.1;
  }

  -- there is no further event
  pub run_of : length events ≤ place → HasCome script (take place events) m → IsRunOf script events
  run_of past h = record {
    state = m.state;
    run = subst (λ es. PosixRun script (opening_of script) es m.state) (take_all place events past) h.run;
  }
