-- What follows for each step of a history, from the steps of the POSIX machine and from the evidence.
use Rattle.std.specs.Prelude.{◌≡◌, ℕ, pos, IsTrue, List, [], ◌∷◌, Some, MatchOption}
use Rattle.std.specs.FinSet as set
use Rattle.std.proofs.Common.{subst}
use Rattle.w32_base.specs.declared.call.Call.{Call}
use Rattle.w32_base.specs.declared.call.Reply.{Reply}
use Rattle.w32_base.specs.declared.event.Event.{Event}
use Rattle.w32_base.specs.declared.event.Event.TheVariants as event
use Rattle.w32_base.specs.declared.own.Own.{Own}
use Rattle.w32_base.specs.declared.part.After.{After}
use Rattle.w32_base.specs.declared.setup.Setup.{Setup}
use Rattle.script_spec.specs.declared.script.Script.{Script}
use Rattle.posix_spec.specs.State.{Record, PosixState, record_of}
use Rattle.posix_spec.specs.Run.{PosixStep}
use Rattle.layer_spec.specs.Moment.{Moment, Seen, HistoryStep}
use Rattle.layer_spec.specs.Evidence.{HasEvidence}
use Rattle.layer_spec.specs.History.{IsHistoryStep, IsHistory}
use Rattle.layer_spec.specs.Consequences.{EachStep, ForkCopies, ExecKeeps, RefusalsHaveCauses}
use Rattle.layer_spec.specs.DeathRuns.{history_uses_numbers}
use Rattle.layer_spec.specs.CallLaws.{forked, executed, has_most_children, has_no_target, has_no_member, has_no_child}

-- what holds of each step, and follows of another fact there, holds of each step too
pub each_step_so : {A : Type 0} → (P Q : HistoryStep A → Type 0) → ((step : HistoryStep A) → P step → Q step)
    → (past : List (Seen A)) (now : Moment A) → EachStep P past now → EachStep Q past now
each_step_so P Q so [] now each = tt
each_step_so P Q so (x ∷ past) now each = (
  so (record { past = past; before = x.before; entry = x.entry; after = now }) each.0,
  each_step_so P Q so past x.before each.1,
)

-- the numbers of the processes are used ones
abbrev pub AreNumbersUsed : PosixState → Type 0
AreNumbersUsed s = (p : ℕ) (r : Record) → record_of s p ≡ Some r → IsTrue (set.contains s.used p)

module _ {A : Type 0} (posted_of : A → Call) (goes : A → Own → Setup → Reply → A → Own → After → Type 0)
    (opening : A → Type 0) (slot_of thread_of : A → ℕ) where
  -- a step of a history
  abbrev pub IsStep : Script → HistoryStep A → Type 0
  IsStep script step = IsHistoryStep posted_of goes opening slot_of thread_of script step

  pub each_is_step : (script : Script) (past : List (Seen A)) (now : Moment A)
      → IsHistory posted_of goes opening slot_of thread_of script past now → EachStep (IsStep script) past now
  each_is_step script [] now h = tt
  each_is_step script (x ∷ past) now h = (h.1, each_is_step script past x.before h.0)

  posix_step_of : (script : Script) (step : HistoryStep A) (told : Event) → IsStep script step
      → step.entry.event ≡ Some told → PosixStep script step.before.posix told step.after.posix
  posix_step_of script step told h is =
      subst (λ o. MatchOption o (step.after.posix ≡ step.before.posix)
      (λ e. PosixStep script step.before.posix e step.after.posix)) is h.posix

  evidence_of : (script : Script) (step : HistoryStep A) (told : Event) → IsStep script step
      → step.entry.event ≡ Some told → HasEvidence script step told
  evidence_of script step told h is =
      subst (λ o. MatchOption o (Unit {0}) (λ e. HasEvidence script step e)) is h.evidence

  pub fork_copies : (script : Script) (step : HistoryStep A) → IsStep script step → AreNumbersUsed step.before.posix
      → ForkCopies step
  fork_copies script step h used = record {
    copies = λ p c is parent known.
        forked script step.before.posix step.after.posix p c parent (used p parent known) known
        (posix_step_of script step (event.Fork p (pos c)) h is);
  }

  pub exec_keeps : (script : Script) (step : HistoryStep A) → IsStep script step → ExecKeeps step
  exec_keeps script step h = record {
    keeps = λ p name is old known. executed script step.before.posix step.after.posix p name old known
        (posix_step_of script step (event.Exec p name) h is);
  }

  pub refusals_have_causes : (script : Script) (step : HistoryStep A) → IsStep script step
      → RefusalsHaveCauses script step
  refusals_have_causes script step h = record {
    children = λ p is. has_most_children script step.before.posix step.after.posix p (posix_step_of script step _ h is);
    fork = λ p cause is. (evidence_of script step (event.ForkFail p cause) h is).shown.1;
    exec = λ p cause is. (evidence_of script step (event.ExecFail p cause) h is).shown.1;
    kill = λ p q signal is.
        has_no_target script step.before.posix step.after.posix p q signal (posix_step_of script step _ h is);
    group = λ p g signal is.
        has_no_member script step.before.posix step.after.posix p g signal (posix_step_of script step _ h is);
    child = λ p caller i wait is known next waits.
        has_no_child script step.before.posix step.after.posix p caller i wait known next waits
        (posix_step_of script step _ h is);
  }

  -- Each exec of a history keeps the process, and each refusal has its cause.
  pub each_exec_keeps : (script : Script) (past : List (Seen A)) (now : Moment A)
      → IsHistory posted_of goes opening slot_of thread_of script past now → EachStep ExecKeeps past now
  each_exec_keeps script past now h =
      each_step_so (IsStep script) ExecKeeps (exec_keeps script) past now (each_is_step script past now h)

  pub each_refusal_has_cause : (script : Script) (past : List (Seen A)) (now : Moment A)
      → IsHistory posted_of goes opening slot_of thread_of script past now
      → EachStep (RefusalsHaveCauses script) past now
  each_refusal_has_cause script past now h =
      each_step_so (IsStep script) (RefusalsHaveCauses script) (refusals_have_causes script) past now
      (each_is_step script past now h)

  -- After each fork of a history the child has its parent's image with result 0.
  pub each_fork_copies : (script : Script) (past : List (Seen A)) (now : Moment A)
      → IsHistory posted_of goes opening slot_of thread_of script past now → EachStep ForkCopies past now
  each_fork_copies script [] now h = tt
  each_fork_copies script (x ∷ past) now h = (
    fork_copies script (record { past = past; before = x.before; entry = x.entry; after = now }) h.1
        (history_uses_numbers posted_of goes opening slot_of thread_of script past x.before h.0),
    each_fork_copies script past x.before h.0,
  )
