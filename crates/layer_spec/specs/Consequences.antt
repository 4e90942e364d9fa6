-- What follows for each step of a history, and for its events: clauses that can be read without the machines.
use Rattle.std.specs.Prelude.{◌≡◌, ℕ, ◌≤◌, ◌⊎◌, ℤ, pos, negsuc, false, nat_eq, if◌then◌else◌, List, [], ◌∷◌, length}
use Rattle.std.specs.Prelude.{flat_map, Some, None}
use Rattle.w32_base.specs.declared.event.Answer.TheVariants.{Error}
use Rattle.w32_base.specs.declared.event.Errno.TheVariants as errno
use Rattle.w32_base.specs.declared.event.ForkCause.{ForkCause}
use Rattle.w32_base.specs.declared.event.ForkCause.TheVariants as fork_cause
use Rattle.w32_base.specs.declared.event.ExecCause.{ExecCause}
use Rattle.w32_base.specs.declared.event.Event.{Event}
use Rattle.w32_base.specs.declared.event.Event.TheVariants as event
use Rattle.w32_base.specs.declared.instr.Instr.{Instr}
use Rattle.script_spec.specs.declared.script.Script.{Script}
use Rattle.vm_spec.specs.Image.{with_result}
use Rattle.vm_spec.specs.Step.{CallInstruction}
use Rattle.posix_spec.specs.State.{Record, record_of}
use Rattle.posix_spec.specs.Records.{children}
use Rattle.posix_spec.specs.Groups.{has_member}
use Rattle.posix_spec.specs.Conditions.{next_of}
use Rattle.posix_spec.specs.Waits.{Wait, wait_of, matching}
use Rattle.posix_spec.specs.ForkSteps.{most_children}
use Rattle.layer_spec.specs.Moment.{Moment, Seen, HistoryStep}
use Rattle.layer_spec.specs.RefusalEvidence.{ForkRefusalHasCause, ExecRefusalHasCause}

-- each step of a history is such
abbrev pub EachStep : {A : Type 0} → (HistoryStep A → Type 0) → List (Seen A) → Moment A → Type 0
EachStep P [] now = Unit {0}
EachStep P (x ∷ past) now =
    P (record { past = past; before = x.before; entry = x.entry; after = now }) × EachStep P past x.before

-- the statuses with which process c died, and those with which it was reaped; every other event is neither
abbrev pub death_status : ℕ → Event → List ℤ
death_status c (event.Die p v cause) = if nat_eq p c then v ∷ [] else []
death_status c _ = []

abbrev pub status_of_child : ℤ → ℤ → ℕ → List ℤ
status_of_child (pos n) v c = if nat_eq n c then v ∷ [] else []
status_of_child (negsuc n) v c = []

abbrev pub reaped_status : ℕ → Event → List ℤ
reaped_status c (event.Reap p n v) = status_of_child n v c
reaped_status c _ = []

-- A process dies at most once, and it is reaped at most once, with the status of its death.
pub record ReapedOnce (events : List Event) : Type 0 where
  pub dies_once : (c : ℕ) → length (flat_map (death_status c) events) ≤ 1
  pub reaped : (c : ℕ) → (flat_map (reaped_status c) events ≡ [])
      ⊎ (flat_map (reaped_status c) events ≡ flat_map (death_status c) events)

-- After a fork the child's image is the parent's from before it, with result 0 (POSIX.1-2017, XSH fork).
pub record ForkCopies {A : Type 0} (step : HistoryStep A) : Type 0 where
  pub copies : (p c : ℕ) → step.entry.event ≡ Some (event.Fork p (pos c)) → (parent : Record)
      → record_of step.before.posix p ≡ Some parent
      → (child : Record) × (record_of step.after.posix c ≡ Some child)
      × (child.image ≡ with_result parent.image (pos 0) None)

-- what an exec keeps of a process; its number is that of its record
pub record KeepsProcess (old new : Record) : Type 0 where
  pub parent : new.parent ≡ old.parent
  pub group : new.group ≡ old.group
  pub session : new.session ≡ old.session
  pub mask : new.mask ≡ old.mask
  pub pending : new.pending ≡ old.pending

-- An exec keeps number, parent, group, session, mask and pending signals (POSIX.1-2017, XSH exec).
pub record ExecKeeps {A : Type 0} (step : HistoryStep A) : Type 0 where
  pub keeps : (p : ℕ) (name : List ℕ) → step.entry.event ≡ Some (event.Exec p name) → (old : Record)
      → record_of step.before.posix p ≡ Some old
      → (new : Record) × (record_of step.after.posix p ≡ Some new) × KeepsProcess old new

-- Refusals have their causes: EAGAIN of fork (as many children as a process may have, or what the entries show) and of
-- exec, ESRCH of a kill of one process and of a group, ECHILD of a wait.
pub record RefusalsHaveCauses {A : Type 0} (script : Script) (step : HistoryStep A) : Type 0 where
  pub children : (p : ℕ) → step.entry.event ≡ Some (event.ForkFail p fork_cause.Children)
      → length (children step.before.posix p) ≡ most_children
  pub fork : (p : ℕ) (cause : ForkCause) → step.entry.event ≡ Some (event.ForkFail p cause)
      → ForkRefusalHasCause script step p cause
  pub exec : (p : ℕ) (cause : ExecCause) → step.entry.event ≡ Some (event.ExecFail p cause)
      → ExecRefusalHasCause script step p cause
  pub kill : (p q signal : ℕ) → step.entry.event ≡ Some (event.Kill p (pos q) (pos signal) (Error errno.ESRCH))
      → record_of step.before.posix q ≡ None
  pub group : (p g signal : ℕ) → step.entry.event ≡ Some (event.GroupDone p (pos g) (pos signal) (Error errno.ESRCH))
      → has_member step.before.posix g ≡ false
  pub child : (p : ℕ) (caller : Record) (call : Instr) (wait : Wait) → step.entry.event ≡ Some (event.NoChild p)
      → record_of step.before.posix p ≡ Some caller → next_of script caller ≡ CallInstruction call
      → wait_of p caller call ≡ Some wait → matching step.before.posix wait ≡ []
