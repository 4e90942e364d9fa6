-- The end of a process: where its clause begins, and that it gives what a part owes to the world.
use Rattle.std.proofs.Common.{ℕ, List, refl}
use Rattle.script_spec.specs.declared.script.Script.{Script}
use Rattle.vm_spec.specs.Step.{Upcoming}
use Rattle.win32_spec.specs.MemoryEffects.{HaveRegisters}
use Rattle.layer_spec.specs.Moment.{Moment, Seen}
use Rattle.world_spec.specs.Notes.{IsAtNext}
use Rattle.world_spec.specs.Owes.{KeepsClause}
use Rattle.child_watch.specs.declared.ending.Ending.{Ending}
use Rattle.child_watch.specs.Exiting.{exit_begun, exit_posted}
use Rattle.child_watch.specs.ExitClause.{EndsAt, ExitClause}
use Rattle.child_watch.specs.ExitOutlasts.{exit-outlasts}
use Rattle.child_watch.specs.ExitTurns.{ExitGoes, exit_thread}
use Rattle.child_watch.specs.ExitTurnsAll.{exit-turns-at}

-- A main thread that may go on with what is next in its program begins the end where that is how the process ends.
pub exit-begins : {A : Type 0} → (script : Script) (past : List (Seen A)) (now : Moment A) (w row : ℕ) (next : Upcoming)
    (e : Ending) (at : IsAtNext script now w row next) → EndsAt e next at.noted.image
    → ExitClause script past now w (exit_begun row w e)
exit-begins script past now w row next e at ends = (
  record {
    names = refl;
    next = next;
    at = record {
      own = at.own;
      noted = at.noted;
      found = at.found;
      call = at.call;
      blocked = at.blocked;
      runs = at.runs;
      not_due = at.not_due;
      next_is = at.next_is;
    };
    ends = ends;
  },
  at.unmarked,
)

pub exit-keeps : {A : Type 0} → (script : Script) → HaveRegisters script
    → KeepsClause {A = A} exit_posted ExitGoes exit_thread (ExitClause script) script
exit-keeps script registers = record {
  outlasts = λ step seen w part beside alive lives h.
      exit-outlasts script registers step seen w beside alive lives part h;
  turns = λ past now slot t part called reply given next new sound spare same turn h.
      exit-turns-at script past now slot t part called reply given next new sound same turn h;
}
