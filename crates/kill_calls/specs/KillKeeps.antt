-- A kill of one process for a check only gives what it owes to a world.
use Rattle.std.proofs.Common.{subst}
use Rattle.script_spec.specs.declared.script.Script.{Script}
use Rattle.win32_spec.specs.MemoryEffects.{HaveRegisters}
use Rattle.world_spec.specs.Owes.{OwnTurn, KeepsTurn, KeepsClause}
use Rattle.kill_calls.specs.Kill.{kill_posted}
use Rattle.kill_calls.specs.KillBeside.{kill-outlasts}
use Rattle.kill_calls.specs.KillClause.{KillClause}
use Rattle.kill_calls.specs.KillTurns.{KillGoes, kill_thread, kill-turn}

pub kill-keeps : {A : Type 0} → (script : Script) → HaveRegisters script
    → KeepsClause {A = A} kill_posted KillGoes kill_thread (KillClause script) script
kill-keeps script registers = record {
  outlasts = λ step seen w part beside before after clause.
      kill-outlasts script registers step seen w beside before after part clause;
  turns = λ past now slot t part called reply given next new sound spare same.
      subst (λ u. (turn : OwnTurn kill_posted KillGoes script now.win32 slot u part called reply given next new)
      → KillClause script past now turn.process.number part
      → KeepsTurn kill_posted KillGoes kill_thread (KillClause script) script past now slot u turn.process.number called
      reply given next new) same
      (kill-turn script past now slot part called reply given next new sound);
}
