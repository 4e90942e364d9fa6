-- At each moment of a history the Win32 state is well formed.
use Rattle.std.specs.Prelude.{ℕ, ◌≤◌, List, length}
use Rattle.w32_base.specs.declared.call.Call.{Call}
use Rattle.w32_base.specs.declared.call.Reply.{Reply}
use Rattle.w32_base.specs.declared.own.Own.{Own}
use Rattle.w32_base.specs.declared.part.After.{After}
use Rattle.w32_base.specs.declared.setup.Setup.{Setup}
use Rattle.script_spec.specs.declared.script.Script.{Script}
use Rattle.win32_spec.specs.WellFormed.{IsWellFormed}
use Rattle.win32_spec.specs.OpeningLaws.{wellformed-opening}
use Rattle.win32_spec.specs.MemoryEffects.{HaveRegisters}
use Rattle.win32_spec.specs.StepLaws.{wellformed-run}
use Rattle.layer_spec.specs.Moment.{Moment, Seen, entries_of}
use Rattle.layer_spec.specs.History.{IsHistory}
use Rattle.layer_spec.specs.HistoryLaws.{history_is_win32_run}

module _ {A : Type 0} (posted_of : A → Call) (goes : A → Own → Setup → Reply → A → Own → After → Type 0)
    (opening : A → Type 0) (slot_of thread_of : A → ℕ) where
  pub history_is_well_formed : (script : Script) (past : List (Seen A)) (now : Moment A)
      → length script.setup.modules ≤ 8 → HaveRegisters script
      → IsHistory posted_of goes opening slot_of thread_of script past now → IsWellFormed script now.win32
  history_is_well_formed script past now few registers h =
      let r = history_is_win32_run posted_of goes opening slot_of thread_of script past now h in
      wellformed-run script r.first (entries_of past) now.win32 registers
      (wellformed-opening script r.first few r.opens) r.run
