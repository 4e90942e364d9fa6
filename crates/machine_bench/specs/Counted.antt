-- A driven machine of which is known how many turns it took at most: each turn is allowed again.
use Rattle.std.proofs.Common.{◌≡◌, ℕ, ◌+◌, Option, sym, subst, arith}
use Rattle.w32_base.specs.declared.call.Call.{Call}
use Rattle.w32_base.specs.declared.entry.Directive.TheVariants as directive
use Rattle.w32_base.specs.declared.entry.Outcome.{Outcome}
use Rattle.script_spec.specs.declared.script.Script.{Script}
use Rattle.script_spec.specs.Validity.{IsValid}
use Rattle.win32_spec.specs.Opening.{IsOpening}
use Rattle.win32_spec.specs.Run.{StepBy}
use Rattle.win32_spec.specs.StepLaws.{wellformed-step}
use Rattle.win32_spec.specs.WellFormed.{IsWellFormed}
use Rattle.win32_spec.specs.MemoryEffects.{HaveRegisters}
use Rattle.w32_driven.specs.Driving.{Driving}
use Rattle.machine_stage.specs.Numbering.{next_most}
use Rattle.machine_stage.specs.Staged.{IsStaged, staged_opening}
use Rattle.machine_bench.specs.declared.worker.Worker.{Worker}

-- a well-formed state, which at most so many turns made
abbrev pub IsCounted : ℕ → Driving Worker → Type 0
IsCounted turns d = IsStaged turns (record { script = d.script; win32 = d.state.win32 })

-- at its opening
pub counted_opening : (script : Script) (d : Driving Worker) → IsValid script → IsOpening script d.state.win32
    → d.script ≡ script → IsCounted 0 d
counted_opening script d valid opening same =
    staged_opening script (record { script = d.script; win32 = d.state.win32 }) valid opening same

-- after a turn
pub counted_turn : (turns slot t : ℕ) (called : Option Call) (came : Outcome) (old new : Driving Worker)
    → IsCounted turns old
    → StepBy old.script old.state.win32 (directive.Turn slot t) called came new.state.win32 → new.script ≡ old.script
    → IsCounted (turns + 1) new
counted_turn turns slot t called came old new h step same =
    let most = next_most old.script old.state.win32 slot t called came new.state.win32 h.registers h.formed step in
    record {
      registers = subst HaveRegisters (sym same) h.registers;
      formed = subst (λ x. IsWellFormed x new.state.win32) (sym same)
          (wellformed-step old.script old.state.win32 (directive.Turn slot t) called came new.state.win32 h.registers
          h.formed step);
      few = omega (arith, h.few, most);
    }
