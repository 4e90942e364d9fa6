-- A machine that is driven by parts takes the steps of the modelled Win32.
use Rattle.std.proofs.Common.{◌≡◌, ℕ, Bool, true, false, Option, Some, MatchBool, ap, ◌∙◌}
use Rattle.w32_base.specs.Part.{KeepsLengths}
use Rattle.w32_base.specs.declared.call.Call.{Call}
use Rattle.w32_base.specs.declared.call.Reply.{Reply}
use Rattle.w32_base.specs.declared.entry.Directive.{Directive}
use Rattle.w32_base.specs.declared.entry.Directive.TheVariants as directive
use Rattle.w32_base.specs.declared.entry.Outcome.{Outcome}
use Rattle.w32_base.specs.declared.own.Own.{Own}
use Rattle.w32_base.specs.declared.part.After.{After}
use Rattle.w32_base.specs.declared.setup.Setup.{Setup}
use Rattle.script_spec.specs.declared.script.Script.{Script}
use Rattle.win32_spec.specs.Lookup.{process_of, is_live, memory_by}
use Rattle.win32_spec.specs.Ready.{is_ready}
use Rattle.win32_spec.specs.Run.{Acts, ReadyTurn, StepBy}
use Rattle.win32_spec.specs.Driven.{DrivenState, ReadyTurnOf, DrivenBy}

-- what follows from both cases of a test
bool_map : {A B C D : Type 0} (b : Bool) → (A → C) → (B → D) → MatchBool b A B → MatchBool b C D
bool_map true f g m = f m
bool_map false f g m = g m

module _ {P : Type 0} (posted_of : P → Call) (goes : P → Own → Setup → Reply → P → Own → After → Type 0)
    (opening : P → Type 0) (slot_of thread_of : P → ℕ)
    (keeps_lengths : (p q : P) (o n : Own) (s : Setup) (r : Reply) (a : After) → goes p o s r q n a
    → KeepsLengths o n) where
  pub driven_turn : (script : Script) (slot t : ℕ) (d new : DrivenState P) (called : Option Call) (came : Outcome)
      → ReadyTurnOf posted_of goes opening slot_of thread_of script d slot t called came new
      → ReadyTurn script d.win32 slot t called came new.win32
  driven_turn script slot t d new called came of = record {
    process = of.4.process;
    thread = of.4.thread;
    reply = of.1;
    mid = of.4.mid;
    posted = of.4.posted;
    carried_out = of.2 ∙ ap Some of.4.carried_out;
    answered = of.3;
    goes_on = goes_on;
  }
    where
      goes_on : MatchBool (is_live (process_of of.4.mid.processes of.4.process.number))
          (Acts of.4.mid of.4.process.number t new.win32) (new.win32 ≡ of.4.mid)
      goes_on =
          bool_map (is_live (process_of of.4.mid.processes of.4.process.number))
          (λ m. record {
            own = m.1.own;
            next = posted_of m.0;
            lengths = keeps_lengths of.4.part m.0 (memory_by of.4.mid of.4.process.number) m.1.own script.setup of.1
                m.1.answer m.1.went;
            after = m.1.after;
          }) (λ m. m.0) of.4.goes_on

  -- what a directive does to the machine is a step
  pub driven_step : (script : Script) (d : DrivenState P) (given : Directive) (called : Option Call) (came : Outcome)
      (new : DrivenState P)
      → DrivenBy posted_of goes opening slot_of thread_of script d given called came new
      → StepBy script d.win32 given called came new.win32
  driven_step script d (directive.Turn slot t) called came new step =
      bool_map (is_ready d.win32 slot t) (λ m. driven_turn script slot t d new called came m) (λ m. (m.0, m.1, m.2))
      step
  driven_step script d (directive.End slot) called came new step = (step.0, step.1)
  driven_step script d (directive.Key b) called came new step = (step.0, step.1, step.2)
