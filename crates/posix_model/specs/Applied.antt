-- What an event leaves that is applied, and one that isn't.
use Rattle.std.specs.Prelude.{◌≡◌, Bool, true, false, None}
use Rattle.w32_base.specs.declared.event.Event.{Event}
use Rattle.w32_base.specs.declared.event.Event.TheVariants as event
use Rattle.script_spec.specs.declared.script.Script.{Script}
use Rattle.posix_spec.specs.Step.{posix_step}
use Rattle.posix_spec.specs.Run.{PosixStep}
use Rattle.posix_model.specs.declared.state.ApplyError.{ApplyError}
use Rattle.posix_model.specs.declared.state.ApplyError.TheVariants.{NotAllowed, Memory}
use Rattle.posix_model.specs.Machine.{PosixMachine, script_with}
use Rattle.posix_model.specs.Rules.{rule_of}

-- all that the steps look at of the script
abbrev pub script_for : PosixMachine → Script
script_for m = script_with m.limits m.programs

-- the event is a step of the machine, which then is in the new state with the same limits and programs
pub record IsApplied (old : PosixMachine) (e : Event) (new : PosixMachine) : Type 0 where
  pub step : PosixStep (script_for old) old.state e new.state
  pub limits : new.limits ≡ old.limits
  pub programs : new.programs ≡ old.programs

-- The events that may want for memory: a child is made, bytes are put out, or a parent is owed one CHLD more.
abbrev pub may_want_memory : Event → Bool
may_want_memory (event.Fork p c) = true
may_want_memory (event.Kill p q signal answer) = true
may_want_memory (event.Member p q signal) = true
may_want_memory (event.Stop p signal) = true
may_want_memory (event.Die p v cause) = true
may_want_memory (event.Write p n bytes) = true
may_want_memory (event.Key p b) = true
may_want_memory _ = false

-- Nothing changes. The event isn't a step, and the error has its rule; or it is one that may want for memory.
abbrev pub IsRefused : PosixMachine → Event → PosixMachine → ApplyError → Type 0
IsRefused old e new (NotAllowed rule) =
    (posix_step (script_for old) old.state e ≡ None) × (rule ≡ rule_of e) × (new ≡ old)
IsRefused old e new Memory = (may_want_memory e ≡ true) × (new ≡ old)
